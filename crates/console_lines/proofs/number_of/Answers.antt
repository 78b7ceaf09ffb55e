-- A field of no byte or more than ten is no number; a byte that is no digit ends it; at the end every byte is read.
use Rattle.std.proofs.Common.{◌≤◌, length, sym, ◌∙◌, arith}
use Rattle.std.proofs.lemmas.Bool.Decides.{nat_tests}
use Rattle.console_lines.specs.Lines.{number_of}
use Rattle.console_lines.proofs.Numbers.{read_value, read_other, read_more}
use Rattle.console_lines.proofs.number_of.Goals as goal

pub returns-then-is_empty : goal.returns-then-is_empty
unfolding number_of
returns-then-is_empty c = grind (arith, nat_tests)

pub returns-then-not-is_ascii_digit : goal.returns-then-not-is_ascii_digit
returns-then-not-is_ascii_digit c =
    sym (read_other _ _ _ c.loop-b.invariant c.loop-b-test.true (sym c.is_ascii_digit.ensures.value ∙ c.if-not-is_ascii_digit.true))

pub loop-b-preserved : goal.loop-b-preserved
loop-b-preserved c =
    rw c.from.ensures (read_more _ _ _ c.loop-b.invariant c.loop-b-test.true (sym c.is_ascii_digit.ensures.value ∙ c.if-not-is_ascii_digit.false))

pub returns : goal.returns
returns c =
    let some : 1 ≤ length c.args.field.now = grind (arith, nat_tests) in
    let few : length c.args.field.now ≤ 10 = omega arith in
    let number = read_value _ _ _ c.loop-b.invariant some few c.loop-b-test.false in grind (arith, nat_tests)
