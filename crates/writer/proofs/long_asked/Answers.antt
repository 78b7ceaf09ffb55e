-- The device's turn in a ring full of words that begin so, by its data.
use Rattle.std.proofs.Common.{Some, sym, ap, ◌∙◌, arith}
use Rattle.command.specs.declared.Kind.{Kind}
use Rattle.command.specs.Commands.{entry}
use Rattle.writer.proofs.Asking.{asks, asked_other, long_none, long_some}
use Rattle.writer.proofs.long_asked.Goals as goal

pub returns-then-head-head_words : goal.returns-then-head-head_words
returns-then-head-head_words c =
    let number = c.head_words.ensures ∙ ap (λ (k : Kind). (entry k).head) (sym c.requires.1) in
    sym (asked_other _ _ (λ e. c.if-head-head_words.true (e ∙ sym number)))

pub returns-in_default : goal.returns-in_default
returns-in_default c =
    let a = c.args in
    let number = c.if-head-head_words.false ∙ c.head_words.ensures in
    sym (long_none a.tail a.carries a.head.now c.requires.0 c.requires.1 number _ c.in_default.ensures)

pub overflow_sub-result : goal.overflow_sub-result
unfolding entry
overflow_sub-result c =
    let a = c.args in
    let number = c.if-head-head_words.false ∙ c.head_words.ensures in
    let p = long_some a.tail a.carries a.head.now c.requires.0 c.requires.1 number c.in-Ok.words _ c.in-Ok.ensures in
    let q = rw c.in-Cursor.is at p.0 in
    omega (arith, q)

pub bounds-head-2 : goal.bounds-head-2
unfolding entry
bounds-head-2 c = let number = rw c.in-Escape.is at (c.if-head-head_words.false ∙ c.head_words.ensures) in omega (arith, number)

pub returns-in-Cursor : goal.returns-in-Cursor
unfolding entry
returns-in-Cursor c =
    let a = c.args in
    let number = c.if-head-head_words.false ∙ c.head_words.ensures in
    let p = rw c.in-Cursor.is at (long_some a.tail a.carries a.head.now c.requires.0 c.requires.1 number c.in-Ok.words _ c.in-Ok.ensures) in
    ap (λ k. Some (asks c.in-Ok.words k 0)) (omega (arith, p.0)) ∙ sym p.1

pub returns-in-Escape : goal.returns-in-Escape
returns-in-Escape c =
    let a = c.args in
    let number = c.if-head-head_words.false ∙ c.head_words.ensures in
    sym (rw c.in-Escape.is at (long_some a.tail a.carries a.head.now c.requires.0 c.requires.1 number c.in-Ok.words _ c.in-Ok.ensures)).1
