-- Each turn counts a word that differs, and the end has looked at all of them.
use Rattle.std.proofs.Common.{◌≡◌, ◌∙◌, refl, Bool, true, false, cond, not, eqb, get_or, take, ap, arith}
use mir.Val.{bool_byte}
use Rattle.device_words.specs.Words.{same}
use Rattle.device_words.proofs.Laws.{same_more, same_whole, at_most_one}
use Rattle.device_words.proofs.are_same.Goals as goal

-- a word that differs is one more
differs : (b : Bool) → bool_byte (not b) ≡ cond b 0 1
differs true = refl
differs false = refl

pub loop-i-preserved : goal.loop-i-preserved
loop-i-preserved c =
    let l = c.loop-i in
    let a = c.args in
    let one = c.from-n.ensures ∙ differs (eqb (get_or a.own.now l.i 0) (get_or a.lent.now l.i 0)) in (
      omega (arith, at_most_one _ (eqb (get_or a.own.now l.i 0) (get_or a.lent.now l.i 0)) one),
      same_more a.own.now a.lent.now l.i l.n _ (omega arith) (omega arith) l.invariant.1 one,
    )

pub returns : goal.returns
returns c =
    let a = c.args in
    c.loop-i.invariant.1 ∙ ap (λ k. same (take k a.own.now) (take k a.lent.now)) {x = c.loop-i.i} {y = 64} (omega arith)
    ∙ same_whole a.own.now a.lent.now 64 (omega arith) (omega arith)
