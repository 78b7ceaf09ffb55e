-- The words in one copy, or in two where they go round the ring's end.
use Rattle.std.proofs.Common.{List, ℕ, ◌+◌, ◌-◌, drop, refl, ap, ◌∙◌, arith}
use Rattle.std.proofs.Math.Seq.{paste}
use Rattle.run.proofs.Copying.{copied_straight, copied_wrapped}
use Rattle.run.proofs.copy_words.Goals as goal

pub returns-then-v-first : goal.returns-then-v-first
returns-then-v-first c =
    let a = c.args in
    let v = a.v in
    let i = c.requires.in_view in
    c.copy_span.ensures
    ∙ copied_straight a.ring.now v.lo v.hi i.fits v.at v.n i.from i.below (omega (arith, i.held)) a.image.now a.to (omega arith) (omega arith)

pub returns : goal.returns
returns c =
    let a = c.args in
    let v = a.v in
    let i = c.requires.in_view in
    let first = v.hi - v.at in
    c.copy_span-3.ensures
    ∙ ap (λ (l : List ℕ). paste l (a.to + first) (drop v.lo a.ring.now) (v.n - first)) c.copy_span-2.ensures
    ∙ copied_wrapped a.ring.now v.lo v.hi i.fits v.at v.n i.from i.below (omega (arith, i.held)) a.image.now a.to (omega arith) _ refl (omega arith)
