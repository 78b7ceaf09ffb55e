-- No words are none, words that do not wrap are one copy, and others are two.
use Rattle.std.proofs.Common.{List, ℕ, ◌+◌, ◌++◌, length, refl, sym, ap, ◌∙◌, arith}
use Rattle.std.proofs.Math.Seq.{paste}
use Rattle.std.proofs.lemmas.Bool.{eqb-true}
use Rattle.std.proofs.lemmas.Slice.{put_mid-paste}
use borrow.Author.Tests.{lt-ltb, le-ltb}
use Rattle.ring.specs.Waiting.{ahead}
use Rattle.ring.proofs.WaitingLaws.{InRing}
use Rattle.writer.specs.Laying.{laid}
use Rattle.writer.proofs.Laying.{laid_none, laid_row, laid_wrapped}
use Rattle.writer.proofs.lay.Goals as goal

pub returns-then-is_empty-clause-ring_after : goal.returns-then-is_empty-clause-ring_after
returns-then-is_empty-clause-ring_after c =
    let a = c.args in
    let none = eqb-true _ 0 (sym c.if-is_empty.ensures) in
    laid_none a.place.lo a.place.hi a.place.at a.row.now a.ring.now (omega (arith, none))

pub returns-then-is_empty-clause-value : goal.returns-then-is_empty-clause-value
unfolding ahead
returns-then-is_empty-clause-value c =
    let a = c.args in
    let h = c.requires.held in
    let none = eqb-true _ 0 (sym c.if-is_empty.ensures) in
    rw (lt-ltb (a.place.at + length a.row.now) a.place.hi (omega (arith, none))) (omega (arith, none))

pub returns-then-row-first-clause-ring_after : goal.returns-then-row-first-clause-ring_after
returns-then-row-first-clause-ring_after c =
    let a = c.args in
    put_mid-paste a.place.at _ a.ring.now _ a.row.now (length a.row.now) c.copy_from_slice.ensures.after (omega arith) refl
    ∙ sym (laid_row a.place.lo a.place.hi a.place.at a.row.now a.ring.now (omega arith) (omega arith))

pub returns-then-row-first-clause-value : goal.returns-then-row-first-clause-value
unfolding ahead
returns-then-row-first-clause-value c =
    let a = c.args in
    let h = c.requires.held in
    rw (lt-ltb (a.place.at + length a.row.now) a.place.hi (omega arith))

pub returns-clause-ring_after : goal.returns-clause-ring_after
returns-clause-ring_after c =
    let a = c.args in
    let u = c.split_at.result.0.now in
    let v = c.split_at.result.1.now in
    let s = c.split_at.ensures in
    let all = ap length s.by_index.0 in
    let held : InRing a.place.lo a.place.hi a.place.at (length (u ++ v)) = record { from = omega arith; below = omega arith; held = omega arith } in
    put_mid-paste a.place.lo _ _ _ v (length v) c.copy_from_slice-3.ensures.after (omega arith) refl
    ∙ ap (λ (l : List ℕ). paste l a.place.lo v (length v))
    (put_mid-paste a.place.at _ a.ring.now _ u (length u) c.copy_from_slice-2.ensures.after (omega (arith, s.front_len)) refl)
    ∙ laid_wrapped a.place.lo a.place.hi a.place.at u v a.ring.now held (omega arith) s.front_len
    ∙ ap (λ w. laid a.place.lo a.place.hi a.place.at w a.ring.now) (sym s.by_index.0)

pub returns-clause-value : goal.returns-clause-value
unfolding ahead
returns-clause-value c =
    let a = c.args in
    let p = a.place in
    let s = c.split_at.ensures in
    let all = ap length s.by_index.0 in
    rw (le-ltb (p.at + length a.row.now) p.hi (omega arith)) (omega (arith, s.back_len))
