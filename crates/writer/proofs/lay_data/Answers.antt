-- Each turn stores one word more at the place behind the others, and the end has stored all of them.
use Rattle.std.proofs.Common.{◌≡◌, ℕ, ◌+◌, ◌/◌, ◌<◌, ◌≤◌, List, length, get_or, take, refl, sym, ap, ◌∙◌, add-one, arith}
use Rattle.std.proofs.Math.ListN.{length-set}
use Rattle.std.proofs.Math.Seq.{take_all}
use Rattle.ring.specs.Waiting.{after, ahead}
use Rattle.ring.proofs.WaitingLaws.{InRing, ahead_in, ahead_zero}
use Rattle.writer.specs.Writing.{data_words}
use Rattle.writer.specs.Laying.{laid}
use Rattle.writer.proofs.Laying.{after_ahead, laid_suc, length_data, data_word}
use Rattle.writer.proofs.lay_data.Goals as goal

-- past the loop's test, one word more is in the ring
one_more : (lo hi at j : ℕ) (bytes : List ℕ) → lo ≤ at → at < hi → length (data_words bytes) + lo < hi → j < (length bytes + 3) / 4
    → InRing lo hi at (j + 1)
one_more lo hi at j bytes a b h more = let n = length_data bytes in record { from = a; below = b; held = omega arith }

-- and so is the place behind the first j
inside : (lo hi at j p : ℕ) → InRing lo hi at (j + 1) → p ≡ ahead lo hi at j → p < hi
inside lo hi at j p h is =
    let i = ahead_in lo hi at j (record { from = h.from; below = h.below; held = omega (arith, h.held) }) in
    omega (arith, i.1)

pub loop-i-init : goal.loop-i-init
unfolding laid
loop-i-init c = let a = c.args in (omega arith, sym (ahead_zero a.place.lo a.place.hi a.place.at (omega arith)), refl, refl)

pub offset_bounds-ring-at : goal.offset_bounds-ring-at
offset_bounds-ring-at c =
    let a = c.args in
    let h = one_more a.place.lo a.place.hi a.place.at c.loop-i.i a.bytes.now c.requires.held.from c.requires.held.below (omega arith) (omega (arith, c.loop-i-test.true, c.div_ceil-i-end.ensures)) in
    let i = inside a.place.lo a.place.hi a.place.at c.loop-i.i c.loop-i.at h c.loop-i.invariant.1 in
    omega arith

pub bounds-ring-at : goal.bounds-ring-at
bounds-ring-at c =
    let a = c.args in
    let h = one_more a.place.lo a.place.hi a.place.at c.loop-i.i a.bytes.now c.requires.held.from c.requires.held.below (omega arith) (omega (arith, c.loop-i-test.true, c.div_ceil-i-end.ensures)) in
    let i = inside a.place.lo a.place.hi a.place.at c.loop-i.i c.loop-i.at h c.loop-i.invariant.1 in
    omega arith

pub after-at-requires : goal.after-at-requires
after-at-requires c =
    let a = c.args in
    let h = one_more a.place.lo a.place.hi a.place.at c.loop-i.i a.bytes.now c.requires.held.from c.requires.held.below (omega arith) (omega (arith, c.loop-i-test.true, c.div_ceil-i-end.ensures)) in
    inside a.place.lo a.place.hi a.place.at c.loop-i.i c.loop-i.at h c.loop-i.invariant.1

pub loop-i-preserved : goal.loop-i-preserved
loop-i-preserved c =
    let a = c.args in
    let now = c.loop-i in
    let h = one_more a.place.lo a.place.hi a.place.at now.i a.bytes.now c.requires.held.from c.requires.held.below (omega arith) (omega (arith, c.loop-i-test.true, c.div_ceil-i-end.ensures)) in
    let so_far : InRing a.place.lo a.place.hi a.place.at now.i = record { from = h.from; below = h.below; held = omega (arith, h.held) } in
    let n = length_data a.bytes.now in
    let word : c.word_from.result ≡ get_or (data_words a.bytes.now) now.i 0 =
    c.word_from.ensures ∙ sym (data_word a.bytes.now now.i (omega (arith, c.loop-i-test.true, c.div_ceil-i-end.ensures))) in (
      omega arith,
      c.after-at.ensures ∙ ap (after a.place.lo a.place.hi) now.invariant.1 ∙ after_ahead a.place.lo a.place.hi a.place.at now.i h,
      rw (now.invariant.2, now.invariant.1, word)
          (laid_suc a.place.lo a.place.hi a.place.at (data_words a.bytes.now) a.ring.now now.i so_far (omega arith)
          ∙ ap (λ k. laid a.place.lo a.place.hi a.place.at (take k (data_words a.bytes.now)) a.ring.now) (sym (add-one now.i))),
      simp length-set now.invariant.3,
    )

pub returns-clause-ring_after : goal.returns-clause-ring_after
returns-clause-ring_after c =
    let a = c.args in
    let n = length_data a.bytes.now in
    c.loop-i.invariant.2 ∙ ap (λ u. laid a.place.lo a.place.hi a.place.at u a.ring.now) (take_all c.loop-i.i (data_words a.bytes.now) (omega arith))

pub returns-clause-value : goal.returns-clause-value
returns-clause-value c =
    let a = c.args in
    let n = length_data a.bytes.now in
    let e : c.loop-i.i ≡ length (data_words a.bytes.now) = omega arith in
    c.loop-i.invariant.1 ∙ ap (ahead a.place.lo a.place.hi a.place.at) e
