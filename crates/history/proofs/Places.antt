-- Places in the ring some words on, and the ring memory once STOP has passed some words.
-- Assumes nothing.
use mathlib.Core.Path.{◌≡◌, refl, sym, ap, ap₂, ◌∙◌}
use mathlib.Core.Bool.{Bool, true, cond}
use mathlib.Core.List.{List}
use Prim.Native.Nat.{ℕ, zero, suc, ◌+◌, ◌*◌, ◌/◌, ◌%◌, ◌≤◌, ◌<◌}
use native.Mathlib.Omega.{arith}
use native.Mathlib.Nat.{zero-add, suc-add}
use lib.Dec.{eqb}
use lib.ListN.{length, get_or, drop}
use lib.Seq.{get_or-set_same}
use borrow.Author.Tests.{eqb-true}
use borrow.Table.Steps.{cases}
use Rattle.ring.specs.Acceptance.{min_of, max_of, next_of, stop_of, usable}
use Rattle.ring.specs.Waiting.{after, ahead, between, waiting}
use Rattle.ring.proofs.Laws.{usable_when, when_usable}
use Rattle.ring.proofs.WaitingLaws.{InRing, after_in, ahead_in, ahead_zero, ahead_after, between_carried, words_left_written}
use Rattle.run.specs.Run.{stamped, posting}
use Rattle.run.specs.Turns.{Clear}
use Rattle.run.proofs.Posting.{length-posting, length-written, written_other, posting_waits}
use Rattle.history.specs.Demand.{words_on}

-- ---- words on

pub on_add : (lo hi p n k : ℕ) → words_on lo hi p (n + k) ≡ words_on lo hi (words_on lo hi p n) k
unfolding words_on
on_add lo hi p zero k = ap (words_on lo hi p) (zero-add k)
on_add lo hi p (suc n) k = ap (words_on lo hi p) (suc-add n k) ∙ on_add lo hi (after lo hi p) n k

-- at most once round, it is the place ahead
pub on_ahead : (lo hi p k : ℕ) → InRing lo hi p k → words_on lo hi p k ≡ ahead lo hi p k
unfolding words_on
on_ahead lo hi p zero i = sym (ahead_zero lo hi p i.below)
on_ahead lo hi p (suc k) i =
    let q = after_in lo hi p i.from i.below in
    on_ahead lo hi (after lo hi p) k (record { from = q.0; below = q.1; held = omega arith }) ∙ ahead_after lo hi p k i

-- ---- a ring memory

-- Its ring words are usable, and MIN and MAX are 4·lo and 4·hi.
pub record Holds (lo hi : ℕ) (ring : List ℕ) : Type 0 where
  pub good : usable ring ≡ true
  pub low : min_of ring ≡ 4 * lo
  pub high : max_of ring ≡ 4 * hi

-- the same in words
pub record InWords (lo hi : ℕ) (ring : List ℕ) : Type 0 where
  pub head : 4 ≤ lo
  pub wide : lo + 2560 ≤ hi
  pub long : hi ≤ length ring
  pub stop_from : lo ≤ stop_of ring / 4
  pub stop_below : stop_of ring / 4 < hi
  pub stop_is : stop_of ring ≡ 4 * (stop_of ring / 4)
  pub next_from : lo ≤ next_of ring / 4
  pub next_below : next_of ring / 4 < hi
  pub next_word : next_of ring % 4 ≡ 0

pub in_words : (lo hi : ℕ) (ring : List ℕ) → Holds lo hi ring → InWords lo hi ring
in_words lo hi ring h =
    let u = usable_when ring h.good in
    let l = h.low in
    let t = h.high in
    record {
      head = omega arith;
      wide = omega arith;
      long = omega arith;
      stop_from = omega arith;
      stop_below = omega arith;
      stop_is = omega arith;
      next_from = omega arith;
      next_below = omega arith;
      next_word = u.next_word;
    }

-- What holds of the memory once STOP has passed k of the words that wait.
pub record Passed (lo hi : ℕ) (ring : List ℕ) (k : ℕ) (to : List ℕ) : Type 0 where
  pub same_length : length to ≡ length ring
  pub holds : Holds lo hi to
  pub stop : stop_of to ≡ 4 * ahead lo hi (stop_of ring / 4) k
  pub waits : waiting to lo hi (stop_of to / 4) (next_of to / 4) ≡ drop k (waiting ring lo hi (stop_of ring / 4) (next_of ring / 4))

-- none of them
passed_none : (lo hi : ℕ) (ring : List ℕ) → Holds lo hi ring → Passed lo hi ring 0 ring
passed_none lo hi ring h =
    let i = in_words lo hi ring h in
    record { same_length = refl; holds = h; stop = i.stop_is ∙ ap (λ p. 4 * p) (sym (ahead_zero lo hi (stop_of ring / 4) i.stop_below)); waits = refl }

module _ (lo hi : ℕ) (ring : List ℕ) (h : Holds lo hi ring) (k : ℕ) (part : k ≤ between lo hi (stop_of ring / 4) (next_of ring / 4)) where
  abbrev to : ℕ
  to = ahead lo hi (stop_of ring / 4) k

  pub held_in_lem : InRing lo hi (stop_of ring / 4) k
  held_in_lem =
      let i = in_words lo hi ring h in
      let c = between_carried lo hi (stop_of ring / 4) (next_of ring / 4) i.stop_from i.stop_below i.next_from i.next_below in
      record { from = i.stop_from; below = i.stop_below; held = omega arith }

  -- with this number posted, where fences are
  module _ (posts : Bool) (number : ℕ) (clear : Clear posts lo) where
    abbrev posted : List ℕ
    posted = posting posts number ring

    abbrev stamp : List ℕ
    stamp = stamped to posted

    other : (i : ℕ) → i < 3 → get_or stamp i 0 ≡ get_or ring i 0
    other i l =
        written_other posts to number ring i (λ e. let u : i ≡ 3 = e in omega arith) (λ t e. let u : i ≡ 6 = e in omega arith)

    stamp_stop : stop_of stamp ≡ 4 * to
    unfolding stamped
    stamp_stop =
        let u = usable_when ring h.good in
        let n = length-posting posts number ring in
        get_or-set_same posted 3 (to * 4) 0 (omega arith) ∙ omega arith

    stamp_holds : Holds lo hi stamp
    stamp_holds =
        let u = usable_when ring h.good in
        let l = h.low in
        let t = h.high in
        let a = ahead_in lo hi (stop_of ring / 4) k held_in_lem in
        let n = length-written posts to number ring in
        let min : min_of stamp ≡ min_of ring = other 0 (omega arith) in
        let max : max_of stamp ≡ max_of ring = other 1 (omega arith) in
        let next : next_of stamp ≡ next_of ring = other 2 (omega arith) in
        let stop = stamp_stop in
        record {
          good = when_usable stamp (record {
            there = omega arith;
            min_word = omega arith;
            max_word = omega arith;
            next_word = omega arith;
            stop_word = omega arith;
            low = omega arith;
            fits = omega arith;
            size = omega arith;
            next_low = omega arith;
            next_high = omega arith;
            stop_low = omega arith;
            stop_high = omega arith;
          });
          low = min ∙ l;
          high = max ∙ t;
        }

    stamp_waits : waiting stamp lo hi (stop_of stamp / 4) (next_of stamp / 4) ≡ drop k (waiting ring lo hi (stop_of ring / 4) (next_of ring / 4))
    unfolding stamped
    stamp_waits =
        let i = in_words lo hi ring h in
        let from = stop_of ring / 4 in
        let up_to_lem = next_of ring / 4 in
        let stop : stop_of stamp / 4 ≡ to = omega (arith, stamp_stop) in
        let next : next_of stamp / 4 ≡ up_to_lem = ap (λ x. x / 4) (other 2 (omega arith)) in
        ap₂ (λ p q. waiting stamp lo hi p q) stop next
        ∙ words_left_written posted lo hi from up_to_lem k (to * 4) i.head i.stop_from i.stop_below i.next_from i.next_below part
        ∙ ap (drop k) (posting_waits posts number ring lo hi from up_to_lem clear i.stop_from i.stop_below)

    passed_some : Passed lo hi ring k stamp
    passed_some = record { same_length = length-written posts to number ring; holds = stamp_holds; stop = stamp_stop; waits = stamp_waits }

-- the memory that a run leaves, which writes ring words 3 and, where fences are posted, 6, if it has executed a command
pub passed_by_lem : (lo hi : ℕ) (ring : List ℕ) (count k : ℕ) (posts : Bool) (number : ℕ) → Holds lo hi ring
    → k ≤ between lo hi (stop_of ring / 4) (next_of ring / 4) → (count ≡ 0 → k ≡ 0) → Clear posts lo
    → Passed lo hi ring k (cond (eqb count 0) ring (stamped (ahead lo hi (stop_of ring / 4) k) (posting posts number ring)))
passed_by_lem lo hi ring count k posts number h part nothing clear =
    cases (eqb count 0)
    (λ e. rw (e, nothing (eqb-true _ _ e)) (passed_none lo hi ring h))
    (λ e. rw e (passed_some lo hi ring h k part posts number clear))
