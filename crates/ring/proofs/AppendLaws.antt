-- Laws of an append: the waiting words become longer by its word, it is refused exactly where the ring is full, and it leaves everything else alone; and
-- what it answers at each of its three ends.
-- Assumes nothing.
use Rattle.std.specs.Prelude.{Err, Ok}
use mathlib.Core.Path.{◌≡◌, sym, ap₂, ◌∙◌}
use mathlib.Core.Bool.{true, false, and-eq-true_iff}
use mathlib.Core.List.{List, [], ◌∷◌, ◌++◌}
use mathlib.Core.Logic.{◌≢◌, ◌↔◌}
use Prim.Native.Nat.{ℕ, ◌*◌, ◌/◌, ◌%◌, ◌≤◌, ◌<◌}
use native.Mathlib.Omega.{arith}
use lib.ListN.{length, get_or, set, length-set}
use lib.Seq.{get_or-set_same, get_or-set_other}
use Rattle.std.proofs.lemmas.Bool.Decides.{nat_tests}
use borrow.Author.Tests.{eqb-true, eq-eqb, ne_eqb, not-false}
use borrow.Table.Steps.{cases}
use Rattle.ring.specs.Acceptance.{min_of, max_of, next_of, stop_of, usable, Usable}
use Rattle.ring.specs.Waiting.{after, between, words, waiting, carried}
use Rattle.ring.specs.Append.{moved_on, can_append, append_to, appended, append_of}
use Rattle.ring.proofs.Laws.{usable_when, when_usable}
use Rattle.ring.proofs.WaitingLaws.{words_outside, words_snoc, between_in, between_after, between_full, ahead_between, length-waiting}

pub append-refused : (ring : List ℕ) (x : ℕ) → can_append ring ≡ false → append_to ring x ≡ ring
unfolding append_to
append-refused ring x e = rw e

pub length-append_to : (ring : List ℕ) (x : ℕ) → length (append_to ring x) ≡ length ring
unfolding append_to
length-append_to ring x = grind (arith, length-set)

-- what an append that is not refused has shown
pub append-usable : (ring : List ℕ) → can_append ring ≡ true → Usable ring
unfolding can_append
append-usable ring e = usable_when ring ((and-eq-true_iff (usable ring) _).0 e).0

pub append_apart : (ring : List ℕ) → can_append ring ≡ true → moved_on (min_of ring) (max_of ring) (next_of ring) ≢ stop_of ring
unfolding can_append
append_apart ring e = grind (arith, nat_tests)

-- NEXT_CMD after an append
pub next_append : (ring : List ℕ) (x : ℕ) → can_append ring ≡ true → next_of (append_to ring x) ≡ moved_on (min_of ring) (max_of ring) (next_of ring)
unfolding append_to
next_append ring x e =
    let u = append-usable ring e in
    rw e (get_or-set_same (set ring (next_of ring / 4) x) 2 _ 0 (rw length-set (omega arith)))

-- a word that is neither ring word 2 nor the one at NEXT_CMD stays
pub append_elsewhere : (ring : List ℕ) (x i : ℕ) → i ≢ 2 → i ≢ next_of ring / 4 → get_or (append_to ring x) i 0 ≡ get_or ring i 0
unfolding append_to
append_elsewhere ring x i a b = grind (arith, get_or-set_other)

head_stays : (ring : List ℕ) (x i : ℕ) → i ≢ 2 → i < 4 → get_or (append_to ring x) i 0 ≡ get_or ring i 0
head_stays ring x i a b =
    cases (can_append ring)
    (λ e. let u = append-usable ring e in append_elsewhere ring x i a (omega arith))
    (λ e. rw (append-refused ring x e))

-- NEXT_CMD moved on is an offset of the ring
moved_in : (ring : List ℕ) → Usable ring
    → (moved_on (min_of ring) (max_of ring) (next_of ring) % 4 ≡ 0)
    × (min_of ring ≤ moved_on (min_of ring) (max_of ring) (next_of ring))
    × (moved_on (min_of ring) (max_of ring) (next_of ring) < max_of ring)
unfolding moved_on
moved_in ring u = grind (arith, nat_tests)

-- an append leaves MIN, MAX and STOP, and leaves a ring usable
pub append_keeps : (ring : List ℕ) (x : ℕ)
    → (min_of (append_to ring x) ≡ min_of ring)
    × (max_of (append_to ring x) ≡ max_of ring)
    × (stop_of (append_to ring x) ≡ stop_of ring)
    × (usable (append_to ring x) ≡ usable ring)
append_keeps ring x =
    let low : min_of (append_to ring x) ≡ min_of ring = head_stays ring x 0 (omega arith) (omega arith) in
    let high : max_of (append_to ring x) ≡ max_of ring = head_stays ring x 1 (omega arith) (omega arith) in
    let stop : stop_of (append_to ring x) ≡ stop_of ring = head_stays ring x 3 (omega arith) (omega arith) in
    let l = length-append_to ring x in (
      low,
      high,
      stop,
      cases (can_append ring)
          (λ e.
          let u = append-usable ring e in
          let m = moved_in ring u in
          let n = next_append ring x e in
          when_usable (append_to ring x) (grind arith)
          ∙ sym (when_usable ring u))
          (λ e. rw (append-refused ring x e)),
    )

-- where NEXT_CMD moves on to, in words
moved_word : (lo hi p : ℕ) → p % 4 ≡ 0 → p < 4 * hi → moved_on (4 * lo) (4 * hi) p ≡ 4 * after lo hi (p / 4)
unfolding moved_on after
moved_word lo hi p e h = grind (arith, nat_tests)

-- a word stored at q, where the waiting words end, and another at ring word 2
snoc : (ring : List ℕ) (lo hi stop q x y : ℕ) → 4 ≤ lo → lo ≤ stop → stop < hi → lo ≤ q → q < hi → hi ≤ length ring → (after lo hi q ≡ stop → ⊥)
    → words (set (set ring q x) 2 y) lo hi stop (between lo hi stop (after lo hi q)) ≡ words ring lo hi stop (between lo hi stop q) ++ (x ∷ [])
snoc ring lo hi stop q x y l a b c d f g =
    words_outside (set ring q x) lo hi stop (between lo hi stop (after lo hi q)) 2 y a b (omega arith)
    ∙ ap₂ (λ k n. words (set ring k x) lo hi stop n) (sym (ahead_between lo hi stop q a b c d)) (between_after lo hi stop q a b c d g)
    ∙ words_snoc ring lo hi stop (between lo hi stop q) x (between_in lo hi stop q a b c d) f

-- MIN, MAX and STOP in words
module _ (ring : List ℕ) (lo hi stop : ℕ) (low : lo ≡ min_of ring / 4) (high : hi ≡ max_of ring / 4) (last : stop ≡ stop_of ring / 4) where
  -- where NEXT_CMD moves on to
  pub moved : Usable ring → moved_on (min_of ring) (max_of ring) (next_of ring) ≡ 4 * after lo hi (next_of ring / 4)
  moved u =
      let l : min_of ring ≡ 4 * lo = omega arith in
      let h : max_of ring ≡ 4 * hi = omega arith in
      rw (l, h) (moved_word lo hi (next_of ring) u.next_word (omega arith))

  -- an append that is not refused puts its word at the end of the waiting words
  pub append_waits : (x : ℕ) → can_append ring ≡ true
      → waiting (append_to ring x) lo hi stop (next_of (append_to ring x) / 4) ≡ waiting ring lo hi stop (next_of ring / 4) ++ (x ∷ [])
  unfolding append_to waiting
  append_waits x e =
      let u = append-usable ring e in
      let m = moved u in
      let k : next_of (append_to ring x) / 4 ≡ after lo hi (next_of ring / 4) = omega (arith, next_append ring x e) in
      rw (k, e)
      (snoc ring lo hi stop (next_of ring / 4) x _ (omega arith) (omega arith) (omega arith) (omega arith) (omega arith) (omega arith)
      (λ g. let v : after lo hi (next_of ring / 4) ≡ stop = g in append_apart ring e (omega arith)))

  -- "The ring is full, and an append refused, exactly when (MAX − MIN)/4 − 1 words are left"
  pub append_full : usable ring ≡ true → (can_append ring ≡ false) ↔ (length (waiting ring lo hi stop (next_of ring / 4)) ≡ carried lo hi)
  unfolding can_append
  append_full good =
      let u = usable_when ring good in
      let m = moved u in
      let f = between_full lo hi stop (next_of ring / 4) (omega arith) (omega arith) (omega arith) (omega arith) in
      let n = length-waiting ring lo hi stop (next_of ring / 4) in (
        rw good (λ e. let v : moved_on (min_of ring) (max_of ring) (next_of ring) ≡ stop_of ring = eqb-true _ _ (not-false _ e) in n ∙ f.0 (omega arith)),
        (λ e. let v : after lo hi (next_of ring / 4) ≡ stop = f.1 (sym n ∙ e) in
            rw (good, eq-eqb (moved_on (min_of ring) (max_of ring) (next_of ring)) (stop_of ring) (omega arith))),
      )

-- what an append answers and leaves, at each of its three ends
pub append_of_unusable : (ring : List ℕ) (x : ℕ) → usable ring ≡ false → appended (Err (record {})) ring ≡ append_of ring x
unfolding append_of append_to can_append
append_of_unusable ring x e = rw e

module _ (ring : List ℕ) (x moved : ℕ) (good : usable ring ≡ true) (on : moved ≡ moved_on (min_of ring) (max_of ring) (next_of ring)) where
  pub append_of_full : moved ≡ stop_of ring → appended (Err (record {})) ring ≡ append_of ring x
  unfolding append_of append_to can_append
  append_of_full e = rw (good, sym on, eq-eqb moved (stop_of ring) e)

  pub append_of_taken : moved ≢ stop_of ring → appended (Ok tt) (set (set ring (next_of ring / 4) x) 2 moved) ≡ append_of ring x
  unfolding append_of append_to can_append
  append_of_taken e = rw (good, sym on, ne_eqb moved (stop_of ring) e)
