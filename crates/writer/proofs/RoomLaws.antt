-- The room in a ring: some word is free exactly where an append is not refused, and an append that is not refused takes one of them.
-- Assumes nothing.
use mathlib.Core.Path.{◌≡◌, refl, sym, ap, ◌∙◌}
use mathlib.Core.Bool.{true, false, true≢false}
use mathlib.Core.List.{List, [], ◌∷◌}
use mathlib.Core.Logic.{◌↔◌}
use Prim.Native.Nat.{ℕ, ◌+◌, ◌/◌, ◌≤◌, ◌<◌}
use native.Mathlib.Omega.{arith}
use lib.ListN.{length, length-append}
use lib.Dec.{leb}
use borrow.Author.Tests.{leb-true, leb-false, le-leb}
use borrow.Table.Steps.{cases}
use Rattle.ring.specs.Acceptance.{min_of, max_of, next_of, stop_of, Usable}
use Rattle.ring.specs.Append.{can_append, append_to}
use Rattle.ring.specs.Waiting.{between, waiting}
use Rattle.ring.proofs.Laws.{when_usable}
use Rattle.ring.proofs.WaitingLaws.{between_carried, length-waiting}
use Rattle.ring.proofs.AppendLaws.{append-usable, append_keeps, append_full, append_waits}
use Rattle.writer.specs.Writing.{carried_in, free_words}

-- the words that wait in a ring, as many as the guest's ring words say
abbrev pub waiting_in : List ℕ → ℕ
waiting_in ring = between (min_of ring / 4) (max_of ring / 4) (stop_of ring / 4) (next_of ring / 4)

-- never more than the ring carries
pub waiting_carried : (ring : List ℕ) → Usable ring → waiting_in ring ≤ carried_in ring
waiting_carried ring u =
    between_carried (min_of ring / 4) (max_of ring / 4) (stop_of ring / 4) (next_of ring / 4) (omega arith) (omega arith) (omega arith) (omega arith)

-- "free words now" and those that wait are all that the ring carries
pub free_waiting : (ring : List ℕ) → Usable ring → free_words ring + waiting_in ring ≡ carried_in ring
unfolding free_words
free_waiting ring u = let w = waiting_carried ring u in omega arith

-- What is free is never more than the ring carries.
pub free_most : (ring : List ℕ) → free_words ring ≤ carried_in ring
unfolding free_words
free_most ring = omega arith

-- In an empty ring all that it carries is free.
pub empty_free : (ring : List ℕ) → next_of ring ≡ stop_of ring → free_words ring ≡ carried_in ring
unfolding free_words between
empty_free ring e = rw (e, le-leb (stop_of ring / 4) (stop_of ring / 4) (omega arith)) (omega arith)

full : (ring : List ℕ) → Usable ring → (can_append ring ≡ false) ↔ (waiting_in ring ≡ carried_in ring)
full ring u =
    let n = length-waiting ring (min_of ring / 4) (max_of ring / 4) (stop_of ring / 4) (next_of ring / 4) in
    let f = append_full ring (min_of ring / 4) (max_of ring / 4) (stop_of ring / 4) refl refl refl (when_usable ring u) in
    (λ e. sym n ∙ f.0 e, λ e. f.1 (n ∙ e))

-- "never filling the last word": some word is free exactly where an append is not refused
pub room : (ring : List ℕ) → Usable ring → (1 ≤ free_words ring) ↔ (can_append ring ≡ true)
room ring u =
    let all = free_waiting ring u in (
      λ some. cases (can_append ring) (λ e. e) (λ e. let f : waiting_in ring ≡ carried_in ring = (full ring u).0 e in let z : ⊥ = omega arith in absurd z),
      λ can. cases (leb 1 (free_words ring))
          (λ e. leb-true _ _ e)
          (λ e. let none : free_words ring < 1 = leb-false _ _ e in absurd (true≢false (sym can ∙ (full ring u).1 (omega arith)))),
    )

-- one word more waits
waiting_append : (ring : List ℕ) (x : ℕ) → can_append ring ≡ true → waiting_in (append_to ring x) ≡ waiting_in ring + 1
waiting_append ring x can =
    let lo = min_of ring / 4 in
    let hi = max_of ring / 4 in
    let stop = stop_of ring / 4 in
    let k = append_keeps ring x in
    let n = next_of (append_to ring x) / 4 in
    rw (k.0, k.1, k.2)
    (sym (length-waiting (append_to ring x) lo hi stop n)
    ∙ ap length (append_waits ring lo hi stop refl refl refl x can)
    ∙ length-append (waiting ring lo hi stop (next_of ring / 4)) (x ∷ [])
    ∙ ap (λ m. m + 1) (length-waiting ring lo hi stop (next_of ring / 4)))

-- an append takes one of the free words
pub free_append : (ring : List ℕ) (x : ℕ) → can_append ring ≡ true → free_words (append_to ring x) + 1 ≡ free_words ring
unfolding free_words
free_append ring x can =
    let u = append-usable ring can in
    let k = append_keeps ring x in
    let w = waiting_append ring x can in
    let some = (room ring u).1 can in
    let all = free_waiting ring u in
    omega arith
