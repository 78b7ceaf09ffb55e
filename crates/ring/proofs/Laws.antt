-- When ring words are accepted, condition by condition, for readers and for the crates above: exactly when `Usable` holds of them. Likewise when a
-- remembered ring lies in its memory: exactly when `Placed` holds of it.
-- Assumes nothing.
use Rattle.std.specs.Prelude.{None, Some}
use mathlib.Core.Path.{◌≡◌, refl, ap}
use mathlib.Core.Bool.{Bool, true, false, cond, true≢false}
use mathlib.Core.List.{List}
use Prim.Native.Nat.{ℕ, ◌+◌, ◌*◌, ◌/◌, ◌≤◌, ◌<◌}
use native.Mathlib.Omega.{arith}
use lib.ListN.{length}
use Rattle.std.proofs.lemmas.Bool.Decides.{nat_tests}
use Rattle.ring.specs.declared.Ring.{Ring}
use Rattle.ring.specs.Acceptance.{min_of, max_of, stop_of, offset_usable, bounds_usable, usable, Usable, accepted}
use Rattle.ring.specs.Waiting.{placed}

pub usable_when : (ring : List ℕ) → usable ring ≡ true → Usable ring
unfolding usable bounds_usable offset_usable
usable_when ring e =
    record {
      there = grind (arith, nat_tests);
      min_word = grind (arith, nat_tests);
      max_word = grind (arith, nat_tests);
      next_word = grind (arith, nat_tests);
      stop_word = grind (arith, nat_tests);
      low = grind (arith, nat_tests);
      fits = grind (arith, nat_tests);
      size = grind (arith, nat_tests);
      next_low = grind (arith, nat_tests);
      next_high = grind (arith, nat_tests);
      stop_low = grind (arith, nat_tests);
      stop_high = grind (arith, nat_tests);
    }

pub when_usable : (ring : List ℕ) → Usable ring → usable ring ≡ true
unfolding usable bounds_usable offset_usable
when_usable ring u = grind (arith, nat_tests)

pub accepted_when : (ring : List ℕ) → usable ring ≡ true
    → accepted ring ≡ Some (record { min = min_of ring / 4; max = max_of ring / 4; stop = stop_of ring / 4 })
unfolding accepted
accepted_when ring e = rw e

pub refused_when : (ring : List ℕ) → usable ring ≡ false → accepted ring ≡ None
unfolding accepted
refused_when ring e = rw e

chosen : (b : Bool) (r g : Ring) → cond b (Some r) None ≡ Some g → (b ≡ true) × (r ≡ g)
chosen true r g e = (refl, cc)
chosen false r g e = absurd (true≢false cc)

-- the remembered words are a quarter of the bytes, with nothing lost
pub accepted_ring : (ring : List ℕ) (g : Ring) → accepted ring ≡ Some g
    → Usable ring × (g.min * 4 ≡ min_of ring) × (g.max * 4 ≡ max_of ring) × (g.stop * 4 ≡ stop_of ring)
unfolding accepted
accepted_ring ring g e =
    let c = chosen (usable ring) _ g e in
    let u = usable_when ring c.0 in
    (u, omega (arith, ap (λ (r : Ring). r.min) c.1), omega (arith, ap (λ (r : Ring). r.max) c.1), omega (arith, ap (λ (r : Ring). r.stop) c.1))

pub refused_ring : (ring : List ℕ) → accepted ring ≡ None → usable ring ≡ false
unfolding accepted
refused_ring ring e = grind arith

-- ---- the remembered ring

-- the bounds of a remembered ring that lies in a memory of so many words
pub record Placed (g : Ring) (words : ℕ) : Type 0 where
  pub past_head : 4 ≤ g.min
  pub fits : g.max ≤ words
  pub size : g.min + 2560 ≤ g.max
  pub from : g.min ≤ g.stop
  pub below : g.stop < g.max

pub placed_when : (g : Ring) (words : ℕ) → placed g words ≡ true → Placed g words
unfolding placed
placed_when g words e = grind (arith, nat_tests)

pub when_placed : (g : Ring) (words : ℕ) → Placed g words → placed g words ≡ true
unfolding placed
when_placed g words p = grind (arith, nat_tests)

-- an accepted ring lies in its memory
pub accepted_placed : (ring : List ℕ) (g : Ring) → accepted ring ≡ Some g → placed g (length ring) ≡ true
accepted_placed ring g e =
    let a = accepted_ring ring g e in
    grind (arith, when_placed)
