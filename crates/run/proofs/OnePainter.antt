-- Document 02, P3: "plain and raster versions must not drift apart", "a plain command being raster operation 3". Command 2 and command 13 with operation 3
-- leave the same machine, and so do command 3 and command 14 with operation 3: on every machine, with every argument, whatever words follow.
-- Assumes nothing.
use mathlib.Core.Path.{◌≡◌, refl}
use mathlib.Core.List.{List, [], ◌∷◌}
use Prim.Native.Nat.{ℕ, ◌≤◌}
use native.Mathlib.Omega.{arith}
use Rattle.execution.specs.Straight.{exec}
use Rattle.execution.specs.Table.{turn_of}
use Rattle.command.specs.declared.Action.TheVariants.{Fill, Copy}
use Rattle.command.specs.Commands.{entry, kind_of}
use Rattle.command.proofs.Rules.{well, by_rule}
use Rattle.effect.specs.Effects.{Scene, Machine, cursor_after, done}
use Rattle.run.specs.Run.{known_of, table}

module _ (s : Scene) (m : Machine) (cap : ℕ) (carries : 10 ≤ cap) where
  -- both execute, and leave what a fill by operation 3 leaves
  pub fills_agree : (colour x y w h : ℕ) (u v : List ℕ)
      → (turn_of cap (table s) m (2 ∷ colour ∷ x ∷ y ∷ w ∷ h ∷ u) ≡ exec 6 (done s (Fill (record { x = x; y = y; w = w; h = h }) colour 3) [] m))
      × (turn_of cap (table s) m (13 ∷ colour ∷ x ∷ y ∷ w ∷ h ∷ 3 ∷ v) ≡ exec 7 (done s (Fill (record { x = x; y = y; w = w; h = h }) colour 3) [] m))
  unfolding entry kind_of done cursor_after
  fills_agree colour x y w h u v = (
    by_rule known_of (done s) cap m (2 ∷ colour ∷ x ∷ y ∷ w ∷ h ∷ u) (omega arith) _ (well refl (omega arith) refl (omega arith) (omega arith) refl),
    by_rule known_of (done s) cap m (13 ∷ colour ∷ x ∷ y ∷ w ∷ h ∷ 3 ∷ v) (omega arith) _ (well refl (omega arith) refl (omega arith) (omega arith) refl),
  )

  -- and what a copy by operation 3 leaves
  pub copies_agree : (sx sy x y w h : ℕ) (u v : List ℕ)
      → (turn_of cap (table s) m (3 ∷ sx ∷ sy ∷ x ∷ y ∷ w ∷ h ∷ u)
      ≡ exec 7 (done s (Copy (record { x = sx; y = sy }) (record { x = x; y = y; w = w; h = h }) 3) [] m))
      × (turn_of cap (table s) m (14 ∷ sx ∷ sy ∷ x ∷ y ∷ w ∷ h ∷ 3 ∷ v)
      ≡ exec 8 (done s (Copy (record { x = sx; y = sy }) (record { x = x; y = y; w = w; h = h }) 3) [] m))
  unfolding entry kind_of done cursor_after
  copies_agree sx sy x y w h u v = (
    by_rule known_of (done s) cap m (3 ∷ sx ∷ sy ∷ x ∷ y ∷ w ∷ h ∷ u) (omega arith) _ (well refl (omega arith) refl (omega arith) (omega arith) refl),
    by_rule known_of (done s) cap m (14 ∷ sx ∷ sy ∷ x ∷ y ∷ w ∷ h ∷ 3 ∷ v) (omega arith) _ (well refl (omega arith) refl (omega arith) (omega arith) refl),
  )
