-- The turn on a FENCE: document 02, P6. "11 for FENCE 0, judged once both words are there, in the place of the raster check."
-- Assumes nothing.
use mathlib.Core.Path.{◌≡◌, refl, ap}
use mathlib.Core.Bool.{not}
use mathlib.Core.List.{List, [], ◌∷◌}
use mathlib.Core.Logic.{◌≢◌}
use Prim.Native.Nat.{ℕ, ◌≤◌}
use native.Mathlib.Omega.{arith}
use borrow.Author.Tests.{ne_eqb}
use Rattle.execution.specs.declared.Cause.TheVariants.{BadOperand}
use Rattle.execution.specs.declared.End.TheVariants.{Waiting, Fault}
use Rattle.execution.specs.Straight.{ends, exec}
use Rattle.execution.specs.Table.{turn_of}
use Rattle.command.specs.declared.Action.TheVariants as A
use Rattle.command.specs.Commands.{entry, kind_of}
use Rattle.command.proofs.Rules.{by_rule, no_head, bad, well}
use Rattle.effect.specs.Effects.{Scene, Machine, done}
use Rattle.run.specs.Run.{known_of, table}

-- on every machine; a ring carries 2,559 words or more
module _ (s : Scene) (cap : ℕ) (carries : 2 ≤ cap) (m : Machine) where
  -- its first word alone waits, whatever the second will be
  pub fence_waits : turn_of cap (table s) m (30 ∷ []) ≡ ends Waiting
  unfolding entry kind_of
  fence_waits = by_rule known_of (done s) cap m (30 ∷ []) (omega arith) _ (no_head refl (omega arith))

  -- with a second word of 0 it faults, whatever follows
  pub fence_0_faults : (w : List ℕ) → turn_of cap (table s) m (30 ∷ 0 ∷ w) ≡ ends (Fault BadOperand)
  unfolding entry kind_of
  fence_0_faults w = by_rule known_of (done s) cap m (30 ∷ 0 ∷ w) (omega arith) _ (bad refl (omega arith) refl (omega arith) (omega arith) refl)

  -- and with another it is executed
  pub fence_executes : (number : ℕ) (w : List ℕ) → number ≢ 0 → turn_of cap (table s) m (30 ∷ number ∷ w) ≡ exec 2 (done s (A.Fence number) (30 ∷ number ∷ []) m)
  unfolding entry kind_of
  fence_executes number w n =
      by_rule known_of (done s) cap m (30 ∷ number ∷ w) (omega arith) _
      (well refl (omega arith) refl (omega arith) (omega arith) (ap not (ne_eqb number 0 n)))
