-- `store_short` meets its contract. The invariant: the first i pixels are stored.
use mathlib.Core.Path.{◌≡◌}
use Prim.Native.Nat.{◌-◌, ◌≤◌}
use lib.ListN.{length}
use Rattle.raster.proofs.Stored.{Stored}
use Rattle.raster.proofs.store_short.Given as goal

abbrev pub invariant-loop-i : goal.invariant-loop-i
invariant-loop-i l = (l.i ≤ l.n) × (length l.row ≡ l.n) × Stored l.colour l.n l.i l.row

abbrev pub decreases-loop-i : goal.decreases-loop-i
decreases-loop-i l = l.n - l.i
