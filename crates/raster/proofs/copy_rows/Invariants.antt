-- The invariant: the rows done so far are painted, and where the two rectangles lie.
use Prim.Native.Nat.{◌≤◌}
use mathlib.Core.Bool.{not}
use lib.Dec.{eqb}
use lib.ListN.{length}
use Rattle.raster.specs.Painters.{max_width}
use Rattle.geometry.proofs.Loops.{CopyDone, Copying}
use Rattle.raster.proofs.copy_rows.Given as goal

abbrev pub invariant-loop-done : goal.invariant-loop-done
invariant-loop-done g l = record {
  rows : CopyDone (not (eqb g.row.BACK 0)) l.width l.from.x l.from.y l.area.x l.area.y l.w l.h (g.O.Operation.makes l.op) l.initial.screen l.done l.screen;
  narrow : l.width ≤ max_width;
  copying : Copying (not (eqb g.row.BACK 0)) l.width l.from.x l.from.y l.area.x l.area.y l.w l.h (length l.initial.screen);
}
