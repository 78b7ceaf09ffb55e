-- The invariant: the pieces done so far are painted. To a proof a `bool` that is a const parameter is a number.
use mathlib.Core.Bool.{not}
use Prim.Native.Nat.{◌-◌}
use lib.Dec.{eqb}
use Rattle.geometry.proofs.Loops.{PiecesDone}
use Rattle.raster.proofs.copy_pieces.Given as goal

abbrev pub invariant-loop-done : goal.invariant-loop-done
invariant-loop-done g l = PiecesDone (not (eqb g.row.BACK 0)) l.from l.to l.n (g.O.Operation.makes l.op) l.initial.screen l.done l.screen

abbrev pub decreases-loop-done : goal.decreases-loop-done
decreases-loop-done g l = l.n - l.done
