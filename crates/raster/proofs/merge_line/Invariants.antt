-- The loop stores each pixel's new value from the front.
use lib.ListN.{get_or}
use Rattle.geometry.proofs.Tabulate.{Front}
use Rattle.raster.proofs.merge_line.Given as goal

abbrev pub invariant-loop-i : goal.invariant-loop-i
invariant-loop-i g l = Front (λ k. g.O.Operation.makes l.op (get_or l.line k 0) (get_or l.initial.row k 0)) l.initial.row l.row l.i
