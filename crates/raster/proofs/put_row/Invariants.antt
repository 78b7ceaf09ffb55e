-- The loop stores the source from the front.
use lib.ListN.{get_or}
use Rattle.geometry.proofs.Tabulate.{Front}
use Rattle.raster.proofs.put_row.Given as goal

abbrev pub invariant-loop-i : goal.invariant-loop-i
invariant-loop-i l = Front (λ k. get_or l.src k 0) l.initial.row l.row l.i
