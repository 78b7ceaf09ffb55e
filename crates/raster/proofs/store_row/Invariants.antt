-- The loop stores the colour from the front.
use Rattle.geometry.proofs.Tabulate.{Front}
use Rattle.raster.proofs.store_row.Given as goal

abbrev pub invariant-loop-p : goal.invariant-loop-p
invariant-loop-p l = Front (λ k. l.colour) l.initial.row l.row l.p-index
