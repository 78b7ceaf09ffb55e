-- The loop stores each pixel's new value from the front.
use lib.ListN.{get_or}
use Rattle.pixel.specs.Masks.{reduce_pixel}
use Rattle.geometry.proofs.Tabulate.{Front}
use Rattle.raster.proofs.ReducedPaint.row.Given as goal

abbrev pub invariant-loop-p : goal.invariant-loop-p
invariant-loop-p l = Front (λ k. reduce_pixel l.self.keep l.self.flip (get_or l.initial.row k 0)) l.initial.row l.row l.p-index
