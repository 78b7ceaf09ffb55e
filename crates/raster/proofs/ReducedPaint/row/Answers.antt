-- `row` meets its contract: the loop stores each pixel's new value from the front.
use mathlib.Core.Path.{ap, ◌∙◌}
use Prim.Native.Nat.{◌<◌}
use lib.ListN.{length}
use native.Mathlib.Omega.{arith}
use Rattle.pixel.specs.Masks.{reduce_pixel}
use Rattle.geometry.proofs.Tabulate.{front_read, front_step}
use Rattle.raster.proofs.ReducedPaint.row.Goals as goal

pub loop-p-preserved : goal.loop-p-preserved
loop-p-preserved c =
    let more : c.loop-p.p-index < length c.loop-p.row = omega arith in
    front_step c.loop-p.invariant _ more
    (c.apply.ensures.formula ∙ ap (reduce_pixel c.args.self.keep c.args.self.flip) (front_read c.loop-p.invariant more))
