-- `merge_line` meets its contract: the loop stores each pixel's new value from the front.
use mathlib.Core.Path.{ap, ◌∙◌}
use Prim.Native.Nat.{ℕ, ◌<◌}
use lib.ListN.{length, get_or}
use native.Mathlib.Omega.{arith}
use Rattle.geometry.proofs.Tabulate.{front_read, front_step}
use Rattle.raster.proofs.merge_line.Goals as goal

pub loop-i-preserved : goal.loop-i-preserved
loop-i-preserved g c =
    let a = c.args in
    let more : c.loop-i.i < length c.loop-i.row = omega arith in
    let new = λ (k : ℕ). g.O.Operation.makes a.op (get_or a.line.now k 0) (get_or a.row.now k 0) in
    front_step {f = new} c.loop-i.invariant _ more (c.merge.ensures ∙ ap (g.O.Operation.makes a.op (get_or a.line.now c.loop-i.i 0)) (front_read c.loop-i.invariant more))
