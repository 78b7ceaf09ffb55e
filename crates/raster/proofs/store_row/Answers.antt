-- `store_row` meets its contract: the loop stores the colour from the front.
use mathlib.Core.Path.{refl}
use native.Mathlib.Omega.{arith}
use Rattle.geometry.proofs.Tabulate.{front_step}
use Rattle.raster.proofs.store_row.Goals as goal

pub loop-p-preserved : goal.loop-p-preserved
loop-p-preserved c = front_step c.loop-p.invariant _ (omega arith) refl
