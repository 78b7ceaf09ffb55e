-- `fill_rows` meets its contract: each turn paints the next row.
use Rattle.raster.proofs.Stored.{begins}
use Rattle.raster.proofs.fill_rows.Goals as goal

pub loop-j-init : goal.loop-j-init
loop-j-init g c = begins c.place_of-at.ensures
