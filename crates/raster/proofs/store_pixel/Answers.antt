-- `store_pixel` meets its contract: one place is one row of one pixel.
use Rattle.raster.specs.CutPainters.{filled_by}
use Rattle.raster.proofs.Stored.{pixel_stored}
use Rattle.raster.proofs.store_pixel.Goals as goal

pub returns : goal.returns
unfolding filled_by
returns c = pixel_stored _ c.args.colour c.requires c.place_of.ensures
