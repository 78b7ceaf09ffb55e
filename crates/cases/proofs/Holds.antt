-- Cases 1 to 10 hold, all computed.
-- Assumes nothing.
use mathlib.Core.Path.{refl}
use Rattle.geometry.specs.Pixels.{in_rect, in_area, tabulate, painted, painted_if}
use Rattle.pixel.specs.RasterOperation.{raster_op}
use Rattle.pixel.specs.Blend.{blend_pixel}
use Rattle.raster.specs.Painters.{rows_fit, filled_in, filled, moves, copied_in, copied}
use Rattle.cursor.specs.Plane.{shape_good, covers}
use Rattle.execution.specs.Table.{unless, turn_of}
use Rattle.execution.specs.Turns.{runs}
use Rattle.command.specs.Commands.{entry, kind_of, commands}
use Rattle.cases.specs.Cases.{AllEqual, cases}

pub cases_hold : AllEqual cases
unfolding cases in_rect in_area tabulate painted painted_if raster_op blend_pixel rows_fit filled_in filled moves copied_in copied shape_good covers unless turn_of runs entry kind_of commands
cases_hold = (refl, (refl, (refl, (refl, (refl, (refl, (refl, (refl, (refl, (refl, tt))))))))))
