-- `update_cut` meets its contract: each turn brings the next row.
use native.Mathlib.Omega.{arith}
use Rattle.geometry.proofs.Loops.{rows_begin, rows_end}
use Rattle.raster.proofs.Stored.{update_turn}
use Rattle.raster.specs.CutPainters.{updated_cut}
use Rattle.raster.proofs.update_cut.Goals as goal

pub loop-j-init : goal.loop-j-init
loop-j-init c = rows_begin

pub loop-j-preserved : goal.loop-j-preserved
loop-j-preserved c = update_turn _ c.loop-j.invariant c.requires.inside c.requires.inside_2 c.loop-j-test.true c.place_of-at.ensures _ c.put_row.ensures

pub returns : goal.returns
unfolding updated_cut
returns c = rows_end c.loop-j.invariant (omega arith)
