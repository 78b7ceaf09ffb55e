-- The invariant: the first j rows of the area are painted.
use lib.ListN.{get_or}
use Rattle.geometry.proofs.Loops.{RowsDone}
use Rattle.raster.proofs.update_cut.Given as goal

abbrev pub invariant-loop-j : goal.invariant-loop-j
invariant-loop-j l = RowsDone l.width l.area.x l.area.y l.area.w l.area.h (λ k. get_or l.framebuffer k 0) l.initial.screen l.j l.screen
