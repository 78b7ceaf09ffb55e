-- The invariant: the first j rows of the area are painted, and the next begins at place at.
use Rattle.raster.proofs.Stored.{Begun}
use Rattle.raster.proofs.fill_rows.Given as goal

abbrev pub invariant-loop-j : goal.invariant-loop-j
invariant-loop-j g l = Begun l.width l.fn.area.x l.fn.area.y l.fn.area.w l.fn.area.h (g.P.Paint.makes l.paint) l.initial.screen l._j l.at l.screen
