-- The first j rows that are visible are blended.
use Rattle.std.proofs.Common.{get_or}
use Rattle.geometry.proofs.Loops.{RowsDone}
use Rattle.pixel.specs.Blend.{blend_pixel}
use Rattle.cursor.proofs.Spans.{visible_pixel}
use Rattle.cursor.proofs.overlay_visible.Given as goal

abbrev pub invariant-loop-j : goal.invariant-loop-j
invariant-loop-j l =
    RowsDone l.width l.columns.at l.lines.at l.columns.n l.lines.n
    (λ k. blend_pixel (visible_pixel l.width l.w l.columns l.lines l.image k) (get_or l.fn.picture k 0))
    l.fn.picture l.j l.picture
