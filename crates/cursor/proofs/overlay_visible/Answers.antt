-- Each turn blends one row of the cursor that is visible, and the end has blended all of them.
use Rattle.std.proofs.Common.{◌≡◌, ℕ, ◌+◌, ◌*◌, ◌-◌, get_or, ap, arith}
use Rattle.geometry.proofs.Rows.{row_room}
use Rattle.geometry.proofs.Loops.{rows_begin, rows_turn, rows_end}
use Rattle.pixel.specs.Blend.{blend_pixel}
use Rattle.cursor.specs.Spans.{overlaid_visible}
use Rattle.cursor.proofs.Spans.{row_visible}
use Rattle.cursor.proofs.overlay_visible.Goals as goal

pub loop-j-init : goal.loop-j-init
loop-j-init c = rows_begin

pub loop-j-preserved : goal.loop-j-preserved
loop-j-preserved c =
    let a = c.args in
    let more = c.loop-j-test.true in
    let from = (a.lines.skip + c.loop-j.j) * a.w + a.columns.skip in
    let m : from + a.columns.n - from ≡ a.columns.n = omega arith in
    rows_turn c.loop-j.invariant c.requires.in_picture more _ _ c.blend_row.ensures
    (λ k t stood. rw (m, stood)
    (ap (λ (p : ℕ). blend_pixel p (get_or a.picture.now k 0))
    (row_visible a.width a.w a.columns a.lines a.image.now _ k c.requires.in_picture.across (row_room c.requires.in_image more) t)))

pub returns : goal.returns
unfolding overlaid_visible
returns c = rows_end c.loop-j.invariant c.loop-j-test.false
