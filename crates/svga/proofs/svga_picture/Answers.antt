-- By what the words hold, and what the picture answers.
use Rattle.std.proofs.Common.{◌∙◌}
use Rattle.svga.specs.Calls.{picture_held}
use Rattle.svga.proofs.Laws.{svga_picture_held}
use Rattle.svga.proofs.svga_picture.Goals as goal

pub returns-in_default : goal.returns-in_default
unfolding picture_held
returns-in_default c = svga_picture_held _ _ c.if-device-ne64.false c.in_default.ensures _ _ _

pub returns-in-Ok : goal.returns-in-Ok
unfolding picture_held
returns-in-Ok c = c.in-Ok.ensures ∙ svga_picture_held _ _ c.if-device-ne64.false c.in-Some.ensures _ _ _

pub returns-in-Err : goal.returns-in-Err
unfolding picture_held
returns-in-Err c = rw c.from.ensures (c.in-Err.ensures ∙ svga_picture_held _ _ c.if-device-ne64.false c.in-Some.ensures _ _ _)
