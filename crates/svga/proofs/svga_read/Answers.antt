-- By what the words hold, and what the read answers.
use Rattle.std.proofs.Common.{◌∙◌}
use Rattle.svga.specs.Calls.{read_held}
use Rattle.svga.proofs.Laws.{svga_read_held}
use Rattle.svga.proofs.svga_read.Goals as goal

pub returns-in_default : goal.returns-in_default
unfolding read_held
returns-in_default c = c.pack-in_default.ensures ∙ svga_read_held _ _ c.if-device-ne64.false c.in_default.ensures _

pub returns-in-Ok : goal.returns-in-Ok
unfolding read_held
returns-in-Ok c = rw (c.pack-in-Ok.ensures, ← svga_read_held _ _ c.if-device-ne64.false c.in-Some.ensures _, ← c.in-Ok.ensures)

pub returns-in-Err : goal.returns-in-Err
unfolding read_held
returns-in-Err c =
    rw (c.pack-in-Err.ensures, ← svga_read_held _ _ c.if-device-ne64.false c.in-Some.ensures _, ← c.in-Err.ensures, c.from.ensures)
