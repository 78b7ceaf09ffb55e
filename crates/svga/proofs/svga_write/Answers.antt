-- By what the words hold, and what the write answers.
use Rattle.svga.specs.Calls.{write_held}
use Rattle.svga.proofs.Laws.{put_whole, svga_write_held}
use Rattle.device_words.proofs.RoundTrip.{spelled_words}
use Rattle.svga.proofs.svga_write.Goals as goal

pub returns-in_default : goal.returns-in_default
unfolding write_held
returns-in_default c = svga_write_held _ _ c.if-device-ne64.false c.in_default.ensures _ _ _

pub returns-in-Ok : goal.returns-in-Ok
unfolding write_held
returns-in-Ok c =
    rw (← svga_write_held _ _ c.if-device-ne64.false c.in-Some.ensures _ _ _, ← c.in-Ok.ensures, put_whole _ _ c.if-device-ne64.false _ c.put_in.ensures)

pub returns-in-Err : goal.returns-in-Err
unfolding write_held
returns-in-Err c =
    rw (← svga_write_held _ _ c.if-device-ne64.false c.in-Some.ensures _ _ _, ← c.in-Err.ensures, c.from.ensures, spelled_words _ _ c.in-Some.ensures)
