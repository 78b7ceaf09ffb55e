-- By what the words hold, and what the run answers.
use Rattle.svga.specs.Calls.{run_held}
use Rattle.device_words.proofs.RoundTrip.{spelled_words}
use Rattle.svga.proofs.Laws.{put_whole, svga_run_held}
use Rattle.svga.proofs.svga_run.Goals as goal

pub returns-in_default : goal.returns-in_default
unfolding run_held
returns-in_default c = rw c.pack-in_default.ensures (svga_run_held _ _ c.if-device-ne64.false c.in_default.ensures _ _)

pub returns-in-Ok : goal.returns-in-Ok
unfolding run_held
returns-in-Ok c =
    rw (← svga_run_held _ _ c.if-device-ne64.false c.in-Some.ensures _ _, ← c.in-Ok.ensures, c.pack-in-Ok.ensures, c.run_number.ensures, put_whole _ _ c.if-device-ne64.false _ c.put_in.ensures)

pub returns-in-Err : goal.returns-in-Err
unfolding run_held
returns-in-Err c =
    rw (← svga_run_held _ _ c.if-device-ne64.false c.in-Some.ensures _ _, ← c.in-Err.ensures, c.pack-in-Err.ensures, c.from.ensures, spelled_words _ _ c.in-Some.ensures)
