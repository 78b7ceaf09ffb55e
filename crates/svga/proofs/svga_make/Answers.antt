-- A device that is made is put whole.
use Rattle.std.proofs.Common.{eq-eqb}
use Rattle.svga.specs.Calls.{svga_make}
use Rattle.svga.proofs.Laws.{put_whole}
use Rattle.svga.proofs.svga_make.Goals as goal

pub returns-in-Ok : goal.returns-in-Ok
unfolding svga_make
returns-in-Ok c = rw (eq-eqb _ _ c.if-device-ne64.false, ← c.in-Ok.ensures, put_whole _ _ c.if-device-ne64.false _ c.put_in.ensures)
