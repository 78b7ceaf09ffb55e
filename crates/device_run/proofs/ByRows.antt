-- A device's scene by rows: "in the mode or offscreen" as the code has it. Document 02, P5.
-- Assumes nothing.
use mathlib.Core.Path.{◌≡◌}
use mathlib.Core.Bool.{true}
use Rattle.effect.specs.Effects.{scene}
use Rattle.ring.specs.declared.Ring.{Ring}
use Rattle.run.specs.Run.{posts_in}
use Rattle.device.specs.declared.Device.{Device}
use Rattle.device.specs.Device.{width_of, height_of, rows_of, frame_of, mode_fits, well_formed}
use Rattle.offscreen.proofs.Joined.{joined_rows}
use Rattle.device_run.specs.Run.{Lent, scene_for}

-- where the mode fits, a run's pixels are those of width by rows
pub scene_by_rows : (d : Device) (l : Lent) (g : Ring) → well_formed d ≡ true → mode_fits d ≡ true
    → scene_for d l g ≡ scene (frame_of d) l.framebuffer (posts_in g)
scene_by_rows d l g good fits = λ i. record {
  width = width_of d;
  height = height_of d;
  rows = rows_of d;
  joined = joined_rows d good fits i;
  framebuffer = l.framebuffer;
  posts = posts_in g;
}
