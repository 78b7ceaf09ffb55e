-- The right end of the offscreen rectangle: document 02, P4.
-- Assumes nothing.
use mathlib.Core.Path.{◌≡◌}
use mathlib.Core.Bool.{true}
use native.Mathlib.Omega.{arith}
use Rattle.device.specs.declared.Device.{Device}
use Rattle.device.specs.Device.{width_of, well_formed}
use Rattle.register_read.specs.Registers.{read_only_value}
use Rattle.offscreen.specs.Offscreen.{offscreen_of}

-- "The right end is 8·BYTES_PER_LINE divided by bits per pixel": in every mode that is the width
pub right_is_width : (d : Device) → well_formed d ≡ true → (offscreen_of d).right ≡ width_of d
unfolding offscreen_of read_only_value
right_is_width d good = rw good (omega arith)

-- "A board author asked for the offscreen rectangle at width 1,024 and got 170 columns .. here 1,024"
pub right_of_1024 : (d : Device) → well_formed d ≡ true → width_of d ≡ 1024 → (offscreen_of d).right ≡ 1024
unfolding offscreen_of read_only_value
right_of_1024 d good wide = rw (good, wide)
