-- What the code keeps of a run: what an inner function answers. Nothing here has to be believed.
use Rattle.device.specs.declared.Device.{Device}
use Rattle.device_run.specs.Run.{Lent, lent, ran, ran_of}
use Rattle.device_run.specs.declared.Ran.{Ran}
use Rattle.std.specs.Prelude.{List, ◌≡◌, ℕ, Ok}
use Rattle.run.specs.declared.RingRun.{RingRun}
use Rattle.run.specs.Run.{ring_outcome}

-- A run's answer and the device then, from what `run::run` gives, whatever memories it left.
abbrev pub Settles : Device → RingRun → Ran → Type 0
Settles d result r =
    (l : Lent) (ring screen cursor : List ℕ) → ran_of d (Ok r) (lent ring l.framebuffer screen cursor) ≡ ran d l (ring_outcome result ring screen cursor)
