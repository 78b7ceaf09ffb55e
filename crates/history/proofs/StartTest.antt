-- The test of a start in two parts: the device's, and the ring's.
-- Assumes nothing.
use Rattle.std.proofs.Common.{◌≡◌, ◌&&◌}
use mathlib.Core.Bool.{and_assoc}
use Rattle.device.specs.declared.Device.{Device}
use Rattle.device.specs.Device.{condition_of}
use Rattle.device_run.specs.Run.{Lent, ready}
use Rattle.history.specs.Demand.{ring_at_start, is_start}
use Rattle.history.specs.Replay.{world}

pub start_parts : (d : Device) (l : Lent) → is_start (world d l) ≡ ready d l && ring_at_start l.ring (condition_of d)
unfolding ready is_start
start_parts d l = simp and_assoc
