-- The answer numbers of a register write: document 01, "Answer numbers". The code answers a Result; here are its numbers.
use Rattle.std.specs.Prelude.{ℕ, Result, Ok, Err}
use Rattle.device.specs.declared.Device.{Device}
use Rattle.register_write.specs.declared.WriteError.{WriteError}
use Rattle.register_write.specs.declared.WriteError.TheVariants.{WrongLength, NoRegister, NotWritable, BadValue, RingRefused}

-- register write: 0 taken, 20 lent length, 30 no such register, 31 read-only, 32 bad value, 33 ring refused
abbrev pub write_number : Result Device WriteError → ℕ
write_number (Ok d) = 0
write_number (Err WrongLength) = 20
write_number (Err NoRegister) = 30
write_number (Err NotWritable) = 31
write_number (Err BadValue) = 32
write_number (Err RingRefused) = 33

-- A register write answers a number and leaves a device.
pub record WriteOutcome : Type 0 where
  pub answer : ℕ
  pub device : Device

-- The device that a write leaves: one that is refused, the device as it was.
abbrev pub device_after : Device → Result Device WriteError → Device
device_after d (Ok e) = e
device_after d (Err r) = d

abbrev pub write_outcome : Device → Result Device WriteError → WriteOutcome
write_outcome d r = record { answer = write_number r; device = device_after d r }
