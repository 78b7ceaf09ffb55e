-- When a register write answers each number, by the tests of the definitions: what proofs go by. Nothing here has to be believed: document 01's rules in its
-- own words are in refusals/specs/Refusing.antt.
use Rattle.std.specs.Prelude.{◌≡◌, true, false, List, ℕ, ◌/◌, length}
use Rattle.ring.specs.Acceptance.{usable}
use Rattle.register.specs.declared.Register.TheVariants.{Writes, Reads, Absent}
use Rattle.register.specs.declared.ReadOnly.{ReadOnly}
use Rattle.register.specs.declared.Writable.{Writable}
use Rattle.register.specs.declared.Writable.TheVariants.{ConfigDone}
use Rattle.register.specs.Numbers.{register_of}
use Rattle.device.specs.declared.Device.{Device}
use Rattle.device.specs.Device.{memory_of}
use Rattle.register_write.specs.Registers.{in_range}

-- "A register write checks 30, 31, 32." "CONFIG_DONE 1: first 32, then 20, then 33." Each number, and when a write to a well-formed device answers it:
-- `register_write/Refusals.why` says that it comes only there, `register_write/Refusals.only` that it comes wherever its rule holds.
pub data Why (d : Device) (ring : List ℕ) (index v : ℕ) : ℕ → Type 0 where
  -- "no such register"
  no_register : register_of index ≡ Absent → Why d ring index v 30
  -- "read-only"
  read_only : (r : ReadOnly) → register_of index ≡ Reads r → Why d ring index v 31
  -- "A value outside these is 32"
  bad_value : (w : Writable) → register_of index ≡ Writes w → in_range w v ≡ false → Why d ring index v 32
  -- "the ring memory (M/4 words) .. A lent length that differs is answer 20."
  wrong_length : register_of index ≡ Writes ConfigDone → v ≡ 1 → (length ring ≡ memory_of d / 4 → ⊥) → Why d ring index v 20
  -- "ring refused"
  ring_refused : register_of index ≡ Writes ConfigDone → v ≡ 1 → length ring ≡ memory_of d / 4 → usable ring ≡ false
      → Why d ring index v 33
  -- "taken"
  is_taken : (w : Writable) → register_of index ≡ Writes w → in_range w v ≡ true
      → (w ≡ ConfigDone → v ≡ 1 → (length ring ≡ memory_of d / 4) × (usable ring ≡ true)) → Why d ring index v 0
