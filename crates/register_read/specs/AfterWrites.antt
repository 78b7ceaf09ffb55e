-- What registers read after a write, for readers: which readings a write can change, what a written register reads, and what BUSY reads. Document 01,
-- "Registers".
use Rattle.std.specs.Prelude.{ℕ, Bool, true, false, cond, not, ◌&&◌, ◌||◌, List, [], ◌∷◌, eqb}
use Rattle.register.specs.declared.Register.{Register}
use Rattle.register.specs.declared.Writable.{Writable}
use Rattle.register.specs.declared.Writable.TheVariants.{Id, Enable, Width, Height, ConfigDone, Sync, GuestId, CursorId, CursorX, CursorY, CursorOn}
use Rattle.register.specs.Numbers.{number_of}
use Rattle.device.specs.declared.Condition.{Condition}
use Rattle.device.specs.declared.Condition.TheVariants.{Idle, Running, Faulted}
use Rattle.device.specs.declared.Device.{Device}
use Rattle.device.specs.Device.{enabled_of, configured_of, condition_of}
use Rattle.register_write.specs.Registers.{is_id}

-- The registers whose reading a write can change: its own, "12 BYTES_PER_LINE 4·width", "16 FB_SIZE 4·width·height", and "22 BUSY", which "SYNC sets" and
-- "Writing 0 to ENABLE or CONFIG_DONE clears". "SYNC reads 0", always.
abbrev pub affected : Writable → List ℕ
affected Id = 0 ∷ []
affected Enable = 1 ∷ 22 ∷ []
affected Width = 2 ∷ 12 ∷ 16 ∷ []
affected Height = 3 ∷ 16 ∷ []
affected ConfigDone = 20 ∷ 22 ∷ []
affected Sync = 22 ∷ []
affected GuestId = 23 ∷ []
affected CursorId = 24 ∷ []
affected CursorX = 25 ∷ []
affected CursorY = 26 ∷ []
affected CursorOn = 27 ∷ []

abbrev pub has : ℕ → List ℕ → Bool
has j [] = false
has j (n ∷ ns) = eqb j n || has j ns

-- Whether a write to w can change what the register r reads.
abbrev pub affects : Writable → Register → Bool
affects w r = has (number_of r) (affected w)

-- ---- by index and value

-- "Each reads back the value last taken, ID and SYNC as said." ID: "0x90000000, ..01, ..02 are stored; any other value is taken and changes nothing", so it
-- reads the old one. "SYNC reads 0."
unfoldable pub read_back : ℕ → ℕ → ℕ → ℕ
read_back index v old = cond (eqb index 0) (cond (is_id v) v old) (cond (eqb index 21) 0 v)

abbrev pub fault_stands : Condition → Bool
fault_stands Idle = false
fault_stands (Running g) = false
fault_stands (Faulted c) = true

-- "SYNC sets BUSY to 1 if the device is configured, enabled and without fault; otherwise nothing. Writing 0 to ENABLE or CONFIG_DONE clears BUSY." No other
-- write changes it: neither ENABLE 1 nor CONFIG_DONE 1, nor one that is refused.
unfoldable pub busy_after_write : Device → ℕ → ℕ → Bool
busy_after_write d index v =
    cond (eqb index 21) (cond (configured_of d && (enabled_of d && not (fault_stands (condition_of d)))) true d.busy)
    (cond ((eqb index 1 || eqb index 20) && eqb v 0) false d.busy)
