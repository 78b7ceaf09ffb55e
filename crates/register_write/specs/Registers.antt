-- What a register write does: document 01, "Registers".
use Rattle.std.specs.Prelude.{ℕ, ◌/◌, Bool, true, false, cond, not, ◌&&◌, List, eqb, leb, length, None, Option, Some}
use Rattle.ring.specs.declared.Ring.{Ring}
use Rattle.ring.specs.Acceptance.{accepted}
use Rattle.register.specs.declared.Register.{Register}
use Rattle.register.specs.declared.Register.TheVariants.{Writes, Reads, Absent}
use Rattle.register.specs.declared.Writable.{Writable}
use Rattle.register.specs.declared.Writable.TheVariants.{Id, Enable, Width, Height, ConfigDone, Sync, GuestId, CursorId, CursorX, CursorY, CursorOn}
use Rattle.register.specs.Numbers.{register_of}
use Rattle.device.specs.declared.Registers.{Registers}
use Rattle.device.specs.declared.Plane.{Plane}
use Rattle.device.specs.declared.Condition.{Condition}
use Rattle.device.specs.declared.Condition.TheVariants.{Idle, Running, Faulted}
use Rattle.device.specs.declared.Device.{Device}
use Rattle.device.specs.Device.{memory_of, width_of, height_of, max_width, max_height, well_formed, with_registers, with_plane, with_busy, with_condition}
use Rattle.register_write.specs.Answers.{WriteOutcome}

abbrev pub taken : Device → WriteOutcome
taken d = record { answer = 0; device = d }

-- "Answers 20 to 34 change nothing"
abbrev pub refused : ℕ → Device → WriteOutcome
refused answer d = record { answer = answer; device = d }

-- The registers with the mode, with id, ENABLE and CONFIG_DONE, or with the others changed.
abbrev pub set_mode : Registers → ℕ → ℕ → Registers
set_mode g width height = record {
  id = g.id;
  enable = g.enable;
  width = width;
  height = height;
  config = g.config;
  guest = g.guest;
  cursorid = g.cursorid;
  cursorx = g.cursorx;
  cursory = g.cursory;
  cursoron = g.cursoron;
}

abbrev pub set_state : Registers → ℕ → Bool → Bool → Registers
set_state g id enable config = record {
  id = id;
  enable = enable;
  width = g.width;
  height = g.height;
  config = config;
  guest = g.guest;
  cursorid = g.cursorid;
  cursorx = g.cursorx;
  cursory = g.cursory;
  cursoron = g.cursoron;
}

abbrev pub set_others : Registers → ℕ → ℕ → ℕ → ℕ → ℕ → Registers
set_others g guest cursorid cursorx cursory cursoron = record {
  id = g.id;
  enable = g.enable;
  width = g.width;
  height = g.height;
  config = g.config;
  guest = guest;
  cursorid = cursorid;
  cursorx = cursorx;
  cursory = cursory;
  cursoron = cursoron;
}

-- ---- the ranges

-- "1 ENABLE (0 or 1), 2 WIDTH (1 to 2,560), 3 HEIGHT (1 to 1,600), 20 CONFIG_DONE (0 or 1), .., 27 CURSOR_ON (0 to 3). A value outside
-- these is 32; registers with no range take all."
unfoldable pub in_range : Writable → ℕ → Bool
in_range Id v = true
in_range Enable v = leb v 1
in_range Width v = leb 1 v && leb v max_width
in_range Height v = leb 1 v && leb v max_height
in_range ConfigDone v = leb v 1
in_range Sync v = true
in_range GuestId v = true
in_range CursorId v = true
in_range CursorX v = true
in_range CursorY v = true
in_range CursorOn v = leb v 3

-- ---- the effects: what a value in its range does

-- "0 ID (0x90000000, ..01, ..02 are stored; any other value is taken and changes nothing, so negotiation works"
abbrev pub is_id : ℕ → Bool
is_id v = leb 0x90000000 v && leb v 0x90000002

unfoldable pub id_written : Device → ℕ → Device
id_written d v =
    with_registers d (set_state d.registers (cond (is_id v) v d.registers.id) d.registers.enable d.registers.config)

-- "1 ENABLE (0 or 1)". "Writing 0 to ENABLE or CONFIG_DONE clears BUSY."
unfoldable pub enable_written : Device → ℕ → Device
enable_written d v =
    with_busy (with_registers d (set_state d.registers d.registers.id (not (eqb v 0)) d.registers.config))
    (cond (eqb v 0) false d.busy)

-- "2 WIDTH (1 to 2,560), 3 HEIGHT (1 to 1,600)": the mode is width by height.
abbrev pub width_written : Device → ℕ → Device
width_written d v = with_registers d (set_mode d.registers v (height_of d))

abbrev pub height_written : Device → ℕ → Device
height_written d v = with_registers d (set_mode d.registers (width_of d) v)

-- A fault "stands until CONFIG_DONE 1 is accepted": CONFIG_DONE 0 forgets a ring and leaves a fault.
abbrev pub idled : Condition → Condition
idled Idle = Idle
idled (Running g) = Idle
idled (Faulted c) = Faulted c

abbrev pub configured : Device → Bool → Device
configured d config = with_registers d (set_state d.registers d.registers.id d.registers.enable config)

-- CONFIG_DONE 0
abbrev pub unconfigured : Device → Device
unconfigured d = with_busy (with_condition (configured d false) (idled d.condition)) false

-- configured and without fault
abbrev pub running : Condition → Bool
running Idle = false
running (Running g) = true
running (Faulted c) = false

-- "SYNC sets BUSY to 1 if the device is configured, enabled and without fault; otherwise nothing."
unfoldable pub synced : Device → Device
synced d = with_busy d (cond (running d.condition && d.registers.enable) true d.busy)

-- "23 GUEST_ID, 24 CURSOR_ID, 25 CURSOR_X, 26 CURSOR_Y": stored.
abbrev pub guest_id_written : Device → ℕ → Device
guest_id_written d v =
    with_registers d
    (set_others d.registers v d.registers.cursorid d.registers.cursorx d.registers.cursory d.registers.cursoron)

abbrev pub cursor_id_written : Device → ℕ → Device
cursor_id_written d v =
    with_registers d
    (set_others d.registers d.registers.guest v d.registers.cursorx d.registers.cursory d.registers.cursoron)

abbrev pub cursor_xWritten : Device → ℕ → Device
cursor_xWritten d v =
    with_registers d
    (set_others d.registers d.registers.guest d.registers.cursorid v d.registers.cursory d.registers.cursoron)

abbrev pub cursor_yWritten : Device → ℕ → Device
cursor_yWritten d v =
    with_registers d
    (set_others d.registers d.registers.guest d.registers.cursorid d.registers.cursorx v d.registers.cursoron)

-- "CURSOR_ON 1 remembers id, X and Y and shows; 0 hides; 2 and 3 leave the plane as it is"
unfoldable pub plane_on : Device → ℕ → Plane
plane_on d v =
    cond (eqb v 0) (record { shown = false; id = d.plane.id; x = d.plane.x; y = d.plane.y })
    (cond (eqb v 1) (record { shown = true; id = d.registers.cursorid; x = d.registers.cursorx; y = d.registers.cursory }) d.plane)

abbrev pub cursor_on_written : Device → ℕ → Device
cursor_on_written d v =
    with_plane
    (with_registers d
    (set_others d.registers d.registers.guest d.registers.cursorid d.registers.cursorx d.registers.cursory v))
    (plane_on d v)

-- each register's own effect; of CONFIG_DONE that of 0
unfoldable pub effect_of : Device → ℕ → Writable → Device
effect_of d v Id = id_written d v
effect_of d v Enable = enable_written d v
effect_of d v Width = width_written d v
effect_of d v Height = height_written d v
effect_of d v ConfigDone = unconfigured d
effect_of d v Sync = synced d
effect_of d v GuestId = guest_id_written d v
effect_of d v CursorId = cursor_id_written d v
effect_of d v CursorX = cursor_xWritten d v
effect_of d v CursorY = cursor_yWritten d v
effect_of d v CursorOn = cursor_on_written d v

-- ---- CONFIG_DONE 1, the one write that asks for the ring

unfoldable pub ring_asked : Writable → ℕ → Bool
ring_asked Id v = false
ring_asked Enable v = false
ring_asked Width v = false
ring_asked Height v = false
ring_asked ConfigDone v = eqb v 1
ring_asked Sync v = false
ring_asked GuestId v = false
ring_asked CursorId v = false
ring_asked CursorX v = false
ring_asked CursorY v = false
ring_asked CursorOn v = false

-- "Accepted: MIN, MAX and STOP are remembered, a standing fault is cleared."
abbrev pub remembering : Device → Ring → Device
remembering d g = with_condition (configured d true) (Running g)

-- "else 33"
unfoldable pub accepted_written : Device → Option Ring → WriteOutcome
accepted_written d (Some g) = taken (remembering d g)
accepted_written d None = refused 33 d

-- "CONFIG_DONE 1: first 32, then 20, then 33."
unfoldable pub ring_written : Device → List ℕ → WriteOutcome
ring_written d ring = cond (eqb (length ring) (memory_of d / 4)) (accepted_written d (accepted ring)) (refused 20 d)

-- ---- the rule

-- a value in its range is taken with its effect, CONFIG_DONE 1 if its ring is accepted; "A value outside these is 32"
unfoldable pub writable_written : Device → List ℕ → ℕ → Writable → WriteOutcome
writable_written d ring v w = cond (in_range w v) (cond (ring_asked w v) (ring_written d ring) (taken (effect_of d v w))) (refused 32 d)

-- "A register write checks 30, 31, 32."
unfoldable pub written_by : Device → List ℕ → ℕ → Register → WriteOutcome
written_by d ring v (Writes w) = writable_written d ring v w
written_by d ring v (Reads r) = refused 31 d
written_by d ring v Absent = refused 30 d

unfoldable pub written : Device → List ℕ → ℕ → ℕ → WriteOutcome
written d ring index v = cond (well_formed d) (written_by d ring v (register_of index)) (refused 30 d)
