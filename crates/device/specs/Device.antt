-- The device: document 01, "What is lent". Fields are the code's; here are the fresh device, the test of a well-formed one, and the
-- device with one part changed.
use Rattle.std.specs.Prelude.{ℕ, ◌*◌, ◌/◌, ◌%◌, Bool, true, false, cond, not, ◌&&◌, eqb, leb, Option, None, Some}
use Rattle.cursor.specs.declared.Shape.{Shape}
use Rattle.geometry.specs.declared.Frame.{Frame}
use Rattle.raster.specs.Painters as Painters
use Rattle.ring.specs.Waiting.{placed}
use Rattle.cursor.specs.Plane.{shape_good}
use Rattle.device.specs.declared.Registers.{Registers}
use Rattle.device.specs.declared.Plane.{Plane}
use Rattle.device.specs.declared.Condition.{Condition}
use Rattle.device.specs.declared.Condition.TheVariants.{Idle, Running, Faulted}
use Rattle.device.specs.declared.Device.{Device}

-- ---- for other crates: what a device is made for, and its mode

abbrev pub memory_of : Device → ℕ
memory_of d = d.sizes.memory

abbrev pub pixels_of : Device → ℕ
pixels_of d = d.sizes.pixels

abbrev pub width_of : Device → ℕ
width_of d = d.registers.width

abbrev pub height_of : Device → ℕ
height_of d = d.registers.height

-- Document 02, P5: "the mode joined with P4's rectangle, in the lent screen": as many rows of the mode's width as lie whole in P pixels. Behind them P mod
-- width pixels are left, which nothing paints. (A width of 0, which no device has, gives none.)
abbrev pub rows_of : Device → ℕ
rows_of d = pixels_of d / width_of d

-- What commands reach of the screen: UPDATE the mode, fills and copies all these rows.
abbrev pub frame_of : Device → Frame
frame_of d = record { width = width_of d; height = height_of d; rows = rows_of d }

abbrev pub enabled_of : Device → Bool
enabled_of d = d.registers.enable

abbrev pub configured_of : Device → Bool
configured_of d = d.registers.config

abbrev pub defined_of : Device → Option Shape
defined_of d = d.marks.defined

abbrev pub condition_of : Device → Condition
condition_of d = d.condition

-- ---- making

-- "M is a multiple of 4 from 10,256 to 2,097,152; P is 1 to 4,096,000"
abbrev pub min_memory : ℕ
min_memory = 10256

abbrev pub max_memory : ℕ
max_memory = 2097152

abbrev pub max_pixels : ℕ
max_pixels = 4096000

unfoldable pub sizes_good : ℕ → ℕ → Bool
sizes_good memory pixels = eqb (memory % 4) 0 && (leb min_memory memory && (leb memory max_memory && (leb 1 pixels && leb pixels max_pixels)))

-- "Fresh: id 0x90000000, mode 640 by 480, disabled, not configured, no fault, not busy, fence 0, other written registers 0,
-- cursor undefined and hidden."
abbrev pub fresh_registers : Registers
fresh_registers = record {
  id = 0x90000000;
  enable = false;
  width = 640;
  height = 480;
  config = false;
  guest = 0;
  cursorid = 0;
  cursorx = 0;
  cursory = 0;
  cursoron = 0;
}

abbrev pub fresh : ℕ → ℕ → Device
fresh memory pixels = record {
  sizes = record { memory = memory; pixels = pixels };
  registers = fresh_registers;
  plane = record { shown = false; id = 0; x = 0; y = 0 };
  marks = record { fence = 0; defined = None };
  busy = false;
  condition = Idle;
}

-- ---- well-formed devices: a test that `make` meets and every call keeps

-- "4 and 5 maximum width and height (2,560; 1,600)"
abbrev pub max_width : ℕ
max_width = Painters.max_width

abbrev pub max_height : ℕ
max_height = 1600

-- "2 WIDTH (1 to 2,560), 3 HEIGHT (1 to 1,600)"
unfoldable pub mode_good : ℕ → ℕ → Bool
mode_good width height = leb 1 width && (leb width max_width && (leb 1 height && leb height max_height))

-- "width·height above P" is 24; otherwise the mode's rows fit framebuffer and screen.
abbrev pub mode_fits : Device → Bool
mode_fits d = leb (width_of d * height_of d) (pixels_of d)

-- A device with CONFIG_DONE 1 has a ring, or a fault that stands; with CONFIG_DONE 0 it has no ring.
unfoldable pub condition_good : ℕ → Bool → Condition → Bool
condition_good memory config Idle = not config
condition_good memory config (Running g) = cond config (placed g (memory / 4)) false
condition_good memory config (Faulted c) = true

-- The defined cursor is one that a command may define.
unfoldable pub defined_good : Option Shape → Bool
unfolding shape_good
defined_good None = true
defined_good (Some s) = shape_good s

unfoldable pub well_formed : Device → Bool
well_formed d =
    sizes_good (memory_of d) (pixels_of d)
    && (mode_good (width_of d) (height_of d) && (condition_good (memory_of d) d.registers.config d.condition && defined_good (defined_of d)))

-- ---- a device with one part changed

abbrev pub with_registers : Device → Registers → Device
with_registers d g = record {
  sizes = d.sizes;
  registers = g;
  plane = d.plane;
  marks = d.marks;
  busy = d.busy;
  condition = d.condition;
}

abbrev pub with_plane : Device → Plane → Device
with_plane d p = record {
  sizes = d.sizes;
  registers = d.registers;
  plane = p;
  marks = d.marks;
  busy = d.busy;
  condition = d.condition;
}

abbrev pub with_busy : Device → Bool → Device
with_busy d b = record {
  sizes = d.sizes;
  registers = d.registers;
  plane = d.plane;
  marks = d.marks;
  busy = b;
  condition = d.condition;
}

abbrev pub with_condition : Device → Condition → Device
with_condition d c = record {
  sizes = d.sizes;
  registers = d.registers;
  plane = d.plane;
  marks = d.marks;
  busy = d.busy;
  condition = c;
}
