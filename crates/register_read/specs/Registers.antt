-- What registers read: document 01, "Registers".
use Rattle.std.specs.Prelude.{ℕ, ◌*◌, Bool, cond}
use Rattle.register.specs.declared.Register.{Register}
use Rattle.register.specs.declared.Register.TheVariants.{Writes, Reads, Absent}
use Rattle.register.specs.declared.Writable.{Writable}
use Rattle.register.specs.declared.Writable.TheVariants.{Id, Enable, Width, Height, ConfigDone, Sync, GuestId, CursorId, CursorX, CursorY, CursorOn}
use Rattle.register.specs.declared.ReadOnly.{ReadOnly}
use Rattle.register.specs.declared.ReadOnly.TheVariants.{MaxWidth, MaxHeight, Depth, BitsPerPixel, Pseudocolor, RedMask, GreenMask, BlueMask, BytesPerLine, FbStart, FbOffset, VramSize, FbSize, Capabilities, MemStart, MemSize, Busy, HostBitsPerPixel}
use Rattle.register.specs.Numbers.{register_of}
use Rattle.device.specs.declared.Sizes.{Sizes}
use Rattle.device.specs.declared.Registers.{Registers}
use Rattle.device.specs.declared.Device.{Device}
use Rattle.device.specs.Device.{width_of, height_of, max_width, max_height, well_formed}
use Rattle.register_read.specs.Answers.{Reading}

abbrev pub bit : Bool → ℕ
bit b = cond b 1 0

-- "Each reads back the value last taken, ID and SYNC as said." "SYNC reads 0."
unfoldable pub writable_value : Registers → Writable → ℕ
writable_value g Id = g.id
writable_value g Enable = bit g.enable
writable_value g Width = g.width
writable_value g Height = g.height
writable_value g ConfigDone = bit g.config
writable_value g Sync = 0
writable_value g GuestId = g.guest
writable_value g CursorId = g.cursorid
writable_value g CursorX = g.cursorx
writable_value g CursorY = g.cursory
writable_value g CursorOn = g.cursoron

-- "Read-only: 4 and 5 maximum width and height (2,560; 1,600), 6 DEPTH 24, 7 and 28 bits per pixel 32, 8 PSEUDOCOLOR 0, 9 to 11 masks
-- 0xFF0000, 0xFF00, 0xFF, 12 BYTES_PER_LINE 4·width, 13, 14 and 18 zero, 15 VRAM_SIZE 4·P, 16 FB_SIZE 4·width·height,
-- 17 CAPABILITIES 0x2D3, 19 MEM_SIZE M, 22 BUSY." Document 02, P5: "CAPABILITIES gains 0x1000."
unfoldable pub read_only_value : Sizes → ℕ → ℕ → Bool → ReadOnly → ℕ
read_only_value sizes width height busy MaxWidth = max_width
read_only_value sizes width height busy MaxHeight = max_height
read_only_value sizes width height busy Depth = 24
read_only_value sizes width height busy BitsPerPixel = 32
read_only_value sizes width height busy HostBitsPerPixel = 32
read_only_value sizes width height busy Pseudocolor = 0
read_only_value sizes width height busy RedMask = 0xFF0000
read_only_value sizes width height busy GreenMask = 0xFF00
read_only_value sizes width height busy BlueMask = 0xFF
read_only_value sizes width height busy BytesPerLine = 4 * width
read_only_value sizes width height busy FbStart = 0
read_only_value sizes width height busy FbOffset = 0
read_only_value sizes width height busy MemStart = 0
read_only_value sizes width height busy VramSize = 4 * sizes.pixels
read_only_value sizes width height busy FbSize = 4 * width * height
read_only_value sizes width height busy Capabilities = 0x12D3
read_only_value sizes width height busy MemSize = sizes.memory
read_only_value sizes width height busy Busy = bit busy

-- "Reading an absent register gives 30 and value 0."
unfoldable pub read_by : Device → Register → Reading
read_by d (Writes w) = record { answer = 0; value = writable_value d.registers w }
read_by d (Reads r) = record { answer = 0; value = read_only_value d.sizes (width_of d) (height_of d) d.busy r }
read_by d Absent = record { answer = 30; value = 0 }

unfoldable pub read_of : Device → ℕ → Reading
read_of d index = cond (well_formed d) (read_by d (register_of index)) (record { answer = 30; value = 0 })
