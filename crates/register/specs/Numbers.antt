-- Register numbers: document 01, "Registers".
use Rattle.std.specs.Prelude.{ℕ, cond, List, [], ◌∷◌, eqb}
use Rattle.register.specs.declared.Register.{Register}
use Rattle.register.specs.declared.Register.TheVariants.{Writes, Reads, Absent}
use Rattle.register.specs.declared.Writable.TheVariants.{Id, Enable, Width, Height, ConfigDone, Sync, GuestId, CursorId, CursorX, CursorY, CursorOn}
use Rattle.register.specs.declared.ReadOnly.TheVariants.{MaxWidth, MaxHeight, Depth, BitsPerPixel, HostBitsPerPixel, Pseudocolor, RedMask, GreenMask, BlueMask, BytesPerLine, FbStart, FbOffset, MemStart, VramSize, FbSize, Capabilities, MemSize, Busy}

pub record Numbered : Type 0 where
  pub number : ℕ
  pub register : Register

infix 6 ◌is◌
abbrev pub ◌is◌ : ℕ → Register → Numbered
n is r = record { number = n; register = r }

-- "Writable: 0 ID .., 1 ENABLE .." and "Read-only: 4 and 5 maximum width and height .."
unfoldable pub numbers : List Numbered
numbers =
    (0 is Writes Id)
    ∷ (1 is Writes Enable)
    ∷ (2 is Writes Width)
    ∷ (3 is Writes Height)
    ∷ (4 is Reads MaxWidth)
    ∷ (5 is Reads MaxHeight)
    ∷ (6 is Reads Depth)
    ∷ (7 is Reads BitsPerPixel)
    ∷ (8 is Reads Pseudocolor)
    ∷ (9 is Reads RedMask)
    ∷ (10 is Reads GreenMask)
    ∷ (11 is Reads BlueMask)
    ∷ (12 is Reads BytesPerLine)
    ∷ (13 is Reads FbStart)
    ∷ (14 is Reads FbOffset)
    ∷ (15 is Reads VramSize)
    ∷ (16 is Reads FbSize)
    ∷ (17 is Reads Capabilities)
    ∷ (18 is Reads MemStart)
    ∷ (19 is Reads MemSize)
    ∷ (20 is Writes ConfigDone)
    ∷ (21 is Writes Sync)
    ∷ (22 is Reads Busy)
    ∷ (23 is Writes GuestId)
    ∷ (24 is Writes CursorId)
    ∷ (25 is Writes CursorX)
    ∷ (26 is Writes CursorY)
    ∷ (27 is Writes CursorOn)
    ∷ (28 is Reads HostBitsPerPixel)
    ∷ []

-- "Every other index is absent, palette included."
abbrev pub among : ℕ → List Numbered → Register
among index [] = Absent
among index (r ∷ rs) = cond (eqb index r.number) r.register (among index rs)

unfoldable pub register_of : ℕ → Register
register_of index = among index numbers

-- A register's number, by the same table; an absent one has none: 29 is past the table.
abbrev pub number_of : Register → ℕ
number_of (Writes Id) = 0
number_of (Writes Enable) = 1
number_of (Writes Width) = 2
number_of (Writes Height) = 3
number_of (Reads MaxWidth) = 4
number_of (Reads MaxHeight) = 5
number_of (Reads Depth) = 6
number_of (Reads BitsPerPixel) = 7
number_of (Reads Pseudocolor) = 8
number_of (Reads RedMask) = 9
number_of (Reads GreenMask) = 10
number_of (Reads BlueMask) = 11
number_of (Reads BytesPerLine) = 12
number_of (Reads FbStart) = 13
number_of (Reads FbOffset) = 14
number_of (Reads VramSize) = 15
number_of (Reads FbSize) = 16
number_of (Reads Capabilities) = 17
number_of (Reads MemStart) = 18
number_of (Reads MemSize) = 19
number_of (Writes ConfigDone) = 20
number_of (Writes Sync) = 21
number_of (Reads Busy) = 22
number_of (Writes GuestId) = 23
number_of (Writes CursorId) = 24
number_of (Writes CursorX) = 25
number_of (Writes CursorY) = 26
number_of (Writes CursorOn) = 27
number_of (Reads HostBitsPerPixel) = 28
number_of Absent = 29
