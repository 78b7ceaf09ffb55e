-- Document 01's tables in its own numbers, to be laid beside the paper: a number that is wrong in a definition and in the code alike shows here. Each is one
-- list with one claim: the definitions that the contracts cite give these numbers.
use Rattle.std.specs.Prelude.{ℕ, ◌-◌, ◌≡◌, true, false, List, [], ◌∷◌, ◌++◌, map, take, Some, None, Ok, Err}
use Rattle.cursor.specs.declared.Shape.{Shape}
use Rattle.execution.specs.declared.Cause.TheVariants.{NotOffered, BadOperand, TooLong, BadNext}
use Rattle.execution.specs.declared.End.TheVariants.{Drained, Waiting, Fault}
use Rattle.execution.specs.Straight.{end_number, cause_number}
use Rattle.execution.specs.Claim.{spent, standing, ended, answer_number, appended, reply_number}
use Rattle.geometry.specs.declared.Point.{Point}
use Rattle.command.specs.declared.Kind.{Kind}
use Rattle.command.specs.declared.Kind.TheVariants.{Update, RectFill, RectCopy, RectRopFill, RectRopCopy, DefineAlphaCursor, UpdateVerbose, Fence, Escape, Foreign}
use Rattle.command.specs.declared.Action.{Action}
use Rattle.command.specs.declared.Action.TheVariants as A
use Rattle.command.specs.Commands.{entry, size_by, kind_of}
use Rattle.ring.specs.Append.{append_number}
use Rattle.device.specs.declared.Condition.TheVariants.{Running}
use Rattle.device.specs.declared.Device.{Device}
use Rattle.device.specs.Device.{fresh}
use Rattle.device.specs.Making.{creation}
use Rattle.register_write.specs.declared.WriteError.TheVariants as Write
use Rattle.register_write.specs.Answers.{write_number}
use Rattle.register_read.specs.Answers.{reading}
use Rattle.register_read.specs.Registers.{read_of}
use Rattle.device_run.specs.declared.RunError.TheVariants as Run
use Rattle.device_run.specs.Run.{run_number, run_error_number}
use Rattle.adapter.specs.declared.PictureError.TheVariants as Picture
use Rattle.adapter.specs.Picture.{picture_number}
use Rattle.cases.specs.Cases.{Case, ◌is◌, rect, zeros, answer_with, answer}

-- ---- registers

-- An index with the value that it reads.
pub record Row : Type 0 where
  pub index : ℕ
  pub value : ℕ

infix 6 ◌reads◌
abbrev pub ◌reads◌ : ℕ → ℕ → Row
index reads value = record { index = index; value = value }

-- The claim on a device and its registers: every index of the table is answered 0, with its value.
abbrev pub Reads : Device → List Row → Type 0
Reads d table = map (λ (r : Row). read_of d r.index) table ≡ map (λ (r : Row). record { answer = 0; value = r.value }) table

-- "Every other index is absent, palette included", and reads 30, value 0.
abbrev pub NotThere : Device → List ℕ → Type 0
NotThere d indices = map (read_of d) indices ≡ map (λ (i : ℕ). record { answer = 30; value = 0 }) indices

-- A device as it is made, for M = 65,536 and P = 307,200, the pixels of its mode.
abbrev pub fresh_device : Device
fresh_device = fresh 65536 307200

unfoldable pub fresh_reads : List Row
fresh_reads =
    -- "Fresh: id 0x90000000, mode 640 by 480, disabled"
    (0 reads 0x90000000)  -- ID
    ∷ (1 reads 0)  -- ENABLE
    ∷ (2 reads 640)  -- WIDTH
    ∷ (3 reads 480)  -- HEIGHT
    -- "4 and 5 maximum width and height (2,560; 1,600), 6 DEPTH 24, 7 and 28 bits per pixel 32, 8 PSEUDOCOLOR 0, 9 to 11 masks 0xFF0000, 0xFF00, 0xFF"
    ∷ (4 reads 2560)
    ∷ (5 reads 1600)
    ∷ (6 reads 24)
    ∷ (7 reads 32)
    ∷ (8 reads 0)
    ∷ (9 reads 0xFF0000)
    ∷ (10 reads 0xFF00)
    ∷ (11 reads 0xFF)
    -- "12 BYTES_PER_LINE 4·width, 13, 14 and 18 zero, 15 VRAM_SIZE 4·P, 16 FB_SIZE 4·width·height, 17 CAPABILITIES 0x2D3, 19 MEM_SIZE M"; document 02, P5:
    -- "CAPABILITIES gains 0x1000"
    ∷ (12 reads 2560)
    ∷ (13 reads 0)
    ∷ (14 reads 0)
    ∷ (15 reads 1228800)
    ∷ (16 reads 1228800)
    ∷ (17 reads 0x12D3)
    ∷ (18 reads 0)
    ∷ (19 reads 65536)
    -- "not configured, .., not busy, .., other written registers 0"; "SYNC reads 0."
    ∷ (20 reads 0)  -- CONFIG_DONE
    ∷ (21 reads 0)  -- SYNC
    ∷ (22 reads 0)  -- BUSY
    ∷ (23 reads 0)  -- GUEST_ID
    ∷ (24 reads 0)  -- CURSOR_ID
    ∷ (25 reads 0)  -- CURSOR_X
    ∷ (26 reads 0)  -- CURSOR_Y
    ∷ (27 reads 0)  -- CURSOR_ON
    ∷ (28 reads 32)
    ∷ []

-- The first index past the table, one of the palette, and the last of all.
abbrev pub absent : List ℕ
absent = 29 ∷ 1024 ∷ 4294967295 ∷ []

-- A fresh device has many zeros, and equal numbers at 4 and 12 and at 15 and 16. So the same of one of M = 10,256 and P = 1,000,000 whose registers hold
-- numbers of their own: enabled, configured with the smallest ring, busy.
abbrev pub set_device : Device
set_device = record {
  sizes = record { memory = 10256; pixels = 1000000 };
  registers = record {
    id = 0x90000002;
    enable = true;
    width = 800;
    height = 600;
    config = true;
    guest = 23001;
    cursorid = 24001;
    cursorx = 25001;
    cursory = 26001;
    cursoron = 3;
  };
  plane = record { shown = false; id = 0; x = 0; y = 0 };
  marks = record { fence = 7; defined = None };
  busy = true;
  condition = Running (record { min = 4; max = 2564; stop = 4 });
}

unfoldable pub set_reads : List Row
set_reads =
    (0 reads 0x90000002)
    ∷ (1 reads 1)
    ∷ (2 reads 800)
    ∷ (3 reads 600)
    ∷ (4 reads 2560)
    ∷ (5 reads 1600)
    ∷ (6 reads 24)
    ∷ (7 reads 32)
    ∷ (8 reads 0)
    ∷ (9 reads 0xFF0000)
    ∷ (10 reads 0xFF00)
    ∷ (11 reads 0xFF)
    ∷ (12 reads 3200)
    ∷ (13 reads 0)
    ∷ (14 reads 0)
    ∷ (15 reads 4000000)
    ∷ (16 reads 1920000)
    ∷ (17 reads 0x12D3)
    ∷ (18 reads 0)
    ∷ (19 reads 10256)
    ∷ (20 reads 1)
    ∷ (21 reads 0)
    ∷ (22 reads 1)
    ∷ (23 reads 23001)
    ∷ (24 reads 24001)
    ∷ (25 reads 25001)
    ∷ (26 reads 26001)
    ∷ (27 reads 3)
    ∷ (28 reads 32)
    ∷ []

-- ---- commands

-- A row of the table with an example: the command's number and name, the words of its head, the words of the example, how many words it has in all, and what
-- is executed of them.
pub record Command : Type 0 where
  pub number : ℕ
  pub name : Kind
  pub head : ℕ
  pub example : List ℕ
  pub length : ℕ
  pub does : Action

abbrev pub from : ℕ → ℕ → Point
from x y = record { x = x; y = y }

abbrev pub shape : ℕ → ℕ → ℕ → ℕ → ℕ → Shape
shape id hotx hoty w h = record { id = id; hotx = hotx; hoty = hoty; w = w; h = h }

-- Arguments are 101, 102, .. in the paper's order where they are free. A plain fill or copy is raster operation 3, which stores the source.
unfoldable pub command_table : List Command
command_table =
    -- "1 UPDATE | 5 | x y w h"
    record { number = 1; name = Update; head = 5; example = 1 ∷ 101 ∷ 102 ∷ 103 ∷ 104 ∷ []; length = 5; does = A.Update (rect 101 102 103 104) }
    -- "2 RECT_FILL | 6 | colour x y w h"
    ∷ record {
      number = 2;
      name = RectFill;
      head = 6;
      example = 2 ∷ 101 ∷ 102 ∷ 103 ∷ 104 ∷ 105 ∷ [];
      length = 6;
      does = A.Fill (rect 102 103 104 105) 101 3;
    }
    -- "3 RECT_COPY | 7 | sx sy dx dy w h"
    ∷ record {
      number = 3;
      name = RectCopy;
      head = 7;
      example = 3 ∷ 101 ∷ 102 ∷ 103 ∷ 104 ∷ 105 ∷ 106 ∷ [];
      length = 7;
      does = A.Copy (from 101 102) (rect 103 104 105 106) 3;
    }
    -- "13 RECT_ROP_FILL | 7 | as 2, rop"
    ∷ record {
      number = 13;
      name = RectRopFill;
      head = 7;
      example = 13 ∷ 101 ∷ 102 ∷ 103 ∷ 104 ∷ 105 ∷ 6 ∷ [];
      length = 7;
      does = A.Fill (rect 102 103 104 105) 101 6;
    }
    -- "14 RECT_ROP_COPY | 8 | as 3, rop"
    ∷ record {
      number = 14;
      name = RectRopCopy;
      head = 8;
      example = 14 ∷ 101 ∷ 102 ∷ 103 ∷ 104 ∷ 105 ∷ 106 ∷ 6 ∷ [];
      length = 8;
      does = A.Copy (from 101 102) (rect 103 104 105 106) 6;
    }
    -- "22 DEFINE_ALPHA_CURSOR | head 6, then w·h | id hotx hoty w h, pixels": 3 by 2
    ∷ record {
      number = 22;
      name = DefineAlphaCursor;
      head = 6;
      example = 22 ∷ 101 ∷ 2 ∷ 1 ∷ 3 ∷ 2 ∷ zeros 6;
      length = 12;
      does = A.Define (shape 101 2 1 3 2);
    }
    -- "25 UPDATE_VERBOSE | 6 | as 1, reason (no effect)"
    ∷ record {
      number = 25;
      name = UpdateVerbose;
      head = 6;
      example = 25 ∷ 101 ∷ 102 ∷ 103 ∷ 104 ∷ 105 ∷ [];
      length = 6;
      does = A.Update (rect 101 102 103 104);
    }
    -- "30 FENCE | 2 | number"; `fences` has 0
    ∷ record { number = 30; name = Fence; head = 2; example = 30 ∷ 101 ∷ []; length = 2; does = A.Fence 101 }
    -- "33 ESCAPE | head 3, then ceil(size/4) | namespace, size in bytes, data (no effect)": 5 bytes
    ∷ record { number = 33; name = Escape; head = 3; example = 33 ∷ 101 ∷ 5 ∷ 0 ∷ 0 ∷ []; length = 5; does = A.Nothing }
    ∷ []

-- The claim, column by column: the number names the command, which is offered; its row has these lengths and arguments; a run of budget 1 executes the
-- example (answer 2), and waits (1) where its last word is missing.
abbrev pub column : {A : Type 0} → (Command → A) → List A
column of = map of command_table

pub record CommandsHold : Type 0 where
  pub names : column (λ c. kind_of c.number) ≡ column (λ c. c.name)
  pub offered : column (λ c. (entry c.name).offered) ≡ column (λ c. true)
  pub heads : column (λ c. (entry c.name).head) ≡ column (λ c. c.head)
  pub lengths : column (λ c. size_by c.name c.example) ≡ column (λ c. c.length)
  pub actions : column (λ c. (entry c.name).action c.example) ≡ column (λ c. c.does)
  pub executed : column (λ c. answer c.example) ≡ column (λ c. 2)
  pub waiting : column (λ c. answer (take (c.length - 1) c.example)) ≡ column (λ c. 1)

-- "Raster operation above 15: 11.": of a fill and of a copy, 15 and 16.
unfoldable pub operations : List Case
operations =
    (map (λ (rop : ℕ). answer (13 ∷ 101 ∷ 102 ∷ 103 ∷ 104 ∷ 105 ∷ rop ∷ [])) (15 ∷ 16 ∷ 4294967295 ∷ []) is 2 ∷ 11 ∷ 11 ∷ [])
    ∷ (map (λ (rop : ℕ). answer (14 ∷ 101 ∷ 102 ∷ 103 ∷ 104 ∷ 105 ∷ 106 ∷ rop ∷ [])) (15 ∷ 16 ∷ 4294967295 ∷ []) is 2 ∷ 11 ∷ 11 ∷ [])
    ∷ []

-- Document 02, P6: "FENCE 0 becomes a fault; case 13 changes with it." That case was "Fence 0 is stored." Now "11 for FENCE 0, judged once both words are
-- there": 30 alone waits (1), with 0 behind it faults, with 1 or the last number of all is executed; what is executed before it stays so. Without a budget
-- none is looked at: 2.
unfoldable pub fences : List Case
fences =
    (map answer ((30 ∷ []) ∷ (30 ∷ 0 ∷ []) ∷ (30 ∷ 1 ∷ []) ∷ (30 ∷ 4294967295 ∷ []) ∷ (30 ∷ 7 ∷ 30 ∷ 0 ∷ []) ∷ []) is 1 ∷ 11 ∷ 2 ∷ 2 ∷ 2 ∷ [])
    ∷ (map (answer_with 0) ((30 ∷ []) ∷ (30 ∷ 0 ∷ []) ∷ []) is 2 ∷ 2 ∷ [])
    ∷ (map (answer_with 2) ((30 ∷ 7 ∷ 30 ∷ []) ∷ (30 ∷ 7 ∷ 30 ∷ 0 ∷ []) ∷ (30 ∷ 0 ∷ 30 ∷ 7 ∷ []) ∷ []) is 1 ∷ 11 ∷ 11 ∷ [])
    ∷ []

-- Numbers between and beyond those of the table, with "the commands that 000 says should not be used (20, 21)".
abbrev pub foreign_numbers : List ℕ
foreign_numbers = 0 ∷ 4 ∷ 12 ∷ 15 ∷ 20 ∷ 21 ∷ 23 ∷ 24 ∷ 26 ∷ 29 ∷ 31 ∷ 32 ∷ 34 ∷ 4294967295 ∷ []

-- "Number not offered: 10.": none has a row, and a run that finds it answers 10, with its one word there and with many more behind it.
pub record NotOfferedAny (numbers : List ℕ) : Type 0 where
  pub no_row : map kind_of numbers ≡ map (λ (x : ℕ). Foreign) numbers
  pub not_offered : (entry Foreign).offered ≡ false
  pub alone : map (λ (x : ℕ). answer (x ∷ [])) numbers ≡ map (λ (x : ℕ). 10) numbers
  pub with_more : map (λ (x : ℕ). answer (x ∷ zeros 20)) numbers ≡ map (λ (x : ℕ). 10) numbers

-- ---- answer numbers: every case of every answer, with document 01's number

unfoldable pub answer_numbers : List Case
answer_numbers =
    -- register write: "taken", "lent length", "no such register / read-only / bad value / ring refused"
    (map write_number
    (Ok fresh_device ∷ Err Write.WrongLength ∷ Err Write.NoRegister ∷ Err Write.NotWritable ∷ Err Write.BadValue ∷ Err Write.RingRefused ∷ [])
    is 0 ∷ 20 ∷ 30 ∷ 31 ∷ 32 ∷ 33 ∷ [])
    -- register read: "taken", with the value; "Reading an absent register gives 30 and value 0."
    ∷ ((reading (Ok 101)).answer ∷ (reading (Ok 101)).value ∷ (reading (Err (record {}))).answer ∷ (reading (Err (record {}))).value ∷ []
    is 0 ∷ 101 ∷ 30 ∷ 0 ∷ [])
    -- making: "taken", "M or P"
    ∷ ((creation (Ok fresh_device)).answer ∷ (creation (Err (record {}))).answer ∷ [] is 0 ∷ 34 ∷ [])
    -- picture: "taken", "lent length", "width·height above P"
    ∷ (map picture_number (Ok tt ∷ Err Picture.WrongLength ∷ Err Picture.TooLarge ∷ []) is 0 ∷ 20 ∷ 24 ∷ [])
    -- run: "drained / waiting for the rest of a command / budget spent"
    ∷ (map run_number (Some Drained ∷ Some Waiting ∷ None ∷ []) is 0 ∷ 1 ∷ 2 ∷ [])
    -- run: "command not offered", "bad operand", "command longer than the ring can hold", "NEXT_CMD unusable"
    ∷ (map (λ c. run_number (Some (Fault c))) (NotOffered ∷ BadOperand ∷ TooLong ∷ BadNext ∷ []) is 10 ∷ 11 ∷ 12 ∷ 13 ∷ [])
    -- run: "lent length", "disabled / not configured / fault already standing", "width·height above P"
    ∷ (map run_error_number (Run.WrongLength ∷ Run.Disabled ∷ Run.NotConfigured ∷ Run.FaultStands ∷ Run.TooLarge ∷ []) is 20 ∷ 21 ∷ 22 ∷ 23 ∷ 24 ∷ [])
    -- fault: the same four numbers
    ∷ (map cause_number (NotOffered ∷ BadOperand ∷ TooLong ∷ BadNext ∷ []) is 10 ∷ 11 ∷ 12 ∷ 13 ∷ [])
    -- a turn's end
    ∷ (map end_number (Drained ∷ Waiting ∷ Fault NotOffered ∷ Fault BadOperand ∷ Fault TooLong ∷ Fault BadNext ∷ []) is 0 ∷ 1 ∷ 10 ∷ 11 ∷ 12 ∷ 13 ∷ [])
    -- a run in demand 3's claim, which knows no refusal but 23
    ∷ (map answer_number (spent ∷ standing ∷ ended Drained ∷ ended Waiting ∷ ended (Fault NotOffered) ∷ ended (Fault BadOperand) ∷ ended (Fault TooLong) ∷ [])
    is 2 ∷ 23 ∷ 0 ∷ 1 ∷ 10 ∷ 11 ∷ 12 ∷ [])
    -- append, which document 01's table does not have: 0 taken, 1 refused
    ∷ (map append_number (Ok tt ∷ Err (record {}) ∷ []) ++ map reply_number (appended true ∷ appended false ∷ []) is 0 ∷ 1 ∷ 0 ∷ 1 ∷ [])
    ∷ []
