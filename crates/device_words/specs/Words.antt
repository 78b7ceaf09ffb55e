-- A device as 64 words, as a host in another language keeps it: the project's own layout, for what document 01 has a device hold.
use Rattle.std.specs.Prelude.{ℕ, Bool, true, false, cond, ◌&&◌, List, [], ◌∷◌, ◌≡◌, eqb, length, get_or, replicate, Option, None, Some}
use Rattle.ring.specs.declared.Ring.{Ring}
use Rattle.cursor.specs.declared.Shape.{Shape}
use Rattle.execution.specs.declared.Cause.TheVariants.{NotOffered, BadOperand, TooLong, BadNext}
use Rattle.execution.specs.Straight.{cause_number}
use Rattle.device.specs.declared.Registers.{Registers}
use Rattle.device.specs.declared.Plane.{Plane}
use Rattle.device.specs.declared.Condition.{Condition}
use Rattle.device.specs.declared.Condition.TheVariants.{Idle, Running, Faulted}
use Rattle.device.specs.declared.Device.{Device}
use Rattle.device.specs.Device.{well_formed}
use Rattle.register_read.specs.Registers.{bit}
use Rattle.device_words.specs.declared.DefinedWords.{DefinedWords}
use Rattle.device_words.specs.declared.ConditionWords.{ConditionWords}

-- ---- from a device to its words

-- 2 to 11: the writable registers' values last taken.
abbrev pub register_words : Registers → List ℕ → List ℕ
register_words g rest =
    g.id ∷ bit g.enable ∷ g.width ∷ g.height ∷ bit g.config ∷ g.guest ∷ g.cursorid ∷ g.cursorx ∷ g.cursory ∷ g.cursoron ∷ rest

-- 12 to 15: whether the cursor is shown, and what CURSOR_ON 1 remembered.
abbrev pub plane_words : Plane → List ℕ → List ℕ
plane_words p rest = bit p.shown ∷ p.id ∷ p.x ∷ p.y ∷ rest

-- 16 to 21: 1 and the defined cursor; all 0 where none is defined.
unfoldable pub defined_parts : Option Shape → DefinedWords
defined_parts None = record { tag = 0; shape = record { id = 0; hotx = 0; hoty = 0; w = 0; h = 0 } }
defined_parts (Some s) = record { tag = 1; shape = s }

abbrev pub defined_words : DefinedWords → List ℕ → List ℕ
defined_words p rest = p.tag ∷ p.shape.id ∷ p.shape.hotx ∷ p.shape.hoty ∷ p.shape.w ∷ p.shape.h ∷ rest

-- 24 to 27: 0, or 1 and the remembered ring, or the number of the fault that stands.
unfoldable pub condition_parts : Condition → ConditionWords
condition_parts Idle = record { tag = 0; ring = record { min = 0; max = 0; stop = 0 } }
condition_parts (Running g) = record { tag = 1; ring = g }
condition_parts (Faulted c) = record { tag = cause_number c; ring = record { min = 0; max = 0; stop = 0 } }

abbrev pub condition_words : ConditionWords → List ℕ → List ℕ
condition_words p rest = p.tag ∷ p.ring.min ∷ p.ring.max ∷ p.ring.stop ∷ rest

-- 0 to 15: M and P, the registers and the plane.
abbrev pub setting_words : Device → List ℕ → List ℕ
setting_words d rest = d.sizes.memory ∷ d.sizes.pixels ∷ register_words d.registers (plane_words d.plane rest)

-- 22 and 23: the last fence, and BUSY. 28 to 63 are spare, and 0.
unfoldable pub words_of : Device → List ℕ
words_of d =
    setting_words d
    (defined_words (defined_parts d.marks.defined) (d.marks.fence ∷ bit d.busy ∷ condition_words (condition_parts d.condition) (replicate 36 0)))

-- ---- from words to a device

-- A bit, a tag or a word that no device has is taken for another; `spelled_in` sees that by the words of the device then.
unfoldable pub defined_from : ℕ → Shape → Option Shape
defined_from tag s = cond (eqb tag 1) (Some s) None

unfoldable pub condition_from : ℕ → Ring → Condition
condition_from tag g =
    cond (eqb tag 1) (Running g)
    (cond (eqb tag 10) (Faulted NotOffered)
    (cond (eqb tag 11) (Faulted BadOperand) (cond (eqb tag 12) (Faulted TooLong) (cond (eqb tag 13) (Faulted BadNext) Idle))))

abbrev pub registers_from : List ℕ → Registers
registers_from w = record {
  id = get_or w 2 0;
  enable = eqb (get_or w 3 0) 1;
  width = get_or w 4 0;
  height = get_or w 5 0;
  config = eqb (get_or w 6 0) 1;
  guest = get_or w 7 0;
  cursorid = get_or w 8 0;
  cursorx = get_or w 9 0;
  cursory = get_or w 10 0;
  cursoron = get_or w 11 0;
}

abbrev pub shape_from : List ℕ → Shape
shape_from w = record { id = get_or w 17 0; hotx = get_or w 18 0; hoty = get_or w 19 0; w = get_or w 20 0; h = get_or w 21 0 }

unfoldable pub device_from : List ℕ → Device
device_from w = record {
  sizes = record { memory = get_or w 0 0; pixels = get_or w 1 0 };
  registers = registers_from w;
  plane = record { shown = eqb (get_or w 12 0) 1; id = get_or w 13 0; x = get_or w 14 0; y = get_or w 15 0 };
  marks = record { fence = get_or w 22 0; defined = defined_from (get_or w 16 0) (shape_from w) };
  busy = eqb (get_or w 23 0) 1;
  condition = condition_from (get_or w 24 0) (record { min = get_or w 25 0; max = get_or w 26 0; stop = get_or w 27 0 });
}

-- ---- the device in lent words

abbrev pub same : List ℕ → List ℕ → Bool
same [] [] = true
same [] (y ∷ b) = false
same (x ∷ a) [] = false
same (x ∷ a) (y ∷ b) = eqb x y && same a b

-- The words spell a device: they are its own 64 words. It may be one that no call can have made.
unfoldable pub spelled_in : List ℕ → Option Device
spelled_in w = cond (eqb (length w) 64) (cond (same (words_of (device_from w)) w) (Some (device_from w)) None) None

-- Of devices the well-formed.
abbrev pub only_well_formed : Option Device → Option Device
only_well_formed (Some d) = cond (well_formed d) (Some d) None
only_well_formed None = None

-- The one test of lent words: they are the words of a device, and a well-formed one. Any others hold none.
unfoldable pub held_in : List ℕ → Option Device
held_in w = only_well_formed (spelled_in w)

-- A device written into 64 lent words; any other length is left as it is.
unfoldable pub put_in : List ℕ → Device → List ℕ
put_in w d = cond (eqb (length w) 64) (words_of d) w

-- Lent words that hold a device are its own 64 words, and the device is well-formed: nothing in them is left unread.
pub record HeldBy (w : List ℕ) (d : Device) : Type 0 where
  pub count : length w ≡ 64
  pub is_well_formed : well_formed d ≡ true
  pub its_words : words_of d ≡ w
