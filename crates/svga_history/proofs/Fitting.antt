-- 32-bit words: packed results come apart again, and the device in 32-bit words has parts of 32 bits, which it reads and is written back as.
-- Assumes nothing.
use Rattle.std.proofs.Common.{Option, None, Some, ◌≡◌, Bool, true, false, List, [], ◌∷◌, ◌++◌, ℕ, zero, suc, ◌+◌, ◌≤◌, ◌<◌, arith, eqb, leb, ltb, replicate, set, drop, get_or, get_or-drop, leb-true, ltb-true}
use borrow.Table.Steps.{cases}
use Rattle.geometry.specs.Pixels.{tabulate}
use Rattle.geometry.proofs.Tests.{both}
use Rattle.cursor.specs.declared.Shape.{Shape}
use Rattle.cursor.specs.Plane.{shape_good}
use Rattle.execution.specs.declared.Cause.TheVariants.{NotOffered, BadOperand, TooLong, BadNext}
use Rattle.ring.proofs.Laws.{placed_when}
use Rattle.effect.specs.declared.Marks.{Marks}
use Rattle.register.specs.declared.Register.{Register}
use Rattle.register.specs.declared.Register.TheVariants.{Writes, Reads, Absent}
use Rattle.register.specs.declared.Writable.{Writable}
use Rattle.register.specs.declared.Writable.TheVariants.{Id, Enable, Width, Height, ConfigDone, Sync, GuestId, CursorId, CursorX, CursorY, CursorOn}
use Rattle.register.specs.declared.ReadOnly.{ReadOnly}
use Rattle.register.specs.declared.ReadOnly.TheVariants.{MaxWidth, MaxHeight, Depth, BitsPerPixel, Pseudocolor, RedMask, GreenMask, BlueMask}
use Rattle.register.specs.declared.ReadOnly.TheVariants.{BytesPerLine, FbStart, FbOffset, VramSize, FbSize, Capabilities}
use Rattle.register.specs.declared.ReadOnly.TheVariants.{MemStart, MemSize, Busy, HostBitsPerPixel}
use Rattle.register.specs.Numbers.{register_of}
use Rattle.device.specs.declared.Condition.{Condition}
use Rattle.device.specs.declared.Condition.TheVariants.{Idle, Running, Faulted}
use Rattle.device.specs.declared.Registers.{Registers}
use Rattle.device.specs.declared.Plane.{Plane}
use Rattle.device.specs.declared.Device.{Device}
use Rattle.device.specs.Device.{width_of, height_of, condition_good, defined_good, well_formed}
use Rattle.device.proofs.Laws.{well_formed_lem, fb_size_fits}
use Rattle.register_read.specs.Registers.{bit, writable_value, read_only_value, read_by, read_of}
use Rattle.device_words.specs.Words.{defined_parts, defined_words, condition_parts, condition_words, words_of, defined_from, device_from}
use Rattle.svga.specs.Calls.{packed}
use Rattle.svga_history.specs.WordCalls.{answer_in, value_in, AreWords}

-- ---- packed results

pub answer_unpacked : (a v : ℕ) → v < 4294967296 → answer_in (packed a v) ≡ a
answer_unpacked a v h = omega arith

pub value_unpacked : (a v : ℕ) → v < 4294967296 → value_in (packed a v) ≡ v
value_unpacked a v h = omega arith

-- ---- lists of 32-bit words

pub no_words : AreWords []
no_words = record { below = λ i. omega arith }

pub one_more_lem : {x : ℕ} {l : List ℕ} → x < 4294967296 → AreWords l → AreWords (x ∷ l)
one_more_lem {x} {l} p q = record { below = at }
  where
    at : (i : ℕ) → get_or (x ∷ l) i 0 < 4294967296
    at zero = p
    at (suc i) = q.below i

-- all but the first
pub behind : {x : ℕ} {l : List ℕ} → AreWords (x ∷ l) → AreWords l
behind a = record { below = λ i. a.below (suc i) }

pub set_words : (l : List ℕ) (i v : ℕ) → v < 4294967296 → AreWords l → AreWords (set l i v)
set_words [] i v h a = a
set_words (x ∷ l) zero v h a = one_more_lem h (behind a)
set_words (x ∷ l) (suc i) v h a = one_more_lem (a.below 0) (set_words l i v h (behind a))

pub drop-words : (n : ℕ) (l : List ℕ) → AreWords l → AreWords (drop n l)
drop-words n l a = record { below = λ i. rw (get_or-drop n l i 0) (a.below (n + i)) }

pub join_words : (l m : List ℕ) → AreWords l → AreWords m → AreWords (l ++ m)
join_words [] m a b = b
join_words (x ∷ l) m a b = one_more_lem (a.below 0) (join_words l m (behind a) b)

pub tabulate_words : (n : ℕ) (f : ℕ → ℕ) → ((k : ℕ) → f k < 4294967296) → AreWords (tabulate n f)
unfolding tabulate
tabulate_words zero f h = no_words
tabulate_words (suc n) f h = one_more_lem (h 0) (tabulate_words n (λ k. f (suc k)) (λ k. h (suc k)))

pub zero_words : (n : ℕ) → AreWords (replicate n 0)
zero_words zero = no_words
zero_words (suc n) = one_more_lem (omega arith) (zero_words n)

-- ---- a device of 32-bit parts: those that its well-formedness leaves open

pub record Fits (g : Registers) (p : Plane) : Type 0 where
  pub id : g.id < 4294967296
  pub guest : g.guest < 4294967296
  pub cursor_id : g.cursorid < 4294967296
  pub cursor_x : g.cursorx < 4294967296
  pub cursor_y : g.cursory < 4294967296
  pub cursor_on : g.cursoron < 4294967296
  pub plane_id : p.id < 4294967296
  pub plane_x : p.x < 4294967296
  pub plane_y : p.y < 4294967296

abbrev pub DefinedFits : Option Shape → Type 0
DefinedFits None = Unit {0}
DefinedFits (Some s) = s.id < 4294967296

pub record MarksFit (m : Marks) : Type 0 where
  pub fence : m.fence < 4294967296
  pub defined : DefinedFits m.defined

-- the device in 32-bit words
pub words_fit : (w : List ℕ) → AreWords w → Fits (device_from w).registers (device_from w).plane
unfolding device_from
words_fit w a = record {
  id = a.below 2;
  guest = a.below 7;
  cursor_id = a.below 8;
  cursor_x = a.below 9;
  cursor_y = a.below 10;
  cursor_on = a.below 11;
  plane_id = a.below 13;
  plane_x = a.below 14;
  plane_y = a.below 15;
}

pub words_marks : (w : List ℕ) → AreWords w → MarksFit (device_from w).marks
unfolding device_from defined_from
words_marks w a = record { fence = a.below 22; defined = cases (eqb (get_or w 16 0) 1) (λ t. rw t (a.below 17)) (λ f. rw f tt) }

-- ---- what it reads

pub bit_word : (b : Bool) → bit b < 4294967296
bit_word true = omega arith
bit_word false = omega arith

module _ (d : Device) (m : well_formed d ≡ true) (f : Fits d.registers d.plane) where
  writable_word : (w : Writable) → writable_value d.registers w < 4294967296
  unfolding writable_value
  writable_word Id = f.id
  writable_word Enable = bit_word d.registers.enable
  writable_word Width = omega (arith, well_formed_lem d m)
  writable_word Height = omega (arith, well_formed_lem d m)
  writable_word ConfigDone = bit_word d.registers.config
  writable_word Sync = omega arith
  writable_word GuestId = f.guest
  writable_word CursorId = f.cursor_id
  writable_word CursorX = f.cursor_x
  writable_word CursorY = f.cursor_y
  writable_word CursorOn = f.cursor_on

  read_only_word : (r : ReadOnly) → read_only_value d.sizes (width_of d) (height_of d) d.busy r < 4294967296
  unfolding read_only_value
  read_only_word MaxWidth = omega arith
  read_only_word MaxHeight = omega arith
  read_only_word Depth = omega arith
  read_only_word BitsPerPixel = omega arith
  read_only_word HostBitsPerPixel = omega arith
  read_only_word Pseudocolor = omega arith
  read_only_word RedMask = omega arith
  read_only_word GreenMask = omega arith
  read_only_word BlueMask = omega arith
  read_only_word BytesPerLine = omega (arith, well_formed_lem d m)
  read_only_word FbStart = omega arith
  read_only_word FbOffset = omega arith
  read_only_word MemStart = omega arith
  read_only_word VramSize = omega (arith, well_formed_lem d m)
  read_only_word FbSize = omega (arith, fb_size_fits d (well_formed_lem d m))
  read_only_word Capabilities = omega arith
  read_only_word MemSize = omega (arith, well_formed_lem d m)
  read_only_word Busy = bit_word d.busy

  by_register : (r : Register) → (read_by d r).value < 4294967296
  unfolding read_by
  by_register (Writes w) = writable_word w
  by_register (Reads r) = read_only_word r
  by_register Absent = omega arith

  pub read_word : (index : ℕ) → (read_of d index).value < 4294967296
  unfolding read_of
  read_word index = rw m (by_register (register_of index))

-- ---- its words

module _ (rest : List ℕ) (a : AreWords rest) where
  shape_words : (s : Shape) → shape_good s ≡ true → s.id < 4294967296 → AreWords (1 ∷ s.id ∷ s.hotx ∷ s.hoty ∷ s.w ∷ s.h ∷ rest)
  unfolding shape_good
  shape_words s g h =
      let p = both (leb 1 s.w) _ g in
      let q = both (leb s.w 64) _ p.1 in
      let r = both (leb 1 s.h) _ q.1 in
      let t = both (leb s.h 64) _ r.1 in
      let u = both (ltb s.hotx s.w) _ t.1 in
      let wide : s.w ≤ 64 = leb-true _ _ q.0 in
      let high : s.h ≤ 64 = leb-true _ _ t.0 in
      let x : s.hotx < s.w = ltb-true _ _ u.0 in
      let y : s.hoty < s.h = ltb-true _ _ u.1 in
      one_more_lem (omega arith) (one_more_lem h (one_more_lem (omega arith) (one_more_lem (omega arith) (one_more_lem (omega arith) (one_more_lem (omega arith) a)))))

  defined_words_lem : (c : Option Shape) → defined_good c ≡ true → DefinedFits c → AreWords (defined_words (defined_parts c) rest)
  unfolding defined_parts defined_good
  defined_words_lem None g h =
      one_more_lem (omega arith) (one_more_lem (omega arith) (one_more_lem (omega arith) (one_more_lem (omega arith) (one_more_lem (omega arith) (one_more_lem (omega arith) a)))))
  defined_words_lem (Some s) g h = shape_words s g h

  four_words : (tag x y z : ℕ) → tag < 4294967296 → x < 4294967296 → y < 4294967296 → z < 4294967296 → AreWords (tag ∷ x ∷ y ∷ z ∷ rest)
  four_words tag x y z e f g h = one_more_lem e (one_more_lem f (one_more_lem g (one_more_lem h a)))

  condition_words_lem : (memory : ℕ) (config : Bool) (c : Condition) → memory ≤ 2097152 → condition_good memory config c ≡ true
      → AreWords (condition_words (condition_parts c) rest)
  unfolding condition_parts condition_good
  condition_words_lem memory config Idle h g = four_words 0 0 0 0 (omega arith) (omega arith) (omega arith) (omega arith)
  condition_words_lem memory true (Running r) h g =
      let p = placed_when r _ g in
      four_words 1 r.min r.max r.stop (omega arith) (omega arith) (omega arith) (omega arith)
  condition_words_lem memory false (Running r) h g = absurd (let z : ◌≡◌ {A = ℕ} 0 1 = cc in omega arith)
  condition_words_lem memory config (Faulted NotOffered) h g = four_words 10 0 0 0 (omega arith) (omega arith) (omega arith) (omega arith)
  condition_words_lem memory config (Faulted BadOperand) h g = four_words 11 0 0 0 (omega arith) (omega arith) (omega arith) (omega arith)
  condition_words_lem memory config (Faulted TooLong) h g = four_words 12 0 0 0 (omega arith) (omega arith) (omega arith) (omega arith)
  condition_words_lem memory config (Faulted BadNext) h g = four_words 13 0 0 0 (omega arith) (omega arith) (omega arith) (omega arith)

pub fits_words : (d : Device) → well_formed d ≡ true → Fits d.registers d.plane → MarksFit d.marks → AreWords (words_of d)
unfolding words_of
fits_words d m f k =
    let w = well_formed_lem d m in
    let last = condition_words_lem (replicate 36 0) (zero_words 36) _ d.registers.config d.condition w.memory_high w.condition in
    let marks = defined_words_lem _ (one_more_lem k.fence (one_more_lem (bit_word d.busy) last)) d.marks.defined w.defined k.defined in
    let plane = one_more_lem (bit_word d.plane.shown) (one_more_lem f.plane_id (one_more_lem f.plane_x (one_more_lem f.plane_y marks))) in
    let cursor = one_more_lem f.cursor_id (one_more_lem f.cursor_x (one_more_lem f.cursor_y (one_more_lem f.cursor_on plane))) in
    let wide : width_of d < 4294967296 = omega arith in
    let high : height_of d < 4294967296 = omega arith in
    let mode = one_more_lem wide (one_more_lem high (one_more_lem (bit_word d.registers.config) (one_more_lem f.guest cursor))) in
    one_more_lem (omega arith) (one_more_lem (omega arith) (one_more_lem f.id (one_more_lem (bit_word d.registers.enable) mode)))
