-- Demand 1: "No guest can do harm. Every register write, ring content and buffer size gets an answer from the table in document 01, and nothing but the
-- places that document names changes. No caller has to look first."
use Rattle.std.specs.Prelude.{ℕ, zero, suc, ◌*◌, ◌/◌, ◌≤◌, ◌<◌, max, ◌≡◌, Bool, true, false, cond, ◌||◌, List, [], ◌∷◌, ◌⊎◌, eqb, length, get_or}
use Rattle.geometry.specs.Pixels.{column_of, row_of}
use Rattle.execution.specs.declared.Cause.{Cause}
use Rattle.execution.specs.Straight.{cause_number, Turn, ends, exec, Line, beyond, next}
use Rattle.ring.specs.declared.Ring.{Ring}
use Rattle.ring.specs.Acceptance.{min_of, max_of, next_of}
use Rattle.ring.specs.Waiting.{ahead}
use Rattle.writer.specs.Writing.{command_words}
use Rattle.register.specs.declared.Register.TheVariants.{Writes}
use Rattle.register.specs.declared.Writable.{Writable}
use Rattle.register.specs.Numbers.{register_of}
use Rattle.command.specs.declared.Action.{Action}
use Rattle.command.specs.declared.Action.TheVariants.{Update, Fill, Copy, Define, Fence, Nothing}
use Rattle.command.specs.Commands.{entry, kind_in}
use Rattle.effect.specs.Effects.{Machine}
use Rattle.run.specs.Run.{NoFence, NoPainting}
use Rattle.device.specs.declared.Condition.{Condition}
use Rattle.device.specs.declared.Condition.TheVariants.{Idle, Running, Faulted}
use Rattle.device.specs.Device.{fresh, width_of, height_of}
use Rattle.offscreen.specs.Offscreen.{joined}
use Rattle.register_read.specs.Registers.{writable_value}
use Rattle.device_run.specs.Run.{with_ring, line_of, turn_for}
use Rattle.history.specs.Calls.{World, Call, make, write, read, run, append, submit, picture, offscreen, fence, passed, lend, CallOutcome, perform}

-- ---- answers

-- Document 01, "Answer numbers": the numbers in whose row a call stands. 20 is CONFIG_DONE's alone among the registers. Document 01's table has no
-- number for an append, which is 0 taken, 1 refused, and none for the calls that cannot be refused. A command's write: document 02, P2, "33 ..; 41 ..; 20
-- ..; 40".
abbrev pub row : Call → List ℕ
row (make memory pixels) = 0 ∷ 34 ∷ []
row (write index value) = cond (eqb index 20) (0 ∷ 20 ∷ 30 ∷ 31 ∷ 32 ∷ 33 ∷ []) (0 ∷ 30 ∷ 31 ∷ 32 ∷ 33 ∷ [])
row (read index) = 0 ∷ 30 ∷ []
row (run budget) = 0 ∷ 1 ∷ 2 ∷ 10 ∷ 11 ∷ 12 ∷ 13 ∷ 20 ∷ 21 ∷ 22 ∷ 23 ∷ 24 ∷ []
row (append word) = 0 ∷ 1 ∷ []
row (submit c) = 0 ∷ 20 ∷ 33 ∷ 40 ∷ 41 ∷ []
row picture = 0 ∷ 20 ∷ 24 ∷ []
row offscreen = 0 ∷ []
row fence = 0 ∷ []
row (passed number) = 0 ∷ []
row (lend l output) = 0 ∷ []

abbrev pub among : ℕ → List ℕ → Bool
among n [] = false
among n (m ∷ ms) = eqb n m || among n ms

-- ---- what may change

-- Words as before, but for those at places that may change; no word is added or lost.
pub record SameBut (changes : ℕ → Type 0) (before after : List ℕ) : Type 0 where
  pub same_length : length after ≡ length before
  pub elsewhere : (i : ℕ) → (changes i → ⊥) → get_or after i 0 ≡ get_or before i 0

-- "Pixel (x, y) stands at y·width + x": the places of the mode's pixels.
abbrev pub InMode : World → ℕ → Type 0
InMode w i = i < width_of w.device * height_of w.device

-- A register write: of the device its own register, and beside it "CURSOR_ON 1 remembers id, X and Y and shows; 0 hides", what CONFIG_DONE remembers or
-- forgets, and BUSY: "SYNC sets BUSY to 1", "Writing 0 to ENABLE or CONFIG_DONE clears BUSY". Neither sizes nor marks, which are the fence and the defined
-- cursor; no lent memory.
pub record WriteChanges (index value : ℕ) (w z : World) : Type 0 where
  pub registers : (r : Writable) → (register_of index ≡ Writes r → ⊥) → writable_value z.device.registers r ≡ writable_value w.device.registers r
  pub plane : (index ≡ 27 → ⊥) → z.device.plane ≡ w.device.plane
  pub condition : (index ≡ 20 → ⊥) → z.device.condition ≡ w.device.condition
  pub busy : (index ≡ 21 → ⊥) → (index ≡ 1 → value ≡ 0 → ⊥) → (index ≡ 20 → value ≡ 0 → ⊥) → z.device.busy ≡ w.device.busy
  pub sizes : z.device.sizes ≡ w.device.sizes
  pub marks : z.device.marks ≡ w.device.marks
  pub lent : z.lent ≡ w.lent
  pub output : z.output ≡ w.output

-- What a run that answered a may make of a device's condition: STOP moves, "MIN, MAX and STOP are remembered"; or the fault of its answer stands, which
-- keeps no ring. Without a ring nothing runs.
abbrev pub ConditionChanges : Condition → ℕ → Condition → Type 0
ConditionChanges Idle a z = z ≡ Idle
ConditionChanges (Running g) a z =
    ((h : Ring) × (z ≡ Running h) × (h.min ≡ g.min) × (h.max ≡ g.max)) ⊎ ((c : Cause) × (z ≡ Faulted c) × (a ≡ cause_number c))
ConditionChanges (Faulted c) a z = z ≡ Faulted c

-- The cursor words that a command fills: "Its pixels fill the first w·h cursor words".
abbrev pub pixels_by : Action → ℕ
pixels_by (Update r) = 0
pixels_by (Fill r colour rop) = 0
pixels_by (Copy from r rop) = 0
pixels_by (Define shape) = shape.w * shape.h
pixels_by (Fence number) = 0
pixels_by Nothing = 0

-- The largest w·h among the first k commands that a line executes.
unfoldable pub largest_cursor : (Machine → List ℕ → Turn Machine) → ℕ → Line Machine → ℕ
largest_cursor turn zero a = 0
largest_cursor turn (suc k) a =
    elim (next turn a) [
      | ends e ↦ 0
      | exec n s ↦ max (pixels_by ((entry (kind_in a.words)).action a.words)) (largest_cursor turn k (beyond a n s))
    ]

-- The cursor words that the first k commands of a run fill.
abbrev pub cursor_filled : World → Condition → ℕ → ℕ
cursor_filled w Idle k = 0
cursor_filled w (Running g) k = largest_cursor (turn_for w.device w.lent g) k (line_of w.device w.lent g)
cursor_filled w (Faulted c) k = 0

-- Document 02, P1: "When MIN is 28 or more, an executed FENCE also writes its number to word 6; below that, as today." The remembered MIN, in words.
abbrev pub Posts : Condition → Type 0
Posts Idle = ⊥
Posts (Running g) = 7 ≤ g.min
Posts (Faulted c) = ⊥

-- Document 02, P5: "Commands 2, 3, 13 and 14 may now read and write offscreen rows": the places of the pixels "in the mode or offscreen". (Below
-- width·rows, by the law `places_in_reach`.)
abbrev pub InReach : World → ℕ → Type 0
InReach w i = let d = w.device in joined d (column_of (width_of d) i) (row_of (width_of d) i) ≡ true

-- A run that answered a and consumed k commands: of the device the defined cursor, the fence, BUSY, and the remembered STOP or the fault; of the screen the
-- mode's pixels and the offscreen rows, these by fills and copies alone; of the cursor image what its commands fill. "A run then changes words 3 and 6 only",
-- word 6 where MIN allows it, "and none if it consumed nothing". "framebuffer never".
pub record RunChanges (a k : ℕ) (w z : World) : Type 0 where
  pub sizes : z.device.sizes ≡ w.device.sizes
  pub registers : z.device.registers ≡ w.device.registers
  pub plane : z.device.plane ≡ w.device.plane
  pub busy : (z.device.busy ≡ w.device.busy) ⊎ (z.device.busy ≡ false)
  pub condition : ConditionChanges w.device.condition a z.device.condition
  pub ring : SameBut (λ i. (i ≡ 3) ⊎ ((i ≡ 6) × Posts w.device.condition)) w.lent.ring z.lent.ring
  -- word 6 by an executed FENCE alone
  pub word_6 : (g : Ring) → w.device.condition ≡ Running g → NoFence (turn_for w.device w.lent g) k (line_of w.device w.lent g)
      → get_or z.lent.ring 6 0 ≡ get_or w.lent.ring 6 0
  pub screen : SameBut (InReach w) w.lent.screen z.lent.screen
  -- "UPDATE .. keep to the mode": offscreen rows by an executed fill or copy alone
  pub offscreen : (g : Ring) → w.device.condition ≡ Running g → NoPainting (turn_for w.device w.lent g) k (line_of w.device w.lent g)
      → SameBut (InMode w) w.lent.screen z.lent.screen
  pub cursor : SameBut (λ i. i < cursor_filled w w.device.condition k) w.lent.cursor z.lent.cursor
  pub framebuffer : z.lent.framebuffer ≡ w.lent.framebuffer
  pub output : z.output ≡ w.output
  -- where nothing was consumed, no memory changes, nor fence or defined cursor
  pub nothing_consumed : k ≡ 0 → (z.lent ≡ w.lent) × (z.device.marks ≡ w.device.marks)

-- "An append writes its word at NEXT_CMD and moves NEXT_CMD on": ring word 2 and n words from where NEXT_CMD stood, one for an append, all its words for
-- a command. "Words wrap from MAX to MIN".
abbrev pub FromNext : List ℕ → ℕ → ℕ → Type 0
FromNext ring n i = (k : ℕ) × (k < n) × (i ≡ ahead (min_of ring / 4) (max_of ring / 4) (next_of ring / 4) k)

pub record AppendChanges (n : ℕ) (w z : World) : Type 0 where
  pub ring : SameBut (λ i. (i ≡ 2) ⊎ FromNext w.lent.ring n i) w.lent.ring z.lent.ring
  pub device : z.device ≡ w.device
  -- no other lent memory
  pub others : z.lent ≡ with_ring w.lent z.lent.ring
  pub output : z.output ≡ w.output

-- A picture: "output beyond the mode is unchanged".
pub record PictureChanges (w z : World) : Type 0 where
  pub output : SameBut (InMode w) w.output z.output
  pub device : z.device ≡ w.device
  pub lent : z.lent ≡ w.lent

-- What a call may have changed of w, where it answered and left o. Making gives a fresh device or, refused, leaves the old one.
abbrev pub OnlyNamed : Call → World → CallOutcome → Type 0
OnlyNamed (make memory pixels) w o =
    ((o.world.device ≡ fresh memory pixels) ⊎ (o.world.device ≡ w.device)) × (o.world.lent ≡ w.lent) × (o.world.output ≡ w.output)
OnlyNamed (write index value) w o = WriteChanges index value w o.world
OnlyNamed (read index) w o = o.world ≡ w
OnlyNamed (run budget) w o = RunChanges o.answer (get_or o.values 0 0) w o.world
OnlyNamed (append word) w o = AppendChanges 1 w o.world
OnlyNamed (submit c) w o = AppendChanges (length (command_words c)) w o.world
OnlyNamed picture w o = PictureChanges w o.world
OnlyNamed offscreen w o = o.world ≡ w
OnlyNamed fence w o = o.world ≡ w
OnlyNamed (passed number) w o = o.world ≡ w
OnlyNamed (lend l output) w o = (o.world.device ≡ w.device) × (o.world.lent ≡ l) × (o.world.output ≡ output)

-- ---- demand 1

-- One call: its answer is in its row, and it changes only what it may.
pub record Safe (c : Call) (w : World) : Type 0 where
  pub answered : among (perform c w).answer (row c) ≡ true
  pub only_named : OnlyNamed c w (perform c w)
  -- "Answers 20 to 34 change nothing; a run's count is then 0"; "Reading an absent register gives 30 and value 0."
  pub refused : 20 ≤ (perform c w).answer → (perform c w).world ≡ w
  pub refused_values : 20 ≤ (perform c w).answer → (i : ℕ) → get_or (perform c w).values i 0 ≡ 0

-- Calls in a row, each on what the last one left.
abbrev pub Harmless : List Call → World → Type 0
Harmless [] w = Unit {0}
Harmless (c ∷ cs) w = Safe c w × Harmless cs (perform c w).world
