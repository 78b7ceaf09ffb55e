-- When documents 01 and 02 refuse a call: for each call and each number its rule, and that no rule that is checked before it holds.
-- A device is one that calls have made. Lengths are in words; M and P are what the device was made for.
use Rattle.std.specs.Prelude.{◌≡◌, Bool, true, false, cond, ◌&&◌, List, ◌⊎◌, ℕ, ◌+◌, ◌-◌, ◌*◌, ◌/◌, ◌%◌, ◌≤◌, ◌<◌, min, eqb, leb, length}
use Rattle.geometry.specs.declared.Rect.{Rect}
use Rattle.geometry.specs.Pixels.{Has, column_of, row_of}
use Rattle.execution.specs.declared.Cause.{Cause}
use Rattle.execution.specs.Straight.{Line, steps, straight, whole, ending}
use Rattle.execution.specs.Claim.{Answer, answer_number, verdict}
use Rattle.ring.specs.declared.Ring.{Ring}
use Rattle.ring.specs.Acceptance.{min_of, max_of, next_of, stop_of, Usable}
use Rattle.ring.specs.Append.{moved_on}
use Rattle.register.specs.declared.Register.TheVariants.{Writes, Reads, Absent}
use Rattle.register.specs.declared.ReadOnly.{ReadOnly}
use Rattle.register.specs.declared.Writable.{Writable}
use Rattle.register.specs.declared.Writable.TheVariants.{Id, Enable, Width, Height, ConfigDone, Sync, GuestId, CursorId, CursorX, CursorY, CursorOn}
use Rattle.register.specs.Numbers.{register_of}
use Rattle.geometry.specs.declared.Point.{Point}
use Rattle.command.specs.Commands.{Known, entry, size_by, kind_in}
use Rattle.command.specs.Findings.{data_of}
use Rattle.writer.specs.Writing.{Command, command_words, pixels_asked, bytes_asked, carried_in, free_words}
use Rattle.writer.specs.Reading.{NotTaken}
use Rattle.effect.specs.Effects.{Machine}
use Rattle.run.specs.Run.{passed, stamped, posts_in, posting}
use Rattle.device.specs.declared.Condition.TheVariants.{Running, Faulted}
use Rattle.device.specs.declared.Device.{Device}
use Rattle.device.specs.Device.{memory_of, pixels_of, width_of, height_of, enabled_of, configured_of, condition_of}
use Rattle.offscreen.specs.Offscreen.{joined}
use Rattle.device_run.specs.Run.{Lent, RunOutcome, condition_after, busy_after, machine_of, line_of, turn_for}

-- "Answers 20 to 34 change nothing"
unfoldable pub is_refusal : ℕ → Bool
is_refusal answer = leb 20 answer && leb answer 34

-- ---- making a device: 34

-- "M is a multiple of 4 from 10,256 to 2,097,152; P is 1 to 4,096,000; otherwise answer 34."
abbrev pub Sizes : ℕ → ℕ → Type 0
Sizes memory pixels = (memory % 4 ≡ 0) × (10256 ≤ memory) × (memory ≤ 2097152) × (1 ≤ pixels) × (pixels ≤ 4096000)

abbrev pub Make34 : ℕ → ℕ → Type 0
Make34 memory pixels = ¬ Sizes memory pixels

-- ---- register write: 30, 31, 32; "CONFIG_DONE 1: first 32, then 20, then 33"

-- "1 ENABLE (0 or 1), 2 WIDTH (1 to 2,560), 3 HEIGHT (1 to 1,600), 20 CONFIG_DONE (0 or 1), .., 27 CURSOR_ON (0 to 3). A value outside these is 32;
-- registers with no range take all."
abbrev pub Ranged : Writable → ℕ → Type 0
Ranged Id v = Unit {0}
Ranged Enable v = v ≤ 1
Ranged Width v = (1 ≤ v) × (v ≤ 2560)
Ranged Height v = (1 ≤ v) × (v ≤ 1600)
Ranged ConfigDone v = v ≤ 1
Ranged Sync v = Unit {0}
Ranged GuestId v = Unit {0}
Ranged CursorId v = Unit {0}
Ranged CursorX v = Unit {0}
Ranged CursorY v = Unit {0}
Ranged CursorOn v = v ≤ 3

-- "no such register"
abbrev pub Write30 : ℕ → Type 0
Write30 index = register_of index ≡ Absent

-- "read-only"
abbrev pub Write31 : ℕ → Type 0
Write31 index = (r : ReadOnly) × (register_of index ≡ Reads r)

-- "bad value"
abbrev pub Write32 : ℕ → ℕ → Type 0
Write32 index v = (w : Writable) × (register_of index ≡ Writes w) × (¬ Ranged w v)

-- "lent length": the ring memory's, asked for by CONFIG_DONE 1 alone
abbrev pub Write20 : Device → List ℕ → ℕ → ℕ → Type 0
Write20 d ring index v = (register_of index ≡ Writes ConfigDone) × (v ≡ 1) × (¬ (length ring ≡ memory_of d / 4))

-- "ring refused": ring words 0 to 3 are not as CONFIG_DONE asks
abbrev pub Write33 : Device → List ℕ → ℕ → ℕ → Type 0
Write33 d ring index v = (register_of index ≡ Writes ConfigDone) × (v ≡ 1) × (length ring ≡ memory_of d / 4) × (¬ Usable ring)

-- none of these: "taken"
abbrev pub Write0 : Device → List ℕ → ℕ → ℕ → Type 0
Write0 d ring index v =
    (w : Writable)
    × (register_of index ≡ Writes w)
    × Ranged w v
    × (w ≡ ConfigDone → v ≡ 1 → (length ring ≡ memory_of d / 4) × Usable ring)

-- ---- register read: 30

-- "Reading an absent register gives 30 and value 0."
abbrev pub Read30 : ℕ → Type 0
Read30 index = register_of index ≡ Absent

-- ---- run: "A run checks 20, 22, 21, 24, 23 in that order"

module _ (d : Device) (l : Lent) where
  -- "the ring memory (M/4 words), the framebuffer (P), the screen (P), the cursor image (4,096)"
  abbrev pub RunLent : Type 0
  RunLent =
      (length l.ring ≡ memory_of d / 4)
      × (length l.framebuffer ≡ pixels_of d)
      × (length l.screen ≡ pixels_of d)
      × (length l.cursor ≡ 4096)

  -- "A lent length that differs is answer 20."
  abbrev pub Run20 : Type 0
  Run20 = ¬ RunLent

  -- "not configured"
  abbrev pub Run22 : Type 0
  Run22 = RunLent × (configured_of d ≡ false)

  -- "disabled"
  abbrev pub Run21 : Type 0
  Run21 = RunLent × (configured_of d ≡ true) × (enabled_of d ≡ false)

  -- "width·height above P"
  abbrev pub Run24 : Type 0
  Run24 = RunLent × (configured_of d ≡ true) × (enabled_of d ≡ true) × (pixels_of d < width_of d * height_of d)

  -- "fault already standing"
  abbrev pub Run23 : Type 0
  Run23 =
      RunLent × (configured_of d ≡ true) × (enabled_of d ≡ true) × (width_of d * height_of d ≤ pixels_of d) × ((c : Cause) × (condition_of d ≡ Faulted c))

  -- none of these: the run starts, on the ring g that was remembered
  abbrev pub Starts : Ring → Type 0
  Starts g = RunLent × (configured_of d ≡ true) × (enabled_of d ≡ true) × (width_of d * height_of d ≤ pixels_of d) × (condition_of d ≡ Running g)

-- ---- a run that starts

-- "NEXT_CMD not a multiple of 4 or outside the ring: 13." MIN and MAX are remembered in words, NEXT_CMD is in bytes.
abbrev pub NextUsable : Ring → ℕ → Type 0
NextUsable g next = (next % 4 ≡ 0) × (4 * g.min ≤ next) × (next < 4 * g.max)

-- Where NEXT_CMD is usable: straight execution (`execution/Straight`) of the words that wait from the remembered STOP up to NEXT_CMD, `line_of d l g`. They are
-- any words: the ring may have been accepted with words in it, and the guest may have rewritten NEXT_CMD and every word.
module _ (d : Device) (l : Lent) (g : Ring) where
  -- what its first k steps leave
  abbrev pub left_by : ℕ → Line Machine
  left_by k = straight (turn_for d l g) k (line_of d l g)

  -- "the command is executed and its words dropped": how many words they drop
  abbrev pub dropped : ℕ → ℕ
  dropped k = length (line_of d l g).words - length (left_by k).words

  -- "STOP passes it": the ring as it is remembered past them
  abbrev pub passed_by : ℕ → Ring
  passed_by k = passed g (dropped k)

  -- "whole commands waiting are the steps that still execute"
  abbrev pub whole_waiting : ℕ
  whole_waiting = whole (turn_for d l g) (line_of d l g)

  -- where straight execution stops: past them, at the turn that "ends it with nothing changed"
  abbrev pub stops_at : Line Machine
  stops_at = left_by whole_waiting

  -- A run comes there, with budget left for that turn.
  abbrev pub Reaches : ℕ → Type 0
  Reaches budget = NextUsable g (next_of l.ring) × (whole_waiting < budget)

  -- "Its number is 2 if c = b, else the answer that ends straight execution there.", of a run with this budget and count
  abbrev pub answer_by : ℕ → ℕ → Answer
  answer_by b c = verdict (eqb c b) (ending (turn_for d l g) (line_of d l g))

-- What a run of this budget leaves that starts on the ring g, and answers, where NEXT_CMD is usable: all of it. "The run stops after a number of commands never
-- above its budget": those that it counts are the first of the words that wait, executed straight through.
pub record RunLeaves (d : Device) (l : Lent) (g : Ring) (budget : ℕ) (o : RunOutcome) : Type 0 where
  -- "a run of budget b answers as count c the smaller of b and the number of those steps"
  pub count : o.count ≡ min budget (whole_waiting d l g)
  -- "the first k steps all execute"
  pub executes : steps (turn_for d l g) o.count (line_of d l g) ≡ o.count
  -- "all P screen words, all cursor words, the defined cursor and the fence are as those steps leave them"; so is ring word 6, "when MIN allows it"
  pub machine : machine_of o.device o.lent g ≡ (left_by d l g o.count).machine
  -- "STOP passes it, ring word 3 is written." Document 02, P1: "A run then changes words 3 and 6 only"; "and none if it consumed nothing".
  pub ring : o.lent.ring
      ≡ cond (eqb o.count 0) l.ring
      (stamped (passed_by d l g o.count).stop (posting (posts_in g) (left_by d l g o.count).machine.posted l.ring))
  -- "framebuffer never"
  pub framebuffer : o.lent.framebuffer ≡ l.framebuffer
  -- 2, or 0, 1, 10, 11 or 12
  pub answer : o.answer ≡ answer_number (answer_by d l g budget o.count)
  -- "A fault consumes nothing of its command and stands"; where the answer is none, the ring is remembered with STOP past the commands
  pub condition : condition_of o.device ≡ condition_after (answer_by d l g budget o.count) (passed_by d l g o.count)
  -- "A run ending 0, 1 or in a fault clears it; one ending 2 keeps it."
  pub busy : o.device.busy ≡ busy_after (answer_by d l g budget o.count) d.busy
  -- nothing else of the device changes
  pub sizes : o.device.sizes ≡ d.sizes
  pub registers : o.device.registers ≡ d.registers
  pub plane : o.device.plane ≡ d.plane

-- ---- one turn, "in this order", on the words w that wait in a ring that carries cap words: by their row of document 01's table, `entry (kind_in w)`

-- "NEXT_CMD = STOP: 0."
abbrev pub Turn0 : List ℕ → Type 0
Turn0 w = length w ≡ 0

-- "Number not offered: 10."
abbrev pub Turn10 : List ℕ → Type 0
Turn10 w = (¬ Turn0 w) × ((entry (kind_in w)).offered ≡ false)

-- "Head incomplete: 1."
abbrev pub HeadMissing : List ℕ → Type 0
HeadMissing w = (¬ Turn0 w) × ((entry (kind_in w)).offered ≡ true) × (length w < (entry (kind_in w)).head)

abbrev pub HeadThere : List ℕ → Type 0
HeadThere w = (¬ Turn0 w) × ((entry (kind_in w)).offered ≡ true) × ((entry (kind_in w)).head ≤ length w)

-- "Cursor head bad: 11."
abbrev pub HeadBad : List ℕ → Type 0
HeadBad w = HeadThere w × ((entry (kind_in w)).head_good w ≡ false)

-- "Length above what the ring carries: 12."
abbrev pub Turn12 : ℕ → List ℕ → Type 0
Turn12 cap w = HeadThere w × ((entry (kind_in w)).head_good w ≡ true) × (cap < size_by (kind_in w) w)

-- "Words missing: 1."
abbrev pub WordsMissing : ℕ → List ℕ → Type 0
WordsMissing cap w =
    HeadThere w × ((entry (kind_in w)).head_good w ≡ true) × (size_by (kind_in w) w ≤ cap) × (length w < size_by (kind_in w) w)

abbrev pub WordsThere : ℕ → List ℕ → Type 0
WordsThere cap w =
    HeadThere w × ((entry (kind_in w)).head_good w ≡ true) × (size_by (kind_in w) w ≤ cap) × (size_by (kind_in w) w ≤ length w)

-- "Raster operation above 15: 11." Document 02, P6: "11 for FENCE 0, judged once both words are there, in the place of the raster check". `known` is what the
-- checks see of the machine.
abbrev pub OperandBad : Known → ℕ → List ℕ → Type 0
OperandBad known cap w = WordsThere cap w × ((entry (kind_in w)).good known w ≡ false)

-- "Then it is executed"
abbrev pub Executes : Known → ℕ → List ℕ → Type 0
Executes known cap w = WordsThere cap w × ((entry (kind_in w)).good known w ≡ true)

-- ---- picture: "a picture 20, 24"

-- "the screen (P), the cursor image (4,096), and for a finished picture an output (P)"
abbrev pub PictureLent : Device → List ℕ → List ℕ → List ℕ → Type 0
PictureLent d screen image output = (length screen ≡ pixels_of d) × (length image ≡ 4096) × (length output ≡ pixels_of d)

abbrev pub Picture20 : Device → List ℕ → List ℕ → List ℕ → Type 0
Picture20 d screen image output = ¬ PictureLent d screen image output

abbrev pub Picture24 : Device → List ℕ → List ℕ → List ℕ → Type 0
Picture24 d screen image output = PictureLent d screen image output × (pixels_of d < width_of d * height_of d)

-- ---- append: 1

-- "An append .. moves NEXT_CMD on by 4, MAX becoming MIN; if that would make it equal ring word 3, it is refused". So is one where ring words 0 to 3 are
-- not as CONFIG_DONE asks.
abbrev pub Append1 : List ℕ → Type 0
Append1 ring = (¬ Usable ring) ⊎ (moved_on (min_of ring) (max_of ring) (next_of ring) ≡ stop_of ring)

-- ---- a command's write: document 02, P2, "33 ..; 41 ..; 20 ..; 40 ..; in that order, nothing written"

module _ (ring : List ℕ) (c : Command) where
  -- "33 if the ring words are missing or unusable by document 01's rule, M being four times the lent words"
  abbrev pub Submit33 : Type 0
  Submit33 = ¬ Usable ring

  -- "41 if the number isn't in document 01's command table or the device would fault with 11 or 12"
  abbrev pub Submit41 : Type 0
  Submit41 = Usable ring × NotTaken (carried_in ring) c.head

  -- "the lent pixels or data .. number what the head says (none where no head asks for them)"
  abbrev pub LentAsAsked : Type 0
  LentAsAsked =
      (length c.pixels ≡ pixels_asked (data_of (kind_in c.head)) c.head) × (length c.bytes ≡ bytes_asked (data_of (kind_in c.head)) c.head)

  -- "20 if the lent pixels or data don't number what the head says"
  abbrev pub Submit20 : Type 0
  Submit20 = Usable ring × (¬ NotTaken (carried_in ring) c.head) × (¬ LentAsAsked)

  -- "40 exactly if the command could fit the ring but there are too few free words now"
  abbrev pub Submit40 : Type 0
  Submit40 = Usable ring × (¬ NotTaken (carried_in ring) c.head) × LentAsAsked × (free_words ring < length (command_words c))

  -- none of these: it is appended
  abbrev pub Submit0 : Type 0
  Submit0 = Usable ring × (¬ NotTaken (carried_in ring) c.head) × LentAsAsked × (length (command_words c) ≤ free_words ring)

-- ---- the copy rule: document 02, P5, "Demand 2's copy rule reads 'in the mode or offscreen' for both pixels"

-- Of a copy into the rectangle r: the source pixel of the offset whose destination stands at place k.
abbrev pub source_x : Device → Point → Rect → ℕ → ℕ
source_x d from r k = from.x + (column_of (width_of d) k - r.x)

abbrev pub source_y : Device → Point → Rect → ℕ → ℕ
source_y d from r k = from.y + (row_of (width_of d) k - r.y)

-- "In a copy, offset (i, j) moves exactly if both its source and its destination pixel lie in the mode", or offscreen: the destination is one of the
-- rectangle's, and both are in the mode or offscreen.
abbrev pub CopyMoves : Device → Point → Rect → ℕ → Type 0
CopyMoves d from r k =
    Has r.x r.y r.w r.h (column_of (width_of d) k) (row_of (width_of d) k)
    × (joined d (column_of (width_of d) k) (row_of (width_of d) k) ≡ true)
    × (joined d (source_x d from r k) (source_y d from r k) ≡ true)
