-- What demand 1 forbids: each of its predicates refuses something, and each line says what a wrong program would have done.
-- Assumes nothing.
use mathlib.Core.Path.{◌≡◌, refl, ap}
use mathlib.Core.Bool.{true, false, true≢false}
use mathlib.Core.List.{List, [], ◌∷◌}
use mathlib.Core.Logic.{⊎_elim}
use Prim.Native.Nat.{ℕ, ◌+◌, ◌≤◌, ◌<◌}
use native.Mathlib.Omega.{arith}
use lib.ListN.{get_or, set}
use borrow.Author.Tests.{lt-ltb}
use Rattle.geometry.specs.Pixels.{tabulate}
use Rattle.execution.specs.declared.Cause.TheVariants.{NotOffered}
use Rattle.execution.specs.Straight.{straight}
use Rattle.execution.specs.Table.{unless, turn_of}
use Rattle.ring.specs.declared.Ring.{Ring}
use Rattle.ring.specs.Waiting.{after, ahead, between, words, waiting}
use Rattle.writer.specs.Writing.{command, command_words, data_words}
use Rattle.register.specs.declared.Writable.TheVariants.{Width}
use Rattle.register.specs.Numbers.{numbers, register_of}
use Rattle.cursor.specs.Plane.{shape_good}
use Rattle.command.specs.declared.Kind.TheVariants.{Fence, Escape}
use Rattle.command.specs.Commands.{entry, kind_of, commands}
use Rattle.effect.specs.declared.Marks.{Marks}
use Rattle.run.specs.Run.{NoFence, NoPainting}
use Rattle.device.specs.declared.Registers.{Registers}
use Rattle.device.specs.declared.Plane.{Plane}
use Rattle.device.specs.declared.Condition.TheVariants.{Idle, Running, Faulted}
use Rattle.device.specs.declared.Device.{Device}
use Rattle.device.specs.Device.{fresh_registers, fresh, sizes_good, mode_good, condition_good, defined_good, well_formed}
use Rattle.device.specs.Device.{with_registers, with_plane, with_busy, with_condition}
use Rattle.offscreen.proofs.Joined.{joined_places}
use Rattle.register_read.specs.Registers.{writable_value}
use Rattle.register_write.specs.Registers.{set_mode}
use Rattle.device_run.specs.Run.{Lent, lent, with_ring, with_framebuffer, line_of, turn_for}
use Rattle.history.specs.Calls.{World, make, read, submit, with_device}
use Rattle.history.specs.Harm.{among, SameBut, WriteChanges, RunChanges, FromNext, AppendChanges, PictureChanges, OnlyNamed, largest_cursor}

-- ---- a world: mode 1 by 1, and a ring in which the command of a cursor of 1 by 1 waits

abbrev place : Ring
place = record { min = 4; max = 24; stop = 4 }

abbrev ring_words : List ℕ
ring_words = 16 ∷ 96 ∷ 44 ∷ 16 ∷ 22 ∷ 7 ∷ 0 ∷ 0 ∷ 1 ∷ 1 ∷ 255 ∷ 0 ∷ 0 ∷ 0 ∷ []

abbrev two : List ℕ
two = 0 ∷ 0 ∷ []

abbrev memories : Lent
memories = lent ring_words two two two

abbrev before : World
before = record { device = with_condition (with_registers (fresh 10256 2) (set_mode fresh_registers 1 1)) (Running place); lent = memories; output = two }

-- its device with another fence
abbrev fenced : ℕ → Device
fenced number = record {
  sizes = before.device.sizes;
  registers = before.device.registers;
  plane = before.device.plane;
  marks = record { fence = number; defined = before.device.marks.defined };
  busy = false;
  condition = before.device.condition;
}

-- the same with another device, with other memories, with another output
abbrev device : Device → World
device d = with_device before d

abbrev lending : Lent → World
lending l = record { device = before.device; lent = l; output = two }

abbrev showing : List ℕ → World
showing output = record { device = before.device; lent = memories; output = output }

-- MIN 28, and an ESCAPE of no bytes waits in the ring
abbrev behind : Ring
behind = record { min = 7; max = 24; stop = 7 }

abbrev escape_words : List ℕ
escape_words = 28 ∷ 96 ∷ 40 ∷ 28 ∷ 0 ∷ 0 ∷ 0 ∷ 33 ∷ 0 ∷ 0 ∷ []

abbrev escaping : World
escaping = record { device = with_condition before.device (Running behind); lent = with_ring memories escape_words; output = two }

abbrev posting_in : ℕ → World
posting_in number = record { device = escaping.device; lent = with_ring memories (set escape_words 6 number); output = two }

-- an UPDATE of one column and two rows waits there instead
abbrev update_words : List ℕ
update_words = 28 ∷ 96 ∷ 48 ∷ 28 ∷ 0 ∷ 0 ∷ 0 ∷ 1 ∷ 0 ∷ 0 ∷ 1 ∷ 2 ∷ []

abbrev updating : World
updating = record { device = escaping.device; lent = with_ring memories update_words; output = two }

abbrev updating_to : ℕ → World
updating_to pixel = record { device = escaping.device; lent = lent update_words two (0 ∷ pixel ∷ []) two; output = two }

-- three pixels, and a mode of 2 by 1; the device is a well-formed one, so that its offscreen rectangle is worked out
abbrev unevenly : ℕ → World
unevenly pixel = record {
  device = with_registers (fresh 10256 3) (set_mode fresh_registers 2 1);
  lent = lent ring_words two (0 ∷ 0 ∷ pixel ∷ []) two;
  output = two;
}

abbrev uneven : World
uneven = unevenly 0

-- ---- answers and words

-- a read that answers 5
pub no_answer : among 5 (0 ∷ 30 ∷ []) ≡ false
no_answer = refl

-- word 1 written where only word 3 may be
pub other_word : SameBut (λ i. i ≡ 3) (1 ∷ 2 ∷ []) (1 ∷ 9 ∷ []) → ⊥
other_word h = let z : ◌≡◌ {A = ℕ} 9 2 = h.elsewhere 1 (λ e. omega arith) in omega arith

-- a word lost, though every word may change
pub lost_word : SameBut (λ i. Unit {0}) (1 ∷ 2 ∷ []) (1 ∷ []) → ⊥
lost_word h = let z : ◌≡◌ {A = ℕ} 1 2 = h.same_length in omega arith

-- ---- register writes

-- GUEST_ID shows the cursor
pub guest_shows : WriteChanges 23 0 before (device (with_plane before.device (record { shown = true; id = 0; x = 0; y = 0 }))) → ⊥
guest_shows h = true≢false (ap (λ (p : Plane). p.shown) (h.plane (λ e. omega arith)))

-- GUEST_ID stores its value as WIDTH
pub guest_widens : WriteChanges 23 2 before (device (with_registers before.device (set_mode fresh_registers 2 1))) → ⊥
unfolding writable_value register_of numbers
guest_widens h = let z : ◌≡◌ {A = ℕ} 2 1 = h.registers Width (λ e. let z : ◌≡◌ {A = ℕ} 0 1 = cc in omega arith) in omega arith

-- ENABLE 1 sets BUSY
pub enable_busy : WriteChanges 1 1 before (device (with_busy before.device true)) → ⊥
enable_busy h = true≢false (h.busy (λ e. omega arith) (λ e f. omega arith) (λ e f. omega arith))

-- ENABLE 0 forgets the ring
pub enable_forgets : WriteChanges 1 0 before (device (with_condition before.device Idle)) → ⊥
enable_forgets h = let z : ◌≡◌ {A = ℕ} 0 1 = let q = h.condition (λ e. omega arith) in cc in omega arith

-- ---- runs

-- a run that consumed nothing fills a cursor word
pub nothing_fills : RunChanges 2 0 before (lending (lent ring_words two two (9 ∷ 0 ∷ []))) → ⊥
unfolding largest_cursor
nothing_fills h = let z : ◌≡◌ {A = ℕ} 9 0 = h.cursor.elsewhere 0 (λ e. omega arith) in omega arith

-- the cursor of 1 by 1 fills one word
fills_one : largest_cursor (turn_for before.device memories place) 1 (line_of before.device memories place) ≡ 1
unfolding largest_cursor turn_of unless entry kind_of commands shape_good waiting words between after
fills_one = refl

-- its command fills a second one
pub one_too_far : RunChanges 2 1 before (lending (lent ring_words two two (255 ∷ 9 ∷ []))) → ⊥
one_too_far h = let z : ◌≡◌ {A = ℕ} 9 0 = h.cursor.elsewhere 1 (λ e. omega (arith, fills_one)) in omega arith

-- a run overwrites the command that it executed, whatever it answers and counts
pub run_overwrites : (a k : ℕ) → RunChanges a k before (lending (with_ring memories (set ring_words 4 0))) → ⊥
run_overwrites a k h = let z : ◌≡◌ {A = ℕ} 0 22 = h.ring.elsewhere 4 (⊎_elim (λ e. omega arith) (λ e. omega (arith, e.0))) in omega arith

-- a run posts a fence in ring word 6, which is a word of the ring where MIN is 16
pub run_posts_low : (a k : ℕ) → RunChanges a k before (lending (with_ring memories (set ring_words 6 9))) → ⊥
run_posts_low a k h =
    let z : ◌≡◌ {A = ℕ} 9 0 = h.ring.elsewhere 6 (⊎_elim (λ e. omega arith) (λ e. omega (arith, e.1))) in omega arith

no_fence : NoFence (turn_for escaping.device escaping.lent behind) 1 (line_of escaping.device escaping.lent behind)
unfolding straight kind_of waiting words between after
no_fence j first e =
    let zero : j ≡ 0 = omega arith in
    let same : Escape ≡ Fence = rw zero at e in
    let n : ◌≡◌ {A = ℕ} 0 1 = cc in
    omega arith

-- a run that executed an ESCAPE alone writes ring word 6, though MIN is 28
pub escape_posts : (a : ℕ) → RunChanges a 1 escaping (posting_in 9) → ⊥
escape_posts a h = let z : ◌≡◌ {A = ℕ} 9 0 = h.word_6 behind refl no_fence in omega arith

uneven_good : well_formed uneven.device ≡ true
unfolding well_formed sizes_good mode_good condition_good defined_good
uneven_good = refl

-- a run paints behind the last row that lies whole in P pixels
pub run_paints : (a k : ℕ) → RunChanges a k uneven (unevenly 9) → ⊥
run_paints a k h =
    let z : ◌≡◌ {A = ℕ} 9 0 = h.screen.elsewhere 2 (λ e. omega (arith, (joined_places uneven.device uneven_good refl 2).0 e)) in omega arith

no_painting : NoPainting (turn_for updating.device updating.lent behind) 1 (line_of updating.device updating.lent behind)
unfolding straight entry kind_of waiting words between after
no_painting j first e =
    let zero : j ≡ 0 = omega arith in
    let none_painted : ⊥ = rw zero at e in
    none_painted

-- a run that executed an UPDATE alone, of one column and two rows, paints the offscreen row behind the mode's
pub update_paints : (a : ℕ) → RunChanges a 1 updating (updating_to 9) → ⊥
update_paints a h = let z : ◌≡◌ {A = ℕ} 9 0 = (h.offscreen behind refl no_painting).elsewhere 1 (λ e. omega arith) in omega arith

-- a run paints into the framebuffer
pub run_frames : (a k : ℕ) → RunChanges a k before (lending (with_framebuffer memories (9 ∷ 0 ∷ []))) → ⊥
run_frames a k h = let z : ◌≡◌ {A = ℕ} 9 0 = ap (λ (l : List ℕ). get_or l 0 0) h.framebuffer in omega arith

-- a run writes a register
pub run_widens : (a k : ℕ) → RunChanges a k before (device (with_registers before.device (set_mode fresh_registers 2 1))) → ⊥
run_widens a k h = let z : ◌≡◌ {A = ℕ} 2 1 = ap (λ (g : Registers). g.width) h.registers in omega arith

-- a run sets BUSY
pub run_busy : (a k : ℕ) → RunChanges a k before (device (with_busy before.device true)) → ⊥
run_busy a k h = ⊎_elim true≢false true≢false h.busy

-- a run reads MAX again
pub run_max : (a k : ℕ) → RunChanges a k before (device (with_condition before.device (Running (record { min = 4; max = 30; stop = 4 })))) → ⊥
run_max a k h =
    ⊎_elim
    (λ r. let z : ◌≡◌ {A = ℕ} 30 24 = let q = r.1 in let m = r.3 in cc in omega arith)
    (λ f. let z : ◌≡◌ {A = ℕ} 0 1 = let q = f.1 in cc in omega arith)
    h.condition

-- a run that answered "drained" leaves a fault
pub run_faults : (k : ℕ) → RunChanges 0 k before (device (with_condition before.device (Faulted NotOffered))) → ⊥
run_faults k h =
    ⊎_elim
    (λ r. let z : ◌≡◌ {A = ℕ} 0 1 = let q = r.1 in cc in omega arith)
    (λ f. let z : ◌≡◌ {A = ℕ} 0 10 = let q = f.1 in let n = f.2 in cc in omega arith)
    h.condition

-- a run that consumed nothing stores a fence
pub nothing_fences : (a : ℕ) → RunChanges a 0 before (device (fenced 9)) → ⊥
nothing_fences a h = let z : ◌≡◌ {A = ℕ} 9 0 = ap (λ (m : Marks). m.fence) (h.nothing_consumed refl).1 in omega arith

-- a run that consumed nothing writes ring word 6, though MIN is 28
pub nothing_posts : (a : ℕ) → RunChanges a 0 escaping (posting_in 9) → ⊥
nothing_posts a h = let z : ◌≡◌ {A = ℕ} 9 0 = ap (λ (l : Lent). get_or l.ring 6 0) (h.nothing_consumed refl).0 in omega arith

-- ---- the other calls

-- NEXT_CMD is at ring word 11, and the ring goes on for thirteen words from there
from_next : (n i : ℕ) → n ≤ 13 → FromNext ring_words n i → (11 ≤ i) × (i < 11 + n)
unfolding ahead
from_next n i few f = let k = f.0 in let at : i ≡ 11 + k = rw (lt-ltb (11 + k) 24 (omega arith)) at f.2 in omega arith

-- an append writes ring word 4, where NEXT_CMD is not
pub append_overwrites : AppendChanges 1 before (lending (with_ring memories (set ring_words 4 0))) → ⊥
append_overwrites h =
    let z : ◌≡◌ {A = ℕ} 0 22 = h.ring.elsewhere 4 (⊎_elim (λ e. omega arith) (λ f. omega (arith, from_next 1 4 (omega arith) f))) in omega arith

-- an append, or a write of a command, paints
pub append_paints : (n : ℕ) → AppendChanges n before (lending (lent ring_words two (9 ∷ 0 ∷ []) two)) → ⊥
append_paints n h = let z : ◌≡◌ {A = ℕ} 9 0 = ap (λ (l : Lent). get_or l.screen 0 0) h.others in omega arith

-- a write of a FENCE, which is two words, writes the word behind them
pub submit_too_far : OnlyNamed (submit (command (30 ∷ 7 ∷ []) [] [])) before
    (record { answer = 0; values = []; world = lending (with_ring memories (set (set (set (set ring_words 11 30) 12 7) 13 9) 2 52)) }) → ⊥
unfolding command_words data_words tabulate
submit_too_far h =
    let z : ◌≡◌ {A = ℕ} 9 0 = h.ring.elsewhere 13 (⊎_elim (λ e. omega arith) (λ f. omega (arith, from_next 2 13 (omega arith) f))) in omega arith

-- a picture writes output behind the mode
pub picture_beyond : PictureChanges before (showing (0 ∷ 9 ∷ [])) → ⊥
picture_beyond h = let z : ◌≡◌ {A = ℕ} 9 0 = h.output.elsewhere 1 (λ e. omega arith) in omega arith

-- a picture blends the cursor into the screen
pub picture_blends : PictureChanges before (lending (lent ring_words two (9 ∷ 0 ∷ []) two)) → ⊥
picture_blends h = let z : ◌≡◌ {A = ℕ} 9 0 = ap (λ (l : Lent). get_or l.screen 0 0) h.lent in omega arith

-- a read sets BUSY
pub read_busy : (i : ℕ) → OnlyNamed (read i) before (record { answer = 0; values = 0 ∷ []; world = device (with_busy before.device true) }) → ⊥
read_busy i h = true≢false (ap (λ (w : World). w.device.busy) h)

-- making gives a device that is busy
pub make_busy : OnlyNamed (make 10256 2) before (record { answer = 0; values = []; world = device (with_busy (fresh 10256 2) true) }) → ⊥
make_busy h = ⊎_elim (λ e. true≢false (ap (λ (d : Device). d.busy) e)) (λ e. true≢false (ap (λ (d : Device). d.busy) e)) h.0
