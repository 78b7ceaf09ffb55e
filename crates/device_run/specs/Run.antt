-- A run of a device: document 01, "One command out of the ring" and "Answer numbers"; document 02, P1.
use Rattle.std.specs.Prelude.{ℕ, ◌/◌, Bool, false, cond, ◌&&◌, List, eqb, length, ◌≡◌, Option, Some, None, Result, Ok, Err}
use Rattle.execution.specs.declared.End.{End}
use Rattle.execution.specs.declared.End.TheVariants.{Drained, Waiting, Fault}
use Rattle.execution.specs.Straight.{end_number, Turn, Line}
use Rattle.execution.specs.Table.{turn_of}
use Rattle.execution.specs.Claim.{Answer, spent, standing, ended, answer_number}
use Rattle.cursor.specs.Plane.{image_words}
use Rattle.ring.specs.declared.Ring.{Ring}
use Rattle.ring.specs.Acceptance.{next_of}
use Rattle.ring.specs.Waiting.{waiting, carried}
use Rattle.effect.specs.Effects.{Scene, Machine}
use Rattle.run.specs.Run.{RingOutcome, machine, table, posts_in, posted_in, run_in}
use Rattle.device.specs.declared.Condition.{Condition}
use Rattle.device.specs.declared.Condition.TheVariants.{Idle, Running, Faulted}
use Rattle.device.specs.declared.Device.{Device}
use Rattle.device_run.specs.declared.Ran.{Ran}
use Rattle.device_run.specs.declared.RunError.{RunError}
use Rattle.device_run.specs.declared.RunError.TheVariants.{WrongLength, Disabled, NotConfigured, FaultStands, TooLarge}
use Rattle.device_run.specs.declared.Memories.{Memories}
use Rattle.offscreen.specs.Offscreen.{joined}
use Rattle.device.specs.Device.{memory_of, pixels_of, width_of, height_of, rows_of, enabled_of, configured_of, condition_of, mode_fits, well_formed}

-- run: 0 drained, 1 waiting for the rest of a command, 2 budget spent, 10 to 13 a fault
abbrev pub run_number : Option End → ℕ
run_number None = 2
run_number (Some e) = end_number e

-- and where it is refused: 20 lent length, 21 disabled, 22 not configured, 23 fault already standing, 24 width·height above P
abbrev pub run_error_number : RunError → ℕ
run_error_number WrongLength = 20
run_error_number Disabled = 21
run_error_number NotConfigured = 22
run_error_number FaultStands = 23
run_error_number TooLarge = 24

-- "Calls lend 32-bit words: the ring memory (M/4 words), the framebuffer (P), the screen (P), the cursor image (4,096)"
pub record Lent : Type 0 where
  pub ring : List ℕ
  pub framebuffer : List ℕ
  pub screen : List ℕ
  pub cursor : List ℕ

-- What a call is lent, or what it leaves of that. A slice that is lent for reading is the same at exit.
abbrev pub lent : List ℕ → List ℕ → List ℕ → List ℕ → Lent
lent ring framebuffer screen cursor = record { ring = ring; framebuffer = framebuffer; screen = screen; cursor = cursor }

-- The same with another ring memory, and with another framebuffer.
abbrev pub with_ring : Lent → List ℕ → Lent
with_ring l ring = lent ring l.framebuffer l.screen l.cursor

abbrev pub with_framebuffer : Lent → List ℕ → Lent
with_framebuffer l framebuffer = lent l.ring framebuffer l.screen l.cursor

-- What the memories of a call hold.
abbrev pub contents : Memories → Lent
contents m = lent m.ring.now m.framebuffer.now m.screen.now m.cursor.now

-- They are the same memories, whatever they hold.
pub record SameMemories (m n : Memories) : Type 0 where
  pub ring : m.ring.ghost_name ≡ n.ring.ghost_name
  pub framebuffer : m.framebuffer ≡ n.framebuffer
  pub screen : m.screen.ghost_name ≡ n.screen.ghost_name
  pub cursor : m.cursor.ghost_name ≡ n.cursor.ghost_name

-- A run answers a number and "the number of commands consumed in this run", and leaves a device and the lent memories.
pub record RunOutcome : Type 0 where
  pub answer : ℕ
  pub count : ℕ
  pub device : Device
  pub lent : Lent

-- "Answers 20 to 34 change nothing; a run's count is then 0"
abbrev pub ran_of : Device → Result Ran RunError → Lent → RunOutcome
ran_of d (Ok r) l = record { answer = run_number r.end; count = r.count; device = r.device; lent = l }
ran_of d (Err e) l = record { answer = run_error_number e; count = 0; device = d; lent = l }

-- "the ring memory (M/4 words), the framebuffer (P), the screen (P), the cursor image (4,096)"
unfoldable pub lent_good : Device → Lent → Bool
lent_good d l =
    eqb (length l.ring) (memory_of d / 4)
    && (eqb (length l.framebuffer) (pixels_of d) && (eqb (length l.screen) (pixels_of d) && eqb (length l.cursor) image_words))

-- Whether a run is refused with neither 20, 21, 22 nor 24: what is left of its refusals is 23, a standing fault.
unfoldable pub ready : Device → Lent → Bool
ready d l = well_formed d && (lent_good d l && (configured_of d && (enabled_of d && mode_fits d)))

-- "A fault consumes nothing of its command and stands until CONFIG_DONE 1 is accepted"; else the ring is remembered with STOP as the run left it.
unfoldable pub condition_after : Answer → Ring → Condition
condition_after spent g = Running g
condition_after standing g = Running g
condition_after (ended Drained) g = Running g
condition_after (ended Waiting) g = Running g
condition_after (ended (Fault c)) g = Faulted c

-- "A run ending 0, 1 or in a fault clears it; one ending 2 keeps it." No run ends with 23: such a run is refused.
unfoldable pub busy_after : Answer → Bool → Bool
busy_after spent busy = busy
busy_after standing busy = busy
busy_after (ended e) busy = false

-- The device after a run.
abbrev pub settled : Device → RingOutcome → Device
settled d o = record {
  sizes = d.sizes;
  registers = d.registers;
  plane = d.plane;
  marks = o.machine.marks;
  busy = busy_after o.answer d.busy;
  condition = condition_after o.answer o.place;
}

-- The machine of straight execution that a device and the lent memories hold: ring word 6 is of it where the remembered MIN is 28 or more.
abbrev pub machine_of : Device → Lent → Ring → Machine
machine_of d l g = machine d.marks l.screen l.cursor (posted_in (posts_in g) l.ring)

-- What a run does not change: the device's mode, the pixels in the mode or offscreen and their rows, the lent framebuffer, and whether fences are posted in
-- ring word 6.
abbrev pub scene_for : Device → Lent → Ring → Scene
scene_for d l g = record {
  width = width_of d;
  height = height_of d;
  rows = rows_of d;
  joined = joined d;
  framebuffer = l.framebuffer;
  posts = posts_in g;
}

-- The words that wait from the remembered STOP up to NEXT_CMD, with the machine that they work on.
abbrev pub line_of : Device → Lent → Ring → Line Machine
line_of d l g = record { words = waiting l.ring g.min g.max g.stop (next_of l.ring / 4); machine = machine_of d l g }

-- What a turn finds in the words that wait, by document 01's table.
abbrev pub turn_for : Device → Lent → Ring → Machine → List ℕ → Turn Machine
turn_for d l g = turn_of (carried g.min g.max) (table (scene_for d l g))

-- What a run leaves of the lent memories: "framebuffer never".
abbrev pub left_of : Lent → RingOutcome → Lent
left_of l o = lent o.ring l.framebuffer o.machine.screen o.machine.cursor

abbrev pub ran : Device → Lent → RingOutcome → RunOutcome
ran d l o = record { answer = answer_number o.answer; count = o.count; device = settled d o; lent = left_of l o }

module _ (d : Device) (l : Lent) where
  -- "Answers 20 to 34 change nothing; a run's count is then 0"
  abbrev pub refused_run : ℕ → RunOutcome
  refused_run answer = record { answer = answer; count = 0; device = d; lent = l }

  -- 23 is "fault already standing". A device that is configured has a ring or a fault.
  unfoldable pub run_by : ℕ → Condition → RunOutcome
  run_by budget Idle = refused_run 22
  run_by budget (Running g) =
      ran d l (run_in (scene_for d l g) g budget l.ring (machine_of d l g))
  run_by budget (Faulted c) = refused_run 23

  -- "A run checks 20, 22, 21, 24, 23 in that order". A device that no call can have made answers 22.
  unfoldable pub run_of : ℕ → RunOutcome
  run_of budget =
      cond (well_formed d)
      (cond (lent_good d l)
      (cond (configured_of d)
      (cond (enabled_of d)
      (cond (mode_fits d) (run_by budget (condition_of d)) (refused_run 24))
      (refused_run 21))
      (refused_run 22))
      (refused_run 20))
      (refused_run 22)
