-- Document 01, "How tight the promises are": "These impostors have to be caught". For each a list of operations with the answers that it gives, a device
-- or a picture on which it breaks a claim or an equation that the code is held to.
use Rattle.std.specs.Prelude.{ℕ, ◌+◌, ◌*◌, ◌≤◌, ◌≡◌, true, false, List, [], ◌∷◌, ◌++◌, length, None, Some}
use Rattle.std.proofs.Math.Option.{Option}
use Rattle.execution.specs.declared.Cause.{Cause}
use Rattle.execution.specs.declared.End.TheVariants.{Drained}
use Rattle.execution.specs.Straight.{Line}
use Rattle.execution.specs.Table.{turn_of}
use Rattle.execution.specs.Claim.{Op, append, run, spent, standing, ended, Reply, appended, ran, Event, Demand3}
use Rattle.ring.specs.declared.Ring.{Ring}
use Rattle.effect.specs.Effects.{Scene, Machine}
use Rattle.run.specs.Run.{table}
use Rattle.device.specs.declared.Condition.TheVariants.{Idle, Running}
use Rattle.device.specs.declared.Device.{Device}
use Rattle.device.specs.Device.{fresh_registers, mode_fits, well_formed}
use Rattle.register_write.specs.Registers.{set_mode, set_state}
use Rattle.device_run.specs.Run.{Lent, lent, lent_good, run_of}
use Rattle.adapter.specs.Picture.{picture_of}
use Rattle.cases.specs.Cases.{smallest}

-- A guest's FENCE.
abbrev pub fence : ℕ → List Op
fence n = append 30 ∷ append n ∷ []

-- Operations with their answers, where each append is taken and each run answers r.
abbrev pub answering : Reply → List Op → List Event
answering r [] = []
answering r (append x ∷ os) = record { op = append x; reply = appended true } ∷ answering r os
answering r (run b ∷ os) = record { op = run b; reply = r } ∷ answering r os

-- ---- runs in a list of operations, by demand 3: lists of one or two FENCEs and a run, which touch neither screen nor cursor, so that nothing is asked of
-- the mode or of any length

abbrev pub fence_in : Line Machine → ℕ
fence_in z = z.machine.marks.fence

abbrev pub Anything : Line Machine → Type 0
Anything z = Unit {0}

-- Over document 01's commands and the smallest ring, which carries 2,559 words; in any mode with any framebuffer, from any screen, cursor and last fence:
module _ (s : Scene) (m : Machine) where
  -- operations with their answers have led to the words waiting and the machine z, and to the standing fault f, as demand 3 claims.
  abbrev pub Claimed : List Event → Line Machine → Option Cause → Type 0
  Claimed es z f = Demand3 smallest (turn_of smallest (table s)) m es z f

  -- A run among these operations that answers r and leaves such a state is caught: that is never as demand 3 claims.
  abbrev pub Caught : List Op → Reply → (Line Machine → Type 0) → Type 0
  Caught os r Leaves = (z : Line Machine) (f : Option Cause) → Leaves z → Claimed (answering r os) z f → ⊥

  -- "a run that refuses everything": 23 is the one refusal that demand 3 knows; of the others speaks `NotRefused` below.
  abbrev pub RefusesEverything : Type 0
  RefusesEverything = Caught (fence 7 ++ run 1 ∷ []) (ran standing 0) Anything

  -- "a run that answers 'drained, 0' to everything"
  abbrev pub AlwaysDrained : Type 0
  AlwaysDrained = Caught (fence 7 ++ run 1 ∷ []) (ran (ended Drained) 0) Anything

  -- ".. or touches nothing": it gives the right answer and count, and screen, cursor image, defined cursor and fence are the old ones, whatever it writes
  -- in ring word 6. The last fence was another than 7: else FENCE 7 itself leaves all of that as it was.
  abbrev pub TouchesNothing : Type 0
  TouchesNothing =
      (m.marks.fence ≡ 7 → ⊥)
      → Caught (fence 7 ++ run 1 ∷ []) (ran spent 1)
      (λ z. (z.machine.screen ≡ m.screen) × (z.machine.cursor ≡ m.cursor) × (z.machine.marks ≡ m.marks))

  -- "a first run of budget 1 that executes the whole ring while later runs only count": it gives the right answer and count, and the fence is 8.
  abbrev pub WholeRingAtOnce : Type 0
  WholeRingAtOnce = Caught (fence 7 ++ fence 8 ++ run 1 ∷ []) (ran spent 1) (λ z. fence_in z ≡ 8)

  -- "a count plucked from the air": 2, where one command waited.
  abbrev pub CountFromTheAir : Type 0
  CountFromTheAir = Caught (fence 7 ++ run 2 ∷ []) (ran spent 2) Anything

  -- The right answer is not caught: a run of budget 2 is drained after one command, and the fence is 7.
  abbrev pub RightIsNotCaught : Type 0
  RightIsNotCaught = Caught (fence 7 ++ run 2 ∷ []) (ran (ended Drained) 1) (λ z. fence_in z ≡ 7) → ⊥

-- ---- runs of a device, by `run_of`, to which `adapter::run` is held

-- A device that none of the refusals 20 to 24 concerns.
pub record CanRun (d : Device) (l : Lent) : Type 0 where
  pub well : well_formed d ≡ true
  pub right : lent_good d l ≡ true
  pub configured : d.registers.config ≡ true
  pub enabled : d.registers.enable ≡ true
  pub fits : mode_fits d ≡ true
  pub place : Ring
  pub running : d.condition ≡ Running place

-- "a run that refuses everything": there a run answers 0, 1, 2 or a fault, of any budget, whatever its ring and its memories hold.
abbrev pub NotRefused : Type 0
NotRefused = (d : Device) (l : Lent) (budget : ℕ) → CanRun d l → (run_of d l budget).answer ≤ 13

-- A device in the mode 4 by 1, enabled, and configured with a ring of the smallest size from this word on; its last fence, and STOP in words.
abbrev pub device_from : ℕ → ℕ → ℕ → Device
device_from min fence stop = record {
  sizes = record { memory = 4 * (min + 2560); pixels = 4 };
  registers = set_state (set_mode fresh_registers 4 1) 0x90000000 true true;
  plane = record { shown = false; id = 0; x = 0; y = 0 };
  marks = record { fence = fence; defined = None };
  busy = false;
  condition = Running (record { min = min; max = min + 2560; stop = stop });
}

-- With MIN 16.
abbrev pub device : ℕ → ℕ → Device
device fence stop = device_from 4 fence stop

-- Its ring memory, with ring word 3: FENCE 7 and FENCE 8 wait behind the four ring words.
abbrev pub two_fences : ℕ → List ℕ → List ℕ
two_fences stop rest = 16 ∷ 10256 ∷ 32 ∷ stop ∷ 30 ∷ 7 ∷ 30 ∷ 8 ∷ rest

-- A run of budget 1 executes FENCE 7 and no more: answer 2, count 1, the last fence is 7, STOP and ring word 3 are two words on, all else is as it was.
-- No impostor gives that: it is not refused, not drained, not untouched, not the whole ring and no other count. It is of this one device, from the last
-- fence 0, with every lent length right and any other words.
abbrev pub OneFence : Type 0
OneFence =
    (rest framebuffer screen cursor : List ℕ) → length rest ≡ 2556 → length framebuffer ≡ 4 → length screen ≡ 4 → length cursor ≡ 4096
    → run_of (device 0 4) (lent (two_fences 16 rest) framebuffer screen cursor) 1
    ≡ record { answer = 2; count = 1; device = device 7 6; lent = lent (two_fences 24 rest) framebuffer screen cursor }

-- With MIN 28: the last fence posted in ring word 6, and FENCE 7 and FENCE 8 wait behind it.
abbrev pub posted_fences : ℕ → ℕ → List ℕ → List ℕ
posted_fences stop posted rest = 28 ∷ 10268 ∷ 44 ∷ stop ∷ 0 ∷ 0 ∷ posted ∷ 30 ∷ 7 ∷ 30 ∷ 8 ∷ rest

-- Document 02, P1: "When MIN is 28 or more, an executed FENCE also writes its number to word 6". The same run there, and ring word 6 is 7: an impostor
-- that never posts leaves 0, one that posts the whole ring's fences 8. In `OneFence` MIN is 16, and word 6 stays: "below that, as today".
abbrev pub OnePosted : Type 0
OnePosted =
    (rest framebuffer screen cursor : List ℕ) → length rest ≡ 2556 → length framebuffer ≡ 4 → length screen ≡ 4 → length cursor ≡ 4096
    → run_of (device_from 7 0 7) (lent (posted_fences 28 0 rest) framebuffer screen cursor) 1
    ≡ record { answer = 2; count = 1; device = device_from 7 7 9; lent = lent (posted_fences 36 7 rest) framebuffer screen cursor }

-- ---- pictures

-- A device of one pixel, over which its cursor, of one pixel too, is shown.
abbrev pub shows : Device
shows = record {
  sizes = record { memory = 10256; pixels = 1 };
  registers = set_mode fresh_registers 1 1;
  plane = record { shown = true; id = 1; x = 0; y = 0 };
  marks = record { fence = 0; defined = Some (record { id = 1; hotx = 0; hoty = 0; w = 1; h = 1 }) };
  busy = false;
  condition = Idle;
}

-- "a picture that is always the bare screen": over a black screen the cursor's pixel is a full blue, and the picture of this one device is not the screen.
-- The cursor image is lent with its 4,096 words, of which the picture reads the first.
abbrev pub BareScreen : Type 0
BareScreen = (rest : List ℕ) → length rest ≡ 4095 → ((picture_of shows (0 ∷ []) (0xFF0000FF ∷ rest) (0 ∷ [])).output ≡ 0 ∷ []) → ⊥
