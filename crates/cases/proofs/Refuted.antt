-- What demand 3's predicates, the start's test and the readings rule out: each line says what a wrong program would have done. That a claim rules something
-- out shows that it is not empty; that the right program meets it, `Caught.right_is_not_caught` and `history`'s theorems. Of demand 3 the impostors of
-- document 01 are in `Caught`: a count that is one too many is `Caught.count_from_the_air`.
-- Assumes nothing.
use Rattle.std.proofs.Common.{None, ◌≡◌, refl, sym, ap, ◌∙◌, true, false, List, [], ◌∷◌, ◌++◌, map, ℕ, arith, length, get_or, replicate}
use mathlib.Core.Option.{Option, none, some}
use borrow.Table.Steps.{cases}
use Rattle.geometry.specs.Pixels.{in_rect, tabulate, painted, painted_if}
use Rattle.geometry.proofs.Tests.{not_both}
use Rattle.pixel.specs.RasterOperation.{raster_op}
use Rattle.raster.specs.Painters.{rows_fit, filled_in}
use Rattle.execution.specs.declared.Cause.{Cause}
use Rattle.execution.specs.declared.Cause.TheVariants.{NotOffered}
use Rattle.execution.specs.declared.End.TheVariants.{Drained, Waiting, Fault}
use Rattle.execution.specs.Straight.{Line, end_of, steps, straight, whole, ending}
use Rattle.execution.specs.Table.{unless, turn_of}
use Rattle.execution.specs.Claim.{Op, append, run, spent, standing, ended, Reply, appended, ran, Event, reply_number, taken, counted, met_end, met, faulted, first, fed, count_all, standing_fault, verdict, says}
use Rattle.execution.specs.Turns.{runs}
use Rattle.execution.specs.Queue.{fresh, offer, try, act, play}
use Rattle.execution.proofs.QueueLaws.{play_ops, demand3, demand3_unique}
use Rattle.command.specs.Commands.{entry, kind_of, commands}
use Rattle.command.proofs.Laws.{command_laws}
use Rattle.effect.specs.Effects.{Scene, scene, Machine, reached, screen_after, posted_after, done}
use Rattle.ring.specs.declared.Ring.{Ring}
use Rattle.ring.specs.Acceptance.{stop_of, offset_usable, bounds_usable, usable}
use Rattle.ring.specs.Append.{moved_on, can_append, append_to, append_of}
use Rattle.ring.specs.Waiting.{after, placed}
use Rattle.run.specs.Run.{machine, known_of}
use Rattle.device.specs.declared.Condition.TheVariants.{Running}
use Rattle.device.specs.Device.{condition_of, sizes_good, mode_good, condition_good, defined_good, well_formed}
use Rattle.register_read.specs.AfterWrites.{read_back, busy_after_write}
use Rattle.register_read.specs.Registers.{bit}
use Rattle.device_run.specs.Run.{lent, lent_good, scene_for}
use Rattle.history.specs.Calls.{World, CallOutcome, History}
use Rattle.history.specs.Demand.{ring_at_start, is_start, world_turn, world_words, world_machine, words_on, Demand, numbers_of, Shown}
use Rattle.history.proofs.Starts.{start_says}
use Rattle.cases.specs.Cases.{AllEqual, ◌is◌, smallest}
use Rattle.cases.specs.Tables.{fresh_device, set_device}
use Rattle.cases.specs.Impostors.{fence, answering, Anything, Claimed, Caught, device}

-- an operation with its answer
abbrev answered : Op → Reply → Event
answered o r = record { op = o; reply = r }

abbrev not_offered : Reply
not_offered = ran (ended (Fault NotOffered)) 0

abbrev appends : ℕ → List Op
appends n = replicate n (append 0)

-- ---- execution/Claim.Demand3, over document 01's commands and the smallest ring: in any mode, from any machine

module _ (s : Scene) (m : Machine) where
  -- a ring that carries 2,559 words took one more
  pub full_ring_takes : Caught s m (appends 2560) (ran spent 0) Anything
  unfolding straight taken counted fed count_all standing_fault says
  full_ring_takes z f tt d =
      let r : ◌≡◌ {A = Reply} (appended true) (appended false) =
      d.answers (answering (ran spent 0) (appends 2559)) [] (answered (append 0) (appended true)) refl in
      let n : ◌≡◌ {A = ℕ} 0 1 = ap reply_number r in
      omega arith

  -- an empty ring refused a word
  pub room_refused : (z : Line Machine) (f : Option Cause) → Claimed s m (answered (append 30) (appended false) ∷ []) z f → ⊥
  unfolding straight fed count_all standing_fault says
  room_refused z f d =
      let r : ◌≡◌ {A = Reply} (appended false) (appended true) = d.answers [] [] (answered (append 30) (appended false)) refl in
      let n : ◌≡◌ {A = ℕ} 1 0 = ap reply_number r in
      omega arith

  -- a word was taken, and none waits
  pub word_lost : Caught s m (append 30 ∷ []) (ran spent 0) (λ z. z.words ≡ [])
  unfolding straight taken counted fed count_all
  word_lost z f gone d =
      let one : z.words ≡ 30 ∷ [] = ap (λ (a : Line Machine). a.words) d.same in
      let n : ◌≡◌ {A = ℕ} 1 0 = ap length (sym one ∙ gone) in
      omega arith

  -- half a FENCE waits, and the run said drained (0) where it waits for the rest (1)
  pub drained_for_waiting : Caught s m (append 30 ∷ run 1 ∷ []) (ran (ended Drained) 0) Anything
  unfolding steps straight whole end_of ending verdict unless turn_of taken counted faulted first fed count_all standing_fault says entry kind_of commands
  drained_for_waiting z f tt d =
      let r : ◌≡◌ {A = Reply} (ran (ended Drained) 0) (ran (ended Waiting) 0) =
      d.answers (answering (ran (ended Drained) 0) (append 30 ∷ [])) [] (answered (run 1) (ran (ended Drained) 0)) refl in
      let n : ◌≡◌ {A = ℕ} 0 1 = ap reply_number r in
      omega arith

  -- the budget is spent (2), and the run said drained (0)
  pub drained_for_spent : Caught s m (fence 7 ++ run 1 ∷ []) (ran (ended Drained) 1) Anything
  unfolding steps straight whole end_of ending verdict unless turn_of taken counted faulted first fed count_all standing_fault says entry kind_of commands
  drained_for_spent z f tt d =
      let r : ◌≡◌ {A = Reply} (ran (ended Drained) 1) (ran spent 1) =
      d.answers (answering (ran (ended Drained) 1) (fence 7)) [] (answered (run 1) (ran (ended Drained) 1)) refl in
      let n : ◌≡◌ {A = ℕ} 0 2 = ap reply_number r in
      omega arith

  -- a fault stands (23), and the run answered it once more (10)
  pub fault_again : Caught s m (append 20 ∷ run 1 ∷ run 1 ∷ []) not_offered Anything
  unfolding steps straight whole end_of ending verdict unless turn_of taken counted met_end met faulted first fed count_all standing_fault says entry kind_of commands
  fault_again z f tt d =
      let r : ◌≡◌ {A = Reply} not_offered (ran standing 0) =
      d.answers (answering not_offered (append 20 ∷ run 1 ∷ [])) [] (answered (run 1) not_offered) refl in
      let n : ◌≡◌ {A = ℕ} 10 23 = ap reply_number r in
      omega arith

  -- a run answered 10, and no fault stands
  pub fault_lost : (z : Line Machine) → Claimed s m (answering not_offered (append 20 ∷ run 1 ∷ [])) z none → ⊥
  unfolding met_end met faulted first standing_fault
  fault_lost z d = let e : ◌≡◌ {A = Option Cause} none (some NotOffered) = d.fault_stands in let n : ◌≡◌ {A = ℕ} 0 1 = cc in omega arith

  -- no run answered one, and a fault stands
  pub fault_from_nowhere : (z : Line Machine) (c : Cause) → Claimed s m [] z (some c) → ⊥
  unfolding standing_fault
  fault_from_nowhere z c d = let e : some c ≡ none = d.fault_stands in let n : ◌≡◌ {A = ℕ} 0 1 = cc in omega arith

-- a fill was counted, and the screen is as before: one pixel, colour 5
pub unpainted : (cursor : List ℕ) (f : Option Cause) (z : Line Machine) → z.machine.screen ≡ 0 ∷ []
    → Claimed (scene (record { width = 1; height = 1; rows = 1 }) [] false) (machine (record { fence = 0; defined = None }) (0 ∷ []) cursor 0)
    (answering (ran spent 1) (map append (2 ∷ 5 ∷ 0 ∷ 0 ∷ 1 ∷ 1 ∷ []) ++ run 1 ∷ [])) z f → ⊥
unfolding straight unless turn_of taken counted fed count_all entry kind_of commands done screen_after reached rows_fit filled_in painted_if painted tabulate in_rect raster_op
unpainted cursor f z old d =
    let new : z.machine.screen ≡ 5 ∷ [] = ap (λ (a : Line Machine). a.machine.screen) d.same in
    let n : ◌≡◌ {A = ℕ} 5 0 = ap (λ (l : List ℕ). get_or l 0 0) (sym new ∙ old) in
    omega arith

-- a fill of two rows was counted, and painted the mode's alone: one column, and an offscreen row behind the mode's
pub offscreen_unpainted : (cursor : List ℕ) (f : Option Cause) (z : Line Machine) → z.machine.screen ≡ 5 ∷ 0 ∷ []
    → Claimed (scene (record { width = 1; height = 1; rows = 2 }) [] false) (machine (record { fence = 0; defined = None }) (0 ∷ 0 ∷ []) cursor 0)
    (answering (ran spent 1) (map append (2 ∷ 5 ∷ 0 ∷ 0 ∷ 1 ∷ 2 ∷ []) ++ run 1 ∷ [])) z f → ⊥
unfolding straight unless turn_of taken counted fed count_all entry kind_of commands done screen_after reached rows_fit filled_in painted_if painted tabulate in_rect raster_op
offscreen_unpainted cursor f z old d =
    let new : z.machine.screen ≡ 5 ∷ 5 ∷ [] = ap (λ (a : Line Machine). a.machine.screen) d.same in
    let n : ◌≡◌ {A = ℕ} 5 0 = ap (λ (l : List ℕ). get_or l 1 0) (sym new ∙ old) in
    omega arith

-- ---- history/Demand.Demand and Shown: the smallest ring, from any start

abbrev ring : Ring
ring = record { min = 4; max = 2564; stop = 4 }

-- FENCE 7 was counted, and ring word 3 has not moved on from 16
pub stop_left : (w₀ w : World) → stop_of w.lent.ring ≡ 16 → Demand ring w₀ (answering (ran spent 1) (fence 7 ++ run 1 ∷ [])) w → ⊥
unfolding straight unless turn_of taken counted fed count_all entry kind_of commands words_on after
stop_left w₀ w old d =
    let none_left : world_words ring w ≡ [] = ap (λ (a : Line Machine). a.words) d.claim.same in
    let moved : stop_of w.lent.ring ≡ 24 = rw none_left at d.word_3 in
    omega arith

-- ring word 3 has moved on to 24, and the device still goes by STOP 16
pub stop_forgotten : (w₀ w : World) (es : List Event) → stop_of w.lent.ring ≡ 24 → condition_of w.device ≡ Running ring → Demand ring w₀ es w → ⊥
stop_forgotten w₀ w es new old d = let k : 16 ≡ stop_of w.lent.ring = (d.remembered ring old).2 in omega arith

-- with MIN 28 FENCE 7 was counted, and ring word 6 is another: the run never posts
pub never_posts : (w₀ w : World) → (get_or w.lent.ring 6 0 ≡ 7 → ⊥)
    → Demand (record { min = 7; max = 2567; stop = 7 }) w₀ (answering (ran spent 1) (fence 7 ++ run 1 ∷ [])) w → ⊥
unfolding straight unless turn_of taken counted fed count_all entry kind_of commands done posted_after
never_posts w₀ w other d = other (d.word_6 (omega arith))

-- what a list of operations answers from outside is one list of numbers, that of the queue
pub one_answer : (w₀ : World) (os : List Op) (h : History) → Shown ring w₀ os h
    → map (λ (o : CallOutcome). o.answer ∷ o.values) h.outcomes
    ≡ map numbers_of (play smallest (world_turn w₀ ring) os (fresh (world_machine ring w₀))).events
one_answer w₀ os h x =
    let turn = world_turn w₀ ring in
    let m = world_machine ring w₀ in
    let right = demand3 (command_laws known_of (done (scene_for w₀.device w₀.lent ring)) smallest (omega arith)) m (omega arith) os in
    let asked = x.asked ∙ sym (play_ops smallest turn os (fresh m)) in
    x.answered ∙ ap (map numbers_of) (demand3_unique smallest turn m x.demand.claim right asked).0

-- a count one too many: 2, where one command waited
pub shown_miscounted : (w₀ : World) (h : History) → map (λ (o : CallOutcome). o.answer ∷ o.values) h.outcomes ≡ (0 ∷ []) ∷ (0 ∷ []) ∷ (2 ∷ 2 ∷ []) ∷ []
    → Shown ring w₀ (fence 7 ++ run 2 ∷ []) h → ⊥
unfolding play act offer try fresh counted met_end met runs unless turn_of entry kind_of commands
shown_miscounted w₀ h wrong x =
    let n : ◌≡◌ {A = ℕ} 2 1 = ap (λ (l : List (List ℕ)). get_or (get_or l 2 []) 1 0) (sym wrong ∙ one_answer w₀ (fence 7 ++ run 2 ∷ []) h x) in
    omega arith

-- drained (0) where a word of a command waits for the rest (1)
pub shown_drained : (w₀ : World) (h : History) → map (λ (o : CallOutcome). o.answer ∷ o.values) h.outcomes ≡ (0 ∷ []) ∷ (0 ∷ 0 ∷ []) ∷ []
    → Shown ring w₀ (append 30 ∷ run 1 ∷ []) h → ⊥
unfolding play act offer try fresh met_end met runs unless turn_of entry kind_of commands
shown_drained w₀ h wrong x =
    let n : ◌≡◌ {A = ℕ} 0 1 = ap (λ (l : List (List ℕ)). get_or (get_or l 1 []) 0 0) (sym wrong ∙ one_answer w₀ (append 30 ∷ run 1 ∷ []) h x) in
    omega arith

-- ---- the start of demand 3

-- a wrong length is no start, whichever memory has it
pub wrong_length_no_start : (w : World) → lent_good w.device w.lent ≡ false → is_start w ≡ false
wrong_length_no_start w wrong = cases (is_start w) (λ t. not_both _ (start_says w t).lengths wrong) (λ f. f)

-- a world of the smallest ring, with these ring words 2 and 3 and n words behind them
abbrev world_with : ℕ → List ℕ → List ℕ → List ℕ → List ℕ → World
world_with next rest framebuffer screen cursor =
    record { device = device 0 4; lent = lent (16 ∷ 10256 ∷ next ∷ 16 ∷ rest) framebuffer screen cursor; output = [] }

module _ (rest framebuffer screen cursor : List ℕ) (f : length framebuffer ≡ 4) (s : length screen ≡ 4) (c : length cursor ≡ 4096) where
  -- the right one is a start
  pub is_a_start : length rest ≡ 2560 → is_start (world_with 16 rest framebuffer screen cursor) ≡ true
  unfolding is_start ring_at_start lent_good sizes_good mode_good condition_good defined_good well_formed placed usable bounds_usable offset_usable
  is_a_start r = rw (r, f, s, c)

  -- a ring memory of one word more is none
  pub long_ring_no_start : length rest ≡ 2561 → is_start (world_with 16 rest framebuffer screen cursor) ≡ false
  unfolding is_start lent_good sizes_good mode_good condition_good defined_good well_formed placed
  long_ring_no_start r = rw r

  -- nor is one in which a word waits
  pub waiting_no_start : length rest ≡ 2560 → is_start (world_with 20 rest framebuffer screen cursor) ≡ false
  unfolding is_start ring_at_start lent_good sizes_good mode_good condition_good defined_good well_formed placed usable bounds_usable offset_usable
  waiting_no_start r = rw (r, f, s, c)

-- ---- ring/Append.appendOf

-- the ring is full, and an append took one word more: NEXT_CMD 10,252 goes on to MAX, which is MIN, and ring word 3 is there
pub full_append : (rest : List ℕ) (x : ℕ) → length rest ≡ 2560
    → append_of (16 ∷ 10256 ∷ 10252 ∷ 16 ∷ rest) x ≡ record { answer = 1; ring = 16 ∷ 10256 ∷ 10252 ∷ 16 ∷ rest }
unfolding append_of append_to can_append moved_on usable bounds_usable offset_usable
full_append rest x r = rw r

-- ---- register_read/AfterWrites: neither reading is constant

-- a register stores nothing, or always the same; ID stores any value; SYNC reads back
pub reads_differ : AllEqual
    ((read_back 2 800 640 ∷ read_back 2 801 640 ∷ [] is 800 ∷ 801 ∷ [])
    ∷ (read_back 0 0x90000001 0x90000000 ∷ read_back 0 0x90000003 0x90000000 ∷ read_back 0 5 0x90000002 ∷ [] is 0x90000001 ∷ 0x90000000 ∷ 0x90000002 ∷ [])
    ∷ (read_back 21 1 1 ∷ [] is 0 ∷ [])
    ∷ [])
unfolding read_back
reads_differ = (refl, (refl, (refl, tt)))

-- SYNC sets BUSY on a device that is not configured; ENABLE 1 or CONFIG_DONE 1 clears it, or 0 does not
pub busy_differs : AllEqual
    ((bit (busy_after_write fresh_device 21 1) ∷ bit (busy_after_write set_device 21 0) ∷ [] is 0 ∷ 1 ∷ [])
    ∷ (map (λ (v : ℕ). bit (busy_after_write set_device 1 v)) (0 ∷ 1 ∷ 2 ∷ []) is 0 ∷ 1 ∷ 1 ∷ [])
    ∷ (map (λ (v : ℕ). bit (busy_after_write set_device 20 v)) (0 ∷ 1 ∷ 2 ∷ []) is 0 ∷ 1 ∷ 1 ∷ [])
    ∷ (map (λ (i : ℕ). bit (busy_after_write set_device i 0)) (0 ∷ 2 ∷ 22 ∷ 29 ∷ []) is 1 ∷ 1 ∷ 1 ∷ 1 ∷ [])
    ∷ [])
unfolding busy_after_write
busy_differs = (refl, (refl, (refl, (refl, tt))))
