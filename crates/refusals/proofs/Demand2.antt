-- Demand 2: "The device does what the published SVGA interface says, as document 01 condenses it: .. and a refusal comes exactly when its rule says so."
--
-- Call by call: the definition that the call's contract states an equation with, and for each refusal the if and only if. `A ↔ B` reads: A if and only
-- if B. The rules, as Run20 for a run's answer 20, are in specs/Refusing.antt: each is document 01's, or document 02's for a command's write, with those that
-- are checked before it ruled out. `-0` is what is taken, `-nothing` that a refusal changes nothing, `-ill-formed` what a device value is answered that no
-- call can have made (`device/Device.well_formed`). Index, value, budget, word, command and lent memories are any.
-- Assumes nothing.
use Rattle.std.proofs.Common.{None, ◌≡◌, refl, sym, ap, ◌∙◌, true, false, true≢false, List, [], ◌∷◌, ◌≢◌, ◌↔◌, ◌⊎◌, inl, inr, ⊎_elim, ℕ, ◌*◌, ◌≤◌, ◌<◌, arith, eqb, length, get_or, eqb-true, leb-true, le-leb}
use mathlib.Core.Bool.{false≢true}
use mathlib.Core.Logic.Iff
use borrow.Author.Tests.{eqb-false, lt-leb}
use borrow.Table.Steps.{cases}
use Rattle.geometry.proofs.Tests.{by_cond, not_both}
use Rattle.execution.specs.declared.Cause.{Cause}
use Rattle.execution.specs.declared.Cause.TheVariants.{NotOffered, BadOperand, TooLong, BadNext}
use Rattle.execution.specs.declared.End.{End}
use Rattle.execution.specs.declared.End.TheVariants.{Drained, Waiting, Fault}
use Rattle.execution.specs.Straight.{cause_number, end_number, ends, exec}
use Rattle.execution.specs.Turns.{runs}
use Rattle.execution.proofs.QueueLaws.{RunsRight}
use Rattle.execution.specs.Table.{Laws}
use Rattle.ring.specs.declared.Ring.{Ring}
use Rattle.ring.specs.Acceptance.{min_of, max_of, next_of, stop_of, usable, Usable}
use Rattle.ring.specs.Waiting.{carried, next_good}
use Rattle.ring.specs.Append.{moved_on, can_append, append_of}
use Rattle.ring.proofs.AppendLaws.{append-refused}
use Rattle.register.specs.declared.Register.{Register}
use Rattle.register.specs.declared.Register.TheVariants.{Writes, Reads, Absent}
use Rattle.register.specs.Numbers.{register_of}
use Rattle.command.specs.declared.Action.{Action}
use Rattle.command.proofs.Laws.{command_laws}
use Rattle.effect.specs.Effects.{Machine, done}
use Rattle.run.specs.Run.{known_of, NoFence, left, fitting, run_in}
use Rattle.device.specs.declared.Condition.{Condition}
use Rattle.device.specs.declared.Condition.TheVariants.{Faulted}
use Rattle.device.specs.declared.Device.{Device}
use Rattle.device.specs.Device.{pixels_of, width_of, height_of, condition_of, sizes_good, mode_fits, well_formed, with_busy, with_condition}
use Rattle.device.specs.Making.{made_of}
use Rattle.register_read.specs.Answers.{Reading}
use Rattle.adapter.specs.Fence.{fence_of}
use Rattle.adapter.specs.Picture.{picture_of}
use Rattle.register_read.specs.Registers.{read_by, read_of}
use Rattle.register_write.specs.Registers.{written}
use Rattle.register_write.specs.Rules.{no_register, read_only, bad_value, wrong_length, ring_refused, is_taken}
use Rattle.writer.specs.Writing.{Command, command, carried_in, write_of}
use Rattle.writer.proofs.Taking.{not_taken, taken_is}
use Rattle.writer.proofs.Appending.{write_refused}
use Rattle.device_run.specs.Run.{Lent, RunOutcome, condition_after, busy_after, machine_of, scene_for, line_of, turn_for, ran, refused_run, run_by, run_of}
use Rattle.device.proofs.Kept.{make_refused}
use Rattle.register_write.proofs.Refusals as WriteRefusals
use Rattle.register_read.proofs.Refusals as ReadRefusals
use Rattle.adapter.proofs.Refusals as PictureRefusals
use Rattle.device_run.proofs.RunLaws.{run_by_lem}
use Rattle.refusals.specs.Refusing.{is_refusal, Sizes, Make34, Write30, Write31, Write32, Write20, Write33, Write0, Read30}
use Rattle.refusals.specs.Refusing.{Run20, Run22, Run21, Run24, Run23, Starts, NextUsable, left_by, passed_by, whole_waiting, stops_at, Reaches, RunLeaves}
use Rattle.refusals.specs.Refusing.{PictureLent, Picture20, Picture24, Append1}
use Rattle.refusals.specs.Refusing.{Submit33, Submit41, Submit20, Submit40, Submit0}
use Rattle.refusals.specs.Refusing.{Turn0, Turn10, HeadMissing, HeadBad, Turn12, WordsMissing, OperandBad, Executes}
use Rattle.refusals.proofs.Reasons.{fails, sizes_good_lem, ring_usable, not_usable, picture_lent, lent_as_asked, next_usable, next_unusable_lem, ranged}
use Rattle.refusals.proofs.Reasons.{end_number_lem, stops_2, verdict_ends, run_stops, run_none, run_unusable, run_straight, fault_after, ring_carries}
use Rattle.refusals.proofs.Reasons as Reasons
use Rattle.refusals.proofs.Rules.{write_why, ended_taken, is_lent, not_lent, start, start_fits, start_ended, ran_leaves, ran_posts, ran_never_zero, ran_waits}
use Rattle.refusals.proofs.Rules.{leaves_one, leaves_six, by_refusals, run_why, submit_why, fence_0_not_taken}
use Rattle.refusals.proofs.Rules.{turn_why, finds_0, finds_10, finds_1, finds_11, finds_12, finds_command}

not_zero : {a : ℕ} → is_refusal a ≡ true → a ≡ 0 → ⊥
unfolding is_refusal
not_zero e z = false≢true (ap is_refusal (sym z) ∙ e)

-- ---- making a device

module _ (memory pixels : ℕ) where
  -- `adapter::make` equals `device/Making.made_of`: an answer and, if it is 0, a device

  -- "M is a multiple of 4 from 10,256 to 2,097,152; P is 1 to 4,096,000; otherwise answer 34."
  pub make_34 : ((made_of memory pixels).answer ≡ 34) ↔ Make34 memory pixels
  make_34 = Iff.trans (make_refused memory pixels) (fails (sizes_good memory pixels) (sizes_good_lem memory pixels))

  pub make_0 : ((made_of memory pixels).answer ≡ 0) ↔ Sizes memory pixels
  unfolding made_of
  make_0 =
      cases (sizes_good memory pixels)
      (λ t. rw t (λ e. (sizes_good_lem memory pixels).0 t, λ s. refl))
      (λ f. rw f (λ e. absurd (omega arith), λ s. not_both (sizes_good memory pixels) ((sizes_good_lem memory pixels).1 s) f))

  -- "making yields no device"
  pub make_nothing : is_refusal (made_of memory pixels).answer ≡ true → (made_of memory pixels).device ≡ None
  unfolding made_of is_refusal
  make_nothing = cases (sizes_good memory pixels) (λ t. rw t (λ e. absurd (false≢true e))) (λ f. rw f (λ e. refl))

-- ---- register write

module _ (d : Device) (ring : List ℕ) (index v : ℕ) where
  -- `adapter::write` equals `register_write/Registers.written`: an answer and the device that is left

  -- "A register write checks 30, 31, 32."
  pub write_30 : well_formed d ≡ true → ((written d ring index v).answer ≡ 30) ↔ Write30 index
  write_30 m = (write_why d ring index v m 30, λ x. WriteRefusals.only d ring index v m 30 (no_register x))

  pub write_31 : well_formed d ≡ true → ((written d ring index v).answer ≡ 31) ↔ Write31 index
  write_31 m = (write_why d ring index v m 31, λ x. WriteRefusals.only d ring index v m 31 (read_only x.0 x.1))

  pub write_32 : well_formed d ≡ true → ((written d ring index v).answer ≡ 32) ↔ Write32 index v
  write_32 m = (
    write_why d ring index v m 32,
    λ x. WriteRefusals.only d ring index v m 32 (bad_value x.0 x.1 ((fails _ (ranged x.0 v)).1 x.2)),
  )

  -- "CONFIG_DONE 1: first 32, then 20, then 33."
  pub write_20 : well_formed d ≡ true → ((written d ring index v).answer ≡ 20) ↔ Write20 d ring index v
  write_20 m = (write_why d ring index v m 20, λ x. WriteRefusals.only d ring index v m 20 (wrong_length x.0 x.1 x.2))

  pub write_33 : well_formed d ≡ true → ((written d ring index v).answer ≡ 33) ↔ Write33 d ring index v
  write_33 m = (
    write_why d ring index v m 33,
    λ x. WriteRefusals.only d ring index v m 33 (ring_refused x.0 x.1 x.2 ((not_usable ring).1 x.3)),
  )

  -- else it is taken
  pub write_0 : well_formed d ≡ true → ((written d ring index v).answer ≡ 0) ↔ Write0 d ring index v
  write_0 m = (
    write_why d ring index v m 0,
    λ x.
        WriteRefusals.only d ring index v m 0
        (is_taken x.0 x.1 ((ranged x.0 v).1 x.2) (λ c o. let y = x.3 c o in (y.0, (ring_usable ring).1 y.1))),
  )

  -- "Answers 20 to 34 change nothing"
  pub write_nothing : is_refusal (written d ring index v).answer ≡ true → (written d ring index v).device ≡ d
  write_nothing e = WriteRefusals.refused_changes_nothing d ring index v (not_zero e)

  -- a device that no call can have made has no registers
  pub write_ill_formed : well_formed d ≡ false → (written d ring index v).answer ≡ 30
  write_ill_formed f = rw (WriteRefusals.ill_formed_write d ring index v f)

-- ---- register read

module _ (d : Device) (index : ℕ) where
  -- `adapter::read` equals `register_read/Registers.read_of`: an answer and a value

  pub read_30 : well_formed d ≡ true → ((read_of d index).answer ≡ 30) ↔ Read30 index
  read_30 m = ReadRefusals.read_30 d index m

  pub read_0 : well_formed d ≡ true → ((read_of d index).answer ≡ 0) ↔ (¬ Read30 index)
  unfolding read_of read_by
  read_0 m = rw m (go (register_of index))
    where
      go : (r : Register) → ((read_by d r).answer ≡ 0) ↔ (¬ (r ≡ Absent))
      go (Writes w) = (λ e z. true≢false cc, λ n. refl)
      go (Reads r) = (λ e z. true≢false cc, λ n. refl)
      go Absent = (λ e. absurd (omega arith), λ n. absurd (n refl))

  -- "Reading an absent register gives 30 and value 0." A device that no call can have made has no registers.
  pub read_nothing : is_refusal (read_of d index).answer ≡ true → read_of d index ≡ record { answer = 30; value = 0 }
  unfolding read_of read_by is_refusal
  read_nothing =
      by_cond (λ (r : Reading). is_refusal r.answer ≡ true → r ≡ record { answer = 30; value = 0 }) (well_formed d) (λ m. go (register_of index)) (λ f e. refl)
    where
      go : (r : Register) → is_refusal (read_by d r).answer ≡ true → read_by d r ≡ record { answer = 30; value = 0 }
      go (Writes w) e = absurd (false≢true e)
      go (Reads r) e = absurd (false≢true e)
      go Absent e = refl

-- ---- one turn of a run, on the words w that wait in the ring g; its numbers are `execution/Straight.end_number`

-- inside: "The ring holds (MAX − MIN)/4 words and carries one fewer."
abbrev cap : Ring → ℕ
cap g = carried g.min g.max

module _ (d : Device) (l : Lent) (g : Ring) (m : Machine) (w : List ℕ) where
  -- what an action does to the machine
  abbrev does : Action → List ℕ → Machine → Machine
  does = done (scene_for d l g)

  -- "NEXT_CMD = STOP: 0."
  pub turn_0 : (turn_for d l g m w ≡ ends Drained) ↔ Turn0 w
  turn_0 = (turn_why known_of does (cap g) m w (ends Drained), finds_0 known_of does (cap g) m w)

  -- "Number not offered: 10."
  pub turn_10 : (turn_for d l g m w ≡ ends (Fault NotOffered)) ↔ Turn10 w
  turn_10 = (turn_why known_of does (cap g) m w (ends (Fault NotOffered)), finds_10 known_of does (cap g) m w)

  -- "Head incomplete: 1." "Words missing: 1."
  pub turn_1 : (turn_for d l g m w ≡ ends Waiting) ↔ (HeadMissing w ⊎ WordsMissing (carried g.min g.max) w)
  turn_1 = (turn_why known_of does (cap g) m w (ends Waiting), finds_1 known_of does (cap g) m w)

  -- "Cursor head bad: 11." "Raster operation above 15: 11." Document 02, P6: "11 for FENCE 0"
  pub turn_11 : (turn_for d l g m w ≡ ends (Fault BadOperand)) ↔ (HeadBad w ⊎ OperandBad (known_of m) (carried g.min g.max) w)
  turn_11 = (turn_why known_of does (cap g) m w (ends (Fault BadOperand)), finds_11 known_of does (cap g) m w)

  -- "Length above what the ring carries: 12."
  pub turn_12 : (turn_for d l g m w ≡ ends (Fault TooLong)) ↔ Turn12 (carried g.min g.max) w
  turn_12 = (turn_why known_of does (cap g) m w (ends (Fault TooLong)), finds_12 known_of does (cap g) m w)

  -- "Then it is executed": n words, which leave the machine s
  pub turn_executes : ((n : ℕ) × (s : Machine) × (turn_for d l g m w ≡ exec n s)) ↔ Executes (known_of m) (carried g.min g.max) w
  turn_executes = (λ x. turn_why known_of does (cap g) m w _ x.2, λ x. (_, _, finds_command known_of does (cap g) m w x))

-- ---- run

module _ (d : Device) (l : Lent) (budget : ℕ) where
  -- `adapter::run` equals `device_run/Run.run_of`: an answer, a count, and the device and lent memories that are left

  -- "A run checks 20, 22, 21, 24, 23 in that order"
  pub run_20 : well_formed d ≡ true → ((run_of d l budget).answer ≡ 20) ↔ Run20 d l
  unfolding run_of
  run_20 m = (run_why d l m budget 20, λ x. rw (m, (not_lent d l).1 x))

  pub run_22 : well_formed d ≡ true → ((run_of d l budget).answer ≡ 22) ↔ Run22 d l
  unfolding run_of
  run_22 m = (run_why d l m budget 22, λ x. rw (m, (is_lent d l).1 x.0, x.1))

  pub run_21 : well_formed d ≡ true → ((run_of d l budget).answer ≡ 21) ↔ Run21 d l
  unfolding run_of
  run_21 m = (run_why d l m budget 21, λ x. rw (m, (is_lent d l).1 x.0, x.1, x.2))

  pub run_24 : well_formed d ≡ true → ((run_of d l budget).answer ≡ 24) ↔ Run24 d l
  unfolding run_of
  run_24 m = (
    run_why d l m budget 24,
    λ x. rw (m, (is_lent d l).1 x.0, x.1, x.2, lt-leb _ _ x.3),
  )

  pub run_23 : well_formed d ≡ true → ((run_of d l budget).answer ≡ 23) ↔ Run23 d l
  unfolding run_by
  run_23 m = (
    run_why d l m budget 23,
    λ x.
        let right = (is_lent d l).1 x.0 in
        rw (run_by_lem d l budget (Faulted x.4.0) m right x.1 x.2 (le-leb _ _ x.3) x.4.1),
  )

  -- else it is not refused, and starts
  pub run_taken : well_formed d ≡ true → (is_refusal (run_of d l budget).answer ≡ false) ↔ ((g : Ring) × Starts d l g)
  unfolding is_refusal
  run_taken m = (
    by_refusals d l budget
        (λ (o : RunOutcome). is_refusal o.answer ≡ false → (g : Ring) × Starts d l g)
        (not_both (well_formed d) m)
        (λ x e. absurd (false≢true (sym e)))
        (λ x e. absurd (false≢true (sym e)))
        (λ x e. absurd (false≢true (sym e)))
        (λ x e. absurd (false≢true (sym e)))
        (λ x e. absurd (false≢true (sym e)))
        (λ n g s e. (g, s)),
    λ x. rw (start d l m x.0 budget x.1) (ended_taken _ (start_ended d l m x.0 budget x.1)),
  )

  -- "Answers 20 to 34 change nothing; a run's count is then 0": the device and every lent memory are as they were
  pub run_nothing : is_refusal (run_of d l budget).answer ≡ true
      → run_of d l budget ≡ record { answer = (run_of d l budget).answer; count = 0; device = d; lent = l }
  run_nothing =
      by_refusals d l budget
      (λ (o : RunOutcome). is_refusal o.answer ≡ true → o ≡ refused_run d l o.answer)
      (λ f e. refl)
      (λ x e. refl)
      (λ x e. refl)
      (λ x e. refl)
      (λ x e. refl)
      (λ x e. refl)
      (λ m g s e. not_both _ e (ended_taken _ (start_ended d l m g budget s)))

  -- a device that no call can have made is not configured
  pub run_ill_formed : well_formed d ≡ false → (run_of d l budget).answer ≡ 22
  unfolding run_of
  run_ill_formed f = rw f

  -- A run that starts, on the ring g.
  module _ (m : well_formed d ≡ true) (g : Ring) (s : Starts d l g) where
    -- it is `run/Run.run_in`: what it leaves is said there
    pub run_starts : run_of d l budget ≡ ran d l (run_in (scene_for d l g) g budget l.ring (machine_of d l g))
    run_starts = start d l m g budget s

    -- inside: the ring lies in its memory and carries the longest head, so that the laws of straight execution hold of it
    fits : fitting g (length l.ring) (length l.cursor) ≡ true
    fits = start_fits d l m g budget s

    carries : 10 ≤ cap g
    carries = ring_carries d m g s.1 s.4

    laws : Laws (cap g) (turn_for d l g)
    laws = command_laws known_of (done (scene_for d l g)) (cap g) carries

    straight_so : NextUsable g (next_of l.ring)
        → let r = runs (turn_for d l g) budget (line_of d l g) in
        (run_in (scene_for d l g) g budget l.ring (machine_of d l g) ≡ left g l.ring (line_of d l g).words r)
        × RunsRight (turn_for d l g) budget (line_of d l g) r
    straight_so u = run_straight (scene_for d l g) g budget l.ring (machine_of d l g) fits ((next_usable g (next_of l.ring)).1 u) carries

    -- it answers 0, 1, 2, or 10 to 13
    pub run_answers : ((run_of d l budget).answer ≤ 2) ⊎ ((10 ≤ (run_of d l budget).answer) × ((run_of d l budget).answer ≤ 13))
    run_answers = rw run_starts (start_ended d l m g budget s)

    -- "budget used up: 2"
    pub run_2 : ((run_of d l budget).answer ≡ 2) ↔ ((run_of d l budget).count ≡ budget)
    run_2 = rw run_starts (stops_2 _ (run_stops _ g budget l.ring (machine_of d l g) fits))

    -- "NEXT_CMD not a multiple of 4 or outside the ring: 13", where the budget is not used up
    pub run_13 : ((run_of d l budget).answer ≡ 13) ↔ ((¬ NextUsable g (next_of l.ring)) × (¬ (budget ≡ 0)))
    run_13 =
        let u = next_unusable_lem g (next_of l.ring) in
        let w = Reasons.run_13 _ g budget l.ring (machine_of d l g) fits carries in
        rw run_starts (λ e. let x = w.0 e in (u.0 x.0, x.1), λ x. w.1 (u.1 x.0, x.1))

    -- "A fault consumes nothing of its command and stands": nothing is counted, the fault is remembered, BUSY is cleared; all else is as it was
    pub run_13_leaves : (¬ NextUsable g (next_of l.ring)) → (¬ (budget ≡ 0))
        → run_of d l budget ≡ record { answer = 13; count = 0; device = with_busy (with_condition d (Faulted BadNext)) false; lent = l }
    unfolding condition_after busy_after
    run_13_leaves n b =
        let bad = (next_unusable_lem g (next_of l.ring)).1 n in
        rw (run_starts, run_unusable (scene_for d l g) g budget l.ring (machine_of d l g) fits bad b) refl

    -- "budget used up: 2" comes first: with no budget nothing changes, whatever NEXT_CMD is
    pub run_no_budget : budget ≡ 0 → run_of d l budget ≡ record { answer = 2; count = 0; device = d; lent = l }
    unfolding condition_after busy_after
    run_no_budget z =
        rw (run_starts, run_none (scene_for d l g) g budget l.ring (machine_of d l g) fits z)
        (ap (λ (c : Condition). record { answer = 2; count = 0; device = with_condition d c; lent = l }) (sym s.4))

    -- where NEXT_CMD is usable: what it answers, counts and leaves, by straight execution alone
    pub run_leaves : NextUsable g (next_of l.ring) → RunLeaves d l g budget (run_of d l budget)
    run_leaves u = rw (run_starts, (straight_so u).0) (ran_leaves d l g budget fits (straight_so u).1)

    -- and nothing else meets that
    pub run_leaves_only : NextUsable g (next_of l.ring) → (o : RunOutcome) → RunLeaves d l g budget o → o ≡ run_of d l budget
    run_leaves_only u o x = leaves_one d l g budget x (run_leaves u)

    -- "The words left are those waiting": the next run goes on where this one stopped, if nobody writes the ring
    pub run_waits : NextUsable g (next_of l.ring)
        → line_of (run_of d l budget).device (run_of d l budget).lent (passed_by d l g (run_of d l budget).count) ≡ left_by d l g (run_of d l budget).count
    run_waits u = rw (run_starts, (straight_so u).0) (ran_waits d l g budget fits laws ((next_usable g (next_of l.ring)).1 u) (straight_so u).1.goes)

    -- where NEXT_CMD is unusable nothing is counted, and neither a lent memory nor the fence changes
    unusable_same : next_good g (next_of l.ring) ≡ false
        → ((run_of d l budget).count ≡ 0) × ((run_of d l budget).lent ≡ l) × (fence_of (run_of d l budget).device ≡ fence_of d)
    unusable_same bad =
        cases (eqb budget 0)
        (λ z. rw (run_no_budget (eqb-true _ _ z)) (refl, refl, refl))
        (λ z. rw (run_13_leaves ((next_unusable_lem g (next_of l.ring)).0 bad) (eqb-false _ _ z)) (refl, refl, refl))

    -- Document 02, P1: "When MIN is 28 or more, an executed FENCE also writes its number to word 6". 28 bytes are seven words. If no FENCE is among the
    -- commands that the run counted, ring word 6 and the last fence are as they were; if one is, and MIN is 28 or more, ring word 6 is the last fence.
    pub run_posts :
        (NoFence (turn_for d l g) (run_of d l budget).count (line_of d l g)
        → (get_or (run_of d l budget).lent.ring 6 0 ≡ get_or l.ring 6 0) × (fence_of (run_of d l budget).device ≡ fence_of d))
        × (7 ≤ g.min → (¬ NoFence (turn_for d l g) (run_of d l budget).count (line_of d l g))
        → get_or (run_of d l budget).lent.ring 6 0 ≡ fence_of (run_of d l budget).device)
    run_posts =
        cases (next_good g (next_of l.ring))
        (λ good. rw (run_starts, (straight_so ((next_usable g (next_of l.ring)).0 good)).0) (ran_posts d l g budget fits))
        (λ bad.
        let x = unusable_same bad in
        let uncounted = x.0 in
        (λ h. (ap (λ (k : Lent). get_or k.ring 6 0) x.1, x.2), λ low with-one. absurd (with-one (λ j k. absurd (omega arith)))))

    -- "below that, as today": ring word 6 is as it was
    pub run_posts_not : g.min < 7 → get_or (run_of d l budget).lent.ring 6 0 ≡ get_or l.ring 6 0
    run_posts_not low =
        cases (next_good g (next_of l.ring))
        (λ good. leaves_six d l g budget low (run_leaves ((next_usable g (next_of l.ring)).0 good)))
        (λ bad. ap (λ (k : Lent). get_or k.ring 6 0) (unusable_same bad).1)

    -- Document 02, P6: "Drivers use 0 for "no fence"", and "FENCE 0 becomes a fault". If a FENCE is among the commands that the run counted, the last fence is
    -- not 0 then; and a run never brings ring word 6 to 0.
    pub run_never_zero :
        ((¬ NoFence (turn_for d l g) (run_of d l budget).count (line_of d l g)) → fence_of (run_of d l budget).device ≢ 0)
        × (get_or (run_of d l budget).lent.ring 6 0 ≡ 0 → get_or l.ring 6 0 ≡ 0)
    run_never_zero =
        cases (next_good g (next_of l.ring))
        (λ good. rw (run_starts, (straight_so ((next_usable g (next_of l.ring)).0 good)).0) (ran_never_zero d l g budget fits))
        (λ bad.
        let x = unusable_same bad in
        let uncounted = x.0 in
        (λ with-one. absurd (with-one (λ j k. absurd (omega arith))), λ z. sym (ap (λ (k : Lent). get_or k.ring 6 0) x.1) ∙ z))

    -- where NEXT_CMD is unusable it answers none of 0, 1, 10, 11 and 12,
    ends_usable : (e : End) → end_number e < 13 → (run_of d l budget).answer ≡ end_number e → NextUsable g (next_of l.ring)
    ends_usable e small q =
        cases (next_good g (next_of l.ring)) (next_usable g (next_of l.ring)).0
        (λ f.
        cases (eqb budget 0)
        (λ z.
        let two : (run_of d l budget).answer ≡ 2 = rw (run_no_budget (eqb-true _ _ z)) refl in
        absurd (⊎_elim (λ a. omega arith) (λ a. omega arith) (end_number_lem e)))
        (λ z. let thirteen = run_13.1 ((next_unusable_lem g (next_of l.ring)).0 f, eqb-false _ _ z) in absurd (omega arith)))

    -- and where it is usable, that of the turn there, if it comes there with budget left
    ends_there : (e : End) → NextUsable g (next_of l.ring)
        → ((run_of d l budget).answer ≡ end_number e) ↔ ((whole_waiting d l g < budget) × (turn_for d l g (stops_at d l g).machine (stops_at d l g).words ≡ ends e))
    ends_there e u = let x = run_leaves u in rw x.answer (verdict_ends (turn_for d l g) laws (line_of d l g) budget (run_of d l budget).count e x.count)

    run_ends : {P : Type 0} (e : End) → end_number e < 13 → (turn_for d l g (stops_at d l g).machine (stops_at d l g).words ≡ ends e) ↔ P
        → ((run_of d l budget).answer ≡ end_number e) ↔ (Reaches d l g budget × P)
    run_ends e small w = (
      λ q. let u = ends_usable e small q in let x = (ends_there e u).0 q in ((u, x.0), w.0 x.1),
      λ x. (ends_there e x.0.0).1 (x.0.1, w.1 x.1),
    )

    -- "NEXT_CMD = STOP: 0."
    pub run_0 : ((run_of d l budget).answer ≡ 0) ↔ (Reaches d l g budget × Turn0 (stops_at d l g).words)
    run_0 = run_ends Drained (omega arith) (turn_0 d l g _ _)

    -- "Head incomplete: 1." "Words missing: 1."
    pub run_1 : ((run_of d l budget).answer ≡ 1)
        ↔ (Reaches d l g budget × (HeadMissing (stops_at d l g).words ⊎ WordsMissing (carried g.min g.max) (stops_at d l g).words))
    run_1 = run_ends Waiting (omega arith) (turn_1 d l g _ _)

    -- "Number not offered: 10."
    pub run_10 : ((run_of d l budget).answer ≡ 10) ↔ (Reaches d l g budget × Turn10 (stops_at d l g).words)
    run_10 = run_ends (Fault NotOffered) (omega arith) (turn_10 d l g _ _)

    -- "Cursor head bad: 11." "Raster operation above 15: 11." Document 02, P6: "11 for FENCE 0"
    pub run_11 : ((run_of d l budget).answer ≡ 11)
        ↔ (Reaches d l g budget
        × (HeadBad (stops_at d l g).words ⊎ OperandBad (known_of (stops_at d l g).machine) (carried g.min g.max) (stops_at d l g).words))
    run_11 = run_ends (Fault BadOperand) (omega arith) (turn_11 d l g _ _)

    -- "Length above what the ring carries: 12."
    pub run_12 : ((run_of d l budget).answer ≡ 12) ↔ (Reaches d l g budget × Turn12 (carried g.min g.max) (stops_at d l g).words)
    run_12 = run_ends (Fault TooLong) (omega arith) (turn_12 d l g _ _)

    -- "A fault .. stands until CONFIG_DONE 1 is accepted": one stands after the run exactly when the run answered it, and has that number
    pub run_fault : (c : Cause) → (condition_of (run_of d l budget).device ≡ Faulted c) ↔ ((run_of d l budget).answer ≡ cause_number c)
    run_fault c = rw run_starts (fault_after _ _ c)

-- ---- picture

module _ (d : Device) (screen image output : List ℕ) where
  -- `adapter::picture` equals `adapter/Picture.picture_of`: an answer and the output that is left

  -- "a picture 20, 24"
  pub picture_20 : well_formed d ≡ true → ((picture_of d screen image output).answer ≡ 20) ↔ Picture20 d screen image output
  picture_20 m =
      Iff.trans (PictureRefusals.picture_20 d screen image output m)
      (fails (PictureRefusals.lent d screen image output) (picture_lent d screen image output))

  pub picture_24 : well_formed d ≡ true → ((picture_of d screen image output).answer ≡ 24) ↔ Picture24 d screen image output
  picture_24 m =
      let r = PictureRefusals.picture_24 d screen image output m in
      let l = picture_lent d screen image output in
      (λ e. let x = r.0 e in (l.0 x.0, x.1), λ x. r.1 (l.1 x.0, x.1))

  pub picture_0 : well_formed d ≡ true
      → ((picture_of d screen image output).answer ≡ 0) ↔ (PictureLent d screen image output × (width_of d * height_of d ≤ pixels_of d))
  unfolding picture_of
  picture_0 m =
      let l = picture_lent d screen image output in
      cases (PictureRefusals.lent d screen image output)
      (λ t.
      cases (mode_fits d)
      (λ f. rw (m, t, f) (λ e. (l.0 t, leb-true _ _ f), λ x. refl))
      (λ f. rw (m, t, f) (λ e. absurd (omega arith), λ x. not_both _ (le-leb _ _ x.1) f)))
      (λ t. rw (m, t) (λ e. absurd (omega arith), λ x. not_both _ (l.1 x.0) t))

  -- "Answers 20 to 34 change nothing"
  pub picture_nothing : is_refusal (picture_of d screen image output).answer ≡ true → (picture_of d screen image output).output ≡ output
  picture_nothing e = PictureRefusals.refused_picture d screen image output (not_zero e)

  -- a device that no call can have made has no mode that fits
  pub picture_ill_formed : well_formed d ≡ false → (picture_of d screen image output).answer ≡ 24
  unfolding picture_of
  picture_ill_formed f = rw f

-- ---- append: 0 taken, 1 refused

module _ (ring : List ℕ) (word : ℕ) where
  -- `ring::append` equals `ring/Append.append_of`: an answer and the ring memory that is left

  refuses : (append_of ring word).answer ≡ 1 → can_append ring ≡ false
  unfolding append_of
  refuses = cases (can_append ring) (λ t. rw t (λ e. absurd (omega arith))) (λ f e. f)

  -- "An append .. moves NEXT_CMD on by 4, MAX becoming MIN; if that would make it equal ring word 3, it is refused"
  pub append_1 : ((append_of ring word).answer ≡ 1) ↔ Append1 ring
  unfolding append_of can_append
  append_1 =
      cases (usable ring)
      (λ u.
      cases (eqb (moved_on (min_of ring) (max_of ring) (next_of ring)) (stop_of ring))
      (λ t. rw (u, t) (λ e. inr (eqb-true _ _ t), λ z. refl))
      (λ f. rw (u, f) (λ e. absurd (omega arith), λ z. absurd (⊎_elim (λ n. n ((ring_usable ring).0 u)) (eqb-false _ _ f) z))))
      (λ n. rw n (λ e. inl ((not_usable ring).0 n), λ z. refl))

  pub append_0 : ((append_of ring word).answer ≡ 0) ↔ (¬ Append1 ring)
  unfolding append_of
  append_0 =
      cases (can_append ring)
      (λ t. rw t (λ e x. let z : (append_of ring word).answer ≡ 1 = append_1.1 x in not_both _ t (refuses z), λ n. refl))
      (λ f. rw f (λ e. absurd (omega arith), λ n. absurd (n (append_1.0 (rw f)))))

  -- "and nothing changes"
  pub append_nothing : (append_of ring word).answer ≡ 1 → (append_of ring word).ring ≡ ring
  unfolding append_of
  append_nothing e = append-refused ring word (refuses e)

-- ---- a command's write

module _ (ring : List ℕ) (c : Command) where
  -- `writer::write` equals `writer/Writing.write_of`: an answer and the ring memory that is left

  -- "33 if the ring words are missing or unusable by document 01's rule"
  pub submit_33 : ((write_of ring c).answer ≡ 33) ↔ Submit33 ring c
  unfolding write_of
  submit_33 = (submit_why ring c 33, λ x. rw ((not_usable ring).1 x))

  -- "41 if the number isn't in document 01's command table or the device would fault with 11 or 12"
  pub submit_41 : ((write_of ring c).answer ≡ 41) ↔ Submit41 ring c
  unfolding write_of
  submit_41 = (submit_why ring c 41, λ x. rw ((ring_usable ring).1 x.0, (not_taken (carried_in ring) c.head).1 x.1))

  -- "20 if the lent pixels or data don't number what the head says"
  pub submit_20 : ((write_of ring c).answer ≡ 20) ↔ Submit20 ring c
  unfolding write_of
  submit_20 = (
    submit_why ring c 20,
    λ x. rw ((ring_usable ring).1 x.0, (taken_is (carried_in ring) c.head).1 x.1, (fails _ (lent_as_asked ring c)).1 x.2),
  )

  -- "40 exactly if the command could fit the ring but there are too few free words now"
  pub submit_40 : ((write_of ring c).answer ≡ 40) ↔ Submit40 ring c
  unfolding write_of
  submit_40 = (
    submit_why ring c 40,
    λ x. rw ((ring_usable ring).1 x.0, (taken_is (carried_in ring) c.head).1 x.1, (lent_as_asked ring c).1 x.2, lt-leb _ _ x.3),
  )

  -- else it is taken
  pub submit_0 : ((write_of ring c).answer ≡ 0) ↔ Submit0 ring c
  unfolding write_of
  submit_0 = (
    submit_why ring c 0,
    λ x. rw ((ring_usable ring).1 x.0, (taken_is (carried_in ring) c.head).1 x.1, (lent_as_asked ring c).1 x.2, le-leb _ _ x.3),
  )

  -- "in that order, nothing written"
  pub submit_nothing : ((write_of ring c).answer ≡ 0 → ⊥) → (write_of ring c).ring ≡ ring
  submit_nothing = write_refused ring c

-- ---- the calls that refuse nothing
--
-- The usable offscreen rectangle: `adapter::offscreen` equals `offscreen/Offscreen.offscreen_of`, four edges.
-- The last fence: `adapter::fence` equals `adapter/Fence.fence_of`.
-- Whether a fence has passed: `adapter::fence_passed` equals `adapter/Fence.fence_passed`, of the last fence and the number asked for.

-- Document 02, P6: "The writer of P2 refuses it too", a FENCE of 0, whatever is lent with it
pub submit_fence_0 : (ring pixels bytes : List ℕ) → Usable ring → (write_of ring (command (30 ∷ 0 ∷ []) pixels bytes)).answer ≡ 41
submit_fence_0 ring pixels bytes u = (submit_41 ring (command (30 ∷ 0 ∷ []) pixels bytes)).1 (u, fence_0_not_taken ring u)
