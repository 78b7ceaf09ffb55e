-- The rule of each number that a register write, a run or a command's write answers, as one family: an answer's rule holds.
-- Assumes nothing.
use Rattle.std.proofs.Common.{Err, Ok, ◌≡◌, refl, sym, ap, subst, ◌∙◌, true, false, cond, List, [], ◌∷◌, ◌≢◌, ◌↔◌, ◌⊎◌, inl, inr, ⊎_elim, ℕ, ◌-◌, ◌*◌, ◌/◌, ◌≤◌, ◌<◌, min, arith, eqb, length, get_or, take, drop, eqb-true, ne_eqb, leb-true, leb-false, le-leb}
use borrow.Author.Tests.{eqb-false, lt-leb}
use borrow.Table.Steps.{cases}
use Rattle.geometry.proofs.Tests.{by_cond, not_both}
use Rattle.execution.specs.declared.Cause.TheVariants.{NotOffered, BadOperand, TooLong, BadNext}
use Rattle.execution.specs.declared.End.TheVariants.{Drained, Waiting, Fault}
use Rattle.execution.specs.Straight.{Turn, ends, exec, Line}
use Rattle.execution.specs.Table.{turn_of, Laws}
use Rattle.execution.specs.Claim.{Answer, answer_number}
use Rattle.execution.specs.Turns.{LineRun, runs}
use Rattle.execution.proofs.Laws.{Goes, goes_steps, goes_straight}
use Rattle.execution.proofs.QueueLaws.{RunsRight}
use Rattle.ring.specs.declared.Ring.{Ring}
use Rattle.ring.specs.Acceptance.{next_of, Usable}
use Rattle.ring.specs.Waiting.{ahead, between, waiting, carried, next_good}
use Rattle.ring.proofs.Laws.{placed_when}
use Rattle.ring.proofs.WaitingLaws.{length-waiting, words_left, words_left_written}
use Rattle.command.specs.declared.Action.{Action}
use Rattle.command.specs.Commands.{Known, entry, size_by, kind_in, kind_of, commands}
use Rattle.command.proofs.Rules.{Ruled, foreign, no_head, bad_head, long, no_rest, bad, well, ruled, by_rule, turn_none}
use Rattle.effect.specs.Effects.{Machine}
use Rattle.run.specs.Run.{RingOutcome, machine, posts_in, stamped, posting, posted_in, left, fitting, run_in}
use Rattle.run.specs.Turns.{Clear}
use Rattle.run.proofs.Posting.{clear_min, posting_waits, written_other}
use Rattle.run.proofs.Fences.{left_posted, Tells, left_tells, NeverZero, left_never_zero}
use Rattle.run.proofs.RunLaws.{fitting_placed, can_view}
use Rattle.device.specs.declared.Condition.{Condition}
use Rattle.device.specs.declared.Condition.TheVariants.{Idle, Running, Faulted}
use Rattle.device.specs.declared.Device.{Device}
use Rattle.device.specs.Device.{pixels_of, width_of, height_of, enabled_of, configured_of, condition_of, mode_fits, well_formed}
use Rattle.register_write.specs.Registers.{written}
use Rattle.device_run.specs.Run.{Lent, RunOutcome, lent_good, condition_after, busy_after, machine_of, scene_for, line_of, turn_for, ran, refused_run, run_by, run_of}
use Rattle.writer.specs.declared.WriterError.TheVariants.{LentLength, RingRefused, NoRoom, NotACommand}
use Rattle.writer.specs.Writing.{Command, Written, command_words, is_command, carried_in, append_all, write_of}
use Rattle.writer.specs.Writing as Writer
use Rattle.writer.specs.Reading.{NotTaken}
use Rattle.writer.proofs.Taking.{not_taken, taken_is}
use Rattle.writer.proofs.Appending.{by_tests}
use Rattle.register_write.specs.Rules.{Why, no_register, read_only, bad_value, wrong_length, ring_refused, is_taken}
use Rattle.register_write.proofs.Refusals.{why}
use Rattle.device_run.proofs.RunLaws.{run_by_lem}
use Rattle.refusals.specs.Refusing.{is_refusal, Write30, Write31, Write32, Write20, Write33, Write0, RunLent, Run20, Run22, Run21, Run24, Run23, Starts}
use Rattle.refusals.specs.Refusing.{left_by, passed_by, whole_waiting, answer_by, RunLeaves}
use Rattle.refusals.specs.Refusing.{Turn0, Turn10, HeadMissing, HeadBad, Turn12, WordsMissing, OperandBad, Executes}
use Rattle.refusals.specs.Refusing.{Submit33, Submit41, Submit20, Submit40, Submit0}
use Rattle.refusals.proofs.Reasons.{fails, ring_usable, not_usable, lent_good_lem, lent_as_asked, ranged}
use Rattle.refusals.proofs.Reasons.{stops_numbers, goes_words, run_stops, not_idle, ring_fits}

-- ---- register write

module _ (d : Device) (ring : List ℕ) (index v : ℕ) where
  abbrev WriteRule : ℕ → Type 0
  WriteRule a =
      cond (eqb a 30) (Write30 index)
      (cond (eqb a 31) (Write31 index)
      (cond (eqb a 32) (Write32 index v)
      (cond (eqb a 20) (Write20 d ring index v) (cond (eqb a 33) (Write33 d ring index v) (cond (eqb a 0) (Write0 d ring index v) ⊥)))))

  write_rule : {a : ℕ} → Why d ring index v a → WriteRule a
  write_rule (no_register e) = e
  write_rule (read_only r e) = (r, e)
  write_rule (bad_value w e f) = (w, e, (fails _ (ranged w v)).0 f)
  write_rule (wrong_length e o n) = (e, o, n)
  write_rule (ring_refused e o n u) = (e, o, n, (not_usable ring).0 u)
  write_rule (is_taken w e t r) = (w, e, (ranged w v).0 t, λ c o. let x = r c o in (x.0, (ring_usable ring).0 x.1))

  pub write_why : well_formed d ≡ true → (a : ℕ) → (written d ring index v).answer ≡ a → WriteRule a
  write_why m a e = subst WriteRule e (write_rule (why d ring index v m))

-- ---- run

-- 0, 1, 2, or 10 to 13
abbrev Ended : ℕ → Type 0
Ended a = (a ≤ 2) ⊎ ((10 ≤ a) × (a ≤ 13))

ended_not : (a n : ℕ) → Ended a → 20 ≤ n → eqb a n ≡ false
ended_not a n x h = ne_eqb a n (λ e. ⊎_elim (λ l. omega (arith, e)) (λ r. omega (arith, e)) x)

pub ended_taken : (a : ℕ) → Ended a → is_refusal a ≡ false
unfolding is_refusal
ended_taken a x = rw (lt-leb 20 a (⊎_elim (λ l. omega arith) (λ r. omega arith) x))

module _ (d : Device) (l : Lent) where
  pub is_lent : (lent_good d l ≡ true) ↔ RunLent d l
  is_lent = lent_good_lem d l

  pub not_lent : (lent_good d l ≡ false) ↔ (¬ RunLent d l)
  not_lent = fails (lent_good d l) is_lent

  -- what a run that starts does
  abbrev pub started : Ring → ℕ → RingOutcome
  started g budget = run_in (scene_for d l g) g budget l.ring (machine_of d l g)

  module _ (m : well_formed d ≡ true) (g : Ring) (budget : ℕ) (s : Starts d l g) where
    pub start : run_of d l budget ≡ ran d l (started g budget)
    unfolding run_by
    start = run_by_lem d l budget (Running g) m (is_lent.1 s.0) s.1 s.2 (le-leb _ _ s.3) s.4

    pub start_fits : fitting g (length l.ring) (length l.cursor) ≡ true
    start_fits = ring_fits d m g s.1 s.4 l s.0

    pub start_ended : Ended (answer_number (started g budget).answer)
    start_ended = stops_numbers _ (run_stops _ g budget l.ring (machine_of d l g) start_fits)

  -- a run on a ring that lies in its memory, by its turns
  module _ (g : Ring) (budget : ℕ) (fits : fitting g (length l.ring) (length l.cursor) ≡ true) where
    abbrev turns : LineRun Machine
    turns = runs (turn_for d l g) budget (line_of d l g)

    abbrev outcome : RunOutcome
    outcome = ran d l (left g l.ring (line_of d l g).words turns)

    -- where fences are posted, the ring memory has a word 6
    clear : Clear (posts_in g) (length l.ring)
    clear t =
        let p = placed_when g (length l.ring) (fitting_placed g _ _ fits) in
        let low : 7 ≤ g.min = clear_min g refl t in
        omega arith

    -- it is as the turns leave it
    posted_left : posted_in (posts_in g) outcome.lent.ring ≡ turns.line.machine.posted
    posted_left = left_posted (scene_for d l g) (carried g.min g.max) g l.ring budget (line_of d l g) refl refl clear

    -- and so is the machine
    machine_left : machine_of outcome.device outcome.lent g ≡ turns.line.machine
    unfolding left
    machine_left = let m = turns.line.machine in ap (machine m.marks m.screen m.cursor) posted_left

    -- where the turns of a run are right, it leaves what straight execution does
    pub ran_leaves : RunsRight (turn_for d l g) budget (line_of d l g) turns → RunLeaves d l g budget outcome
    unfolding left
    ran_leaves x =
        let there = goes_straight (turn_for d l g) x.goes in
        let answered = x.right_answer in
        record {
          count = x.many;
          executes = goes_steps (turn_for d l g) x.goes;
          machine = machine_left ∙ ap (λ (a : Line Machine). a.machine) (sym there);
          ring = rw there refl;
          framebuffer = refl;
          answer = ap answer_number answered;
          condition = rw (there, ← answered) refl;
          busy = ap (λ (a : Answer). busy_after a d.busy) answered;
          sizes = refl;
          registers = refl;
          plane = refl;
        }

    -- what it posts, by the commands that it executed
    pub ran_posts : Tells (scene_for d l g) (carried g.min g.max) g l.ring (line_of d l g) (left g l.ring (line_of d l g).words turns)
    ran_posts = left_tells (scene_for d l g) (carried g.min g.max) g l.ring budget (line_of d l g) refl refl clear

    -- no fence that it leaves is 0
    pub ran_never_zero : NeverZero (scene_for d l g) (carried g.min g.max) l.ring (line_of d l g) (left g l.ring (line_of d l g).words turns)
    ran_never_zero = left_never_zero (scene_for d l g) (carried g.min g.max) g l.ring budget (line_of d l g) refl refl clear

    -- and the words that wait then are those left
    pub ran_waits : {cap : ℕ} → Laws cap (turn_for d l g) → next_good g (next_of l.ring) ≡ true
        → Goes (turn_for d l g) turns.count (line_of d l g) turns.line
        → line_of outcome.device outcome.lent (passed_by d l g outcome.count) ≡ left_by d l g outcome.count
    unfolding left stamped
    ran_waits laws good goes =
        let lo = g.min in
        let hi = g.max in
        let next = next_of l.ring / 4 in
        let gone = length (line_of d l g).words - length turns.line.words in
        let to = ahead lo hi g.stop gone in
        let v = can_view g (length l.ring) (length l.cursor) (next_of l.ring) fits good in
        let p = placed_when g (length l.ring) (fitting_placed g _ _ fits) in
        let few : gone ≤ between lo hi g.stop next = omega (arith, length-waiting l.ring lo hi g.stop next) in
        let rest = sym (goes_words (turn_for d l g) laws goes) in
        let at : List ℕ → List ℕ = λ ring. waiting ring lo hi to (next_of ring / 4) in
        let number = turns.line.machine.posted in
        let posted = posting (posts_in g) number l.ring in
        let same : at (cond (eqb turns.count 0) l.ring (stamped to posted)) ≡ turns.line.words =
        cases (eqb turns.count 0)
        (λ z. rw z (words_left l.ring lo hi g.stop next gone v.0 v.1 v.2 v.3 few ∙ rest))
        (λ z.
        rw (z, written_other (posts_in g) to number l.ring 2 (omega arith) (λ t. omega arith))
        (words_left_written posted lo hi g.stop next gone _ p.past_head v.0 v.1 v.2 v.3 few
        ∙ ap (drop gone) (posting_waits (posts_in g) number l.ring lo hi g.stop next (clear_min g refl) v.0 v.1)
        ∙ rest)) in
        rw (goes_straight (turn_for d l g) goes) (λ i. record { words = same i; machine = machine_left i })

  module _ (g : Ring) (budget : ℕ) where
    -- the outcome whose count is k
    outcome_of : ℕ → RunOutcome
    outcome_of k = record {
      answer = answer_number (answer_by d l g budget k);
      count = k;
      device = record {
        sizes = d.sizes;
        registers = d.registers;
        plane = d.plane;
        marks = (left_by d l g k).machine.marks;
        busy = busy_after (answer_by d l g budget k) d.busy;
        condition = condition_after (answer_by d l g budget k) (passed_by d l g k);
      };
      lent = record {
        ring = cond (eqb k 0) l.ring (stamped (passed_by d l g k).stop (posting (posts_in g) (left_by d l g k).machine.posted l.ring));
        framebuffer = l.framebuffer;
        screen = (left_by d l g k).machine.screen;
        cursor = (left_by d l g k).machine.cursor;
      };
    }

    leaves_is : {o : RunOutcome} → RunLeaves d l g budget o → o ≡ outcome_of (min budget (whole_waiting d l g))
    unfolding outcome_of
    leaves_is {o} x =
        let same : o ≡ outcome_of o.count = λ i. record {
          answer = x.answer i;
          count = o.count;
          device = record {
            sizes = x.sizes i;
            registers = x.registers i;
            plane = x.plane i;
            marks = (x.machine i).marks;
            busy = x.busy i;
            condition = x.condition i;
          };
          lent = record { ring = x.ring i; framebuffer = x.framebuffer i; screen = (x.machine i).screen; cursor = (x.machine i).cursor };
        } in
        same ∙ ap outcome_of x.count

    -- what a run leaves is left open in nothing
    pub leaves_one : {o p : RunOutcome} → RunLeaves d l g budget o → RunLeaves d l g budget p → o ≡ p
    leaves_one x y = leaves_is x ∙ sym (leaves_is y)

    -- where fences are not posted, ring word 6 is as it was
    pub leaves_six : {o : RunOutcome} → g.min < 7 → RunLeaves d l g budget o → get_or o.lent.ring 6 0 ≡ get_or l.ring 6 0
    leaves_six {o} low x =
        let none : posts_in g ≡ false = lt-leb 7 g.min low in
        rw x.ring
        (cases (eqb o.count 0)
        (λ z. rw z refl)
        (λ z. rw z (written_other (posts_in g) _ _ l.ring 6 (omega arith) (λ t. not_both (posts_in g) t none))))

  module _ (budget : ℕ) where
    -- a run by its refusals, in document 01's order
    pub by_refusals : (P : RunOutcome → Type 0) → (well_formed d ≡ false → P (refused_run d l 22))
        → (Run20 d l → P (refused_run d l 20))
        → (Run22 d l → P (refused_run d l 22))
        → (Run21 d l → P (refused_run d l 21))
        → (Run24 d l → P (refused_run d l 24))
        → (Run23 d l → P (refused_run d l 23))
        → (well_formed d ≡ true → (g : Ring) → Starts d l g → P (ran d l (started g budget)))
        → P (run_of d l budget)
    unfolding run_of run_by
    by_refusals P ill-formed on-20 on-22 on-21 on-24 on-23 starts =
        by_cond P (well_formed d)
        (λ m.
        by_cond P (lent_good d l)
        (λ n.
        by_cond P (configured_of d)
        (λ c.
        by_cond P (enabled_of d)
        (λ e.
        by_cond P (mode_fits d)
        (λ f. go m (is_lent.0 n) c e (leb-true _ _ f) (condition_of d) refl)
        (λ f. on-24 (is_lent.0 n, c, e, leb-false _ _ f)))
        (λ e. on-21 (is_lent.0 n, c, e)))
        (λ c. on-22 (is_lent.0 n, c)))
        (λ n. on-20 (not_lent.0 n)))
        ill-formed
      where
        go : well_formed d ≡ true → RunLent d l → configured_of d ≡ true → enabled_of d ≡ true
            → width_of d * height_of d ≤ pixels_of d → (c : Condition) → condition_of d ≡ c → P (run_by d l budget c)
        go m n c e f Idle q = absurd (not_idle d m c q)
        go m n c e f (Running g) q = starts m g (n, c, e, f, q)
        go m n c e f (Faulted k) q = on-23 (n, c, e, f, (k, q))

  abbrev RunRule : ℕ → Type 0
  RunRule a =
      cond (eqb a 20) (Run20 d l)
      (cond (eqb a 22) (Run22 d l)
      (cond (eqb a 21) (Run21 d l)
      (cond (eqb a 24) (Run24 d l)
      (cond (eqb a 23) (Run23 d l) (Ended a)))))

  ended_rule : (a : ℕ) → Ended a → RunRule a
  ended_rule a x =
      rw (
        ended_not a 20 x (omega arith),
        ended_not a 22 x (omega arith),
        ended_not a 21 x (omega arith),
        ended_not a 24 x (omega arith),
        ended_not a 23 x (omega arith),
      )
      x

  pub run_why : well_formed d ≡ true → (budget a : ℕ) → (run_of d l budget).answer ≡ a → RunRule a
  run_why m budget a e =
      subst RunRule e
      (by_refusals budget (λ (o : RunOutcome). RunRule o.answer) (not_both (well_formed d) m) (λ x. x) (λ x. x) (λ x. x) (λ x. x) (λ x. x)
      (λ n g s. ended_rule _ (start_ended n g budget s)))

-- ---- one turn

module _ {S : Type 0} (known_of : S → Known) (does : Action → List ℕ → S → S) (cap : ℕ) (s : S) (w : List ℕ) where
  abbrev turn : Turn S
  turn = turn_of cap (commands known_of does) s w

  abbrev TurnRule : Turn S → Type 0
  TurnRule (ends Drained) = Turn0 w
  TurnRule (ends Waiting) = HeadMissing w ⊎ WordsMissing cap w
  TurnRule (ends (Fault NotOffered)) = Turn10 w
  TurnRule (ends (Fault BadOperand)) = HeadBad w ⊎ OperandBad (known_of s) cap w
  TurnRule (ends (Fault TooLong)) = Turn12 cap w
  TurnRule (ends (Fault BadNext)) = ⊥
  TurnRule (exec n t) = Executes (known_of s) cap w

  turn_rule : (¬ Turn0 w) → (t : Turn S) → Ruled known_of does cap s w t → TurnRule t
  turn_rule some t (foreign a) = (some, a)
  turn_rule some t (no_head a b) = inl (some, a, b)
  turn_rule some t (bad_head a b c) = inl ((some, a, b), c)
  turn_rule some t (long a b c d) = ((some, a, b), c, d)
  turn_rule some t (no_rest a b c d e) = inr ((some, a, b), c, d, e)
  turn_rule some t (bad a b c d e f) = inr (((some, a, b), c, d, e), f)
  turn_rule some t (well a b c d e f) = (((some, a, b), c, d, e), f)

  there : (¬ Turn0 w) → 1 ≤ length w
  there some = let n : length w ≢ 0 = some in omega arith

  pub turn_why : (t : Turn S) → turn ≡ t → TurnRule t
  turn_why t e =
      subst TurnRule e
      (cases (eqb (length w) 0)
      (λ z. let none = eqb-true _ _ z in rw (turn_none cap (commands known_of does) s w none) none)
      (λ f. let some = eqb-false _ _ f in turn_rule some turn (ruled known_of does cap s w (there some))))

  -- and the other way round: the turn, rule by rule
  by : (¬ Turn0 w) → (t : Turn S) → Ruled known_of does cap s w t → turn ≡ t
  by some = by_rule known_of does cap s w (there some)

  pub finds_0 : Turn0 w → turn ≡ ends Drained
  finds_0 = turn_none cap (commands known_of does) s w

  pub finds_10 : Turn10 w → turn ≡ ends (Fault NotOffered)
  finds_10 (some, a) = by some _ (foreign a)

  pub finds_1 : HeadMissing w ⊎ WordsMissing cap w → turn ≡ ends Waiting
  finds_1 (inl (some, a, b)) = by some _ (no_head a b)
  finds_1 (inr ((some, a, b), c, d, e)) = by some _ (no_rest a b c d e)

  pub finds_11 : HeadBad w ⊎ OperandBad (known_of s) cap w → turn ≡ ends (Fault BadOperand)
  finds_11 (inl ((some, a, b), c)) = by some _ (bad_head a b c)
  finds_11 (inr (((some, a, b), c, d, e), f)) = by some _ (bad a b c d e f)

  pub finds_12 : Turn12 cap w → turn ≡ ends (Fault TooLong)
  finds_12 ((some, a, b), c, d) = by some _ (long a b c d)

  pub finds_command : Executes (known_of s) cap w
      → turn ≡ exec (size_by (kind_in w) w) (does ((entry (kind_in w)).action w) (take (size_by (kind_in w) w) w) s)
  finds_command (((some, a, b), c, d, e), f) = by some _ (well a b c d e f)

-- ---- a command's write

module _ (ring : List ℕ) (c : Command) where
  -- by its refusals, in document 02's order
  by_submits : (P : Written → Type 0)
      → (Submit33 ring c → P (Writer.written (Err RingRefused) ring))
      → (Submit41 ring c → P (Writer.written (Err NotACommand) ring))
      → (Submit20 ring c → P (Writer.written (Err LentLength) ring))
      → (Submit40 ring c → P (Writer.written (Err NoRoom) ring))
      → (Submit0 ring c → P (Writer.written (Ok tt) (append_all ring (command_words c))))
      → P (write_of ring c)
  by_submits P on-33 on-41 on-20 on-40 taken =
      let is = taken_is (carried_in ring) c.head in
      let lent = lent_as_asked ring c in
      by_tests ring c P
      (λ u. on-33 ((not_usable ring).0 u))
      (λ u h. on-41 (u, (not_taken (carried_in ring) c.head).0 h))
      (λ u h l. on-20 (u, is.0 h, (fails _ lent).0 l))
      (λ u h l f. on-40 (u, is.0 h, lent.0 l, f))
      (λ f. taken (f.usable, is.0 f.is_a_command, lent.0 f.lent, f.room))

  abbrev SubmitRule : ℕ → Type 0
  SubmitRule a =
      cond (eqb a 33) (Submit33 ring c)
      (cond (eqb a 41) (Submit41 ring c)
      (cond (eqb a 20) (Submit20 ring c) (cond (eqb a 40) (Submit40 ring c) (cond (eqb a 0) (Submit0 ring c) ⊥))))

  pub submit_why : (a : ℕ) → (write_of ring c).answer ≡ a → SubmitRule a
  submit_why a e = subst SubmitRule e (by_submits (λ (o : Written). SubmitRule o.answer) (λ x. x) (λ x. x) (λ x. x) (λ x. x) (λ x. x))

-- no ring's writer takes a FENCE of 0
pub fence_0_not_taken : (ring : List ℕ) → Usable ring → NotTaken (carried_in ring) (30 ∷ 0 ∷ [])
unfolding is_command entry kind_of
fence_0_not_taken ring u =
    let fits : 2 ≤ carried_in ring = omega arith in
    (not_taken (carried_in ring) (30 ∷ 0 ∷ [])).0 (rw (le-leb 2 (carried_in ring) fits))
