-- What the statements of Demand2 rest on: tests and what they say, and how the turns of a run end.
-- Assumes nothing.
use mathlib.Core.Path.{◌≡◌, refl, sym, ap, ◌∙◌}
use mathlib.Core.Bool.{Bool, true, false, cond, false≢true, true≢false, ◌&&◌}
use mathlib.Core.List.{List}
use mathlib.Core.Logic.{◌↔◌, ◌⊎◌, inl, inr, ⊎_elim}
use Prim.Native.Nat.{ℕ, zero, suc, ◌+◌, ◌-◌, ◌*◌, ◌/◌, ◌%◌, ◌≤◌, ◌<◌, min}
use native.Mathlib.Omega.{arith}
use lib.Dec.{eqb, leb}
use lib.ListN.{length, drop, length-drop}
use lib.Seq.{drop-drop}
use borrow.Author.Tests.{eqb-true, eqb-false, leb-true, ltb-true, eq-eqb, ne_eqb, le-leb, lt-ltb}
use borrow.Table.Steps.{cases}
use Rattle.geometry.proofs.Tests.{both, not_both}
use Rattle.execution.specs.declared.Cause.{Cause}
use Rattle.execution.specs.declared.Cause.TheVariants.{NotOffered, BadOperand, TooLong, BadNext}
use Rattle.execution.specs.declared.End.{End}
use Rattle.execution.specs.declared.End.TheVariants.{Drained, Waiting, Fault}
use Rattle.execution.specs.Straight.{cause_number, end_number, Turn, ends, exec, Line, beyond, end_of, next, straight, whole, ending}
use Rattle.execution.specs.Table.{unless, turn_of, Laws}
use Rattle.execution.specs.Claim.{Answer, spent, standing, ended, answer_number, verdict}
use Rattle.execution.specs.Turns.{runs}
use Rattle.execution.proofs.Laws.{Goes, here, on, goes_shorter, straight_total}
use Rattle.execution.proofs.QueueLaws.{runs_ends, runs_exec, RunsRight, run_right}
use Rattle.ring.specs.declared.Ring.{Ring}
use Rattle.ring.specs.Waiting.{waiting, carried, placed, next_good}
use Rattle.ring.specs.Acceptance.{usable, Usable, next_of}
use Rattle.ring.proofs.Laws.{usable_when, when_usable, Placed, placed_when}
use Rattle.register.specs.declared.Writable.{Writable}
use Rattle.register.specs.declared.Writable.TheVariants.{Id, Enable, Width, Height, ConfigDone, Sync, GuestId, CursorId, CursorX, CursorY, CursorOn}
use Rattle.command.proofs.Laws.{command_laws}
use Rattle.effect.specs.Effects.{Scene, Machine, done}
use Rattle.run.specs.Turns.{view_of, next_unusable}
use Rattle.run.specs.Run.{known_of, table, turn_in, left, run_words, fitting, run_in}
use Rattle.run.proofs.RunLaws.{fitting_placed, left_same, run_next_unusable, run_good}
use Rattle.device.specs.declared.Condition.TheVariants.{Idle, Running, Faulted}
use Rattle.device.specs.declared.Device.{Device}
use Rattle.device.specs.Device.{memory_of, pixels_of, configured_of, condition_of, sizes_good, condition_good, well_formed}
use Rattle.writer.specs.Writing.{Command}
use Rattle.writer.specs.Writing as Writer
use Rattle.adapter.specs.Picture.{lengths_good}
use Rattle.device_run.specs.Run.{Lent, lent_good, condition_after}
use Rattle.device.proofs.Laws.{well_formed_lem}
use Rattle.register_write.specs.Registers.{in_range}
use Rattle.refusals.specs.Refusing.{Sizes, Ranged, RunLent, NextUsable, PictureLent, LentAsAsked}

-- ---- tests

-- a test that passes exactly where P holds fails exactly where it does not
pub fails : {P : Type 0} (b : Bool) → (b ≡ true) ↔ P → (b ≡ false) ↔ (¬ P)
fails b w = (λ f x. not_both b (w.1 x) f, λ n. cases b (λ t. absurd (n (w.0 t))) (λ f. f))

pub sizes_good_lem : (memory pixels : ℕ) → (sizes_good memory pixels ≡ true) ↔ Sizes memory pixels
unfolding sizes_good
sizes_good_lem memory pixels = (
  λ e.
      let a = both _ _ e in
      let b = both _ _ a.1 in
      let c = both _ _ b.1 in
      let d = both _ _ c.1 in
      (eqb-true _ _ a.0, leb-true _ _ b.0, leb-true _ _ c.0, leb-true _ _ d.0, leb-true _ _ d.1),
  λ s. rw (eq-eqb _ _ s.0, le-leb _ _ s.1, le-leb _ _ s.2, le-leb _ _ s.3, le-leb _ _ s.4),
)

pub ring_usable : (ring : List ℕ) → (usable ring ≡ true) ↔ Usable ring
ring_usable ring = (usable_when ring, when_usable ring)

pub not_usable : (ring : List ℕ) → (usable ring ≡ false) ↔ (¬ Usable ring)
not_usable ring = fails (usable ring) (ring_usable ring)

module _ (d : Device) where
  pub lent_good_lem : (l : Lent) → (lent_good d l ≡ true) ↔ RunLent d l
  unfolding lent_good
  lent_good_lem l = (
    λ e.
        let a = both _ _ e in
        let b = both _ _ a.1 in
        let c = both _ _ b.1 in
        (eqb-true _ _ a.0, eqb-true _ _ b.0, eqb-true _ _ c.0, eqb-true _ _ c.1),
    λ s. rw (eq-eqb _ _ s.0, eq-eqb _ _ s.1, eq-eqb _ _ s.2, eq-eqb _ _ s.3),
  )

  pub picture_lent : (screen image output : List ℕ)
      → (lengths_good (pixels_of d) (length screen) (length image) (length output) ≡ true) ↔ PictureLent d screen image output
  unfolding lengths_good
  picture_lent screen image output = (
    λ e. let a = both _ _ e in let b = both _ _ a.1 in (eqb-true _ _ a.0, eqb-true _ _ b.0, eqb-true _ _ b.1),
    λ s. rw (eq-eqb _ _ s.0, eq-eqb _ _ s.1, eq-eqb _ _ s.2),
  )

pub lent_as_asked : (ring : List ℕ) (c : Command) → (Writer.lent_good c ≡ true) ↔ LentAsAsked ring c
unfolding Writer.lent_good
lent_as_asked ring c = (
  λ e. let a = both _ _ e in (eqb-true _ _ a.0, eqb-true _ _ a.1),
  λ s. rw (eq-eqb _ _ s.0, eq-eqb _ _ s.1),
)

pub next_usable : (g : Ring) (next : ℕ) → (next_good g next ≡ true) ↔ NextUsable g next
unfolding next_good
next_usable g next = (
  λ e.
      let a = both _ _ e in
      let b = both _ _ a.1 in
      let w : next % 4 ≡ 0 = eqb-true _ _ a.0 in
      let l : g.min ≤ next / 4 = leb-true _ _ b.0 in
      let h : next / 4 < g.max = ltb-true _ _ b.1 in
      (w, omega arith, omega arith),
  λ s.
      let w : next % 4 ≡ 0 = s.0 in
      let l : 4 * g.min ≤ next = s.1 in
      let h : next < 4 * g.max = s.2 in
      rw (eq-eqb _ _ w, le-leb g.min (next / 4) (omega arith), lt-ltb (next / 4) g.max (omega arith)),
)

pub next_unusable_lem : (g : Ring) (next : ℕ) → (next_good g next ≡ false) ↔ (¬ NextUsable g next)
next_unusable_lem g next = fails (next_good g next) (next_usable g next)

between : (low high v : ℕ) → (leb low v && leb v high ≡ true) ↔ ((low ≤ v) × (v ≤ high))
between low high v = (
  λ e. let b = both (leb low v) (leb v high) e in (leb-true _ _ b.0, leb-true _ _ b.1),
  λ h. rw (le-leb _ _ h.0, le-leb _ _ h.1),
)

pub ranged : (w : Writable) (v : ℕ) → (in_range w v ≡ true) ↔ Ranged w v
unfolding in_range
ranged Id v = (λ e. tt, λ x. refl)
ranged Enable v = (leb-true v 1, le-leb v 1)
ranged Width v = between 1 2560 v
ranged Height v = between 1 1600 v
ranged ConfigDone v = (leb-true v 1, le-leb v 1)
ranged Sync v = (λ e. tt, λ x. refl)
ranged GuestId v = (λ e. tt, λ x. refl)
ranged CursorId v = (λ e. tt, λ x. refl)
ranged CursorX v = (λ e. tt, λ x. refl)
ranged CursorY v = (λ e. tt, λ x. refl)
ranged CursorOn v = (leb-true v 3, le-leb v 3)

-- ---- numbers of faults and of answers

pub cause_range : (c : Cause) → (10 ≤ cause_number c) × (cause_number c ≤ 13)
cause_range NotOffered = (omega arith, omega arith)
cause_range BadOperand = (omega arith, omega arith)
cause_range TooLong = (omega arith, omega arith)
cause_range BadNext = (omega arith, omega arith)

end_for : ℕ → End
end_for n =
    cond (eqb n 0) Drained
    (cond (eqb n 1) Waiting
    (cond (eqb n 10) (Fault NotOffered) (cond (eqb n 11) (Fault BadOperand) (cond (eqb n 12) (Fault TooLong) (Fault BadNext)))))

end_for_lem : (e : End) → end_for (end_number e) ≡ e
unfolding end_for
end_for_lem Drained = refl
end_for_lem Waiting = refl
end_for_lem (Fault NotOffered) = refl
end_for_lem (Fault BadOperand) = refl
end_for_lem (Fault TooLong) = refl
end_for_lem (Fault BadNext) = refl

-- ends with one number are one
pub same_end : (a b : End) → end_number a ≡ end_number b → a ≡ b
same_end a b e = sym (end_for_lem a) ∙ ap end_for e ∙ end_for_lem b

same_cause : (a b : Cause) → cause_number a ≡ cause_number b → a ≡ b
same_cause a b e = let q : Fault a ≡ Fault b = same_end (Fault a) (Fault b) e in cc

pub end_number_lem : (e : End) → (end_number e ≤ 1) ⊎ ((10 ≤ end_number e) × (end_number e ≤ 13))
end_number_lem Drained = inl (omega arith)
end_number_lem Waiting = inl (omega arith)
end_number_lem (Fault c) = inr (cause_range c)

-- ---- how the turns of a run end

-- With the budget spent, or by a turn that ends, with budget left.
pub data Stops {S : Type 0} (turn : S → List ℕ → Turn S) : ℕ → Answer → ℕ → Type 0 where
  spends : (b : ℕ) → Stops turn b spent b
  stops : (b c : ℕ) (e : End) (s : S) (w : List ℕ) → c < b → turn s w ≡ ends e → Stops turn b (ended e) c

module _ {S : Type 0} (turn : S → List ℕ → Turn S) where
  one_more_lem : {b c : ℕ} {a : Answer} → Stops turn b a c → Stops turn (suc b) a (suc c)
  one_more_lem (spends b) = spends (suc b)
  one_more_lem (stops b c e s w h q) = stops (suc b) (suc c) e s w (omega arith) q

  pub runs_stop : (b : ℕ) (a : Line S) → Stops turn b (runs turn b a).answer (runs turn b a).count
  unfolding runs
  runs_stop zero a = spends 0
  runs_stop (suc b) a = go (next turn a) refl (λ n s. runs_stop b (beyond a n s))
    where
      go : (t : Turn S) → next turn a ≡ t → ((n : ℕ) (s : S) → Stops turn b (runs turn b (beyond a n s)).answer (runs turn b (beyond a n s)).count)
          → Stops turn (suc b) (runs turn (suc b) a).answer (runs turn (suc b) a).count
      go (ends e) q ih = rw (runs_ends turn b a e q) (stops (suc b) 0 e a.machine a.words (omega arith) q)
      go (exec n s) q ih = rw (runs_exec turn b a n s q) (one_more_lem (ih n s))

  -- 0, 1, 2 or 10 to 13
  pub stops_numbers : {b c : ℕ} {a : Answer} → Stops turn b a c → (answer_number a ≤ 2) ⊎ ((10 ≤ answer_number a) × (answer_number a ≤ 13))
  stops_numbers (spends n) = inl (omega arith)
  stops_numbers (stops n k e s w h q) = ⊎_elim (λ l. inl (omega arith)) (λ f. inr f) (end_number_lem e)

  -- "budget used up: 2"
  pub stops_2 : {b c : ℕ} {a : Answer} → Stops turn b a c → (answer_number a ≡ 2) ↔ (c ≡ b)
  stops_2 (spends n) = (λ e. refl, λ e. refl)
  stops_2 (stops n k e s w h q) = (λ z. absurd (⊎_elim (λ l. omega arith) (λ f. omega arith) (end_number_lem e)), λ z. absurd (omega arith))

  -- only a turn that finds 13 answers it
  pub stops_13 : {b c : ℕ} {a : Answer} → ((s : S) (w : List ℕ) → turn s w ≡ ends (Fault BadNext) → ⊥) → Stops turn b a c → answer_number a ≡ 13 → ⊥
  stops_13 not_13 (spends n) z = omega arith
  stops_13 not_13 (stops n k e s w h q) z = not_13 s w (q ∙ ap ends (same_end e (Fault BadNext) z))

-- where straight execution ends with budget left, and only there, its answer is the run's
pub verdict_ends : {S : Type 0} (turn : S → List ℕ → Turn S) {cap : ℕ} → Laws cap turn → (a : Line S) (b c : ℕ) (e : End) → c ≡ min b (whole turn a)
    → (answer_number (verdict (eqb c b) (ending turn a)) ≡ end_number e) ↔ ((whole turn a < b) × (next turn (straight turn (whole turn a) a) ≡ ends e))
unfolding verdict end_of
verdict_ends turn laws a b c e many =
    let stops = (straight_total turn laws a).1 in
    cases (eqb c b)
    (λ t.
    let full : c ≡ b = eqb-true _ _ t in
    rw t (λ z. absurd (⊎_elim (λ l. omega arith) (λ f. omega arith) (end_number_lem e)), λ x. absurd (omega (arith, x.0))))
    (λ f.
    let short : ¬ (c ≡ b) = eqb-false _ _ f in
    rw f (
      λ z. (omega arith, stops ∙ ap ends (same_end (ending turn a) e z)),
      λ x. ap (λ t. end_number (end_of t)) (sym stops ∙ x.1),
    ))

-- steps drop words from the front
pub goes_words : {S : Type 0} (turn : S → List ℕ → Turn S) {cap : ℕ} → Laws cap turn → {k : ℕ} {a b : Line S} → Goes turn k a b
    → b.words ≡ drop (length a.words - length b.words) a.words
goes_words turn laws (here {a}) = let none : length a.words - length a.words ≡ 0 = omega arith in rw none refl
goes_words turn laws (on {k} {n} {a} {b} {s} q g) =
    let there = laws.takes_whole a.machine s a.words n q in
    let gone : n + (length (drop n a.words) - length b.words) ≡ length a.words - length b.words =
    omega (arith, goes_shorter turn g, length-drop n a.words) in
    goes_words turn laws g ∙ drop-drop (length (drop n a.words) - length b.words) n a.words ∙ ap (λ k. drop k a.words) gone

-- ---- a run of a ring that lies in its memory

next_unusable_13 : (budget : ℕ) → (answer_number (next_unusable budget) ≡ 13) ↔ (¬ (budget ≡ 0))
unfolding next_unusable
next_unusable_13 zero = (λ e. absurd (omega arith), λ n. absurd (n refl))
next_unusable_13 (suc b) = rw (ne_eqb (suc b) 0 (omega arith)) (λ e n. omega arith, λ n. refl)

module _ (s : Scene) (g : Ring) (budget : ℕ) (ring : List ℕ) (m : Machine) (fits : fitting g (length ring) (length m.cursor) ≡ true) where
  pub run_stops : Stops (turn_in s g (next_of ring)) budget (run_in s g budget ring m).answer (run_in s g budget ring m).count
  unfolding run_in run_words left
  run_stops = rw fits (runs_stop (turn_in s g (next_of ring)) budget _)

  turn_13 : next_good g (next_of ring) ≡ true → 10 ≤ carried g.min g.max → (n : Machine) (w : List ℕ)
      → turn_in s g (next_of ring) n w ≡ ends (Fault BadNext) → ⊥
  unfolding turn_in unless
  turn_13 good h n w q = (command_laws known_of (done s) (carried g.min g.max) h).not_13 n w (rw good at q)

  -- with no budget it does nothing, whatever NEXT_CMD is
  pub run_none : budget ≡ 0 → run_in s g budget ring m ≡ record { answer = spent; count = 0; place = g; ring = ring; machine = m }
  unfolding run_in run_words runs
  run_none z =
      let p = placed_when g (length ring) (fitting_placed g _ _ fits) in
      rw (z, fits) (left_same g ring (waiting ring g.min g.max g.stop (next_of ring / 4)) spent m p.below)

  -- with budget, where NEXT_CMD is unusable, it is a fault and does nothing else
  pub run_unusable : next_good g (next_of ring) ≡ false → (¬ (budget ≡ 0))
      → run_in s g budget ring m ≡ record { answer = ended (Fault BadNext); count = 0; place = g; ring = ring; machine = m }
  unfolding next_unusable
  run_unusable bad b = run_next_unusable s g budget ring m fits bad ∙ rw (ne_eqb budget 0 b) refl

  pub run_13 : 10 ≤ carried g.min g.max → (answer_number (run_in s g budget ring m).answer ≡ 13) ↔ ((next_good g (next_of ring) ≡ false) × (¬ (budget ≡ 0)))
  run_13 h =
      cases (next_good g (next_of ring))
      (λ good. (λ e. absurd (stops_13 _ (turn_13 good h) run_stops e), λ x. not_both _ good x.0))
      (λ bad.
      let answer : answer_number (run_in s g budget ring m).answer ≡ answer_number (next_unusable budget) = rw (run_next_unusable s g budget ring m fits bad) in
      (λ e. (bad, (next_unusable_13 budget).0 (sym answer ∙ e)), λ x. answer ∙ (next_unusable_13 budget).1 x.1))

  -- where NEXT_CMD is usable it is straight execution's turns, and those are right
  pub run_straight : next_good g (next_of ring) ≡ true → 10 ≤ carried g.min g.max
      → let a : Line Machine = record { words = waiting ring g.min g.max g.stop (next_of ring / 4); machine = m } in
      let turn : Machine → List ℕ → Turn Machine = turn_of (carried g.min g.max) (table s) in
      (run_in s g budget ring m ≡ left g ring a.words (runs turn budget a)) × RunsRight turn budget a (runs turn budget a)
  unfolding run_words left waiting
  run_straight good h = (
    sym (run_good s g budget ring m (view_of g (next_of ring)) fits good refl),
    run_right _ (command_laws known_of (done s) (carried g.min g.max) h) budget _,
  )

-- "A fault .. stands": the condition after an answer
pub fault_after : (a : Answer) (g : Ring) (c : Cause) → (condition_after a g ≡ Faulted c) ↔ (answer_number a ≡ cause_number c)
unfolding condition_after
fault_after spent g c = (λ e. absurd (true≢false cc), λ e. absurd (omega (arith, cause_range c)))
fault_after standing g c = (λ e. absurd (true≢false cc), λ e. absurd (omega (arith, cause_range c)))
fault_after (ended Drained) g c = (λ e. absurd (true≢false cc), λ e. absurd (omega (arith, cause_range c)))
fault_after (ended Waiting) g c = (λ e. absurd (true≢false cc), λ e. absurd (omega (arith, cause_range c)))
fault_after (ended (Fault k)) g c = (λ e. let same : k ≡ c = cc in ap cause_number same, λ e. ap Faulted (same_cause k c e))

-- ---- a well-formed device

module _ (d : Device) (m : well_formed d ≡ true) where
  pub not_idle : configured_of d ≡ true → condition_of d ≡ Idle → ⊥
  unfolding condition_good
  not_idle c i = false≢true (rw (c, i) at (well_formed_lem d m).condition)

  ring_there : (g : Ring) → configured_of d ≡ true → condition_of d ≡ Running g → placed g (memory_of d / 4) ≡ true
  unfolding condition_good
  ring_there g c r = rw (c, r) at (well_formed_lem d m).condition

  module _ (g : Ring) (c : configured_of d ≡ true) (r : condition_of d ≡ Running g) where
    ring_bounds : Placed g (memory_of d / 4)
    ring_bounds = placed_when g (memory_of d / 4) (ring_there g c r)

    pub ring_carries : 10 ≤ carried g.min g.max
    ring_carries = let b = ring_bounds in omega arith

    pub ring_fits : (l : Lent) → RunLent d l → fitting g (length l.ring) (length l.cursor) ≡ true
    unfolding fitting
    ring_fits l s =
        let small = le-leb g.max 524288 (omega (arith, ring_bounds.fits, (well_formed_lem d m).memory_high)) in
        rw (s.0, ring_there g c r, small) (eq-eqb (length l.cursor) 4096 s.3)
