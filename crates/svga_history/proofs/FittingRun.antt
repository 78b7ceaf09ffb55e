-- A run leaves 32-bit words where it found some: the device's, and the ring's. A fence that it posts is one.
-- Assumes nothing.
use mathlib.Core.Path.{◌≡◌, refl, sym, ◌∙◌}
use mathlib.Core.Bool.{Bool, true, false, true≢false}
use mathlib.Core.Option.{Option, none, some}
use mathlib.Core.List.{List, [], ◌∷◌}
use Prim.Native.Nat.{ℕ, zero, suc, ◌*◌, ◌/◌, ◌≤◌, ◌<◌}
use native.Mathlib.Omega.{arith}
use lib.Dec.{eqb}
use lib.ListN.{length, take}
use borrow.Table.Steps.{cases}
use Rattle.execution.specs.Straight.{Turn, ends, exec, Line, beyond, next}
use Rattle.execution.specs.Table.{unless, turn_of}
use Rattle.execution.specs.Turns.{runs}
use Rattle.execution.proofs.QueueLaws.{runs_ends, runs_exec}
use Rattle.ring.specs.declared.Ring.{Ring}
use Rattle.ring.specs.Acceptance.{next_of}
use Rattle.ring.specs.Waiting.{after, words, waiting, carried, next_good}
use Rattle.ring.proofs.Laws.{placed_when}
use Rattle.command.specs.declared.Action.{Action}
use Rattle.command.specs.declared.Kind.{Kind}
use Rattle.command.specs.declared.Kind.TheVariants.{Update, RectFill, RectCopy, RectRopFill, RectRopCopy}
use Rattle.command.specs.declared.Kind.TheVariants.{DefineAlphaCursor, UpdateVerbose, Fence, Escape, Foreign}
use Rattle.command.specs.Commands.{entry, kind_in}
use Rattle.command.specs.Findings.{finds_in, on_machine}
use Rattle.command.proofs.Rules.{turn_found}
use Rattle.effect.specs.declared.Marks.{Marks}
use Rattle.effect.specs.Effects.{Scene, Machine, fence_after, posted_after, defined_after, marks_after, done}
use Rattle.run.specs.Run.{known_of, table, turn_in, stamped, posts_in, posting, posted_in, left, run_words, fitting, run_in}
use Rattle.run.proofs.Found.{found}
use Rattle.device.specs.declared.Device.{Device}
use Rattle.device.specs.Device.{memory_of, well_formed}
use Rattle.device.proofs.Laws.{well_formed_lem}
use Rattle.device_run.specs.Run.{Lent, RunOutcome, machine_of, scene_for, settled, run_of}
use Rattle.device_words.specs.Words.{words_of}
use Rattle.history.proofs.KeptByRun.{ran_in, by_run, left_stays, open_ring, run_well_formed}
use Rattle.svga_history.specs.WordCalls.{AreWords}
use Rattle.svga_history.proofs.Fitting.{no_words, one_more_lem, set_words, drop-words, Fits, MarksFit, fits_words}

-- what each executed turn keeps of a line, a run keeps
runs_keep_line : {S : Type 0} (turn : S → List ℕ → Turn S) (Q : Line S → Type 0)
    → ((a : Line S) (n : ℕ) (s : S) → next turn a ≡ exec n s → Q a → Q (beyond a n s)) → (b : ℕ) (a : Line S) → Q a → Q (runs turn b a).line
unfolding runs
runs_keep_line turn Q keeps zero a q = q
runs_keep_line {S} turn Q keeps (suc b) a q = go (next turn a) refl (λ n s h. runs_keep_line turn Q keeps b (beyond a n s) h)
  where
    go : (t : Turn S) → next turn a ≡ t → ((n : ℕ) (s : S) → Q (beyond a n s) → Q (runs turn b (beyond a n s)).line) → Q (runs turn (suc b) a).line
    go (ends e) r ih = rw (runs_ends turn b a e r) q
    go (exec n s) r ih = rw (runs_exec turn b a n s r) (ih n s (keeps a n s r q))

-- the marks that a command leaves are words of the command, or those there were
marks_fit : (k : Kind) (w : List ℕ) (m : Marks) → AreWords w → MarksFit m → MarksFit (marks_after ((entry k).action w) m)
unfolding entry fence_after defined_after
marks_fit Update w m a f = f
marks_fit RectFill w m a f = f
marks_fit RectCopy w m a f = f
marks_fit RectRopFill w m a f = f
marks_fit RectRopCopy w m a f = f
marks_fit DefineAlphaCursor w m a f = record { fence = f.fence; defined = a.below 1 }
marks_fit UpdateVerbose w m a f = f
marks_fit Fence w m a f = record { fence = a.below 1; defined = f.defined }
marks_fit Escape w m a f = f
marks_fit Foreign w m a f = f

-- and so is what it posts
posted_fit : (posts : Bool) (k : Kind) (w : List ℕ) (posted : ℕ) → AreWords w → posted < 4294967296 → posted_after posts ((entry k).action w) posted < 4294967296
unfolding entry posted_after
posted_fit posts Update w posted a f = f
posted_fit posts RectFill w posted a f = f
posted_fit posts RectCopy w posted a f = f
posted_fit posts RectRopFill w posted a f = f
posted_fit posts RectRopCopy w posted a f = f
posted_fit posts DefineAlphaCursor w posted a f = f
posted_fit posts UpdateVerbose w posted a f = f
posted_fit true Fence w posted a f = a.below 1
posted_fit false Fence w posted a f = f
posted_fit posts Escape w posted a f = f
posted_fit posts Foreign w posted a f = f

-- a machine of 32-bit marks, with a 32-bit fence posted
abbrev MachineFits : Machine → Type 0
MachineFits m = MarksFit m.marks × (m.posted < 4294967296)

module _ (s : Scene) (m t : Machine) (n : ℕ) (f : MachineFits m) where
  fit_found : (cap : ℕ) (w : List ℕ) (q : Turn (Option Action)) → AreWords w → 1 ≤ length w → finds_in tt cap w ≡ q
      → on_machine (done s) m w q ≡ exec n t → MachineFits t
  unfolding done
  fit_found cap w (ends e) a l p r = absurd (true≢false cc)
  fit_found cap w (exec k none) a l p r = absurd (true≢false cc)
  fit_found cap w (exec k (some x)) a l p r =
      let same : done s x (take k w) m ≡ t = cc in
      let is : (entry (kind_in w)).action w ≡ x = (found cap w x k l p).action in
      rw (← same, ← is) (marks_fit (kind_in w) w m.marks a f.0, posted_fit s.posts (kind_in w) w m.posted a f.1)

  fit_exec : (cap : ℕ) (w : List ℕ) → AreWords w → turn_of cap (table s) m w ≡ exec n t → MachineFits t
  unfolding turn_of
  fit_exec cap [] a r = absurd (true≢false cc)
  fit_exec cap (x ∷ w) a r = fit_found cap (x ∷ w) _ a (omega arith) refl (sym (turn_found known_of (done s) cap m (x ∷ w)) ∙ r)

  -- an executed turn on 32-bit words leaves 32-bit marks
  fit_turn : (g : Ring) (after : ℕ) (w : List ℕ) → AreWords w → turn_in s g after m w ≡ exec n t → MachineFits t
  unfolding turn_in unless
  fit_turn g after w a q =
      cases (next_good g after)
      (λ y. fit_exec (carried g.min g.max) w a (rw y at q))
      (λ z. let e : ends _ ≡ exec n t = rw z at q in absurd (true≢false cc))

ring_words_lem : (ring : List ℕ) (lo hi p n : ℕ) → AreWords ring → AreWords (words ring lo hi p n)
unfolding words
ring_words_lem ring lo hi p zero a = no_words
ring_words_lem ring lo hi p (suc n) a = one_more_lem (a.below p) (ring_words_lem ring lo hi (after lo hi p) n a)

-- what is posted in a ring memory, and the memory with another fence posted
posted_word : (posts : Bool) (ring : List ℕ) → AreWords ring → posted_in posts ring < 4294967296
unfolding posted_in
posted_word true ring a = a.below 6
posted_word false ring a = omega arith

posting_words : (posts : Bool) (number : ℕ) (ring : List ℕ) → number < 4294967296 → AreWords ring → AreWords (posting posts number ring)
unfolding posting
posting_words true number ring h a = set_words ring 6 number h a
posting_words false number ring h a = a

module _ (s : Scene) (g : Ring) (budget : ℕ) (ring : List ℕ) (m : Machine) (a : AreWords ring) (f : MachineFits m) where
  -- the line that the run starts from
  abbrev begun : Line Machine
  begun = record { words = waiting ring g.min g.max g.stop (next_of ring / 4); machine = m }

  line_fits : MachineFits (runs (turn_in s g (next_of ring)) budget begun).line.machine
  unfolding waiting
  line_fits =
      (runs_keep_line (turn_in s g (next_of ring)) (λ (l : Line Machine). AreWords l.words × MachineFits l.machine)
      (λ l n z q k. (drop-words n l.words k.0, fit_turn s l.machine z n k.1 g (next_of ring) l.words k.0 q))
      budget begun
      (ring_words_lem ring g.min g.max g.stop _ a, f)).1

  run_fits : MachineFits (run_in s g budget ring m).machine
  unfolding run_in run_words left
  run_fits =
      cases (fitting g (length ring) (length m.cursor))
      (λ t. rw t line_fits)
      (λ z. rw z f)

  -- all that a run writes into ring words is STOP and the fence
  run_ring : (run_in s g budget ring m).place.stop * 4 < 4294967296 → AreWords (run_in s g budget ring m).ring
  unfolding run_in run_words left stamped
  run_ring low =
      cases (fitting g (length ring) (length m.cursor))
      (λ t. cases (eqb (runs (turn_in s g (next_of ring)) budget begun).count 0)
      (λ e. rw (t, e) a)
      (λ e. rw (t, e) (set_words _ 3 _ (rw t at low) (posting_words (posts_in g) _ ring line_fits.1 a))))
      (λ z. rw z a)

module _ (d : Device) (l : Lent) (budget : ℕ) (f : Fits d.registers d.plane) (k : MarksFit d.marks) (a : AreWords l.ring) where
  -- what a run leaves, of a device and of a ring of 32-bit words
  abbrev Left : RunOutcome → Type 0
  Left r = well_formed r.device ≡ true → AreWords (words_of r.device) × AreWords r.lent.ring

  pub run_words_lem : well_formed d ≡ true → AreWords (words_of (run_of d l budget).device) × AreWords (run_of d l budget).lent.ring
  run_words_lem m =
      by_run d l Left budget
      (λ n r z. (fits_words d z f k, a))
      (λ g o z.
      let s = scene_for d l g in
      let i = machine_of d l g in
      let p = placed_when g (memory_of d / 4) (open_ring d l g o) in
      let stop = (left_stays d l g o budget).stop_high p.from p.below in
      let w = well_formed_lem d m in
      let fit : MachineFits i = (k, posted_word (posts_in g) l.ring a) in (
        fits_words (settled d (ran_in d l budget g)) z f (run_fits s g budget l.ring i a fit).0,
        run_ring s g budget l.ring i a fit (omega arith),
      ))
      (run_well_formed d l budget m)
