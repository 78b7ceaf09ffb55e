-- What a run keeps: a device stays well-formed, lent memories keep their lengths, every ring word but words 3 and 6 stays, word 6 where no FENCE is
-- posted, every cursor word that no executed command fills, and every screen place that its commands do not reach; and no run that is not refused answers 23.
-- Assumes nothing.
use mathlib.Core.Path.{◌≡◌, refl, sym, ap, subst, ◌∙◌}
use mathlib.Core.Bool.{Bool, true, false, true≢false}
use mathlib.Core.Option.{Option, none, some}
use mathlib.Core.List.{List, [], ◌∷◌, ◌++◌}
use Prim.Native.Nat.{ℕ, zero, suc, ◌+◌, ◌-◌, ◌*◌, ◌/◌, ◌≤◌, ◌<◌, max}
use native.Mathlib.Nat.{mul-le-mul, le-max_left, le-max_right}
use native.Mathlib.Omega.{arith}
use lib.Dec.{eqb}
use lib.ListN.{length, get_or, take, drop, length-take, length-drop, length-append}
use lib.Seq.{get_or-append-add, get_or-drop}
use borrow.Author.Tests.{eqb-true, eq-eqb}
use borrow.Table.Steps.{cases}
use Rattle.geometry.proofs.Tests.{both, by_cond}
use Rattle.execution.specs.declared.End.{End}
use Rattle.execution.specs.declared.End.TheVariants.{Drained, Waiting, Fault}
use Rattle.execution.specs.declared.Cause.TheVariants.{NotOffered, BadOperand, TooLong, BadNext}
use Rattle.execution.specs.Straight.{Turn, ends, exec, Line, beyond, next}
use Rattle.execution.specs.Table.{unless, turn_of}
use Rattle.execution.specs.Claim.{Answer, spent, standing, ended, answer_number}
use Rattle.execution.specs.Turns.{LineRun, runs}
use Rattle.execution.proofs.QueueLaws.{runs_ends, runs_exec}
use Rattle.ring.specs.declared.Ring.{Ring}
use Rattle.ring.specs.Acceptance.{next_of}
use Rattle.ring.specs.Waiting.{ahead, between, words, waiting, carried, placed, next_good}
use Rattle.ring.proofs.Laws.{placed_when, when_placed}
use Rattle.ring.proofs.WaitingLaws.{InRing, ahead_in, between_carried, length-words}
use Rattle.cursor.specs.Plane.{shape_good}
use Rattle.command.specs.declared.Action.{Action}
use Rattle.command.specs.declared.Action.TheVariants as A
use Rattle.command.specs.declared.Kind.{Kind}
use Rattle.command.specs.declared.Kind.TheVariants.{Update, RectFill, RectCopy, RectRopFill, RectRopCopy, DefineAlphaCursor, UpdateVerbose, Fence, Escape, Foreign}
use Rattle.command.specs.Commands.{entry, kind_in}
use Rattle.command.specs.Findings.{finds_in, on_machine}
use Rattle.command.proofs.Rules.{turn_found}
use Rattle.effect.specs.declared.Marks.{Marks}
use Rattle.effect.specs.Effects.{Scene, Machine, Paints, defined_after, cursor_after, marks_after, done}
use Rattle.effect.proofs.Reach.{screen_length, joined_at, ModeJoined, others_keep_to_mode, reach_ends}
use Rattle.run.specs.Turns.{Ready}
use Rattle.run.specs.Run.{known_of, table, turn_in, NoPainting, posts_in, posted_in, RingOutcome, left, run_words, fitting, run_in}
use Rattle.run.proofs.Laws.{next_says}
use Rattle.run.proofs.Fences.{runs_without, runs_keep, runs_none, Tells, left_tells, still_tells}
use Rattle.run.proofs.Found.{Found, found}
use Rattle.run.proofs.Posting.{clear_min, length-written, written_other}
use Rattle.run.proofs.RunLaws.{fitting_placed, turn_kept}
use Rattle.device.specs.declared.Condition.{Condition}
use Rattle.device.specs.declared.Condition.TheVariants.{Idle, Running, Faulted}
use Rattle.device.specs.declared.Device.{Device}
use Rattle.device.specs.Device.{memory_of, pixels_of, condition_good, defined_good, mode_fits, well_formed}
use Rattle.device_run.specs.Run.{Lent, RunOutcome, lent_good, condition_after, settled, machine_of, scene_for, ran, refused_run, run_by, run_of}
use Rattle.offscreen.proofs.Joined.{mode_joined}
use Rattle.device.proofs.Laws.{well_formed_lem}
use Rattle.device.proofs.Kept.{well_formed_of}
use Rattle.history.specs.Harm.{pixels_by, largest_cursor}

-- ---- a run of a line, turn by turn

-- an answer of a run that is not refused: not 23
abbrev pub NotStanding : Answer → Type 0
NotStanding spent = Unit {0}
NotStanding standing = ⊥
NotStanding (ended e) = Unit {0}

-- what a run can answer when it is not refused
pub not_standing_small : (a : Answer) → NotStanding a → answer_number a ≤ 13
not_standing_small spent t = omega arith
not_standing_small standing t = absurd t
not_standing_small (ended Drained) t = omega arith
not_standing_small (ended Waiting) t = omega arith
not_standing_small (ended (Fault NotOffered)) t = omega arith
not_standing_small (ended (Fault BadOperand)) t = omega arith
not_standing_small (ended (Fault TooLong)) t = omega arith
not_standing_small (ended (Fault BadNext)) t = omega arith

-- a turn that ends executes nothing
no_exec : {S : Type 0} {e : End} {n : ℕ} {t : S} → ends e ≡ exec n t → ⊥
no_exec r = true≢false cc

module _ {S : Type 0} (turn : S → List ℕ → Turn S) where
  pub runs_not_standing : (b : ℕ) (a : Line S) → NotStanding (runs turn b a).answer
  unfolding runs
  runs_not_standing zero a = tt
  runs_not_standing (suc b) a = go (next turn a) refl (λ n s. runs_not_standing b (beyond a n s))
    where
      go : (t : Turn S) → next turn a ≡ t → ((n : ℕ) (s : S) → NotStanding (runs turn b (beyond a n s)).answer) → NotStanding (runs turn (suc b) a).answer
      go (ends e) r ih = rw (runs_ends turn b a e r) tt
      go (exec n s) r ih = rw (runs_exec turn b a n s r) (ih n s)

  -- "The run stops after a number of commands never above its budget"
  pub runs_count : (b : ℕ) (a : Line S) → (runs turn b a).count ≤ b
  unfolding runs
  runs_count zero a = omega arith
  runs_count (suc b) a = go (next turn a) refl (λ n s. runs_count b (beyond a n s))
    where
      go : (t : Turn S) → next turn a ≡ t → ((n : ℕ) (s : S) → (runs turn b (beyond a n s)).count ≤ b) → (runs turn (suc b) a).count ≤ suc b
      go (ends e) r ih = rw (runs_ends turn b a e r) (omega arith)
      go (exec n s) r ih = rw (runs_exec turn b a n s r) (omega (arith, ih n s))

  -- where every turn ends, a run counts nothing
  pub never_counts : ((s : S) (w : List ℕ) (n : ℕ) (t : S) → turn s w ≡ exec n t → ⊥) → (b : ℕ) (a : Line S) → (runs turn b a).count ≡ 0
  unfolding runs
  never_counts never zero a = refl
  never_counts never (suc b) a = go (next turn a) refl
    where
      go : (t : Turn S) → next turn a ≡ t → (runs turn (suc b) a).count ≡ 0
      go (ends e) r = rw (runs_ends turn b a e r)
      go (exec n s) r = absurd (never a.machine a.words n s r)

  -- and leaves the line
  pub runs_still : ((s : S) (w : List ℕ) (n : ℕ) (t : S) → turn s w ≡ exec n t → ⊥) → (b : ℕ) (a : Line S) → (runs turn b a).line ≡ a
  runs_still never b a = runs_none turn b a (never_counts never b a)

-- ---- what an executed command keeps

-- an executed turn found a command at the front of the words, and did its action with the command's own words
record Did (s : Scene) (m t : Machine) (w : List ℕ) (n : ℕ) : Type 0 where
  action : Action
  is_found : Found action n w
  left_by_lem : t ≡ done s action (take n w) m

exec_did : (s : Scene) (cap : ℕ) (m t : Machine) (w : List ℕ) (n : ℕ) → turn_of cap (table s) m w ≡ exec n t → Did s m t w n
unfolding turn_of
exec_did s cap m t [] n r = absurd (no_exec r)
exec_did s cap m t (x ∷ w) n r = go (finds_in tt cap (x ∷ w)) refl (sym (turn_found known_of (done s) cap m (x ∷ w)) ∙ r)
  where
    go : (f : Turn (Option Action)) → finds_in tt cap (x ∷ w) ≡ f → on_machine (done s) m (x ∷ w) f ≡ exec n t → Did s m t (x ∷ w) n
    go (ends e) q z = absurd (no_exec z)
    go (exec k none) q z = absurd (no_exec z)
    go (exec k (some a)) q z =
        let size : k ≡ n = cc in
        record { action = a; is_found = rw size at (found cap (x ∷ w) a k (omega arith) q); left_by_lem = rw (← size) (cc) }

-- a cursor that a turn defines is good
abbrev GoodAction : Action → Type 0
GoodAction (A.Update r) = Unit {0}
GoodAction (A.Fill r colour rop) = Unit {0}
GoodAction (A.Copy from r rop) = Unit {0}
GoodAction (A.Define s) = shape_good s ≡ true
GoodAction (A.Fence number) = Unit {0}
GoodAction A.Nothing = Unit {0}

-- the checks of a row make its action good
good_action : (k : Kind) (w : List ℕ) → (entry k).head_good w ≡ true → GoodAction ((entry k).action w)
unfolding entry
good_action Update w e = tt
good_action RectFill w e = tt
good_action RectCopy w e = tt
good_action RectRopFill w e = tt
good_action RectRopCopy w e = tt
good_action DefineAlphaCursor w e = e
good_action UpdateVerbose w e = tt
good_action Fence w e = tt
good_action Escape w e = tt
good_action Foreign w e = tt

good_found : (a : Action) (n : ℕ) (w : List ℕ) → Found a n w → GoodAction a
good_found a n w f = rw (← f.action) (good_action (kind_in w) w f.head)

-- A machine with a screen as long as this one, and as this one at each place out of reach, a cursor image of 4,096 words, and a defined cursor that is good.
pub record Sound (reach : ℕ → Bool) (screen : List ℕ) (m : Machine) : Type 0 where
  pub same_length : length m.screen ≡ length screen
  pub beyond_reach : (k : ℕ) → reach k ≡ false → get_or m.screen k 0 ≡ get_or screen k 0
  pub cursor : length m.cursor ≡ 4096
  pub defined : defined_good m.marks.defined ≡ true

cursor_length : (a : Action) (w cursor : List ℕ) → Ready a (length w) → length cursor ≡ 4096 → length (cursor_after a w cursor) ≡ 4096
unfolding cursor_after
cursor_length (A.Update r) w cursor h l = l
cursor_length (A.Fill r colour rop) w cursor h l = l
cursor_length (A.Copy from r rop) w cursor h l = l
cursor_length (A.Define s) w cursor h l =
    let n : ℕ = s.w * s.h in
    let small : n ≤ 4096 = mul-le-mul {n₂ = 64} {m₂ = 64} h.1 h.2 in
    let there : 6 + n ≤ length w = h.0 in
    rw (length-append, length-take, length-drop 6 w, length-drop n cursor, l) (omega arith)
cursor_length (A.Fence number) w cursor h l = l
cursor_length A.Nothing w cursor h l = l

defined_kept : (a : Action) (m : Marks) → GoodAction a → defined_good m.defined ≡ true → defined_good (marks_after a m).defined ≡ true
unfolding defined_after defined_good
defined_kept (A.Update r) m g e = e
defined_kept (A.Fill r colour rop) m g e = e
defined_kept (A.Copy from r rop) m g e = e
defined_kept (A.Define s) m g e = g
defined_kept (A.Fence number) m g e = e
defined_kept A.Nothing m g e = e

module _ (s : Scene) (screen : List ℕ) (wide : 0 < s.width) (mode : ModeJoined s) where
  -- sound in this scene
  abbrev Right : Machine → Type 0
  Right = Sound (joined_at s) screen

  sound_done : (m : Machine) (a : Action) (n : ℕ) (w : List ℕ) → Found a n w → Right m → Right (done s a (take n w) m)
  unfolding done
  sound_done m a n w f h = record {
    same_length = screen_length s a m.screen ∙ h.same_length;
    beyond_reach = λ k l. reach_ends s a m.screen k mode wide l ∙ h.beyond_reach k l;
    cursor = ap {B = ℕ} (λ (l : List ℕ). length l) (f.own m.cursor) ∙ cursor_length a w m.cursor f.ready h.cursor;
    defined = defined_kept a m.marks (good_found a n w f) h.defined;
  }

  -- an executed turn keeps a sound machine
  pub sound_exec : (cap : ℕ) (m t : Machine) (w : List ℕ) (n : ℕ) → turn_of cap (table s) m w ≡ exec n t → Right m → Right t
  sound_exec cap m t w n r h = let e = exec_did s cap m t w n r in rw e.left_by_lem (sound_done m e.action n w e.is_found h)

-- no turn executes where NEXT_CMD is unusable
never_next : (s : Scene) (g : Ring) (after : ℕ) → next_good g after ≡ false → (m : Machine) (w : List ℕ) (n : ℕ) (t : Machine) → turn_in s g after m w ≡ exec n t → ⊥
unfolding turn_in unless
never_next s g after f m w n t q = no_exec (rw f at q)

-- ---- the cursor words that a run fills

-- "the rest stay"
cursor_beyond : (a : Action) (w cursor : List ℕ) (i : ℕ) → Ready a (length w) → pixels_by a ≤ i → get_or (cursor_after a w cursor) i 0 ≡ get_or cursor i 0
unfolding cursor_after
cursor_beyond (A.Update r) w cursor i h l = refl
cursor_beyond (A.Fill r colour rop) w cursor i h l = refl
cursor_beyond (A.Copy from r rop) w cursor i h l = refl
cursor_beyond (A.Define s) w cursor i h l =
    let n : ℕ = s.w * s.h in
    let pixels : List ℕ = take n (drop 6 w) in
    let there : 6 + n ≤ length w = h.0 in
    let size : length pixels ≡ n = rw (length-take, length-drop 6 w) (omega arith) in
    let place : length pixels + (i - n) ≡ i = omega arith in
    let back : n + (i - n) ≡ i = omega arith in
    ap (λ k. get_or (pixels ++ drop n cursor) k 0) (sym place)
    ∙ get_or-append-add pixels (drop n cursor) (i - n) 0
    ∙ get_or-drop n cursor (i - n) 0
    ∙ ap (λ k. get_or cursor k 0) back
cursor_beyond (A.Fence number) w cursor i h l = refl
cursor_beyond A.Nothing w cursor i h l = refl

module _ (s : Scene) (cap i : ℕ) where
  abbrev turns : Machine → List ℕ → Turn Machine
  turns = turn_of cap (table s)

  exec_filled : (m t : Machine) (w : List ℕ) (n : ℕ) → turns m w ≡ exec n t → pixels_by ((entry (kind_in w)).action w) ≤ i
      → get_or t.cursor i 0 ≡ get_or m.cursor i 0
  unfolding done
  exec_filled m t w n r l =
      let e = exec_did s cap m t w n r in
      let f = e.is_found in
      rw e.left_by_lem
      (ap (λ (c : List ℕ). get_or c i 0) (f.own m.cursor)
      ∙ cursor_beyond e.action w m.cursor i f.ready (rw f.action at l))

  largest_exec : (k : ℕ) (a : Line Machine) (n : ℕ) (t : Machine) → next turns a ≡ exec n t
      → largest_cursor turns (suc k) a ≡ max (pixels_by ((entry (kind_in a.words)).action a.words)) (largest_cursor turns k (beyond a n t))
  unfolding largest_cursor
  largest_exec k a n t q = rw (q, largest_cursor)

  runs_filled : (b : ℕ) (a : Line Machine) → largest_cursor turns (runs turns b a).count a ≤ i
      → get_or (runs turns b a).line.machine.cursor i 0 ≡ get_or a.machine.cursor i 0
  unfolding runs
  runs_filled zero a l = refl
  runs_filled (suc b) a l = go (next turns a) refl (λ n t. runs_filled b (beyond a n t))
    where
      go : (f : Turn Machine) → next turns a ≡ f
          → ((n : ℕ) (t : Machine) → largest_cursor turns (runs turns b (beyond a n t)).count (beyond a n t) ≤ i
          → get_or (runs turns b (beyond a n t)).line.machine.cursor i 0 ≡ get_or t.cursor i 0)
          → get_or (runs turns (suc b) a).line.machine.cursor i 0 ≡ get_or a.machine.cursor i 0
      go (ends e) q ih = rw (runs_ends turns b a e q)
      go (exec n t) q ih =
          let k = (runs turns b (beyond a n t)).count in
          let own = pixels_by ((entry (kind_in a.words)).action a.words) in
          let rest = largest_cursor turns k (beyond a n t) in
          let most : max own rest ≤ i = rw (runs_exec turns b a n t q, largest_exec k a n t q) at l in
          rw (runs_exec turns b a n t q)
          (ih n t (omega (arith, le-max_right own rest)) ∙ exec_filled a.machine t a.words n q (omega (arith, le-max_left own rest)))

-- ---- the screen places behind the mode

module _ (s : Scene) (cap k : ℕ) (wide : 0 < s.width) (far : s.width * s.height ≤ k) where
  exec_unpainted : (m t : Machine) (w : List ℕ) (n : ℕ) → turn_of cap (table s) m w ≡ exec n t → (Paints ((entry (kind_in w)).action w) → ⊥)
      → get_or t.screen k 0 ≡ get_or m.screen k 0
  unfolding done
  exec_unpainted m t w n r other =
      let e = exec_did s cap m t w n r in
      rw e.left_by_lem (others_keep_to_mode s e.action m.screen k wide (rw e.is_found.action at other) far)

  runs_unpainted : (b : ℕ) (a : Line Machine) → NoPainting (turn_of cap (table s)) (runs (turn_of cap (table s)) b a).count a
      → get_or (runs (turn_of cap (table s)) b a).line.machine.screen k 0 ≡ get_or a.machine.screen k 0
  runs_unpainted b a without =
      runs_without (turn_of cap (table s)) (λ w. Paints ((entry (kind_in w)).action w)) (λ m. get_or m.screen k 0 ≡ get_or a.machine.screen k 0)
      (λ m t w n r other same. exec_unpainted m t w n r other ∙ same) b a without refl

-- ---- a run in a ring memory

-- what a run leaves of the ring memory and of the remembered ring
pub record Stays (g : Ring) (ring : List ℕ) (o : RingOutcome) : Type 0 where
  pub not_standing : NotStanding o.answer
  -- "A run then changes words 3 and 6 only", "and none if it consumed nothing"
  pub ring_length : length o.ring ≡ length ring
  pub other_words : (i : ℕ) → (i ≡ 3 → ⊥) → (posts_in g ≡ true → i ≡ 6 → ⊥) → get_or o.ring i 0 ≡ get_or ring i 0
  pub untouched : o.count ≡ 0 → o.ring ≡ ring
  -- MIN and MAX are those remembered, and STOP stays in the ring
  pub min : o.place.min ≡ g.min
  pub max : o.place.max ≡ g.max
  pub stop_low : g.min ≤ g.stop → g.stop < g.max → g.min ≤ o.place.stop
  pub stop_high : g.min ≤ g.stop → g.stop < g.max → o.place.stop < g.max

module _ (s : Scene) (g : Ring) (budget : ℕ) (ring : List ℕ) (m : Machine) where
  abbrev there : ℕ
  there = next_of ring / 4

  abbrev waits : List ℕ
  waits = waiting ring g.min g.max g.stop there

  abbrev did : LineRun Machine
  did = runs (turn_in s g (next_of ring)) budget (record { words = waits; machine = m })

  abbrev gone : ℕ
  gone = length waits - length did.line.words

  -- STOP has passed no more words than wait, and none where NEXT_CMD is unusable
  gone_in : g.min ≤ g.stop → g.stop < g.max → InRing g.min g.max g.stop gone
  unfolding waiting
  gone_in a b =
      cases (next_good g (next_of ring))
      (λ y.
      let q = next_says g (next_of ring) y in
      let c = between_carried g.min g.max g.stop there a b q.0 q.1 in
      let l : length waits ≡ between g.min g.max g.stop there = length-words ring g.min g.max g.stop (between g.min g.max g.stop there) in
      record { from = a; below = b; held = omega arith })
      (λ f.
      let still = runs_still (turn_in s g (next_of ring)) (never_next s g (next_of ring) f) budget (record { words = waits; machine = m }) in
      let l : length did.line.words ≡ length waits = ap (λ (a : Line Machine). length a.words) still in
      record { from = a; below = b; held = omega arith })

  stop_stays : g.min ≤ g.stop → g.stop < g.max → (g.min ≤ ahead g.min g.max g.stop gone) × (ahead g.min g.max g.stop gone < g.max)
  stop_stays a b = ahead_in g.min g.max g.stop gone (gone_in a b)

  stays_words : Stays g ring (left g ring waits did)
  unfolding left
  stays_words = record {
    not_standing = runs_not_standing (turn_in s g (next_of ring)) budget (record { words = waits; machine = m });
    ring_length = cases (eqb did.count 0) (λ t. rw t) (λ f. rw f (length-written (posts_in g) _ _ ring));
    other_words = λ i h k. cases (eqb did.count 0) (λ t. rw t) (λ f. rw f (written_other (posts_in g) _ _ ring i h k));
    untouched = λ e. let t = eq-eqb did.count 0 e in rw t;
    min = refl;
    max = refl;
    stop_low = λ a b. (stop_stays a b).0;
    stop_high = λ a b. (stop_stays a b).1;
  }

  pub run_stays : Stays g ring (run_in s g budget ring m)
  unfolding run_in run_words
  run_stays =
      cases (fitting g (length ring) (length m.cursor))
      (λ t. rw t stays_words)
      (λ f. rw f (record {
        not_standing = tt;
        ring_length = refl;
        other_words = λ i h k. refl;
        untouched = λ e. refl;
        min = refl;
        max = refl;
        stop_low = λ a b. a;
        stop_high = λ a b. b;
      }))

  abbrev waiting_line : Line Machine
  waiting_line = record { words = waits; machine = m }

  abbrev whole_turn : Machine → List ℕ → Turn Machine
  whole_turn = turn_of (carried g.min g.max) (table s)

  -- what holds where nothing runs, and of the run of the words that wait, holds of a run
  by_line : (P : ℕ → Machine → Type 0) → P 0 m → P (runs whole_turn budget waiting_line).count (runs whole_turn budget waiting_line).line.machine
      → P (run_in s g budget ring m).count (run_in s g budget ring m).machine
  unfolding run_in run_words left
  by_line P still goes =
      cases (fitting g (length ring) (length m.cursor))
      (λ t. cases (next_good g (next_of ring))
      (λ y. rw (t, turn_kept s g (next_of ring) y) goes)
      (λ f.
      let never = never_next s g (next_of ring) f in
      rw (t, never_counts (turn_in s g (next_of ring)) never budget waiting_line, runs_still (turn_in s g (next_of ring)) never budget waiting_line) still))
      (λ f. rw f still)

  -- "The run stops after a number of commands never above its budget"
  pub run_count : (run_in s g budget ring m).count ≤ budget
  run_count = by_line (λ k t. k ≤ budget) (omega arith) (runs_count whole_turn budget waiting_line)

  -- a run that consumed nothing leaves the machine
  pub run_nothing : (run_in s g budget ring m).count ≡ 0 → (run_in s g budget ring m).machine ≡ m
  run_nothing = by_line (λ k t. k ≡ 0 → t ≡ m) (λ z. refl) (λ z. ap (λ (a : Line Machine). a.machine) (runs_none whole_turn budget waiting_line z))

  -- and every run each cursor word that none of its commands fills
  pub run_filled : (i : ℕ) → largest_cursor whole_turn (run_in s g budget ring m).count waiting_line ≤ i
      → get_or (run_in s g budget ring m).machine.cursor i 0 ≡ get_or m.cursor i 0
  run_filled i =
      by_line (λ k t. largest_cursor whole_turn k waiting_line ≤ i → get_or t.cursor i 0 ≡ get_or m.cursor i 0) (λ l. refl)
      (runs_filled s (carried g.min g.max) i budget waiting_line)

  -- and each screen place behind the mode, if none of its commands is a fill or a copy
  pub run_unpainted : (k : ℕ) → 0 < s.width → s.width * s.height ≤ k → NoPainting whole_turn (run_in s g budget ring m).count waiting_line
      → get_or (run_in s g budget ring m).machine.screen k 0 ≡ get_or m.screen k 0
  run_unpainted k wide far =
      by_line (λ j t. NoPainting whole_turn j waiting_line → get_or t.screen k 0 ≡ get_or m.screen k 0) (λ h. refl)
      (runs_unpainted s (carried g.min g.max) k wide far budget waiting_line)

  -- what it posts, by the commands that it executed
  pub run_tells : s.posts ≡ posts_in g → m.posted ≡ posted_in (posts_in g) ring
      → Tells s (carried g.min g.max) g ring (record { words = waits; machine = m }) (run_in s g budget ring m)
  unfolding run_in run_words left
  run_tells by-min start =
      let cap = carried g.min g.max in
      let a : Line Machine = record { words = waits; machine = m } in
      cases (fitting g (length ring) (length m.cursor))
      (λ t.
      let p = placed_when g (length ring) (fitting_placed g _ _ t) in
      cases (next_good g (next_of ring))
      (λ y.
      rw (t, turn_kept s g (next_of ring) y)
      (left_tells s cap g ring budget a by-min start (λ k. let low : 7 ≤ g.min = clear_min g refl k in omega arith)))
      (λ f.
      let never = never_next s g (next_of ring) f in
      let uncounted = never_counts (turn_in s g (next_of ring)) never budget a in
      let still = runs_still (turn_in s g (next_of ring)) never budget a in
      rw t (still_tells s cap g ring a (left g ring waits did) uncounted (stays_words.untouched uncounted) (ap (λ (x : Line Machine). x.machine) still))))
      (λ f. rw f (still_tells s cap g ring a (record { answer = ended (Fault BadNext); count = 0; place = g; ring = ring; machine = m }) refl refl refl))

  -- a sound machine stays sound
  pub run_sound : (screen : List ℕ) → 0 < s.width → ModeJoined s → Sound (joined_at s) screen m
      → Sound (joined_at s) screen (run_in s g budget ring m).machine
  run_sound screen wide mode h =
      by_line (λ k t. Sound (joined_at s) screen t) h
      (runs_keep whole_turn (Sound (joined_at s) screen) (sound_exec s screen wide mode (carried g.min g.max)) budget waiting_line h)

-- ---- a run of a device

-- the numbers that a run is refused with
pub data Refusal : ℕ → Type 0 where
  lent_length_lem : Refusal 20
  disabled : Refusal 21
  not_configured_lem : Refusal 22
  fault_stands : Refusal 23
  too_large_lem : Refusal 24

module _ (d : Device) (l : Lent) where
  -- what a run that is not refused has shown
  pub record Open (g : Ring) : Type 0 where
    pub is_well_formed : well_formed d ≡ true
    pub lengths : lent_good d l ≡ true
    pub is_configured : d.registers.config ≡ true
    pub is_enabled : d.registers.enable ≡ true
    pub mode : mode_fits d ≡ true
    pub running : d.condition ≡ Running g

  abbrev pub ran_in : ℕ → Ring → RingOutcome
  ran_in budget g = run_in (scene_for d l g) g budget l.ring (machine_of d l g)

  by_condition : (P : RunOutcome → Type 0) (budget : ℕ) (c : Condition) → d.condition ≡ c
      → ((a : ℕ) → Refusal a → P (refused_run d l a))
      → ((g : Ring) → d.condition ≡ Running g → P (ran d l (ran_in budget g)))
      → P (run_by d l budget c)
  unfolding run_by
  by_condition P budget Idle e no_run goes = no_run 22 not_configured_lem
  by_condition P budget (Running g) e no_run goes = goes g e
  by_condition P budget (Faulted c) e no_run goes = no_run 23 fault_stands

  -- what holds of every refusal, and of every run that goes on, holds of every run
  pub by_run : (P : RunOutcome → Type 0) (budget : ℕ)
      → ((a : ℕ) → Refusal a → P (refused_run d l a))
      → ((g : Ring) → Open g → P (ran d l (ran_in budget g)))
      → P (run_of d l budget)
  unfolding run_of
  by_run P budget no_run goes =
      by_cond P (well_formed d)
      (λ m. by_cond P (lent_good d l)
      (λ n. by_cond P d.registers.config
      (λ c. by_cond P d.registers.enable
      (λ e. by_cond P (mode_fits d)
      (λ f. by_condition P budget d.condition refl no_run
      (λ g r. goes g (record { is_well_formed = m; lengths = n; is_configured = c; is_enabled = e; mode = f; running = r })))
      (λ f. no_run 24 too_large_lem))
      (λ e. no_run 21 disabled))
      (λ c. no_run 22 not_configured_lem))
      (λ n. no_run 20 lent_length_lem))
      (λ m. no_run 22 not_configured_lem)

  module _ (g : Ring) (o : Open g) where
    -- the machine that such a run starts with is sound
    pub open_sound : Sound (joined_at (scene_for d l g)) l.screen (machine_of d l g)
    unfolding lent_good
    open_sound =
        let a = both (eqb (length l.ring) (memory_of d / 4)) _ o.lengths in
        let b = both (eqb (length l.framebuffer) (pixels_of d)) _ a.1 in
        let c = both (eqb (length l.screen) (pixels_of d)) _ b.1 in
        record { same_length = refl; beyond_reach = λ k h. refl; cursor = eqb-true _ _ c.1; defined = (well_formed_lem d o.is_well_formed).defined }

    -- and so is the one that it leaves
    pub left_sound : (budget : ℕ) → Sound (joined_at (scene_for d l g)) l.screen (ran_in budget g).machine
    left_sound budget =
        let wide = (well_formed_lem d o.is_well_formed).width_low in
        run_sound (scene_for d l g) g budget l.ring (machine_of d l g) l.screen wide (mode_joined d) open_sound

    pub left_stays : (budget : ℕ) → Stays g l.ring (ran_in budget g)
    left_stays budget = run_stays (scene_for d l g) g budget l.ring (machine_of d l g)

    -- and the remembered ring good
    pub open_ring : placed g (memory_of d / 4) ≡ true
    unfolding condition_good
    open_ring =
        let c : condition_good (memory_of d) d.registers.config d.condition ≡ true = (well_formed_lem d o.is_well_formed).condition in
        let q : condition_good (memory_of d) true (Running g) ≡ true = rw (o.is_configured, o.running) at c in
        q

  ring_kept : (words : ℕ) (g : Ring) (r : RingOutcome) → Stays g l.ring r → placed g words ≡ true → placed r.place words ≡ true
  ring_kept words g r s e =
      let p = placed_when g words e in
      when_placed r.place words (record {
        past_head = rw s.min p.past_head;
        fits = rw s.max p.fits;
        size = rw (s.min, s.max) p.size;
        from = rw s.min (s.stop_low p.from p.below);
        below = rw s.max (s.stop_high p.from p.below);
      })

  condition_kept : (memory : ℕ) (a : Answer) (g : Ring) → placed g (memory / 4) ≡ true → condition_good memory true (condition_after a g) ≡ true
  unfolding condition_good condition_after
  condition_kept memory spent g e = e
  condition_kept memory standing g e = e
  condition_kept memory (ended Drained) g e = e
  condition_kept memory (ended Waiting) g e = e
  condition_kept memory (ended (Fault c)) g e = refl

  settled_well_formed : (budget : ℕ) (g : Ring) → Open g → well_formed (settled d (ran_in budget g)) ≡ true
  settled_well_formed budget g o =
      let w = well_formed_lem d o.is_well_formed in
      let place = ring_kept (memory_of d / 4) g (ran_in budget g) (left_stays g o budget) (open_ring g o) in
      well_formed_of (settled d (ran_in budget g)) (record {
        memory_words = w.memory_words;
        memory_low = w.memory_low;
        memory_high = w.memory_high;
        pixels_low = w.pixels_low;
        pixels_high = w.pixels_high;
        width_low = w.width_low;
        width_high = w.width_high;
        height_low = w.height_low;
        height_high = w.height_high;
        condition = subst (λ (b : Bool). condition_good (memory_of d) b (condition_after (ran_in budget g).answer (ran_in budget g).place) ≡ true)
            (sym o.is_configured) (condition_kept (memory_of d) (ran_in budget g).answer (ran_in budget g).place place);
        defined = (left_sound g o budget).defined;
      })

  -- a run leaves a well-formed device well-formed
  pub run_well_formed : (budget : ℕ) → well_formed d ≡ true → well_formed (run_of d l budget).device ≡ true
  run_well_formed budget m = by_run (λ (r : RunOutcome). well_formed r.device ≡ true) budget (λ a r. m) (settled_well_formed budget)

  -- ---- "Answers 20 to 34 change nothing; a run's count is then 0"

  pub refused_run_lem : (budget : ℕ) → 20 ≤ (run_of d l budget).answer
      → run_of d l budget ≡ refused_run d l (run_of d l budget).answer
  refused_run_lem budget =
      by_run (λ (r : RunOutcome). 20 ≤ r.answer → r ≡ refused_run d l r.answer) budget
      (λ a r h. refl)
      (λ g o h. absurd (omega (arith, not_standing_small (ran_in budget g).answer (left_stays g o budget).not_standing)))
