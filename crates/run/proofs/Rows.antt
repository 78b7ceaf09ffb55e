-- Commands in a row of words.
-- Assumes nothing.
use Rattle.std.specs.Prelude.{Option}
use Rattle.cursor.specs.declared.Shape.{Shape}
use mathlib.Core.Path.{◌≡◌, refl, sym, ap, ◌∙◌}
use mathlib.Core.Bool.{cond, true, true≢false}
use mathlib.Core.Option.{none}
use mathlib.Core.List.{List, [], ◌∷◌, ◌++◌}
use Prim.Native.Nat.{ℕ, zero, suc, ◌+◌, ◌-◌, ◌≤◌, ◌<◌}
use native.Mathlib.Omega.{arith}
use native.Mathlib.Nat.{zero-add, suc-add}
use lib.Dec.{eqb, ltb}
use lib.ListN.{length, take, drop, length-drop}
use lib.Seq.{take-nil, drop-drop, drop-append-le, length-take-le}
use borrow.Author.Tests.{ne_eqb, ltb-true, ltb-false}
use borrow.Table.Steps.{cases}
use Rattle.execution.specs.declared.Cause.TheVariants.{BadOperand}
use Rattle.execution.specs.Straight.{exec}
use Rattle.execution.specs.Table.{turn_of}
use Rattle.execution.specs.Turns.{runs}
use Rattle.execution.proofs.QueueLaws.{runs_exec}
use Rattle.command.specs.declared.Action.{Action}
use Rattle.command.specs.declared.Action.TheVariants as A
use Rattle.command.specs.declared.Step.{Step}
use Rattle.command.specs.declared.Step.TheVariants.{Does}
use Rattle.command.specs.Commands.{entry, kind_in}
use Rattle.command.specs.Findings.{data_of, step_in, on_machine}
use Rattle.command.proofs.Rules.{turn_found}
use Rattle.command.proofs.Steps.{KeepsCursor, step_short, step_bad, step_does, whole, does_turn}
use Rattle.effect.specs.Effects.{Scene, screen_after, fence_after, posted_after, defined_after, cursor_after, done}
use Rattle.run.specs.declared.Pause.TheVariants.{Spent, Short, Faults}
use Rattle.run.specs.Run.{known_of, machine, table, stamped, posting, posted_in}
use Rattle.run.specs.Turns.{row_in, Clear}
use Rattle.run.specs.Going.{plus, line, marked, pause_of, Pauses, RowGoing}
use Rattle.run.proofs.Counts.{plus_one}
use Rattle.run.proofs.Posting.{posted_after_none, length-written, written_row, posted_written, written_further}

-- ---- rows

pub drop-take : (m k : ℕ) (l : List ℕ) → drop m (take (m + k) l) ≡ take k (drop m l)
drop-take zero k l = ap (λ n. take n l) (zero-add k)
drop-take (suc m) k [] = rw (take-nil (suc m + k), take-nil k)
drop-take (suc m) k (x ∷ l) = rw (suc-add m k) (drop-take m k l)

-- behind the first n words of a row
pub row_drop : (l : List ℕ) (a n e : ℕ) → a + n ≤ e → drop n (row_in l a e) ≡ row_in l (a + n) e
row_drop l a n e h =
    let k : e - a ≡ n + (e - (a + n)) = omega arith in
    rw k (drop-take n (e - (a + n)) (drop a l) ∙ ap (take (e - (a + n))) (drop-drop n a l))

pub row_length : (l : List ℕ) (a e : ℕ) → e ≤ length l → length (row_in l a e) ≡ e - a
row_length l a e h = length-take-le (e - a) (drop a l) (rw length-drop (omega arith))

-- ---- actions that leave the cursor alone

keeps_cursor : (a : Action) (w cursor : List ℕ) → KeepsCursor a → cursor_after a w cursor ≡ cursor
unfolding cursor_after
keeps_cursor (A.Update r) w cursor k = refl
keeps_cursor (A.Fill r colour rop) w cursor k = refl
keeps_cursor (A.Copy from r rop) w cursor k = refl
keeps_cursor (A.Define s) w cursor k = absurd k
keeps_cursor (A.Fence number) w cursor k = refl
keeps_cursor A.Nothing w cursor k = refl

keeps_defined : (a : Action) (defined : Option Shape) → KeepsCursor a → defined_after a defined ≡ defined
unfolding defined_after
keeps_defined (A.Update r) defined k = refl
keeps_defined (A.Fill r colour rop) defined k = refl
keeps_defined (A.Copy from r rop) defined k = refl
keeps_defined (A.Define s) defined k = absurd k
keeps_defined (A.Fence number) defined k = refl
keeps_defined A.Nothing defined k = refl

done_kept : (s : Scene) (a : Action) (w : List ℕ) (fence : ℕ) (defined : Option Shape) (screen cursor : List ℕ) (posted : ℕ) → KeepsCursor a
    → done s a w (machine (marked fence defined) screen cursor posted)
    ≡ machine (marked (fence_after a fence) defined) (screen_after s a screen) cursor (posted_after s.posts a posted)
unfolding done
done_kept s a w fence defined screen cursor posted k = λ i. record {
  screen = screen_after s a screen;
  cursor = keeps_cursor a w cursor k i;
  marks = record { fence = fence_after a fence; defined = keeps_defined a defined k i };
  posted = posted_after s.posts a posted;
}

-- ---- the loop

module _ {s : Scene} {budget : ℕ} {memory₀ : List ℕ} {a e : ℕ} {fence₀ : ℕ} {screen₀ : List ℕ} (low : 4 ≤ a) (there : e ≤ length memory₀)
    (clear : Clear s.posts a) {at fence left : ℕ} {memory screen : List ℕ}
    (g : RowGoing s budget memory₀ a e fence₀ screen₀ at fence left memory screen) where
  pub same_row : row_in memory at e ≡ row_in memory₀ at e
  same_row =
      let h = g.from in
      let behind : Clear s.posts at = λ t. omega (arith, clear t) in
      cases (eqb left budget) (λ t. rw (g.stamp, t)) (λ t. rw (g.stamp, t) (written_row s.posts at _ memory₀ at e (omega arith) behind))

  pub row_same_length : length memory ≡ length memory₀
  row_same_length = cases (eqb left budget) (λ t. rw (g.stamp, t)) (λ t. rw (g.stamp, t) (length-written s.posts at _ memory₀))

  -- a FENCE can be posted there
  pub row_clear : Clear s.posts (length memory)
  row_clear t = let l = row_same_length in omega (arith, clear t, g.from, g.within)

  module _ (act : Action) (n : ℕ) (does : step_in tt (row_in memory at e) ≡ Does act n) where
    found : step_in tt (row_in memory₀ at e) ≡ Does act n
    found = rw (sym same_row) does

    pub row_fits : (1 ≤ n) × (at + n ≤ e)
    row_fits =
        let w = whole tt (row_in memory₀ at e) act n found in
        let l = row_length memory₀ at e there in
        (w.one, omega (arith, w.fits, w.one, g.within))

    -- what it posts
    abbrev posts_now : ℕ
    posts_now = posted_after s.posts act (posted_in s.posts memory)

    turns : (cap : ℕ) (tail : List ℕ) (defined : Option Shape) (cursor : List ℕ) → 10 ≤ cap → e - a ≤ cap
        → turn_of cap (table s) (machine (marked fence defined) screen cursor (posted_in s.posts memory)) (row_in memory₀ at e ++ tail)
        ≡ exec n (machine (marked (fence_after act fence) defined) (screen_after s act screen) cursor posts_now)
    turns cap tail defined cursor h k =
        let m = machine (marked fence defined) screen cursor (posted_in s.posts memory) in
        let row = row_in memory₀ at e in
        turn_found known_of (done s) cap m (row ++ tail)
        ∙ ap (on_machine (done s) m (row ++ tail)) (does_turn tt row act n found cap h (rw (row_length memory₀ at e there) (omega (arith, g.from))) tail)
        ∙ ap (exec n) (done_kept s act (take n (row ++ tail)) fence defined screen cursor _ (whole tt row act n found).keeps)

    module _ (some_left : 0 < left) (later : List ℕ) (wrote : later ≡ stamped (at + n) (posting s.posts posts_now memory))
        (painted : List ℕ) (drawn : painted ≡ screen_after s act screen) (number : ℕ) (fenced : number ≡ fence_after act fence) where
      posted_now : posted_in s.posts later ≡ posts_now
      posted_now = ap (posted_in s.posts) wrote ∙ posted_written s.posts (at + n) posts_now memory row_clear (posted_after_none s.posts act memory)

      one : (cap : ℕ) (tail : List ℕ) (defined : Option Shape) (cursor : List ℕ) → 10 ≤ cap → e - a ≤ cap
          → runs (turn_of cap (table s)) budget (line (row_in memory₀ a e ++ tail) (machine (marked fence₀ defined) screen₀ cursor (posted_in s.posts memory₀)))
          ≡ plus (budget - (left - 1)) (runs (turn_of cap (table s)) (left - 1)
          (line (row_in memory₀ (at + n) e ++ tail) (machine (marked number defined) painted cursor (posted_in s.posts later))))
      one cap tail defined cursor x y =
          let b = g.bounded in
          let k : left ≡ suc (left - 1) = omega arith in
          let t = turn_of cap (table s) in
          let l = line (row_in memory₀ at e ++ tail) (machine (marked fence defined) screen cursor (posted_in s.posts memory)) in
          let m = machine (marked (fence_after act fence) defined) (screen_after s act screen) cursor posts_now in
          let more : budget - (left - 1) ≡ suc (budget - left) = omega arith in
          let words : drop n (row_in memory₀ at e ++ tail) ≡ row_in memory₀ (at + n) e ++ tail =
          drop-append-le n (row_in memory₀ at e) tail (rw (row_length memory₀ at e there) (omega (arith, row_fits.1)))
          ∙ ap (λ (w : List ℕ). w ++ tail) (row_drop memory₀ at n e row_fits.1) in
          g.rest cap tail defined cursor x y
          ∙ ap (λ j. plus (budget - left) (runs t j l)) k
          ∙ ap (plus (budget - left)) (runs_exec t (left - 1) l n _ (turns cap tail defined cursor x y))
          ∙ plus_one (budget - left) (budget - (left - 1)) _ more
          ∙ rw (posted_now, drawn, fenced) (ap (λ (w : List ℕ). plus (budget - (left - 1)) (runs t (left - 1) (line w m))) words)

      pub row_more : RowGoing s budget memory₀ a e fence₀ screen₀ (at + n) number (left - 1) later painted
      row_more =
          let b = g.bounded in
          let fits = row_fits in
          let f = g.from in
          record {
            bounded = omega arith;
            from = omega arith;
            within = fits.1;
            still = λ z. absurd (omega arith);
            stamp = rw posted_now
                (written_further s.posts budget left (left - 1) at (at + n) _ posts_now memory₀ memory later b (omega arith) (λ z. absurd (omega arith))
                g.stamp (wrote ∙ rw (ne_eqb (left - 1) left (omega arith))));
            rest = λ cap tail defined cursor x y. one cap tail defined cursor x y;
          }

-- ---- why it paused

module _ (left : ℕ) (row : List ℕ) where
  pub pauses_spent : left ≡ 0 → Pauses Spent left row
  pauses_spent z = record {
    spent = λ e. z;
    short = λ e. absurd (true≢false cc);
    faults = λ c e. absurd (true≢false cc);
    long = λ d e. absurd (true≢false cc);
  }

  -- at a step that is not executed
  pub pauses_at : (step : Step) → (pause_of step ≡ Spent → ⊥) → 1 ≤ left → step_in tt row ≡ step → Pauses (pause_of step) left row
  pauses_at (Step.Does a n) other h q = absurd (other refl)
  pauses_at Step.Short other h q = record {
    spent = λ e. absurd (true≢false cc);
    short = λ e. (h, q);
    faults = λ c e. absurd (true≢false cc);
    long = λ d e. absurd (true≢false cc);
  }
  pauses_at (Step.Faults f) other h q = record {
    spent = λ e. absurd (true≢false cc);
    short = λ e. absurd (true≢false cc);
    faults = λ c e. let same : f ≡ c = cc in (h, q ∙ ap Step.Faults same);
    long = λ d e. absurd (true≢false cc);
  }
  pauses_at (Step.Long f) other h q = record {
    spent = λ e. absurd (true≢false cc);
    short = λ e. absurd (true≢false cc);
    faults = λ c e. absurd (true≢false cc);
    long = λ d e. let same : f ≡ d = cc in (h, q ∙ ap Step.Long same);
  }

-- words of a command of fixed length that are not executed
module _ (row : List ℕ) (other : pause_of (step_in tt row) ≡ Spent → ⊥) (plain : data_of (kind_in row) ≡ none)
    (offered : (entry (kind_in row)).offered ≡ true) where
  not_done : (entry (kind_in row)).head ≤ length row → (entry (kind_in row)).good tt row ≡ true → ⊥
  not_done all good = other (ap pause_of (step_does tt row (kind_in row) refl plain offered (entry (kind_in row)).head refl all good))

  -- they are too few, or an operand is bad
  pub pauses_fixed : pause_of (step_in tt row) ≡ cond (ltb (length row) (entry (kind_in row)).head) Short (Faults BadOperand)
  pauses_fixed =
      cases (ltb (length row) (entry (kind_in row)).head)
      (λ t. rw t (ap pause_of (step_short tt row (kind_in row) refl plain offered (ltb-true _ _ t))))
      (λ f. rw f (cases ((entry (kind_in row)).good tt row) (λ t. absurd (not_done (ltb-false _ _ f) t))
      (λ g. ap pause_of (step_bad tt row (kind_in row) refl plain offered (entry (kind_in row)).head refl (ltb-false _ _ f) g))))
