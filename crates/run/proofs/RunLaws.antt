-- A run by its first tests.
-- Assumes nothing.
use mathlib.Core.Path.{◌≡◌, refl, sym, ap, ◌∙◌}
use mathlib.Core.Bool.{Bool, true, false}
use mathlib.Core.List.{List}
use Prim.Native.Nat.{ℕ, zero, suc, ◌-◌, ◌/◌, ◌≤◌, ◌<◌}
use native.Mathlib.Omega.{arith}
use lib.Dec.{leb}
use lib.ListN.{length}
use borrow.Author.Tests.{ne_eqb, eqb-true, leb-true}
use Rattle.geometry.specs.declared.Frame.{Frame}
use Rattle.geometry.proofs.Tests.{both}
use Rattle.execution.specs.declared.End.TheVariants.{Fault}
use Rattle.execution.specs.declared.Cause.TheVariants.{BadNext}
use Rattle.execution.specs.Straight as O
use Rattle.execution.specs.Straight.{ends}
use Rattle.execution.specs.Table.{turn_of, unless}
use Rattle.execution.specs.Claim as Claim
use Rattle.execution.specs.Turns.{runs}
use Rattle.execution.proofs.QueueLaws.{runs_ends}
use Rattle.ring.specs.declared.Ring.{Ring}
use Rattle.ring.specs.Acceptance.{next_of}
use Rattle.ring.specs.Waiting.{ahead, waiting, carried, placed, next_good}
use Rattle.ring.proofs.Laws.{placed_when}
use Rattle.ring.proofs.WaitingLaws.{ahead_zero}
use Rattle.effect.specs.declared.Marks.{Marks}
use Rattle.effect.specs.Effects.{Scene, scene, Machine}
use Rattle.run.specs.declared.View.{View}
use Rattle.run.specs.Turns.{Stands, words_in, view_of, place_of, next_unusable}
use Rattle.run.specs.Run.{machine, table, posts_in, posted_in, turn_in, left, run_words, fitting, run_in}
use Rattle.run.proofs.Laws.{next_says, in_view}

-- where the tests of lengths fail
pub run_unfit : (s : Scene) (g : Ring) (budget : ℕ) (ring : List ℕ) (m : Machine) → fitting g (length ring) (length m.cursor) ≡ false
    → run_in s g budget ring m ≡ record { answer = Claim.ended (Fault BadNext); count = 0; place = g; ring = ring; machine = m }
unfolding run_in
run_unfit s g budget ring m e = rw e

pub fitting_placed : (g : Ring) (words image : ℕ) → fitting g words image ≡ true → placed g words ≡ true
unfolding fitting
fitting_placed g words image e = (both (placed g words) _ e).0

-- a run that ends in its first turn leaves all as it was
pub left_same : (g : Ring) (ring words : List ℕ) (a : Claim.Answer) (m : Machine) → g.stop < g.max
    → left g ring words (record { answer = a; count = 0; line = record { words = words; machine = m } })
    ≡ record { answer = a; count = 0; place = g; ring = ring; machine = m }
unfolding left
left_same g ring words a m h =
    let none : length words - length words ≡ 0 = omega arith in
    let same : ahead g.min g.max g.stop (length words - length words) ≡ g.stop = rw none (ahead_zero g.min g.max g.stop h) in
    λ i. record { answer = a; count = 0; place = record { min = g.min; max = g.max; stop = same i }; ring = ring; machine = m }

-- NEXT_CMD unusable
turn_next_unusable : (s : Scene) (g : Ring) (next : ℕ) (m : Machine) (w : List ℕ) → next_good g next ≡ false → turn_in s g next m w ≡ ends (Fault BadNext)
unfolding turn_in unless
turn_next_unusable s g next m w e = rw e

runs_next_unusable : (s : Scene) (g : Ring) (next budget : ℕ) (m : Machine) (w : List ℕ) → next_good g next ≡ false
    → runs (turn_in s g next) budget (record { words = w; machine = m }) ≡ record { answer = next_unusable budget; count = 0; line = record { words = w; machine = m } }
unfolding runs next_unusable
runs_next_unusable s g next zero m w e = refl
runs_next_unusable s g next (suc b) m w e =
    runs_ends (turn_in s g next) b (record { words = w; machine = m }) (Fault BadNext) (turn_next_unusable s g next m w e) ∙ rw (ne_eqb (suc b) 0 (omega arith))

pub run_next_unusable : (s : Scene) (g : Ring) (budget : ℕ) (ring : List ℕ) (m : Machine) → fitting g (length ring) (length m.cursor) ≡ true → next_good g (next_of ring) ≡ false
    → run_in s g budget ring m ≡ record { answer = next_unusable budget; count = 0; place = g; ring = ring; machine = m }
unfolding run_in run_words
run_next_unusable s g budget ring m fits bad =
    let p = placed_when g (length ring) (fitting_placed g _ _ fits) in
    rw (fits, runs_next_unusable s g (next_of ring) budget m _ bad) (left_same g ring _ _ m p.below)

-- NEXT_CMD usable: the turn is straight execution's
pub turn_kept : (s : Scene) (g : Ring) (next : ℕ) → next_good g next ≡ true → turn_in s g next ≡ turn_of (carried g.min g.max) (table s)
unfolding turn_in unless
turn_kept s g next e = λ i m w. same m w i
  where
    same : (m : Machine) (w : List ℕ) → turn_in s g next m w ≡ turn_of (carried g.min g.max) (table s) m w
    same m w = rw e

pub run_good : (s : Scene) (g : Ring) (budget : ℕ) (ring : List ℕ) (m : Machine) (v : View) → fitting g (length ring) (length m.cursor) ≡ true
    → next_good g (next_of ring) ≡ true → v ≡ view_of g (next_of ring)
    → run_words (turn_of (carried v.lo v.hi) (table s)) (place_of v) budget ring (words_in ring v) m ≡ run_in s g budget ring m
unfolding run_in waiting
run_good s g budget ring m v fits good e =
    ap (λ (x : View). run_words (turn_of (carried x.lo x.hi) (table s)) (place_of x) budget ring (words_in ring x) m) e
    ∙ rw fits (ap (λ (t : Machine → List ℕ → O.Turn Machine). run_words t g budget ring (words_in ring (view_of g (next_of ring))) m) (sym (turn_kept s g (next_of ring) good)))

-- fences are posted as MIN has it
module _ (frame : Frame) (framebuffer : List ℕ) (g : Ring) (budget : ℕ) (ring : List ℕ) (marks : Marks) (screen cursor : List ℕ)
    (v : View) (posts : Bool) where
  pub run_posts : fitting g (length ring) (length cursor) ≡ true → next_good g (next_of ring) ≡ true → v ≡ view_of g (next_of ring) → posts ≡ posts_in g
      → run_words (turn_of (carried v.lo v.hi) (table (scene frame framebuffer posts))) (place_of v) budget ring (words_in ring v)
      (machine marks screen cursor (posted_in posts ring))
      ≡ run_in (scene frame framebuffer (posts_in g)) g budget ring (machine marks screen cursor (posted_in (posts_in g) ring))
  run_posts fits good e by-min = rw by-min (run_good _ g budget ring _ v fits good e)

-- what the places of the ring's words ask for
pub can_view : (g : Ring) (words image next : ℕ) → fitting g words image ≡ true → next_good g next ≡ true
    → (g.min ≤ g.stop) × (g.stop < g.max) × (g.min ≤ next / 4) × (next / 4 < g.max)
can_view g words image next fits good =
    let p = placed_when g words (fitting_placed g words image fits) in
    let q = next_says g next good in
    (p.from, p.below, q.0, q.1)

pub head_there : (g : Ring) (words image : ℕ) → fitting g words image ≡ true → 2 < words
head_there g words image fits = let p = placed_when g words (fitting_placed g words image fits) in omega arith

pub can_turn : (g : Ring) (ring cursor : List ℕ) (next : ℕ) (v : View) → fitting g (length ring) (length cursor) ≡ true → next_good g next ≡ true → v ≡ view_of g next
    → (posts : Bool) → posts ≡ posts_in g → Stands posts v ring cursor
unfolding fitting
can_turn g ring cursor next v fits good e posts by-min =
    let there = fitting_placed g (length ring) (length cursor) fits in
    let p = placed_when g (length ring) there in
    let rest = both (leb g.max 524288) _ (both (placed g (length ring)) _ fits).1 in
    rw e record {
      inside = in_view g (length ring) next there good;
      low = p.past_head;
      small = leb-true _ _ rest.0;
      carries = omega (arith, p.size);
      image = eqb-true _ _ rest.1;
      posted = by-min;
    }
