-- What the test of NEXT_CMD says.
-- Assumes nothing.
use mathlib.Core.Path.{◌≡◌}
use mathlib.Core.Bool.{Bool, true, ◌&&◌}
use mathlib.Core.List.{List}
use Prim.Native.Nat.{ℕ, ◌/◌, ◌%◌, ◌≤◌, ◌<◌}
use native.Mathlib.Omega.{arith}
use lib.Dec.{eqb, ltb, leb}
use borrow.Author.Tests.{leb-true, ltb-true}
use Rattle.geometry.proofs.Tests.{both}
use Rattle.ring.specs.declared.Ring.{Ring}
use Rattle.ring.proofs.Laws.{placed_when}
use Rattle.ring.proofs.WaitingLaws.{between_carried}
use Rattle.ring.specs.Waiting.{placed, next_good}
use Rattle.ring.specs.Acceptance.{max_words}
use Rattle.run.specs.declared.View.{View}
use Rattle.run.specs.Turns.{InView, Stands, view_of}

pub next_says : (g : Ring) (next : ℕ) → next_good g next ≡ true → (g.min ≤ next / 4) × (next / 4 < g.max)
unfolding next_good
next_says g next e =
    let p = both (eqb (next % 4) 0) (leb g.min (next / 4) && ltb (next / 4) g.max) e in
    let q = both (leb g.min (next / 4)) (ltb (next / 4) g.max) p.1 in
    (leb-true _ _ q.0, ltb-true _ _ q.1)

-- a view from which a run may start lies in the largest ring
pub in_largest : {posts : Bool} {v : View} {ring cursor : List ℕ} → Stands posts v ring cursor → InView v max_words
in_largest s = record { from = s.inside.from; below = s.inside.below; held = s.inside.held; fits = s.small }

-- the view of the words that wait lies in the memory
pub in_view : (g : Ring) (m next : ℕ) → placed g m ≡ true → next_good g next ≡ true
    → InView (view_of g next) m
in_view g m next there good =
    let p = placed_when g m there in
    let q = next_says g next good in
    let u = between_carried g.min g.max g.stop (next / 4) p.from p.below q.0 q.1 in
    record { from = p.from; below = p.below; held = omega arith; fits = p.fits }
