-- The turns of a run so far, and what is left of it.
-- Assumes nothing.
use Rattle.std.specs.Prelude.{Option, Some, None}
use Rattle.cursor.specs.declared.Shape.{Shape}
use mathlib.Core.Path.{◌≡◌, refl, sym, ap, ◌∙◌}
use mathlib.Core.Bool.{Bool, cond, true≢false}
use mathlib.Core.List.{List, ◌++◌}
use Prim.Native.Nat.{ℕ, suc, ◌+◌, ◌-◌, ◌≤◌, ◌<◌}
use native.Mathlib.Omega.{arith}
use lib.Dec.{eqb, ltb, leb}
use lib.ListN.{length, drop, length-drop, take-append-drop}
use lib.Seq.{drop-drop, drop-append-le}
use mathlib.Core.Logic.{◌≢◌}
use borrow.Author.Tests.{ltb-true, ltb-false, lt-ltb, eqb-true, eqb-false, eq-eqb, ne_eqb}
use borrow.Table.Steps.{cases}
use Rattle.execution.specs.declared.End.{End}
use Rattle.execution.specs.Straight.{Line, ends, exec}
use Rattle.execution.specs.Straight as O
use Rattle.execution.specs.Claim as Claim
use Rattle.execution.specs.Turns.{LineRun, runs}
use Rattle.execution.proofs.QueueLaws.{runs_ends, runs_exec}
use Rattle.ring.specs.Waiting.{ahead, carried}
use Rattle.ring.proofs.WaitingLaws.{InRing, ahead_in, ahead_zero, ahead_ahead, length-words, take_words, drop-words}
use Rattle.command.proofs.Laws.{command_laws}
use Rattle.effect.specs.declared.Marks.{Marks}
use Rattle.effect.specs.Effects.{Scene, Machine, done}
use Rattle.run.specs.declared.View.{View}
use Rattle.run.specs.Turns.{words_in, InView, Stands, passed_in, row_in, row_end, place_of}
use Rattle.run.specs.Run.{known_of, machine, passed, stamped, posts_in, posting, posted_in, left, run_words}
use Rattle.run.specs.Going.{plus, line, turn, marked, Going, RowGoing, After, turned_by, turned}
use Rattle.run.proofs.Copying.{straight}
use Rattle.run.proofs.Counts.{plus_zero, plus_end, plus_one, plus_plus}
use Rattle.run.proofs.Posting.{clear_min, length-written, written_words, written_further}
use Rattle.run.proofs.Rows.{row_drop, row_length}

-- ---- views

passed_passed : (v : View) (k n : ℕ) → v.lo ≤ v.at → v.at < v.hi → k + n + v.lo ≤ v.hi → passed_in (passed_in v k) n ≡ passed_in v (k + n)
passed_passed v k n from below held = λ i. record { lo = v.lo; hi = v.hi; at = ahead_ahead v.lo v.hi v.at k n from below held i; n = fewer i }
  where
    fewer : v.n - k - n ≡ v.n - (k + n)
    fewer = omega arith

same_view : (v : View) (a n : ℕ) → a ≡ v.at → n ≡ v.n → v ≡ record { lo = v.lo; hi = v.hi; at = a; n = n }
same_view v a n p q = λ i. record { lo = v.lo; hi = v.hi; at = sym p i; n = sym q i }

module _ (ring : List ℕ) (v : View) (inside : InView v (length ring)) where
  in_ring : InRing v.lo v.hi v.at v.n
  in_ring = record { from = inside.from; below = inside.below; held = omega (arith, inside.held) }

  -- a row of a view's words
  pub row_bounds : (v.at ≤ row_end v) × (row_end v < v.hi) × (row_end v ≤ v.at + v.n)
  unfolding row_end
  row_bounds =
      let b = inside.below in
      cases (ltb (v.at + v.n) v.hi)
      (λ t. let u : v.at + v.n < v.hi = ltb-true _ _ t in rw t (omega arith, omega arith, omega arith))
      (λ t. let u : v.hi ≤ v.at + v.n = ltb-false _ _ t in rw t (omega arith, omega arith, omega arith))

  -- the words of a view are those of its row, and the rest
  row_words : words_in ring v ≡ row_in ring v.at (row_end v) ++ drop (row_end v - v.at) (words_in ring v)
  row_words =
      let b = row_bounds in
      let k = row_end v - v.at in
      sym (take-append-drop k (words_in ring v))
      ∙ ap (λ (w : List ℕ). w ++ drop k (words_in ring v)) (take_words ring v.lo v.hi v.at v.n k (omega (arith, b))
      ∙ straight ring v.lo v.hi inside.fits v.at k inside.from inside.below (omega (arith, b, inside.held)) (omega (arith, b)))

  row_words_behind : (at : ℕ) → v.at ≤ at → at ≤ row_end v
      → drop (at - v.at) (words_in ring v) ≡ row_in ring at (row_end v) ++ drop (row_end v - v.at) (words_in ring v)
  row_words_behind at p q =
      let b = row_bounds in
      let rest = drop (row_end v - v.at) (words_in ring v) in
      let here : v.at + (at - v.at) ≡ at = omega arith in
      let some : at - v.at ≤ length (row_in ring v.at (row_end v)) = rw (row_length ring v.at (row_end v) (omega (arith, b, inside.fits))) (omega arith) in
      ap (drop (at - v.at)) row_words
      ∙ drop-append-le (at - v.at) (row_in ring v.at (row_end v)) rest some
      ∙ ap (λ (w : List ℕ). w ++ rest) (row_drop ring v.at (at - v.at) (row_end v) (omega arith) ∙ ap (λ a. row_in ring a (row_end v)) here)

  ahead_row : (at : ℕ) → v.at ≤ at → at ≤ row_end v → ahead v.lo v.hi v.at (at - v.at) ≡ at
  unfolding ahead
  ahead_row at p q = let b = row_bounds in rw (lt-ltb (v.at + (at - v.at)) v.hi (omega (arith, b))) (omega arith)

-- ---- where a run stands

module _ (s : Scene) (budget : ℕ) (v₀ : View) (ring₀ : List ℕ) (m₀ : Machine) where
  -- nothing is done yet
  pub going_start : InView v₀ (length ring₀) → Going s budget v₀ ring₀ m₀ v₀ ring₀ m₀ budget
  going_start i = record {
    bounded = omega arith;
    gone = 0;
    part = omega arith;
    still = λ e. (refl, refl);
    view = same_view v₀ _ _ (ahead_zero v₀.lo v₀.hi v₀.at i.below) (omega arith);
    memory = rw (eq-eqb budget budget refl);
    rest = let e : budget - budget ≡ 0 = omega arith in rw e (plus_zero _);
  }

-- commands in a row
pub going_row : {s : Scene} {budget : ℕ} {v : View} {ring : List ℕ} {fence : ℕ} {screen : List ℕ} {end at after left : ℕ} {later painted : List ℕ}
    → InView v (length ring) → 10 + v.lo < v.hi → end ≡ row_end v → RowGoing s budget ring v.at end fence screen at after left later painted → (defined : Option Shape) (cursor : List ℕ)
    → Going s budget v ring (machine (marked fence defined) screen cursor (posted_in s.posts ring))
    (passed_in v (at - v.at)) later (machine (marked after defined) painted cursor (posted_in s.posts later)) left
going_row {s} {budget} {v} {ring} {fence} {screen} {end} {at} {after} {left} {later} {painted} inside carries is Ends-there defined cursor =
    let g : RowGoing s budget ring v.at (row_end v) fence screen at after left later painted = rw is at Ends-there in
    let b = row_bounds ring v inside in
    let there = ahead_row ring v inside at g.from g.within in
    let m = machine (marked fence defined) screen cursor (posted_in s.posts ring) in
    let m' = machine (marked after defined) painted cursor (posted_in s.posts later) in
    record {
      bounded = g.bounded;
      gone = at - v.at;
      part = omega (arith, b, g.within);
      still = λ e. (omega (arith, (g.still e).0), ap (posted_in s.posts) (g.stamp ∙ rw (eq-eqb left budget e)));
      view = refl;
      memory = g.stamp ∙ rw there;
      rest =
          ap (λ (w : List ℕ). runs (turn s v) budget (line w m)) (row_words ring v inside)
          ∙ g.rest (carried v.lo v.hi) (drop (row_end v - v.at) (words_in ring v)) defined cursor (omega arith) (omega (arith, b, inside.held))
          ∙ ap (λ (w : List ℕ). plus (budget - left) (runs (turn s v) left (line w m'))) (sym (row_words_behind ring v inside at g.from g.within));
    }

-- one turn that goes on
module _ {s : Scene} {left : ℕ} {v : View} {ring : List ℕ} {m : Machine} (inside : InView v (length ring)) (carries : 10 + v.lo < v.hi) (some_left : 0 < left) where
  by_turn : (t : O.Turn Machine) → turn s v m (words_in ring v) ≡ t → (a : After) → a ≡ turned_by s.posts v ring m t → a.stop ≡ None
      → Going s left v ring m a.view a.ring a.machine (left - 1)
  by_turn (ends e) q a p n = absurd (clash (sym n ∙ ap (λ (x : After). x.stop) p))
    where
      clash : None ≡ Some e → ⊥
      clash h = true≢false cc
  by_turn (exec n u) q a p none-stops =
      let l = length-words ring v.lo v.hi v.at v.n in
      let fits = (command_laws known_of (done s) (carried v.lo v.hi) (omega arith)).takes_whole m u (words_in ring v) n q in
      let k : left ≡ suc (left - 1) = omega arith in
      rw p (record {
        bounded = omega arith;
        gone = n;
        part = omega arith;
        still = λ e. absurd (omega arith);
        view = refl;
        memory = rw (ne_eqb (left - 1) left (omega arith));
        rest =
            ap (λ j. runs (turn s v) j (line (words_in ring v) m)) k
            ∙ runs_exec (turn s v) (left - 1) (line (words_in ring v) m) n u q
            ∙ plus_zero _
            ∙ plus_one 0 (left - (left - 1)) _ (omega arith);
      })

  pub going_turn : (a : After) → a ≡ turned s v ring m → a.stop ≡ None → Going s left v ring m a.view a.ring a.machine (left - 1)
  unfolding turned
  going_turn a p n = by_turn (turn s v m (words_in ring v)) refl a p n

-- and one that ends the run: nothing changed
pub stops_there : (s : Scene) (v : View) (ring : List ℕ) (m : Machine) (a : After) (e : End) → a ≡ turned s v ring m → a.stop ≡ Some e
    → (turn s v m (words_in ring v) ≡ ends e) × (a.ring ≡ ring) × (a.machine ≡ m)
unfolding turned
stops_there s v ring m a e p q = go (turn s v m (words_in ring v)) refl
  where
    go : (t : O.Turn Machine) → turn s v m (words_in ring v) ≡ t → (turn s v m (words_in ring v) ≡ ends e) × (a.ring ≡ ring) × (a.machine ≡ m)
    go (ends f) h =
        let r = rw h at p in
        let same : f ≡ e = same_end (sym (ap (λ (x : After). x.stop) r) ∙ q) in
        (h ∙ ap ends same, ap (λ (x : After). x.ring) r, ap (λ (x : After). x.machine) r)
      where
        same_end : Some f ≡ Some e → f ≡ e
        same_end z = cc
    go (exec n u) h = absurd (clash (sym (ap (λ (x : After). x.stop) (rw h at p)) ∙ q))
      where
        clash : None ≡ Some e → ⊥
        clash z = true≢false cc

module _ {s : Scene} {budget : ℕ} {v₀ : View} {ring₀ cursor₀ : List ℕ} {m₀ : Machine} (first : Stands s.posts v₀ ring₀ cursor₀)
    {v : View} {ring : List ℕ} {m : Machine} {left : ℕ} (g : Going s budget v₀ ring₀ m₀ v ring m left) where
  abbrev inside : InView v₀ (length ring₀)
  inside = first.inside

  held_in_lem : (k : ℕ) → k ≤ v₀.n → InRing v₀.lo v₀.hi v₀.at k
  held_in_lem k h = record { from = inside.from; below = inside.below; held = omega (arith, inside.held) }

  pub same_length : length ring ≡ length ring₀
  same_length = cases (eqb left budget) (λ e. rw (g.memory, e)) (λ e. rw (g.memory, e) (length-written s.posts _ _ ring₀))

  pub same_ends : (v.lo ≡ v₀.lo) × (v.hi ≡ v₀.hi)
  same_ends = (ap (λ (x : View). x.lo) g.view, ap (λ (x : View). x.hi) g.view)

  -- the view lies in the memory, and in the ring that was remembered
  pub in_view : InView v (length ring)
  in_view =
      let p = ahead_in v₀.lo v₀.hi v₀.at g.gone (held_in_lem g.gone g.part) in
      rw (same_length, g.view) (record { from = p.0; below = p.1; held = omega (arith, inside.held); fits = inside.fits })

  -- its words are those that were there, without the ones that are gone
  words_now : words_in ring v ≡ drop g.gone (words_in ring₀ v₀)
  words_now =
      let p = ahead_in v₀.lo v₀.hi v₀.at g.gone (held_in_lem g.gone g.part) in
      let d = drop-words ring₀ v₀.lo v₀.hi v₀.at v₀.n g.gone (held_in_lem v₀.n (omega arith)) g.part in
      cases (eqb left budget)
      (λ e. rw (g.memory, e, g.view) (sym d))
      (λ e. rw (g.memory, e, g.view)
      (written_words s.posts _ _ ring₀ _ _ _ _ first.low (clear_min (place_of v₀) first.posted) p.0 p.1 ∙ sym d))

  -- commands from here on belong to the whole
  pub going_further : {to : View} {later : List ℕ} {after : Machine} {k : ℕ} → Going s left v ring m to later after k → Going s budget v₀ ring₀ m₀ to later after k
  going_further {to} {later} {after} {k} f =
      let n : v.n ≡ v₀.n - g.gone = ap (λ (x : View). x.n) g.view in
      let part : g.gone + f.gone ≤ v₀.n = omega (arith, f.part, g.part) in
      let none : f.gone ≡ 0 → to ≡ v = λ z. f.view ∙ rw z (sym (same_view v _ _ (ahead_zero v.lo v.hi v.at in_view.below) (omega arith))) in
      let together : budget - k ≡ budget - left + (left - k) = omega (arith, f.bounded, g.bounded) in
      let there = rw (words_now, same_ends.0, same_ends.1) at f.rest in
      record {
        bounded = omega (arith, f.bounded, g.bounded);
        gone = g.gone + f.gone;
        part = part;
        still = λ e.
            let a = g.still (omega (arith, f.bounded, g.bounded)) in
            let b = f.still (omega (arith, f.bounded, g.bounded)) in
            (omega arith, b.1 ∙ a.1);
        view = f.view ∙ ap (λ (x : View). passed_in x f.gone) g.view ∙ passed_passed v₀ g.gone f.gone inside.from inside.below (omega (arith, inside.held));
        memory = written_further s.posts budget left k v.at to.at m.posted after.posted ring₀ ring later g.bounded f.bounded
            (λ z. (ap (λ (x : View). x.at) (none (f.still z).0), (f.still z).1)) g.memory f.memory;
        rest = g.rest ∙ ap (λ (r : LineRun Machine). plus (budget - left) r) there ∙ plus_plus (budget - left) (left - k) (budget - k) _ together
            ∙ ap (λ (w : List ℕ). plus (budget - k) (runs (turn s v₀) k (line w after))) (drop-drop f.gone g.gone (words_in ring₀ v₀));
      }

  -- a turn that ends the run
  pub going_ends : (e : End) → 0 < left → turn s v m (words_in ring v) ≡ ends e
      → runs (turn s v₀) budget (line (words_in ring₀ v₀) m₀) ≡ record { answer = Claim.ended e; count = budget - left; line = line (drop g.gone (words_in ring₀ v₀)) m }
  going_ends e h q =
      let k : left ≡ suc (left - 1) = omega arith in
      let t : turn s v₀ m (drop g.gone (words_in ring₀ v₀)) ≡ ends e = rw (words_now, same_ends.0, same_ends.1) at q in
      g.rest
      ∙ ap (λ j. plus (budget - left) (runs (turn s v₀) j (line (drop g.gone (words_in ring₀ v₀)) m))) k
      ∙ ap (plus (budget - left)) (runs_ends (turn s v₀) (left - 1) (line (drop g.gone (words_in ring₀ v₀)) m) e t)
      ∙ plus_end _ (budget - left) _

  -- the budget is spent
  pub going_spent : left ≤ 0 → runs (turn s v₀) budget (line (words_in ring₀ v₀) m₀) ≡ record { answer = Claim.spent; count = budget; line = line (drop g.gone (words_in ring₀ v₀)) m }
  unfolding runs
  going_spent h = let e : left ≡ 0 = omega arith in let b : budget - left ≡ budget = omega arith in g.rest ∙ rw (b, e) (plus_end _ budget _)

  -- what the run leaves
  pub going_left : (a : Claim.Answer) (count : ℕ) → count ≡ budget - left
      → runs (turn s v₀) budget (line (words_in ring₀ v₀) m₀) ≡ record { answer = a; count = count; line = line (drop g.gone (words_in ring₀ v₀)) m }
      → record { answer = a; count = count; place = place_of v; ring = ring; machine = m } ≡ run_words (turn s v₀) (place_of v₀) budget ring₀ (words_in ring₀ v₀) m₀
  unfolding run_words left
  going_left a count c q =
      let n : length (words_in ring₀ v₀) - length (drop g.gone (words_in ring₀ v₀)) ≡ g.gone = rw (length-drop, length-words ring₀ v₀.lo v₀.hi v₀.at v₀.n) (omega (arith, g.part)) in
      let at : place_of v ≡ passed (place_of v₀) g.gone = ap place_of g.view in
      let there = ap (λ p. cond (eqb count 0) ring₀ (stamped p (posting s.posts m.posted ring₀))) (ap (λ (x : View). x.at) g.view) in
      let stop = ahead v₀.lo v₀.hi v₀.at g.gone in
      let by-min = ap (λ (b : Bool). cond (eqb count 0) ring₀ (stamped stop (posting b m.posted ring₀))) first.posted in
      rw (q, n, ← at) (λ i. record { answer = a; count = count; place = place_of v; ring = (g.memory ∙ same_test _ ∙ there ∙ by-min) i; machine = m })
    where
      same_test : (wrote : List ℕ) → cond (eqb left budget) ring₀ wrote ≡ cond (eqb count 0) ring₀ wrote
      same_test wrote =
          cases (eqb left budget)
          (λ t. let z : count ≡ 0 = omega (arith, eqb-true left budget t) in rw (t, z))
          (λ t. let f : left ≢ budget = eqb-false left budget t in rw (t, ne_eqb count 0 (omega (arith, g.bounded))))

  -- a run may go on from here
  pub can_stand : {cursor : List ℕ} → length cursor ≡ length cursor₀ → Stands s.posts v ring cursor
  can_stand same = record {
    inside = in_view;
    low = omega (arith, same_ends.0, first.low);
    small = omega (arith, same_ends.1, first.small);
    carries = omega (arith, same_ends.0, same_ends.1, first.carries);
    image = same ∙ first.image;
    posted = first.posted ∙ ap (leb 7) (sym same_ends.0);
  }

-- the commands of a row, as part of the whole
pub going_rows : {s : Scene} {budget : ℕ} {v₀ : View} {ring₀ cursor₀ : List ℕ} {m₀ : Machine} {v : View} {ring screen cursor : List ℕ} {marks : Marks} {left : ℕ}
    {end at after later : ℕ} {memory painted : List ℕ} → Stands s.posts v₀ ring₀ cursor₀
    → Going s budget v₀ ring₀ m₀ v ring (machine marks screen cursor (posted_in s.posts ring)) left → Stands s.posts v ring cursor
    → end ≡ row_end v → RowGoing s left ring v.at end marks.fence screen at after later memory painted → (to : View) → to ≡ passed_in v (at - v.at)
    → Going s budget v₀ ring₀ m₀ to memory (machine (marked after marks.defined) painted cursor (posted_in s.posts memory)) later
going_rows {cursor} {marks} first g here is row to p = rw p (going_further first g (going_row here.inside here.carries is row marks.defined cursor))

-- one turn more
pub going_one : {s : Scene} {budget : ℕ} {v₀ : View} {ring₀ cursor₀ : List ℕ} {m₀ : Machine} {v : View} {ring cursor : List ℕ} {m : Machine} {left : ℕ}
    → Stands s.posts v₀ ring₀ cursor₀ → Going s budget v₀ ring₀ m₀ v ring m left → Stands s.posts v ring cursor → 0 < left
    → (a : After) → a ≡ turned s v ring m → a.stop ≡ None → Going s budget v₀ ring₀ m₀ a.view a.ring a.machine (left - 1)
going_one first g here h a p q = going_further first g (going_turn here.inside here.carries h a p q)

-- what the run gives where a turn ends it
pub going_stops : {s : Scene} {budget : ℕ} {v₀ : View} {ring₀ cursor₀ : List ℕ} {m₀ : Machine} {v : View} {ring : List ℕ} {m : Machine} {left : ℕ}
    → Stands s.posts v₀ ring₀ cursor₀ → Going s budget v₀ ring₀ m₀ v ring m left → 0 < left
    → (a : After) → a ≡ turned s v ring m → (e : End) → a.stop ≡ Some e
    → (o : Machine) → o.marks ≡ m.marks → o.screen ≡ a.machine.screen → o.cursor ≡ a.machine.cursor
    → o.posted ≡ posted_in (posts_in (place_of v)) a.ring → a.machine.posted ≡ posted_in s.posts a.ring
    → record { answer = Claim.ended e; count = budget - left; place = place_of v; ring = a.ring; machine = o }
    ≡ run_words (turn s v₀) (place_of v₀) budget ring₀ (words_in ring₀ v₀) m₀
going_stops {s} {cursor₀} {v} {ring} {m} first g h a p e q o marks screen cursor posted there =
    let t = stops_there s v ring m a e p q in
    let by-min = ap (λ (b : Bool). posted_in b a.ring) (sym (can_stand first g {cursor = cursor₀} refl).posted) in
    let same : o ≡ m = λ i. record {
      screen = (screen ∙ ap (λ (x : Machine). x.screen) t.2) i;
      cursor = (cursor ∙ ap (λ (x : Machine). x.cursor) t.2) i;
      marks = marks i;
      posted = (posted ∙ by-min ∙ sym there ∙ ap (λ (x : Machine). x.posted) t.2) i;
    } in
    rw (t.1, same) (going_left first g _ _ refl (going_ends first g e h t.0))
