-- One turn, by what its first ten words say.
-- Assumes nothing.
use Rattle.std.specs.Prelude.{Option, Some, None, Result, Ok, Err}
use Rattle.cursor.specs.declared.Shape.{Shape}
use mathlib.Core.Path.{◌≡◌, refl, sym, ap, ◌∙◌}
use mathlib.Core.Option.{some}
use mathlib.Core.List.{List, ◌++◌}
use Prim.Native.Nat.{ℕ, ◌+◌, ◌-◌, ◌≤◌, ◌<◌}
use mathlib.Core.Bool.{Bool, true, false}
use native.Mathlib.Omega.{arith}
use lib.Dec.{ltb}
use lib.ListN.{length, take, drop, get_or, length-drop, length-append, take-append-drop, get_or-eq_default}
use lib.Seq.{get_or-take, take_all, length-take-le}
use borrow.Author.Tests.{ltb-true, ltb-false}
use borrow.Table.Steps.{cases}
use Rattle.execution.specs.declared.Cause.{Cause}
use Rattle.execution.specs.declared.End.{End}
use Rattle.execution.specs.declared.End.TheVariants.{Drained, Waiting, Fault}
use Rattle.execution.specs.Straight.{Line, Turn, ends, exec}
use Rattle.execution.specs.Claim as Claim
use Rattle.execution.specs.Turns.{LineRun, runs}
use Rattle.execution.proofs.QueueLaws.{runs_ends, runs_exec}
use Rattle.execution.specs.Table.{turn_of}
use Rattle.ring.specs.Acceptance.{max_words}
use Rattle.ring.specs.Waiting.{carried}
use Rattle.ring.proofs.WaitingLaws.{ahead_in, length-words}
use Rattle.command.specs.declared.Action.{Action}
use Rattle.command.specs.declared.Data.{Data}
use Rattle.command.specs.declared.Step.TheVariants as Step
use Rattle.command.specs.Commands.{entry, kind_of, kind_in}
use Rattle.command.specs.Findings.{finds_in, as_turn, kind_with, begun, step_in, on_machine}
use Rattle.command.proofs.Laws.{head_some, command_laws}
use Rattle.command.proofs.Begun.{finds_alike, length-begun, word_begun, kind_begun}
use Rattle.command.proofs.Rules.{turn_found, turn_none}
use Rattle.command.proofs.Steps.{short_few, short_turn, fault_turn, long_kind}
use Rattle.effect.specs.declared.Marks.{Marks}
use Rattle.effect.specs.Effects.{Scene, Machine, screen_after, posted_after, cursor_after, marks_after, done}
use Rattle.run.specs.declared.View.{View}
use Rattle.run.specs.Turns.{InView, words_in, passed_in, row_in, LineOf}
use Rattle.run.specs.Run.{known_of, machine, table, stamped, posting, posted_in}
use Rattle.run.specs.Going.{plus, line, marked, turn, RowGoing, turned_by, turned}
use Rattle.run.proofs.Posting.{posted_none, posted_written}
use Rattle.run.proofs.Rows.{row_length}
use Rattle.run.proofs.Found.{Found, found, data_screen, data_posts}

-- the turn decides what is left
turned_by_lem : (s : Scene) (v : View) (ring : List ℕ) (m : Machine) (t : Turn Machine) → turn s v m (words_in ring v) ≡ t → turned s v ring m ≡ turned_by s.posts v ring m t
unfolding turned
turned_by_lem s v ring m t e = ap (turned_by s.posts v ring m) e

-- a turn that ends
pub stops : (s : Scene) (v : View) (ring : List ℕ) (m : Machine) (e : End) → turn s v m (words_in ring v) ≡ ends e
    → record { stop = Some e; view = v; ring = ring; machine = m } ≡ turned s v ring m
stops s v ring m e q = sym (turned_by_lem s v ring m (ends e) q)

-- a command was executed, STOP passed it, ring word 3 says so, and word 6 has what is posted
pub goes_on : (s : Scene) (v : View) (ring : List ℕ) (m : Machine) (n : ℕ) (u : Machine) → turn s v m (words_in ring v) ≡ exec n u
    → (later : List ℕ) → later ≡ stamped (passed_in v n).at (posting s.posts u.posted ring) → (t : Machine) → t ≡ u
    → record { stop = None; view = passed_in v n; ring = later; machine = t } ≡ turned s v ring m
goes_on s v ring m n u q later p t same = rw (p, same) (sym (turned_by_lem s v ring m (exec n u) q))

-- where STOP stands behind n words of a view
pub stop_fits : {v : View} {m : ℕ} → InView v m → v.hi ≤ max_words → (n : ℕ) → n ≤ v.n → (passed_in v n).at ≤ max_words
stop_fits {v} i small n few =
    let p = ahead_in v.lo v.hi v.at n (record { from = i.from; below = i.below; held = omega (arith, i.held) }) in
    omega (arith, p.1)

-- ---- commands with data

module _ (v : View) (ring : List ℕ) (cap : ℕ) (tail : Data) (head : List ℕ) (there : 1 ≤ v.n) (first : head ≡ take 10 (words_in ring v)) (kind : kind_in (words_in ring v) ≡ kind_with tail) where
  abbrev w : List ℕ
  w = words_in ring v

  long : length w ≡ v.n
  long = length-words ring v.lo v.hi v.at v.n

  word : (i : ℕ) → 1 ≤ i → i < (entry (kind_in w)).head → get_or w i 0 ≡ get_or (begun tail head v.n) i 0
  word i p q =
      let few : i < 10 = omega (arith, (head_some (kind_in w)).1) in
      cases (ltb i v.n)
      (λ t. sym (word_begun tail head v.n i p (ltb-true _ _ t) ∙ rw first (get_or-take 10 w i 0 few)))
      (λ t. let past : v.n ≤ i = ltb-false _ _ t in
      get_or-eq_default w 0 (omega (arith, long)) ∙ sym (get_or-eq_default (begun tail head v.n) 0 (omega (arith, length-begun tail head v.n))))

  finds_words : finds_in tt cap (begun tail head v.n) ≡ finds_in tt cap w
  finds_words = finds_alike tt cap w (begun tail head v.n) (long ∙ sym (length-begun tail head v.n)) (kind_begun tail head v.n there ∙ sym kind) word (omega (arith, long))

  module _ (f : Result (Action × ℕ) End) (said : as_turn f ≡ finds_in tt cap (begun tail head v.n)) (s : Scene) (m : Machine) where
    by_finding : turn_of cap (table s) m w ≡ on_machine (done s) m w (as_turn f)
    by_finding = turn_found known_of (done s) cap m w ∙ ap (on_machine (done s) m w) (sym (said ∙ finds_words))

    pub data_ends : (e : End) → f ≡ Err e → turn_of cap (table s) m w ≡ ends e
    data_ends e q = by_finding ∙ rw q

    pub data_executes : (a : Action) (n : ℕ) → f ≡ Ok (a, n) → turn_of cap (table s) m w ≡ exec n (done s a (take n w) m)
    data_executes a n q = by_finding ∙ rw q

  module _ (a : Action) (n : ℕ) (said : exec n (some a) ≡ finds_in tt cap (begun tail head v.n)) where
    pub data_found : Found a n w
    data_found = found cap w a n (omega (arith, long)) (sym (said ∙ finds_words))

    pub data_paints_nothing : (s : Scene) (screen : List ℕ) → screen_after s a screen ≡ screen
    data_paints_nothing s screen = rw (sym data_found.action, kind) (data_screen tail s w screen)

    data_posts_nothing : (posts : Bool) (posted : ℕ) → posted_after posts a posted ≡ posted
    data_posts_nothing posts posted = rw (sym data_found.action, kind) (data_posts tail posts w posted)

    -- what executing it leaves
    pub data_done : (s : Scene) (m : Machine) (marks : Marks) (cursor : List ℕ) → marks ≡ marks_after a m.marks → cursor ≡ cursor_after a w m.cursor
        → done s a (take n w) m ≡ machine marks m.screen cursor m.posted
    unfolding done
    data_done s m marks cursor p q = λ i. record {
      screen = data_paints_nothing s m.screen i;
      cursor = (data_found.own m.cursor ∙ sym q) i;
      marks = sym p i;
      posted = data_posts_nothing s.posts m.posted i;
    }

-- ---- a line of the first ten words

-- a run of one turn that is spent has executed it
module _ (t : Machine → List ℕ → Turn Machine) where
  one_spent : (a : Line Machine) (l : List ℕ) (m : Machine) → runs t 1 a ≡ plus 1 (runs t 0 (line l m)) → (u : Turn Machine) → t a.machine a.words ≡ u
      → (n : ℕ) × ((u ≡ exec n m) × (drop n a.words ≡ l))
  unfolding runs
  one_spent a l m q (ends e) h = absurd (differ (sym (runs_ends t 0 a e h) ∙ q))
    where
      differ : (◌≡◌ {A = LineRun Machine} (record { answer = Claim.ended e; count = 0; line = a }) (record { answer = Claim.spent; count = 1; line = line l m })) → ⊥
      differ p = let z : ◌≡◌ {A = ℕ} 0 1 = ap (λ (r : LineRun Machine). r.count) p in omega arith
  one_spent a l m q (exec n u) h =
      let p = sym (runs_exec t 0 a n u h) ∙ q in
      (n, (ap (exec n) (ap (λ (r : LineRun Machine). r.line.machine) p), ap (λ (r : LineRun Machine). r.line.words) p))

module _ (s : Scene) (v : View) (ring : List ℕ) (inside : InView v (length ring)) (carries : 10 + v.lo < v.hi)
    {memory : List ℕ} {e : ℕ} (l : LineOf ring v memory e)
    {fence : ℕ} {screen : List ℕ} {at number left : ℕ} {memory' screen' : List ℕ} (g : RowGoing s 1 memory 7 e fence screen at number left memory' screen') where
  abbrev all : List ℕ
  all = words_in ring v

  abbrev cap : ℕ
  cap = carried v.lo v.hi

  whole_words : row_in memory 7 e ++ drop 10 all ≡ all
  whole_words = ap (λ (w : List ℕ). w ++ drop 10 all) l.row ∙ take-append-drop 10 all

  long_all : length all ≡ v.n
  long_all = length-words ring v.lo v.hi v.at v.n

  row_size : e - 7 ≡ length (take 10 all)
  row_size = sym (row_length memory 7 e (omega (arith, l.size, l.high))) ∙ ap length l.row

  short_all : length (take 10 all) + length (drop 10 all) ≡ length all
  short_all = sym (length-append (take 10 all) (drop 10 all)) ∙ ap length (take-append-drop 10 all)

  few : e - 7 ≤ cap
  few = omega (arith, row_size, short_all, long_all, inside.held)

  wide : 10 ≤ cap
  wide = omega arith

  pub line_fits : at - 7 ≤ v.n
  line_fits = omega (arith, g.within, row_size, short_all, long_all)

  -- the line has what is posted in the ring
  line_posted : (posts : Bool) → posted_in posts memory ≡ posted_in posts ring
  unfolding posted_in
  line_posted true = l.six
  line_posted false = refl

  -- spent: the command was executed
  line_spent : left ≡ 0 → (defined : Option Shape) (cursor : List ℕ)
      → turn s v (machine (marked fence defined) screen cursor (posted_in s.posts ring)) all
      ≡ exec (at - 7) (machine (marked number defined) screen' cursor (posted_in s.posts memory'))
  line_spent z defined cursor =
      let m = machine (marked fence defined) screen cursor (posted_in s.posts ring) in
      let q = rw (whole_words, z, line_posted s.posts) at (g.rest cap (drop 10 all) defined cursor wide few) in
      let o = one_spent (turn s v) (line all m) _ _ q (turn s v m all) refl in
      let n = o.0 in
      let fits = (command_laws known_of (done s) cap wide).takes_whole m _ all n o.1.0 in
      let left_over : length all - n ≡ e - at + length (drop 10 all) =
      sym (length-drop n all) ∙ ap length o.1.1 ∙ length-append (row_in memory at e) (drop 10 all) ∙ ap (λ k. k + length (drop 10 all)) (row_length memory at e (omega (arith, l.size, l.high))) in
      let is : n ≡ at - 7 = omega (arith, left_over, row_size, short_all, fits, g.from, g.within, l.low) in
      rw is at o.1.0

  -- what it posted in the line went to the ring, STOP passed it, and ring word 3 says so
  pub line_goes : left ≡ 0 → (defined : Option Shape) (cursor posted later : List ℕ) → posted ≡ posting s.posts (posted_in s.posts memory') ring
      → later ≡ stamped (passed_in v (at - 7)).at posted
      → record { stop = None; view = passed_in v (at - 7); ring = later; machine = machine (marked number defined) screen' cursor (posted_in s.posts later) }
      ≡ turned s v ring (machine (marked fence defined) screen cursor (posted_in s.posts ring))
  line_goes z defined cursor posted later p q =
      let to = (passed_in v (at - 7)).at in
      let wrote = q ∙ ap (stamped to) p in
      let there = posted_written s.posts to _ ring (λ t. omega (arith, inside.fits)) (posted_none s.posts memory') in
      goes_on s v ring _ _ _ (line_spent z defined cursor) later wrote _
      (ap (machine (marked number defined) screen' cursor) (ap (posted_in s.posts) wrote ∙ there))

  module _ (some_left : 1 ≤ left) where
    kept : (at ≡ 7) × (number ≡ fence) × (screen' ≡ screen)
    kept = g.still (omega (arith, g.bounded))

    pub line_kept : screen' ≡ screen
    line_kept = kept.2

    pub line_same : memory' ≡ memory
    line_same = let one : left ≡ 1 = omega (arith, g.bounded) in g.stamp ∙ rw one

    at_row : row_in memory at e ≡ take 10 all
    at_row = rw kept.0 l.row

    -- too few words: all of them lie in the line
    pub line_short : step_in tt (row_in memory at e) ≡ Step.Short → 1 ≤ v.n → (m : Machine) → turn s v m all ≡ ends Waiting
    line_short q h m =
        let r = rw at_row at q in
        let n = short_few tt (take 10 all) r in
        let under : length all < 10 = cases (ltb (length all) 10) (λ t. ltb-true _ _ t) (λ t. absurd (omega (arith, n, length-take-le 10 all (ltb-false _ _ t)))) in
        let whole : take 10 all ≡ all = take_all 10 all (omega arith) in
        turn_found known_of (done s) cap m all ∙ ap (on_machine (done s) m all) (short_turn tt all (rw whole at r) (omega (arith, long_all)) cap)

    pub line_faults : (c : Cause) → step_in tt (row_in memory at e) ≡ Step.Faults c → (m : Machine) → turn s v m all ≡ ends (Fault c)
    line_faults c q m =
        let f = fault_turn tt (take 10 all) c (rw at_row at q) cap wide (omega (arith, row_size, few)) (drop 10 all) in
        turn_found known_of (done s) cap m all ∙ ap (on_machine (done s) m all) (rw (take-append-drop 10 all) at f)

    pub line_long : (d : Data) → step_in tt (row_in memory at e) ≡ Step.Long d → kind_in all ≡ kind_with d
    line_long d q = ap kind_of (sym (get_or-take 10 all 0 0 (omega arith))) ∙ long_kind tt (take 10 all) d (rw at_row at q)

pub turn_drained : (s : Scene) (v : View) (ring : List ℕ) (m : Machine) → v.n ≡ 0 → turn s v m (words_in ring v) ≡ ends Drained
turn_drained s v ring m z = turn_none _ (table s) m (words_in ring v) (length-words ring v.lo v.hi v.at v.n ∙ z)
