-- What the front of a row of words says, for all words that may follow it.
-- Assumes nothing.
use mathlib.Core.Path.{◌≡◌, refl, sym, ap, ◌∙◌}
use mathlib.Core.Bool.{true, false, cond, true≢false}
use mathlib.Core.Option.{Option, none, some}
use mathlib.Core.List.{List, [], ◌∷◌, ◌++◌}
use Prim.Native.Nat.{ℕ, ◌≤◌, ◌<◌}
use native.Mathlib.Omega.{arith}
use lib.Dec.{eqb, leb}
use lib.ListN.{length}
use mathlib.Core.Logic.{◌≢◌}
use borrow.Author.Tests.{eqb-true, eqb-false, leb-true, leb-false}
use borrow.Table.Steps.{cases}
use Rattle.execution.specs.declared.Cause.{Cause}
use Rattle.execution.specs.declared.Cause.TheVariants.{NotOffered, BadOperand}
use Rattle.execution.specs.declared.End.TheVariants.{Drained, Waiting, Fault}
use Rattle.execution.specs.Straight.{Turn, ends, exec}
use Rattle.command.specs.declared.Action.{Action}
use Rattle.command.specs.declared.Action.TheVariants as A
use Rattle.command.specs.declared.Data.{Data}
use Rattle.command.specs.declared.Kind.{Kind}
use Rattle.command.specs.declared.Kind.TheVariants.{Foreign}
use Rattle.command.specs.declared.Step.{Step}
use Rattle.command.specs.declared.Step.TheVariants.{Does, Short, Faults, Long}
use Rattle.command.specs.Commands.{Known, Entry, entry, size_by, kind_of, kind_in}
use Rattle.command.specs.Findings.{findings, finds_in, data_of, step_by, step_in, kind_with}
use Rattle.command.proofs.Laws.{head_some, command_laws}
use Rattle.command.proofs.Rules.{ruled, by_rule, turn_none}
use Rattle.command.proofs.Rules as R

-- an action that leaves the cursor alone
abbrev pub KeepsCursor : Action → Type 0
KeepsCursor (A.Update r) = Unit {0}
KeepsCursor (A.Fill r colour rop) = Unit {0}
KeepsCursor (A.Copy from r rop) = Unit {0}
KeepsCursor (A.Define s) = ⊥
KeepsCursor (A.Fence number) = Unit {0}
KeepsCursor A.Nothing = Unit {0}

-- a command of fixed length: all head, and nothing in it is refused before all its words are there
pub record Fixed (k : Kind) : Type 0 where
  pub behind : (w : List ℕ) → (entry k).behind w ≡ 0
  pub head_good : (w : List ℕ) → (entry k).head_good w ≡ true
  pub keeps : (w : List ℕ) → KeepsCursor ((entry k).action w)
  -- only one that is not in the table is not offered
  pub offered : (k ≡ Foreign → ⊥) → (entry k).offered ≡ true

pub fixed : (k : Kind) → data_of k ≡ none → Fixed k
unfolding entry
fixed k e = grind arith

-- a command with data behind its head, by its data
pub data_kind : (k : Kind) (d : Data) → data_of k ≡ some d → k ≡ kind_with d
data_kind k d e = grind arith

-- any other command has none
pub no_data : (k : Kind) → ((d : Data) → k ≡ kind_with d → ⊥) → data_of k ≡ none
no_data k other = go (data_of k) refl
  where
    go : (o : Option Data) → data_of k ≡ o → data_of k ≡ none
    go none q = q
    go (some d) q = absurd (other d (data_kind k d q))

pub step_none : (known : Known) (row : List ℕ) → length row ≡ 0 → step_in known row ≡ Short
unfolding step_in kind_of entry
step_none known [] e = ap step_by (turn_none 0 (findings known) none [] refl)
step_none known (x ∷ row) e = absurd (omega arith)

-- ---- what the code finds in a row

module _ (known : Known) (row : List ℕ) (k : Kind) (kind : kind_in row ≡ k) (plain : data_of k ≡ none) where
  abbrev Says : Turn (Option Action) → Type 0
  Says t = R.Ruled (λ m. known) (λ a v m. some a) (length row) none row t

  steps : 1 ≤ length row → (t : Turn (Option Action)) → Says t → step_in known row ≡ step_by t
  unfolding step_in
  steps there t r = rw (kind, plain) (ap step_by (by_rule (λ m. known) (λ a v m. some a) (length row) none row there t r))

  pub step_foreign : 1 ≤ length row → (entry k).offered ≡ false → step_in known row ≡ Faults NotOffered
  step_foreign there a = steps there (ends (Fault NotOffered)) (R.foreign (rw kind a))

  module _ (offered : (entry k).offered ≡ true) where
    pub step_short : length row < (entry k).head → step_in known row ≡ Short
    step_short h =
        cases (eqb (length row) 0) (λ e. step_none known row (eqb-true _ _ e))
        (λ e. let n : length row ≢ 0 = eqb-false _ _ e in steps (omega arith) (ends Waiting) (R.no_head (rw kind offered) (rw kind h)))

    module _ (n : ℕ) (size : (entry k).head ≡ n) (all : n ≤ length row) where
      long : size_by (kind_in row) row ≡ n
      long = let b = (fixed k plain).behind row in rw kind (omega (arith, b, size))

      pub step_bad : (entry k).good known row ≡ false → step_in known row ≡ Faults BadOperand
      step_bad f =
          steps (omega (arith, (head_some k).0)) (ends (Fault BadOperand))
          (R.bad (rw kind offered) (rw kind (omega arith)) (rw kind ((fixed k plain).head_good row)) (omega (arith, long)) (omega (arith, long)) (rw kind f))

      pub step_does : (entry k).good known row ≡ true → step_in known row ≡ Does ((entry k).action row) n
      step_does f =
          steps (omega (arith, (head_some k).0)) _ (R.well (rw kind offered) (rw kind (omega arith)) (rw kind ((fixed k plain).head_good row)) (omega (arith, long)) (omega (arith, long)) (rw kind f))
          ∙ rw (long, kind)

pub step_long : (known : Known) (row : List ℕ) (d : Data) → data_of (kind_in row) ≡ some d → step_in known row ≡ Long d
unfolding step_in
step_long known row d e = rw e

-- what a step says of a row that has words, by the data behind the command's head and the table's row of its kind
unfoldable pub said_by : Option Data → Entry → List ℕ → Step
said_by (some d) e row = Long d
said_by none e row =
    cond e.offered
    (cond (leb e.head (length row)) (cond (e.good tt row) (Does (e.action row) e.head) (Faults BadOperand)) Short)
    (Faults NotOffered)

pub step_said : (row : List ℕ) → 1 ≤ length row → step_in tt row ≡ said_by (data_of (kind_in row)) (entry (kind_in row)) row
unfolding said_by
step_said row there = by (data_of (kind_in row)) refl
  where
    by : (o : Option Data) → data_of (kind_in row) ≡ o → step_in tt row ≡ said_by o (entry (kind_in row)) row
    by (some d) q = step_long tt row d q
    by none q =
        let k = kind_in row in
        cases (entry k).offered
        (λ t. rw t
        (cases (leb (entry k).head (length row))
        (λ l. rw l
        (cases ((entry k).good tt row)
        (λ g. rw g (step_does tt row k refl q t _ refl (leb-true _ _ l) g))
        (λ g. rw g (step_bad tt row k refl q t _ refl (leb-true _ _ l) g))))
        (λ l. rw l (step_short tt row k refl q t (leb-false _ _ l)))))
        (λ f. rw f (step_foreign tt row k refl q there f))

-- ---- what a step says, whatever follows the row

module _ (known : Known) (row : List ℕ) where
  abbrev Turned : ℕ → Turn (Option Action) → Type 0
  Turned cap t = R.Ruled (λ m. known) (λ a v m. some a) cap none row t

  turned : 1 ≤ length row → Turned (length row) (finds_in known (length row) row)
  turned h = ruled (λ m. known) (λ a v m. some a) (length row) none row h

  -- a step that names no data is the turn's
  by_turn : (s : Step) → step_in known row ≡ s → ((d : Data) → s ≡ Long d → ⊥) → (data_of (kind_in row) ≡ none) × (step_by (finds_in known (length row) row) ≡ s)
  unfolding step_in
  by_turn s e other = go (data_of (kind_in row)) refl
    where
      go : (o : Option Data) → data_of (kind_in row) ≡ o → (data_of (kind_in row) ≡ none) × (step_by (finds_in known (length row) row) ≡ s)
      go none q = (q, rw q at e)
      go (some d) q = absurd (other d (sym (rw q at e)))

  -- words are there where something is found
  words_there : (s : Step) → step_in known row ≡ s → (s ≡ Short → ⊥) → 1 ≤ length row
  words_there s e other =
      cases (eqb (length row) 0) (λ z. absurd (other (sym e ∙ step_none known row (eqb-true _ _ z))))
      (λ f. let n : length row ≢ 0 = eqb-false _ _ f in omega arith)

  -- a command that lies in the row
  module _ (a : Action) (n : ℕ) (does : step_in known row ≡ Does a n) where
    there : 1 ≤ length row
    there = words_there _ does (λ q. true≢false cc)

    plain : data_of (kind_in row) ≡ none
    plain = (by_turn _ does (λ d q. true≢false cc)).0

    pub record Whole : Type 0 where
      pub fits : n ≤ length row
      pub one : 1 ≤ n
      pub keeps : KeepsCursor a
      pub at : (cap : ℕ) → length row ≤ cap → finds_in known cap row ≡ exec n (some a)

    whole_by : (t : Turn (Option Action)) → Turned (length row) t → step_by t ≡ Does a n → Whole
    whole_by t (R.foreign p) q = absurd (true≢false cc)
    whole_by t (R.no_head p r) q = absurd (true≢false cc)
    whole_by t (R.bad_head p r u) q = absurd (true≢false cc)
    whole_by t (R.long p r u v) q = absurd (true≢false cc)
    whole_by t (R.no_rest p r u v x) q = absurd (true≢false cc)
    whole_by t (R.bad p r u v x y) q = absurd (true≢false cc)
    whole_by t (R.well p r u v x y) q =
        let size : size_by (kind_in row) row ≡ n = same_size q in
        let act : (entry (kind_in row)).action row ≡ a = same_action q in
        record {
          fits = omega arith;
          one = omega (arith, (head_some (kind_in row)).0);
          keeps = rw act at ((fixed (kind_in row) plain).keeps row);
          at = λ cap h. by_rule (λ m. known) (λ a v m. some a) cap none row there _ (R.well p r u (omega arith) x y) ∙ rw (size, act);
        }
      where
        same_size : {b : Action} {m : ℕ} → Does b m ≡ Does a n → m ≡ n
        same_size e = cc

        same_action : {b : Action} {m : ℕ} → Does b m ≡ Does a n → b ≡ a
        same_action e = cc

    pub whole : Whole
    whole = whole_by _ (turned there) (by_turn _ does (λ d q. true≢false cc)).1

    pub does_turn : (cap : ℕ) → 10 ≤ cap → length row ≤ cap → (rest : List ℕ) → finds_in known cap (row ++ rest) ≡ exec n (some a)
    does_turn cap h k rest = (command_laws (λ m. known) (λ a v m. some a) cap h).exec_stays none (some a) row rest n (whole.at cap k)

  -- a fault
  module _ (c : Cause) (faults : step_in known row ≡ Faults c) where
    fault_there : 1 ≤ length row
    fault_there = words_there _ faults (λ q. true≢false cc)

    fault_plain : data_of (kind_in row) ≡ none
    fault_plain = (by_turn _ faults (λ d q. true≢false cc)).0

    fault_by : (t : Turn (Option Action)) → Turned (length row) t → step_by t ≡ Faults c → (cap : ℕ) → length row ≤ cap → finds_in known cap row ≡ ends (Fault c)
    fault_by t (R.foreign p) q cap h = by_rule (λ m. known) (λ a v m. some a) cap none row fault_there _ (R.foreign p) ∙ cc
    fault_by t (R.no_head p r) q cap h = absurd (true≢false cc)
    fault_by t (R.bad_head p r u) q cap h = by_rule (λ m. known) (λ a v m. some a) cap none row fault_there _ (R.bad_head p r u) ∙ cc
    fault_by t (R.long p r u v) q cap h = absurd (omega (arith, (fixed (kind_in row) fault_plain).behind row))
    fault_by t (R.no_rest p r u v x) q cap h = absurd (true≢false cc)
    fault_by t (R.bad p r u v x y) q cap h = by_rule (λ m. known) (λ a v m. some a) cap none row fault_there _ (R.bad p r u (omega arith) x y) ∙ cc
    fault_by t (R.well p r u v x y) q cap h = absurd (true≢false cc)

    pub fault_turn : (cap : ℕ) → 10 ≤ cap → length row ≤ cap → (rest : List ℕ) → finds_in known cap (row ++ rest) ≡ ends (Fault c)
    fault_turn cap h k rest =
        (command_laws (λ m. known) (λ a v m. some a) cap h).fault_stays none row rest c
        (fault_by _ (turned fault_there) (by_turn _ faults (λ d q. true≢false cc)).1 cap k)

  -- too few words
  module _ (short : step_in known row ≡ Short) where
    short_by : (t : Turn (Option Action)) → Turned (length row) t → step_by t ≡ Short → ((entry (kind_in row)).offered ≡ true) × (length row < (entry (kind_in row)).head)
    short_by t (R.foreign p) q = absurd (true≢false cc)
    short_by t (R.no_head p r) q = (p, r)
    short_by t (R.bad_head p r u) q = absurd (true≢false cc)
    short_by t (R.long p r u v) q = absurd (true≢false cc)
    short_by t (R.no_rest p r u v x) q = absurd (omega arith)
    short_by t (R.bad p r u v x y) q = absurd (true≢false cc)
    short_by t (R.well p r u v x y) q = absurd (true≢false cc)

    pub short_few : length row < 10
    short_few =
        cases (eqb (length row) 0) (λ z. let e : length row ≡ 0 = eqb-true _ _ z in omega arith)
        (λ f. let n : length row ≢ 0 = eqb-false _ _ f in
        let p = short_by (finds_in known (length row) row) (turned (omega arith)) (by_turn _ short (λ d q. true≢false cc)).1 in omega (arith, p.1, (head_some (kind_in row)).1))

    pub short_turn : 1 ≤ length row → (cap : ℕ) → finds_in known cap row ≡ ends Waiting
    short_turn h cap =
        let p = short_by _ (turned h) (by_turn _ short (λ d q. true≢false cc)).1 in
        by_rule (λ m. known) (λ a v m. some a) cap none row h _ (R.no_head p.0 p.1)

  -- a command with data behind its head
  module _ (d : Data) (long : step_in known row ≡ Long d) where
    pub long_there : 1 ≤ length row
    long_there = words_there _ long (λ q. true≢false cc)

    pub long_kind : kind_in row ≡ kind_with d
    unfolding step_in
    long_kind = data_kind (kind_in row) d (go (data_of (kind_in row)) refl)
      where
        go : (o : Option Data) → data_of (kind_in row) ≡ o → data_of (kind_in row) ≡ some d
        go none q = absurd (no_long (finds_in known (length row) row) (rw q at long))
          where
            no_long : (t : Turn (Option Action)) → step_by t ≡ Long d → ⊥
            no_long (ends Drained) e = true≢false cc
            no_long (ends Waiting) e = true≢false cc
            no_long (ends (Fault c)) e = true≢false cc
            no_long (exec n none) e = true≢false cc
            no_long (exec n (some a)) e = true≢false cc
        go (some f) q = q ∙ (let e : Long f ≡ Long d = rw q at long in cc)
