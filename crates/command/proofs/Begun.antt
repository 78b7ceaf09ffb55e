-- A turn looks at no word behind a command's head.
-- Assumes nothing.
use mathlib.Core.Path.{◌≡◌, refl, sym, ap, ap₂, ◌∙◌, subst₂}
use mathlib.Core.Bool.{true, false, cond}
use mathlib.Core.Option.{Option, none, some}
use mathlib.Core.List.{List}
use Prim.Native.Nat.{ℕ, ◌+◌, ◌≤◌, ◌<◌}
use native.Mathlib.Omega.{arith}
use lib.ListN.{length, get_or}
use lib.Dec.{leb}
use borrow.Author.Tests.{ne_eqb, leb-true, leb-false}
use borrow.Table.Steps.{cases}
use Rattle.geometry.proofs.Tabulate.{length-tabulate, get_or-tabulate}
use Rattle.execution.specs.declared.Cause.TheVariants.{BadOperand, TooLong}
use Rattle.execution.specs.declared.End.TheVariants.{Drained, Waiting, Fault}
use Rattle.execution.specs.Straight.{Turn, ends, exec}
use Rattle.command.specs.declared.Action.{Action}
use Rattle.command.specs.declared.Data.{Data}
use Rattle.command.specs.declared.Data.TheVariants as D
use Rattle.command.specs.declared.Kind.{Kind}
use Rattle.command.specs.Commands.{Known, entry, size_by, kind_of, kind_in}
use Rattle.command.specs.Findings.{findings, finds_in, kind_with, begun}
use Rattle.command.proofs.Laws.{Begin, Alike, alike}
use Rattle.command.proofs.Rules.{Ruled, foreign, no_head, bad_head, long, no_rest, bad, well, ruled, by_rule, turn_none}

-- ---- words that begin alike are found alike

module _ (known : Known) (cap : ℕ) (w v : List ℕ) (same : length w ≡ length v) (kind : kind_in v ≡ kind_in w) (begin : Begin (entry (kind_in w)).head w v) where
  abbrev By : List ℕ → Turn (Option Action) → Type 0
  By l t = Ruled (λ m. known) (λ a u m. some a) cap none l t

  here : Alike (entry (kind_in w)) w v
  here = alike (kind_in w) w v begin

  size : size_by (kind_in v) v ≡ size_by (kind_in w) w
  size = rw kind (ap (λ n. (entry (kind_in w)).head + n) (sym here.behind))

  act : (entry (kind_in v)).action v ≡ (entry (kind_in w)).action w
  act = rw kind (sym here.action)

  over : (t : Turn (Option Action)) → By w t → By v t
  over t (foreign a) = foreign (rw kind a)
  over t (no_head a b) = no_head (rw kind a) (rw kind (omega arith))
  over t (bad_head a b c) = bad_head (rw kind a) (rw kind (omega arith)) (rw kind (sym here.head_good ∙ c))
  over t (long a b c d) = long (rw kind a) (rw kind (omega arith)) (rw kind (sym here.head_good ∙ c)) (omega (arith, size))
  over t (no_rest a b c d e) = no_rest (rw kind a) (rw kind (omega arith)) (rw kind (sym here.head_good ∙ c)) (omega (arith, size)) (omega (arith, size))
  over t (bad a b c d e f) = bad (rw kind a) (rw kind (omega arith)) (rw kind (sym here.head_good ∙ c)) (omega (arith, size)) (omega (arith, size)) (rw kind (sym (here.good known) ∙ f))
  over t (well a b c d e f) =
      subst₂ (λ (n : ℕ) (a : Action). By v (exec n (some a))) size act
      (well (rw kind a) (rw kind (omega arith)) (rw kind (sym here.head_good ∙ c)) (omega (arith, size)) (omega (arith, size)) (rw kind (sym (here.good known) ∙ f)))

  pub finds_alike : 1 ≤ length w → finds_in known cap v ≡ finds_in known cap w
  finds_alike h =
      by_rule (λ m. known) (λ a u m. some a) cap none v (omega arith) _ (over _ (ruled (λ m. known) (λ a u m. some a) cap none w h))

-- ---- words begun with a head

module _ (d : Data) (head : List ℕ) (n : ℕ) where
  pub length-begun : length (begun d head n) ≡ n
  unfolding begun
  length-begun = length-tabulate n _

  pub word_begun : (i : ℕ) → 1 ≤ i → i < n → get_or (begun d head n) i 0 ≡ get_or head i 0
  unfolding begun
  word_begun i p q = get_or-tabulate n _ i q ∙ rw (ne_eqb i 0 (omega arith))

  number_begun : 1 ≤ n → get_or (begun d head n) 0 0 ≡ (entry (kind_with d)).number
  unfolding begun
  number_begun h = get_or-tabulate n _ 0 (omega arith)

  kind_with_lem : kind_of (entry (kind_with d)).number ≡ kind_with d
  unfolding kind_of
  kind_with_lem = kinds_with d
    where
      kinds_with : (d : Data) → kind_of (entry (kind_with d)).number ≡ kind_with d
      kinds_with D.Cursor = refl
      kinds_with D.Escape = refl

  pub kind_begun : 1 ≤ n → kind_in (begun d head n) ≡ kind_with d
  kind_begun h = ap kind_of (number_begun h) ∙ kind_with_lem

-- ---- what is found in words begun with a head

module _ (known : Known) (d : Data) (head : List ℕ) (n cap : ℕ) (there : 1 ≤ n) where
  abbrev words : List ℕ
  words = begun d head n

  found : (t : Turn (Option Action)) → Ruled (λ m. known) (λ a u m. some a) cap none words t → t ≡ finds_in known cap words
  found t r = sym (by_rule (λ m. known) (λ a u m. some a) cap none words (rw length-begun there) t r)

  kind : kind_in words ≡ kind_with d
  kind = kind_begun d head n there

  module _ (offered : (entry (kind_with d)).offered ≡ true) where
    on : (entry (kind_in words)).offered ≡ true
    on = rw kind offered

    pub begun_no_head : n < (entry (kind_with d)).head → ends Waiting ≡ finds_in known cap words
    begun_no_head h = found (ends Waiting) (no_head on (rw (kind, length-begun) h))

    module _ (all : (entry (kind_with d)).head ≤ n) where
      enough : (entry (kind_in words)).head ≤ length words
      enough = rw (kind, length-begun) all

      pub begun_bad : (entry (kind_with d)).head_good words ≡ false → ends (Fault BadOperand) ≡ finds_in known cap words
      begun_bad e = found (ends (Fault BadOperand)) (bad_head on enough (rw kind e))

      module _ (good : (entry (kind_with d)).head_good words ≡ true) (size : ℕ) (is : size_by (kind_with d) words ≡ size) where
        sized : size_by (kind_in words) words ≡ size
        sized = rw kind is

        pub begun_long : cap < size → ends (Fault TooLong) ≡ finds_in known cap words
        begun_long h = found (ends (Fault TooLong)) (long on enough (rw kind good) (omega (arith, sized)))

        pub begun_no_rest : size ≤ cap → n < size → ends Waiting ≡ finds_in known cap words
        begun_no_rest h k = found (ends Waiting) (no_rest on enough (rw kind good) (omega (arith, sized)) (omega (arith, sized, length-begun d head n)))

        pub begun_well : size ≤ cap → size ≤ n → (entry (kind_with d)).good known words ≡ true → (a : Action) → (entry (kind_with d)).action words ≡ a
            → exec size (some a) ≡ finds_in known cap words
        begun_well h k e a f =
            sym (ap₂ (λ (n : ℕ) (a : Action). exec n (some a)) sized (rw kind f))
            ∙ found _ (well on enough (rw kind good) (omega (arith, sized)) (omega (arith, sized, length-begun d head n)) (rw kind e))

-- ---- by the row of its kind

-- what a turn finds in n words begun with a head, in a ring that carries cap, by the row of the head's kind: where all words of the head are there,
-- and where some are. The code has its tests in this order.
abbrev pub headed_by : Kind → List ℕ → ℕ → ℕ → Turn (Option Action)
headed_by k head n cap =
    cond ((entry k).head_good head)
    (cond (leb (size_by k head) cap)
    (cond (leb (size_by k head) n) (exec (size_by k head) (some ((entry k).action head))) (ends Waiting))
    (ends (Fault TooLong)))
    (ends (Fault BadOperand))

unfoldable pub data_by : Kind → List ℕ → ℕ → ℕ → Turn (Option Action)
data_by k head n cap = cond (leb (entry k).head n) (headed_by k head n cap) (ends Waiting)

-- a command with data is offered, and refused by its head alone
data_row : (d : Data) → ((entry (kind_with d)).offered ≡ true) × ((w : List ℕ) → (entry (kind_with d)).good tt w ≡ true)
unfolding entry
data_row D.Cursor = (refl, λ w. refl)
data_row D.Escape = (refl, λ w. refl)

module _ (d : Data) (head : List ℕ) (n cap : ℕ) where
  pub data_none : n ≡ 0 → finds_in tt cap (begun d head n) ≡ ends Drained
  data_none z = turn_none cap (findings tt) none _ (length-begun d head n ∙ z)

  module _ (there : 1 ≤ n) where
    abbrev k : Kind
    k = kind_with d

    offered : (entry k).offered ≡ true
    offered = (data_row d).0

    module _ (all : (entry k).head ≤ n) where
      own : Alike (entry k) (begun d head n) head
      own = alike k (begun d head n) head (λ i p q. word_begun d head n i p (omega arith))

      is : size_by k (begun d head n) ≡ size_by k head
      is = ap (λ m. (entry k).head + m) own.behind

      headed : finds_in tt cap (begun d head n) ≡ headed_by k head n cap
      headed =
          cases ((entry k).head_good head)
          (λ g. rw g
          (cases (leb (size_by k head) cap)
          (λ l. rw l
          (cases (leb (size_by k head) n)
          (λ m. rw m (sym (begun_well tt d head n cap there offered all (own.head_good ∙ g) _ is (leb-true _ _ l) (leb-true _ _ m) ((data_row d).1 _) _ own.action)))
          (λ m. rw m (sym (begun_no_rest tt d head n cap there offered all (own.head_good ∙ g) _ is (leb-true _ _ l) (leb-false _ _ m))))))
          (λ l. rw l (sym (begun_long tt d head n cap there offered all (own.head_good ∙ g) _ is (leb-false _ _ l))))))
          (λ g. rw g (sym (begun_bad tt d head n cap there offered all (own.head_good ∙ g))))

    pub data_said : finds_in tt cap (begun d head n) ≡ data_by k head n cap
    unfolding data_by
    data_said =
        cases (leb (entry k).head n) (λ a. rw a (headed (leb-true _ _ a)))
        (λ a. rw a (sym (begun_no_head tt d head n cap there offered (leb-false _ _ a))))
