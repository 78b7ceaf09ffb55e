-- Which heads a write takes: those of commands that the device executes once all their words are there.
-- Assumes nothing.
use Rattle.std.specs.Prelude.{None}
use mathlib.Core.Path.{◌≡◌, sym, ap, ap₂, ◌∙◌}
use mathlib.Core.Bool.{true, false, true≢false}
use mathlib.Core.List.{List, [], ◌++◌}
use mathlib.Core.Logic.{◌↔◌, ◌⊎◌, inl, inr, ⊎_elim}
use Prim.Native.Nat.{ℕ, ◌+◌, ◌≤◌, ◌<◌}
use native.Mathlib.Omega.{arith}
use lib.Dec.{eqb, leb}
use lib.ListN.{length, get_or, take, replicate, length-append, length-replicate}
use lib.Seq.{get_or-take, take-append_seam}
use borrow.Author.Tests.{eqb-true, eqb-false, leb-true, leb-false, eq-eqb, le-leb}
use borrow.Table.Steps.{cases}
use Rattle.geometry.proofs.Tests.{both, not_both}
use Rattle.execution.specs.declared.Cause.TheVariants.{BadOperand, TooLong}
use Rattle.execution.specs.declared.End.TheVariants.{Fault}
use Rattle.execution.specs.Straight.{ends, exec}
use Rattle.execution.specs.Table.{turn_of}
use Rattle.command.specs.declared.Action.{Action}
use Rattle.command.specs.declared.Kind.{Kind}
use Rattle.command.specs.declared.Kind.TheVariants.{Update, RectFill, RectCopy, RectRopFill, RectRopCopy}
use Rattle.command.specs.declared.Kind.TheVariants.{DefineAlphaCursor, UpdateVerbose, Fence, Escape, Foreign}
use Rattle.command.specs.Commands.{Known, entry, size_by, kind_of, kind_in, commands}
use Rattle.command.proofs.Laws.{Begin, Alike, alike, head_some}
use Rattle.command.proofs.Rules.{bad_head, long, bad, well, by_rule}
use Rattle.effect.specs.Effects.{scene, done}
use Rattle.run.specs.Run.{machine, known_of}
use Rattle.writer.specs.Writing.{is_command}
use Rattle.writer.specs.Reading.{Whole, WouldFault, NotTaken}

-- ---- the checks of a head

-- all of them, in the order of a turn
pub record Passes (cap : ℕ) (head : List ℕ) : Type 0 where
  pub offered : (entry (kind_in head)).offered ≡ true
  pub number : length head ≡ (entry (kind_in head)).head
  pub head_good : (entry (kind_in head)).head_good head ≡ true
  pub fits : size_by (kind_in head) head ≤ cap
  pub good : (entry (kind_in head)).good tt head ≡ true

module _ (cap : ℕ) (head : List ℕ) where
  -- a head is a command's exactly where it passes them
  pub passes : is_command cap head ≡ true → Passes cap head
  unfolding is_command
  passes e =
      let a = both _ _ e in
      let b = both _ _ a.1 in
      let c = both _ _ b.1 in
      let d = both _ _ c.1 in
      record { offered = a.0; number = eqb-true _ _ b.0; head_good = c.0; fits = leb-true _ _ d.0; good = d.1 }

  pub is_a_command : Passes cap head → is_command cap head ≡ true
  unfolding is_command
  is_a_command p = rw (p.offered, eq-eqb _ _ p.number, p.head_good, le-leb _ _ p.fits, p.good)

-- ---- the words of a head

head_offered : (k : Kind) → (entry k).offered ≡ true → (2 ≤ (entry k).head) × ((entry k).head ≤ 8)
unfolding entry
head_offered Update on = (omega arith, omega arith)
head_offered RectFill on = (omega arith, omega arith)
head_offered RectCopy on = (omega arith, omega arith)
head_offered RectRopFill on = (omega arith, omega arith)
head_offered RectRopCopy on = (omega arith, omega arith)
head_offered DefineAlphaCursor on = (omega arith, omega arith)
head_offered UpdateVerbose on = (omega arith, omega arith)
head_offered Fence on = (omega arith, omega arith)
head_offered Escape on = (omega arith, omega arith)
head_offered Foreign on = absurd (true≢false (sym on))

-- a command's head is two to eight words
pub head_few : (cap : ℕ) (head : List ℕ) → is_command cap head ≡ true → (2 ≤ length head) × (length head ≤ 8)
head_few cap head e =
    let p = passes cap head e in
    let h = head_offered (kind_in head) p.offered in
    let n = p.number in
    (omega arith, omega arith)

-- ---- a turn on words that begin with a head

-- they are of its kind, and begin with its arguments; all of the command's are there, if the ring carries them
pub record Begins (cap : ℕ) (head w : List ℕ) : Type 0 where
  pub kind : kind_in w ≡ kind_in head
  pub begin : Begin (entry (kind_in head)).head w head
  pub some : (entry (kind_in head)).head ≤ length w
  pub all : size_by (kind_in head) head ≤ cap → size_by (kind_in head) head ≤ length w

module _ {S : Type 0} (known_of : S → Known) (does : Action → List ℕ → S → S) (cap : ℕ) (s : S) (head w : List ℕ) (begins : Begins cap head w) where
  here : Alike (entry (kind_in head)) w head
  here = alike (kind_in head) w head begins.begin

  size : size_by (kind_in w) w ≡ size_by (kind_in head) head
  size = rw begins.kind (ap (λ n. (entry (kind_in head)).head + n) here.behind)

  there : 1 ≤ length w
  there = omega (arith, begins.some, (head_some (kind_in head)).0)

  -- one that passes is executed, with its own words
  pub taken_turn : is_command cap head ≡ true
      → turn_of cap (commands known_of does) s w
      ≡ exec (size_by (kind_in head) head) (does ((entry (kind_in head)).action head) (take (size_by (kind_in head) head) w) s)
  taken_turn e =
      let p = passes cap head e in
      let k = begins.kind in
      by_rule known_of does cap s w there _
      (well (rw k p.offered) (rw k begins.some) (rw k (here.head_good ∙ p.head_good)) (omega (arith, size, p.fits))
      (omega (arith, size, begins.all p.fits)) (rw k (here.good tt ∙ p.good)))
      ∙ ap₂ (λ (n : ℕ) (a : Action). exec n (does a (take n w) s)) size (rw k here.action)

  -- one that does not, though offered and of its number of words, is 11 or 12
  pub fault_turn : (entry (kind_in head)).offered ≡ true → length head ≡ (entry (kind_in head)).head → is_command cap head ≡ false
      → (turn_of cap (commands known_of does) s w ≡ ends (Fault BadOperand)) ⊎ (turn_of cap (commands known_of does) s w ≡ ends (Fault TooLong))
  fault_turn on number f =
      let k = begins.kind in
      let offers : (entry (kind_in w)).offered ≡ true = rw k on in
      let some : (entry (kind_in w)).head ≤ length w = rw k begins.some in
      let by = by_rule known_of does cap s w there in
      cases ((entry (kind_in head)).head_good head)
      (λ g. let good : (entry (kind_in w)).head_good w ≡ true = rw k (here.head_good ∙ g) in
      cases (leb (size_by (kind_in head) head) cap)
      (λ l. let fits : size_by (kind_in head) head ≤ cap = leb-true _ _ l in
      cases ((entry (kind_in head)).good tt head)
      (λ o. not_both (is_command cap head) (is_a_command cap head (record { offered = on; number = number; head_good = g; fits = fits; good = o })) f)
      (λ o. inl (by _ (bad offers some good (omega (arith, size)) (omega (arith, size, begins.all fits)) (rw k (here.good tt ∙ o))))))
      (λ l. let over : cap < size_by (kind_in head) head = leb-false _ _ l in inr (by _ (long offers some good (omega (arith, size))))))
      (λ g. inl (by _ (bad_head offers some (rw k (here.head_good ∙ g)))))

-- ---- the readers' rule

-- a command's words begin with its head
whole_begins : (cap : ℕ) (head w : List ℕ) → length head ≡ (entry (kind_in head)).head → Whole head w → Begins cap head w
whole_begins cap head w number h = record {
  kind = ap kind_of (word 0 (omega (arith, (head_some (kind_in head)).0)));
  begin = λ i p q. word i q;
  some = omega (arith, h.all);
  all = λ fits. omega (arith, h.all);
}
  where
    word : (i : ℕ) → i < (entry (kind_in head)).head → get_or w i 0 ≡ get_or head i 0
    word i q = sym (get_or-take (length head) w i 0 (omega arith)) ∙ ap (λ (l : List ℕ). get_or l i 0) h.begins

-- a command with this head: zeros behind it
whole_zeros : (head : List ℕ) → length head ≡ (entry (kind_in head)).head → Whole head (head ++ replicate ((entry (kind_in head)).behind head) 0)
whole_zeros head number = record {
  begins = take-append_seam head _;
  all = length-append head _ ∙ rw (length-replicate {A = ℕ} ((entry (kind_in head)).behind head) 0, number);
}

-- some machine executes what passes
no_fault : (cap : ℕ) (head : List ℕ) → is_command cap head ≡ true → WouldFault cap head → ⊥
no_fault cap head e faults =
    let number = (passes cap head e).number in
    let w = whole_zeros head number in
    let s = scene (record { width = 0; height = 0; rows = 0 }) [] false in
    let m = machine (record { fence = 0; defined = None }) [] [] 0 in
    let t = taken_turn known_of (done s) cap m head _ (whole_begins cap head _ number w) e in
    ⊎_elim (λ q. let z = sym t ∙ q in true≢false cc) (λ q. let z = sym t ∙ q in true≢false cc) (faults s m _ w)

module _ (cap : ℕ) (head : List ℕ) where
  -- 41 is "the number isn't in document 01's command table or the device would fault with 11 or 12"
  pub not_taken : (is_command cap head ≡ false) ↔ NotTaken cap head
  not_taken = (
    λ f.
        cases (entry (kind_in head)).offered
        (λ on. cases (eqb (length head) (entry (kind_in head)).head)
        (λ n. inr (inr (λ s m w h. fault_turn known_of (done s) cap m head w (whole_begins cap head w (eqb-true _ _ n) h) on (eqb-true _ _ n) f)))
        (λ n. inr (inl (eqb-false _ _ n))))
        (λ off. inl off),
    λ x.
        cases (is_command cap head)
        (λ e. let p = passes cap head e in
        absurd (⊎_elim (λ off. true≢false (sym p.offered ∙ off)) (λ y. ⊎_elim (λ n. n p.number) (no_fault cap head e) y) x))
        (λ f. f),
  )

  -- so it is taken exactly where that is not so
  pub taken_is : (is_command cap head ≡ true) ↔ (¬ NotTaken cap head)
  taken_is = (
    λ e x. not_both (is_command cap head) e (not_taken.1 x),
    λ n. cases (is_command cap head) (λ e. e) (λ f. absurd (n (not_taken.0 f))),
  )
