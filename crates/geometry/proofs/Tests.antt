-- Tests and what they say.
-- Assumes nothing.
use mathlib.Core.Path.{◌≡◌, refl, sym, ◌∙◌}
use mathlib.Core.Bool.{Bool, true, false, ◌&&◌, ◌||◌, cond, true≢false, and-eq-true_iff}
use mathlib.Core.Logic.{◌⊎◌, inl, inr}
use Prim.Native.Nat.{ℕ, ◌+◌, ◌≤◌, ◌<◌}
use native.Mathlib.Omega.{arith}
use lib.Dec.{leb, ltb}
use borrow.Author.Tests.{ltb-true, ltb-false, leb-true, leb-false, lt-ltb, le-ltb, le-leb, lt-leb}
use borrow.Table.Steps.{cases}
use Rattle.geometry.specs.Pixels.{within}

pub both : (a b : Bool) → a && b ≡ true → (a ≡ true) × (b ≡ true)
both a b = (and-eq-true_iff a b).0

pub neither : (a b : Bool) → a || b ≡ false → (a ≡ false) × (b ≡ false)
neither false b e = (refl, e)
neither true b e = absurd (true≢false cc)

pub and_yes : (a b : Bool) → a ≡ true → b ≡ true → a && b ≡ true
and_yes a b p q = (and-eq-true_iff a b).1 (p, q)

-- a test does not come out both ways
pub not_both : {A : Type 0} (b : Bool) → b ≡ true → b ≡ false → A
not_both b t f = absurd (true≢false (sym t ∙ f))

-- what holds of both choices of a test holds of the chosen
pub by_cond : {A : Type 0} (P : A → Type 0) (b : Bool) {x y : A} → (b ≡ true → P x) → (b ≡ false → P y) → P (cond b x y)
by_cond P true t f = t refl
by_cond P false t f = f refl

pub same_bool : (a b : Bool) → (a ≡ true → b ≡ true) → (b ≡ true → a ≡ true) → a ≡ b
same_bool true b f g = sym (f refl)
same_bool false true f g = g refl
same_bool false false f g = refl

pub within_in : (a n k : ℕ) → within a n k ≡ true → (a ≤ k) × (k < a + n)
within_in a n k e = let b = both (leb a k) (ltb k (a + n)) e in (leb-true a k b.0, ltb-true k (a + n) b.1)

pub within_yes : (a n k : ℕ) → a ≤ k → k < a + n → within a n k ≡ true
within_yes a n k l h = rw (le-leb a k l, lt-ltb k (a + n) h)

pub within_before : (a n k : ℕ) → k < a → within a n k ≡ false
within_before a n k h = rw (lt-leb a k h)

pub within_past : (a n k : ℕ) → a + n ≤ k → within a n k ≡ false
within_past a n k h = rw (le-leb a k (omega arith), le-ltb k (a + n) h)

pub within_out : (a n k : ℕ) → within a n k ≡ false → (k < a) ⊎ (a + n ≤ k)
within_out a n k e = cases (leb a k) (λ t. inr (ltb-false k (a + n) (rw t at e))) (λ f. inl (leb-false a k f))
