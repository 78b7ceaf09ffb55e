-- A word is compared by its length and its bytes; a request goes by the letter of its word.
-- Assumes nothing.
use mathlib.Core.Path.{◌≡◌, refl, ap}
use mathlib.Core.Bool.{false, ◌&&◌, and-true, and-false}
use mathlib.Core.List.{List, [], ◌∷◌}
use Rattle.std.proofs.lemmas.Bool.Decides.{nat_tests}
use Prim.Native.Nat.{ℕ, suc}
use native.Mathlib.Omega.{arith}
use lib.Dec.{eqb}
use lib.ListN.{length, get_or}
use borrow.Author.Tests.{ne_eqb}
use Rattle.console_lines.specs.Lines.{same}

pub other_length : (l m : List ℕ) → (length l ≡ length m → ⊥) → same l m ≡ false
unfolding same
other_length [] [] ne = absurd (ne refl)
other_length [] (c ∷ cs) ne = refl
other_length (b ∷ bs) [] ne = refl
other_length (b ∷ bs) (c ∷ cs) ne = rw (other_length bs cs (λ e. ne (ap suc e))) (and-false (eqb b c))

-- A word of one byte, and one of three.
pub one_byte : (l : List ℕ) (a : ℕ) → same l (a ∷ []) ≡ eqb (length l) 1 && eqb (get_or l 0 0) a
unfolding same
one_byte [] a = refl
one_byte (x ∷ []) a = and-true (eqb x a)
one_byte (x ∷ y ∷ l) a = rw (and-false, ne_eqb (length (x ∷ y ∷ l)) 1 (λ e. omega arith))

pub three_bytes : (l : List ℕ) (a b c : ℕ)
    → same l (a ∷ b ∷ c ∷ []) ≡ eqb (length l) 3 && (eqb (get_or l 0 0) a && (eqb (get_or l 1 0) b && eqb (get_or l 2 0) c))
unfolding same
three_bytes [] a b c = refl
three_bytes (x ∷ []) a b c = and-false (eqb x a)
three_bytes (x ∷ y ∷ []) a b c = simp and-false
three_bytes (x ∷ y ∷ z ∷ []) a b c = simp and-true
three_bytes (x ∷ y ∷ z ∷ v ∷ l) a b c = simp (and-false, ne_eqb (length (x ∷ y ∷ z ∷ v ∷ l)) 3 (λ e. omega arith))

pub ruleset words = (one_byte, three_bytes, nat_tests)
