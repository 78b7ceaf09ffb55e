-- Which numbers have a register: those below 29, and no other.
-- Assumes nothing.
use mathlib.Core.Path.{◌≡◌, refl, subst}
use mathlib.Core.Bool.{Bool, true, false, ◌&&◌}
use mathlib.Core.List.{List, [], ◌∷◌}
use Prim.Native.Nat.{ℕ, zero, suc, ◌≤◌, ◌<◌}
use native.Mathlib.Omega.{arith}
use lib.Dec.{T, ltb, ltb→lt}
use mir.Facts.{and_yes}
use borrow.Author.Tests.{ne_eqb}
use Rattle.register.specs.declared.Register.{Register}
use Rattle.register.specs.declared.Register.TheVariants.{Writes, Reads, Absent}
use Rattle.register.specs.Numbers.{Numbered, numbers, among, register_of}

-- every number of the table is below n
abbrev below : ℕ → List Numbered → Bool
below n [] = true
below n (r ∷ rs) = ltb r.number n && below n rs

past : (n i : ℕ) (rs : List Numbered) → T (below n rs) → n ≤ i → among i rs ≡ Absent
past n i [] t h = refl
past n i (r ∷ rs) t h =
    let both = and_yes (ltb r.number n) (below n rs) t in
    let low = ltb→lt r.number n both.0 in
    rw (ne_eqb i r.number (λ e. omega (arith, e))) (past n i rs both.1 h)

pub absent : (i : ℕ) → 29 ≤ i → register_of i ≡ Absent
unfolding register_of numbers
absent i = past 29 i numbers tt

-- the test p passes at every number below n
abbrev each : ℕ → (ℕ → Bool) → Bool
each zero p = true
each (suc n) p = p 0 && each n (λ i. p (suc i))

at : (n : ℕ) (p : ℕ → Bool) → T (each n p) → (i : ℕ) → i < n → T (p i)
at zero p t i h = let z : ⊥ = omega arith in absurd z
at (suc n) p t zero h = (and_yes (p 0) (each n (λ i. p (suc i))) t).0
at (suc n) p t (suc i) h = at n (λ i. p (suc i)) (and_yes (p 0) (each n (λ i. p (suc i))) t).1 i (omega arith)

abbrev there : Register → Bool
there (Writes w) = true
there (Reads r) = true
there Absent = false

pub offered : (i : ℕ) → i < 29 → register_of i ≡ Absent → ⊥
unfolding register_of numbers
offered i h e = subst (λ r. T (there r)) e (at 29 (λ i. there (register_of i)) tt i h)
