-- The first tab of a line parts its first field from the others; a line with three tabs is bad.
-- Assumes nothing.
use mathlib.Core.Path.{◌≡◌, refl}
use mathlib.Core.Bool.{Bool, true, false, cond}
use mathlib.Core.List.{List, [], ◌∷◌}
use Prim.Native.Nat.{ℕ, suc, ◌+◌, ◌-◌, ◌≤◌}
use native.Mathlib.Nat.{sub-zero, sub_self}
use native.Mathlib.Numerals.{add-one}
use native.Mathlib.Omega.{arith}
use lib.Dec.{eqb}
use lib.ListN.{length, take, drop, length-drop}
use lib.Seq.{take_all}
use borrow.Table.Steps.{cases}
use Rattle.std.specs.Prelude.{Option, Some, None, MatchOption}
use Rattle.std.specs.List.{position, position_from}
use Rattle.std.proofs.lemmas.Iterator.Adapters.{position_from-zero}
use Rattle.console_lines.specs.declared.Request.TheVariants.{Bad}
use Rattle.console_lines.specs.Lines.{in_first, fields, request_in}

-- What the first tab of a line, or its absence, says of its fields; r - i is its place.
abbrev Parted : ℕ → List ℕ → Option ℕ → Type 0
Parted i l o = MatchOption o (fields l ≡ l ∷ []) (λ r. (i ≤ r) × (fields l ≡ take (r - i) l ∷ fields (drop (suc (r - i)) l)))

one_later : (b : ℕ) (bs : List ℕ) (i : ℕ) (o : Option ℕ) → Parted (i + 1) bs o
    → MatchOption o (in_first b (fields bs) ≡ (b ∷ bs) ∷ [])
    (λ r. (i ≤ r) × (in_first b (fields bs) ≡ take (r - i) (b ∷ bs) ∷ fields (drop (suc (r - i)) (b ∷ bs))))
one_later b bs i None h = rw h
one_later b bs i (Some r) h = let e : r - i ≡ suc (r - (i + 1)) = omega (arith, h.0) in (omega (arith, h.0), rw (h.1, e))

parted_from : (l : List ℕ) (i : ℕ) → Parted i l (position_from (λ b. eqb b 9) i l)
unfolding fields
parted_from [] i = refl
parted_from (b ∷ bs) i = cases (eqb b 9) (λ t. rw t (omega arith, rw sub_self))
    (λ t. rw t (one_later b bs i _ (parted_from bs (i + 1))))

parted : (l : List ℕ) → Parted 0 l (position (λ b. eqb b 9) l)
parted l = rw (position_from-zero (λ b. eqb b 9) l) (parted_from l 0)

pub no_tab : (l : List ℕ) → None ≡ position (λ b. eqb b 9) l → fields l ≡ l ∷ []
no_tab l e = rw (← e) at (parted l)

pub first_tab : (l : List ℕ) (r : ℕ) → Some r ≡ position (λ b. eqb b 9) l
    → fields l ≡ take r l ∷ fields (take (length l - (r + 1)) (drop (r + 1) l))
first_tab l r e = rw (take_all (length l - (r + 1)) (drop (r + 1) l) (simp length-drop (omega arith)), add-one) (rw (← e, sub-zero) at (parted l)).1

more_than_three : (c : Bool) (b : ℕ) (fs : List (List ℕ)) (w x y : List ℕ)
    → request_in (w ∷ x ∷ y ∷ cond c ([] ∷ fs) (in_first b fs)) ≡ Bad
unfolding request_in
more_than_three true b fs w x y = refl
more_than_three false b [] w x y = refl
more_than_three false b (f ∷ fs) w x y = refl

pub four_fields : (w x y l : List ℕ) → request_in (w ∷ x ∷ y ∷ fields l) ≡ Bad
unfolding request_in fields
four_fields w x y [] = refl
four_fields w x y (b ∷ bs) = more_than_three (eqb b 9) b (fields bs) w x y
