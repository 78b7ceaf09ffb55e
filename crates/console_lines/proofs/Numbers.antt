-- A field that is read digit by digit.
-- Assumes nothing.
use mathlib.Core.Path.{◌≡◌, sym, ◌∙◌}
use mathlib.Core.Bool.{true, false, cond, ◌&&◌, and-false, and_assoc, and-eq-true_iff}
use mathlib.Core.List.{List}
use Rattle.std.specs.Prelude.{Some, None}
use Prim.Native.Nat.{ℕ, suc, ◌+◌, ◌-◌, ◌*◌, ◌^◌, ◌≤◌, ◌<◌}
use native.Mathlib.Nat.{pow-suc}
use native.Mathlib.Numerals.{add-one}
use native.Mathlib.Omega.{arith}
use lib.Dec.{leb}
use lib.ListN.{length, get_or, drop, drop_of_length-le}
use lib.Seq.{drop-cons}
use borrow.Author.Tests.{leb-true, le-leb}
use Rattle.std.specs.Char.{is_ascii_digit}
use Rattle.console_lines.specs.Lines.{digits, decimal, number_of}

-- The first i bytes of f are digits and make value.
pub record Read (f : List ℕ) (value i : ℕ) : Type 0 where
  pub small : value < 10 ^ i
  pub sum : decimal value (drop i f) ≡ decimal 0 f
  pub all : digits (drop i f) ≡ digits f

module _ (f : List ℕ) (value i : ℕ) (r : Read f value i) where
  pub read_value : 1 ≤ length f → length f ≤ 10 → length f ≤ i → number_of f ≡ cond (leb value 4294967295) (Some value) None
  unfolding number_of decimal digits
  read_value g k h =
      let v = rw (drop_of_length-le f h) at r.sum in
      let t = rw (drop_of_length-le f h) at r.all in rw (le-leb 1 (length f) g, le-leb (length f) 10 k, ← t, ← v)

  module _ (there : i < length f) where
    digits_at : digits f ≡ leb 48 (get_or f i 0) && (leb (get_or f i 0) 57 && digits (drop (suc i) f))
    unfolding digits
    digits_at = rw (drop-cons f i 0 there) at (sym r.all)

    pub read_other : is_ascii_digit (get_or f i 0) ≡ false → number_of f ≡ None
    unfolding number_of
    read_other h = let none : digits f ≡ false = digits_at ∙ sym (and_assoc (leb 48 (get_or f i 0)) (leb (get_or f i 0) 57) (digits (drop (suc i) f))) ∙ rw h in simp (none, and-false)

    pub read_more : is_ascii_digit (get_or f i 0) ≡ true → Read f (value * 10 + (get_or f i 0 - 48)) (i + 1)
    unfolding decimal
    read_more h =
        let low : 48 ≤ get_or f i 0 = leb-true _ _ ((and-eq-true_iff (leb 48 (get_or f i 0)) _).0 h).0 in
        let high : get_or f i 0 ≤ 57 = leb-true _ _ ((and-eq-true_iff (leb 48 (get_or f i 0)) _).0 h).1 in
        rw add-one (record {
          small = omega (arith, pow-suc 10 i, r.small);
          sum = rw (drop-cons f i 0 there) at r.sum;
          all = sym (rw (digits_at, le-leb 48 _ low, le-leb _ 57 high));
        })
