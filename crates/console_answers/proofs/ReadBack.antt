-- A number that the console prints is a number that it reads, and the same.
-- Assumes nothing.
use mathlib.Core.Path.{◌≡◌, refl}
use mathlib.Core.Bool.{Bool, true, false, ◌&&◌}
use mathlib.Core.List.{List, [], ◌∷◌, ◌++◌}
use Rattle.std.specs.Prelude.{Some}
use Prim.Native.Nat.{ℕ, zero, suc, ◌+◌, ◌-◌, ◌*◌, ◌/◌, ◌%◌, ◌^◌, ◌≤◌, ◌<◌}
use native.Mathlib.Nat.{pow-suc}
use native.Mathlib.Omega.{arith}
use lib.Dec.{ltb, leb}
use lib.ListN.{length, length-append}
use borrow.Author.Tests.{ltb-true, ltb-false, le-leb}
use borrow.Table.Steps.{cases}
use Rattle.console_lines.specs.Lines.{digits, decimal, number_of}
use Rattle.console_answers.specs.Text.{decimal_in, decimal_of}
use Rattle.console_answers.proofs.Decimal.{decimal_short}

decimal_behind : (n d : ℕ) (l : List ℕ) → decimal n (l ++ (d ∷ [])) ≡ decimal n l * 10 + (d - 48)
unfolding decimal
decimal_behind n d [] = refl
decimal_behind n d (b ∷ l) = decimal_behind (n * 10 + (b - 48)) d l

last_of_three : (t u v w : Bool) → t && (u && v) ≡ true → (v ≡ true → w ≡ true) → t && (u && w) ≡ true
last_of_three true true v w e f = f e
last_of_three true false v w e f = e
last_of_three false u v w e f = e

digits_behind : (d : ℕ) → 48 ≤ d → d ≤ 57 → (l : List ℕ) → digits l ≡ true → digits (l ++ (d ∷ [])) ≡ true
unfolding digits
digits_behind d g h [] e = rw (le-leb 48 d g, le-leb d 57 h)
digits_behind d g h (b ∷ l) e = last_of_three (leb 48 b) (leb b 57) (digits l) (digits (l ++ (d ∷ []))) e (digits_behind d g h l)

record Reads (l : List ℕ) (n : ℕ) : Type 0 where
  value : decimal 0 l ≡ n
  all : digits l ≡ true
  some_digit : 1 ≤ length l

one_digit : (n : ℕ) → n < 10 → Reads ((48 + n) ∷ []) n
unfolding decimal digits
one_digit n h =
    let low : 48 ≤ 48 + n = omega arith in
    let high : 48 + n ≤ 57 = omega arith in
    record { value = omega arith; all = rw (le-leb 48 (48 + n) low, le-leb (48 + n) 57 high); some_digit = omega arith }

one_more_lem : (l : List ℕ) (n : ℕ) → Reads l (n / 10) → Reads (l ++ ((48 + n % 10) ∷ [])) n
one_more_lem l n r = record {
  value = rw (decimal_behind 0 (48 + n % 10) l, r.value) (omega arith);
  all = digits_behind (48 + n % 10) (omega arith) (omega arith) l r.all;
  some_digit = omega (arith, length-append l ((48 + n % 10) ∷ []));
}

reads_in : (k n : ℕ) → n < 10 ^ suc k → Reads (decimal_in (suc k) n) n
unfolding decimal_in
reads_in zero n h =
    let small : n < 10 = omega (arith, pow-suc 10 0) in cases (ltb n 10) (λ t. rw t (one_digit n small)) (λ t. absurd (omega (arith, ltb-false n 10 t)))
reads_in (suc k) n h =
    let tens : n / 10 < 10 ^ suc k = omega (arith, pow-suc 10 (suc k)) in
    cases (ltb n 10) (λ t. rw t (one_digit n (ltb-true n 10 t))) (λ t. rw t (one_more_lem (decimal_in (suc k) (n / 10)) n (reads_in k (n / 10) tens)))

pub read_back_lem : (n : ℕ) → n ≤ 4294967295 → number_of (decimal_of n) ≡ Some n
unfolding number_of decimal_of
read_back_lem n h =
    let r = reads_in 9 n (omega arith) in
    rw (le-leb 1 _ r.some_digit, le-leb _ 10 (decimal_short n), r.all, r.value, le-leb n 4294967295 h)
