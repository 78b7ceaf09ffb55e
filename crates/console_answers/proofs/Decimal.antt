-- The digits of a number: those of its tens, and its ones.
-- Assumes nothing.
use mathlib.Core.Path.{◌≡◌}
use mathlib.Core.Bool.{Bool, true, false, cond}
use mathlib.Core.List.{List, [], ◌∷◌, ◌++◌}
use Prim.Native.Nat.{ℕ, zero, suc, ◌+◌, ◌/◌, ◌%◌, ◌^◌, ◌≤◌, ◌<◌}
use native.Mathlib.Nat.{pow-suc}
use native.Mathlib.Omega.{arith}
use lib.Dec.{ltb}
use lib.ListN.{length, length-append}
use borrow.Author.Tests.{lt-ltb, le-ltb}
use Rattle.console_answers.specs.declared.ConsoleAnswer.{ConsoleAnswer}
use Rattle.console_answers.specs.declared.ConsoleAnswer.TheVariants.{Written, Value, Ran, Shown, Full, Nothing, Bad}
use Rattle.console_answers.specs.Text.{decimal_in, decimal_of, line_of, text_of}
use Rattle.console_answers.specs.Parts.{numbers_of}
use Rattle.console_answers.proofs.Putting.{puts_room}

-- More places than a number has digits change nothing.
more_places : (k n : ℕ) → n < 10 ^ suc k → decimal_in (suc (suc k)) n ≡ decimal_in (suc k) n
unfolding decimal_in
more_places zero n h = let small : n < 10 = omega (arith, pow-suc 10 0) in rw (lt-ltb n 10 small)
more_places (suc k) n h =
    let tens : n / 10 < 10 ^ suc k = omega (arith, pow-suc 10 (suc k)) in rw (more_places k (n / 10) tens)

pub decimal_small : (n : ℕ) → n < 10 → decimal_of n ≡ (48 + n) ∷ []
unfolding decimal_of decimal_in
decimal_small n h = rw (lt-ltb n 10 h)

by_tens : (n : ℕ) → 10 ≤ n → decimal_in 10 n ≡ decimal_in 9 (n / 10) ++ ((48 + n % 10) ∷ [])
unfolding decimal_in
by_tens n g = rw (le-ltb n 10 g)

pub decimal_large : (n : ℕ) → n < 2 ^ 32 → 10 ≤ n → decimal_of n ≡ decimal_of (n / 10) ++ ((48 + n % 10) ∷ [])
unfolding decimal_of
decimal_large n h g = let tens : n / 10 < 10 ^ 9 = omega arith in rw (more_places 8 (n / 10) tens) (by_tens n g)

pub large_length : (n : ℕ) → n < 2 ^ 32 → 10 ≤ n → length (decimal_of n) ≡ length (decimal_of (n / 10)) + 1
large_length n h g = rw (decimal_large n h g) (length-append (decimal_of (n / 10)) ((48 + n % 10) ∷ []))

one_more_lem : (t : Bool) (k x y : ℕ) (l : List ℕ) → length l ≤ k → length (cond t (x ∷ []) (l ++ (y ∷ []))) ≤ suc k
one_more_lem true k x y l h = omega arith
one_more_lem false k x y l h = omega (arith, length-append l (y ∷ []))

short : (k n : ℕ) → length (decimal_in k n) ≤ k
unfolding decimal_in
short zero n = omega arith
short (suc k) n = one_more_lem (ltb n 10) k (48 + n) (48 + n % 10) (decimal_in k (n / 10)) (short k (n / 10))

pub decimal_short : (n : ℕ) → length (decimal_of n) ≤ 10
unfolding decimal_of
decimal_short n = short 10 n

numbers_short : (a b : ℕ) → length (numbers_of a b) ≤ 23
numbers_short a b =
    omega (
      arith,
      decimal_short a,
      decimal_short b,
      length-append (decimal_of a) (9 ∷ (decimal_of b ++ (10 ∷ []))),
      length-append (decimal_of b) (10 ∷ []),
    )

pub text_short : (a : ConsoleAnswer) → length (text_of a) ≤ 26
unfolding text_of line_of
text_short (Written a b) = omega (arith, numbers_short a b)
text_short (Value a b) = omega (arith, numbers_short a b)
text_short (Ran a b) = omega (arith, numbers_short a b)
text_short (Shown a b) = omega (arith, numbers_short a b)
text_short Full = omega arith
text_short Bad = omega arith
text_short Nothing = omega arith

-- What room a number takes, and leaves.
pub ruleset digits = (decimal_small, large_length, puts_room)
