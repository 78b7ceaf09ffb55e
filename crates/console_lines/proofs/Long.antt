-- A line of more than 23 bytes is bad, so its first 32 bytes tell its request.
-- Assumes nothing.
use mathlib.Core.Path.{◌≡◌, refl, sym, ◌∙◌}
use mathlib.Core.Bool.{Bool, true, false, cond, and-false}
use mathlib.Core.List.{List, [], ◌∷◌}
use Rattle.std.specs.Prelude.{Option, Some, None}
use Prim.Native.Nat.{ℕ, suc, ◌+◌, ◌≤◌, ◌<◌}
use native.Mathlib.Omega.{arith}
use lib.Dec.{eqb, leb}
use lib.ListN.{length, take, length-take}
use lib.Seq.{take_all}
use borrow.Author.Tests.{leb-true, leb-false, lt-leb}
use borrow.Table.Steps.{cases}
use Rattle.console_lines.specs.declared.Request.TheVariants.{Bad}
use Rattle.console_lines.specs.Lines.{in_first, fields, number_of, with_one, with_two, request_in, request_of, word_w, word_r, word_p, word_f, word_run, word_s}
use Rattle.console_lines.proofs.Words.{other_length}

-- The bytes of fields, each with the tab or the line's end behind it.
abbrev spread : List (List ℕ) → ℕ
spread [] = 0
spread (f ∷ fs) = length f + 1 + spread fs

spread_first : (b : ℕ) (fs : List (List ℕ)) → 1 ≤ spread fs → spread (in_first b fs) ≡ suc (spread fs)
spread_first b [] h = absurd (omega arith)
spread_first b (f ∷ fs) h = omega arith

spread_one : (t : Bool) (b : ℕ) (fs : List (List ℕ)) → 1 ≤ spread fs → spread (cond t ([] ∷ fs) (in_first b fs)) ≡ suc (spread fs)
spread_one true b fs h = omega arith
spread_one false b fs h = spread_first b fs h

spread_fields : (l : List ℕ) → spread (fields l) ≡ suc (length l)
unfolding fields
spread_fields [] = refl
spread_fields (b ∷ bs) =
    let h = spread_fields bs in
    let some_byte : 1 ≤ spread (fields bs) = omega arith in omega (arith, spread_one (eqb b 9) b (fields bs) some_byte)

long_number : (f : List ℕ) → 10 < length f → number_of f ≡ None
unfolding number_of
long_number f h = simp (lt-leb (length f) 10 h, and-false)

one_none : (word : List ℕ) (a : Option ℕ) → 3 < length word → with_one word a ≡ Bad
unfolding with_one
one_none word None h = refl
one_none word (Some n) h =
    rw (
      other_length word word_r (λ e. omega arith),
      other_length word word_p (λ e. omega arith),
      other_length word word_run (λ e. omega arith),
      other_length word word_s (λ e. omega arith),
    )

two_none : (word : List ℕ) (a b : Option ℕ) → 1 < length word → with_two word a b ≡ Bad
unfolding with_two
two_none word None b h = refl
two_none word (Some m) None h = refl
two_none word (Some m) (Some n) h = rw (other_length word word_w (λ e. omega arith), other_length word word_f (λ e. omega arith))

two_second : (word : List ℕ) (a : Option ℕ) → with_two word a None ≡ Bad
unfolding with_two
two_second word None = refl
two_second word (Some m) = refl

long_one : (word a : List ℕ) → 22 < length word + length a → with_one word (number_of a) ≡ Bad
unfolding with_one
long_one word a h =
    cases (leb (length a) 10) (λ t. let k : length a ≤ 10 = leb-true _ _ t in one_none word (number_of a) (omega arith))
    (λ t. rw (long_number a (leb-false _ _ t)))

long_two : (word a b : List ℕ) → 21 < length word + length a + length b → with_two word (number_of a) (number_of b) ≡ Bad
unfolding with_two
long_two word a b h =
    cases (leb (length a) 10)
    (λ t. cases (leb (length b) 10)
    (λ s. let k : length a ≤ 10 = leb-true _ _ t in let m : length b ≤ 10 = leb-true _ _ s in two_none word (number_of a) (number_of b) (omega arith))
    (λ s. rw (long_number b (leb-false _ _ s)) (two_second word (number_of a))))
    (λ t. rw (long_number a (leb-false _ _ t)))

long_fields : (fs : List (List ℕ)) → 24 < spread fs → request_in fs ≡ Bad
unfolding request_in
long_fields [] h = refl
long_fields (word ∷ []) h = refl
long_fields (word ∷ a ∷ []) h = long_one word a (omega arith)
long_fields (word ∷ a ∷ b ∷ []) h = long_two word a b (omega arith)
long_fields (word ∷ a ∷ b ∷ c ∷ rest) h = refl

-- `w`, a number of ten digits and another: 23 bytes are the longest request.
pub long_line : (l : List ℕ) → 23 < length l → request_of l ≡ Bad
unfolding request_of
long_line l h = long_fields (fields l) (omega (arith, spread_fields l))

pub first_bytes : (l : List ℕ) → request_of (take 32 l) ≡ request_of l
first_bytes l =
    cases (leb (length l) 32) (λ t. rw (take_all 32 l (leb-true _ _ t)))
    (λ t. let k : 32 < length l = leb-false _ _ t in
    long_line (take 32 l) (omega (arith, length-take 32 l)) ∙ sym (long_line l (omega arith)))
