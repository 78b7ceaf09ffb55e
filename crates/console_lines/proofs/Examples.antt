-- Four lines and their requests, and two inputs and their lines, computed.
-- Assumes nothing.
use mathlib.Core.Path.{◌≡◌, refl}
use mathlib.Core.List.{[], ◌∷◌}
use Rattle.console_lines.specs.declared.Request.TheVariants.{Write, Append, Bad}
use Rattle.console_lines.specs.Input.{lines_of}
use Rattle.console_lines.specs.Lines.{fields, digits, decimal, number_of, same, with_one, with_two, request_in, request_of}

-- "w\t2\t32"
pub write_line : request_of (119 ∷ 9 ∷ 50 ∷ 9 ∷ 51 ∷ 50 ∷ []) ≡ Write 2 32
unfolding fields digits decimal number_of same with_two request_in request_of
write_line = refl

-- "p\t4294967295"
pub append-line : request_of (112 ∷ 9 ∷ 52 ∷ 50 ∷ 57 ∷ 52 ∷ 57 ∷ 54 ∷ 55 ∷ 50 ∷ 57 ∷ 53 ∷ []) ≡ Append 4294967295
unfolding fields digits decimal number_of same with_one request_in request_of
append-line = refl

-- "p\t4294967296"
pub word_above : request_of (112 ∷ 9 ∷ 52 ∷ 50 ∷ 57 ∷ 52 ∷ 57 ∷ 54 ∷ 55 ∷ 50 ∷ 57 ∷ 54 ∷ []) ≡ Bad
unfolding fields digits decimal number_of same with_one request_in request_of
word_above = refl

-- "s\t1024"
pub place_above : request_of (115 ∷ 9 ∷ 49 ∷ 48 ∷ 50 ∷ 52 ∷ []) ≡ Bad
unfolding fields digits decimal number_of same with_one request_in request_of
place_above = refl

-- "a\n\nb": an empty line, and a last line without newline
pub three_lines : lines_of (97 ∷ 10 ∷ 10 ∷ 98 ∷ []) ≡ (97 ∷ []) ∷ [] ∷ (98 ∷ []) ∷ []
unfolding lines_of
three_lines = refl

-- "a\n": no line after the newline
pub one_line : lines_of (97 ∷ 10 ∷ []) ≡ (97 ∷ []) ∷ []
unfolding lines_of
one_line = refl
