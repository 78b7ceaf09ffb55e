-- The lines of the console's input: document 01, "It reads lines". An input is a list of bytes; 10 is the newline.
use Rattle.std.specs.Prelude.{ℕ, cond, List, [], ◌∷◌, eqb}
use Rattle.console_lines.specs.Lines.{in_first}

-- A newline ends a line. A last line without newline is a line, after a last newline there is none, and an empty input has none.
unfoldable pub lines_of : List ℕ → List (List ℕ)
lines_of [] = []
lines_of (b ∷ bs) = cond (eqb b 10) ([] ∷ lines_of bs) (in_first b (lines_of bs))
