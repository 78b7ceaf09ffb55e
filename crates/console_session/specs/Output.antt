-- The whole output of an input: document 01, "It reads lines".
use Rattle.std.specs.Prelude.{ℕ, List, [], ◌∷◌, ◌++◌}
use Rattle.console_lines.specs.Input.{lines_of}
use Rattle.console_lines.specs.Lines.{request_of}
use Rattle.console_answers.specs.Text.{text_of}
use Rattle.console_session.specs.Console.{Console, performed, start}

-- The answers in order, each request on the console that the last one left.
unfoldable pub answers_to : Console → List (List ℕ) → List ℕ
answers_to c [] = []
answers_to c (line ∷ lines) =
    text_of (performed c (request_of line)).answer ++ answers_to (performed c (request_of line)).console lines

-- "Whole output, no header"
unfoldable pub output_of : List ℕ → List ℕ
output_of input = answers_to start (lines_of input)
