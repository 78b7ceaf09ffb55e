-- Parts of a line: what an inner function puts. Nothing here has to be believed.
use Rattle.std.specs.Prelude.{◌≡◌, ◌++◌, List, [], ◌∷◌, ℕ}
use Rattle.console_answers.specs.declared.Text.{Text}
use Rattle.console_answers.specs.Put.{Put}
use Rattle.console_answers.specs.Text.{decimal_of}

-- A tab and a number.
abbrev pub field_of : ℕ → List ℕ
field_of n = 9 ∷ decimal_of n

-- What stands behind the word of a line with two numbers.
abbrev pub numbers_of : ℕ → ℕ → List ℕ
numbers_of first second = field_of first ++ (field_of second ++ (10 ∷ []))

-- A text is put behind the text of a buffer, which stays the same buffer.
pub record Puts (text : List ℕ) (before after : Text) : Type 0 where
  pub same : after.bytes.ghost_name ≡ before.bytes.ghost_name
  pub put : Put before.bytes.now before.len text after.bytes.now after.len
