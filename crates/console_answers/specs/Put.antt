-- Text put into a buffer behind the bytes that are there.
use Rattle.std.specs.Prelude.{ℕ, ◌+◌, ◌≡◌, cond, List, [], ◌++◌, leb, length, take, drop}
use Rattle.console_answers.specs.declared.ConsoleAnswer.{ConsoleAnswer}
use Rattle.console_answers.specs.Text.{text_of}

-- A buffer with a text behind its first at bytes: every other byte is as it was. With no text it is the buffer, wherever at is.
abbrev pub put_at : List ℕ → ℕ → List ℕ → List ℕ
put_at before at text = take at before ++ text ++ drop (at + length text) before

-- The text was put, and ends at end.
pub record Put (before : List ℕ) (at : ℕ) (text : List ℕ) (after : List ℕ) (end : ℕ) : Type 0 where
  pub bytes : after ≡ put_at before at text
  pub ends : end ≡ at + length text

-- An answer has at most 26 bytes. Where the buffer has no room for so many, nothing is put.
unfoldable pub shown : ℕ → ℕ → ConsoleAnswer → List ℕ
shown room at answer = cond (leb (at + 26) room) (text_of answer) []
