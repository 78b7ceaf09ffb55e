-- What the console prints: document 01, "The console program". Text is a list of bytes; 9 is the tab, 10 the newline.
use Rattle.std.specs.Prelude.{ℕ, zero, suc, ◌+◌, ◌/◌, ◌%◌, cond, List, [], ◌∷◌, ◌++◌, ltb}
use Rattle.console_lines.specs.Lines.{word_w, word_r, word_run, word_s}
use Rattle.console_answers.specs.declared.ConsoleAnswer.{ConsoleAnswer}
use Rattle.console_answers.specs.declared.ConsoleAnswer.TheVariants.{Written, Value, Ran, Shown, Full, Nothing, Bad}

-- A number in decimal without leading zeros, of at most k digits.
unfoldable pub decimal_in : ℕ → ℕ → List ℕ
decimal_in zero n = []
decimal_in (suc k) n = cond (ltb n 10) ((48 + n) ∷ []) (decimal_in k (n / 10) ++ ((48 + n % 10) ∷ []))

-- A number of 32 bits has at most ten digits.
unfoldable pub decimal_of : ℕ → List ℕ
decimal_of n = decimal_in 10 n

-- "fields parted by one tab", and the line's newline
unfoldable pub line_of : List (List ℕ) → List ℕ
line_of [] = []
line_of (f ∷ []) = f ++ (10 ∷ [])
line_of (f ∷ g ∷ fs) = f ++ (9 ∷ line_of (g ∷ fs))

-- "`full`", "`bad`"
abbrev pub word_full : List ℕ
word_full = 102 ∷ 117 ∷ 108 ∷ 108 ∷ []

abbrev pub word_bad : List ℕ
word_bad = 98 ∷ 97 ∷ 100 ∷ []

-- "`w index value` prints w, index, answer. `r index` prints r, index, value. .. `run budget` prints run, answer, count.
-- `s place` prints s, place, screen pixel."
unfoldable pub text_of : ConsoleAnswer → List ℕ
text_of (Written index answer) = line_of (word_w ∷ decimal_of index ∷ decimal_of answer ∷ [])
text_of (Value index value) = line_of (word_r ∷ decimal_of index ∷ decimal_of value ∷ [])
text_of (Ran answer count) = line_of (word_run ∷ decimal_of answer ∷ decimal_of count ∷ [])
text_of (Shown place pixel) = line_of (word_s ∷ decimal_of place ∷ decimal_of pixel ∷ [])
text_of Full = line_of (word_full ∷ [])
text_of Bad = line_of (word_bad ∷ [])
text_of Nothing = []
