-- Lines that document 01's example prints, and numbers at their limits.
-- Assumes nothing.
use mathlib.Core.Path.{◌≡◌, refl}
use mathlib.Core.List.{[], ◌∷◌}
use Rattle.console_answers.specs.declared.ConsoleAnswer.TheVariants.{Ran, Shown, Full}
use Rattle.console_answers.specs.Text.{decimal_in, decimal_of, line_of, text_of}

-- "`run 0 1`"
run_line : text_of (Ran 0 1) ≡ 114 ∷ 117 ∷ 110 ∷ 9 ∷ 48 ∷ 9 ∷ 49 ∷ 10 ∷ []
unfolding text_of line_of decimal_of decimal_in
run_line = refl

-- "`s 1022 255`"
screen_line : text_of (Shown 1022 255) ≡ 115 ∷ 9 ∷ 49 ∷ 48 ∷ 50 ∷ 50 ∷ 9 ∷ 50 ∷ 53 ∷ 53 ∷ 10 ∷ []
unfolding text_of line_of decimal_of decimal_in
screen_line = refl

full_line : text_of Full ≡ 102 ∷ 117 ∷ 108 ∷ 108 ∷ 10 ∷ []
unfolding text_of line_of
full_line = refl

largest : decimal_of 4294967295 ≡ 52 ∷ 50 ∷ 57 ∷ 52 ∷ 57 ∷ 54 ∷ 55 ∷ 50 ∷ 57 ∷ 53 ∷ []
unfolding decimal_of decimal_in
largest = refl
