-- A turn of document 01's table by itself: what it finds to execute. The code decides by this, before any machine is touched.
use Rattle.std.specs.Prelude.{ℕ, cond, List, eqb, length, get_or, take, Result, Ok, Err}
use Rattle.std.proofs.Math.Option.{Option, none, some}
use Rattle.geometry.specs.Pixels.{tabulate}
use Rattle.execution.specs.declared.End.TheVariants.{Drained, Waiting, Fault}
use Rattle.execution.specs.Straight.{Turn, ends, exec}
use Rattle.execution.specs.Table.{Table, turn_of}
use Rattle.command.specs.declared.Kind.{Kind}
use Rattle.command.specs.declared.Kind.TheVariants.{Update, RectFill, RectCopy, RectRopFill, RectRopCopy, DefineAlphaCursor, UpdateVerbose, Fence, Escape, Foreign}
use Rattle.command.specs.declared.Action.{Action}
use Rattle.command.specs.declared.Data.{Data}
use Rattle.command.specs.declared.Data.TheVariants as D
use Rattle.command.specs.declared.Step.{Step}
use Rattle.command.specs.declared.Step.TheVariants.{Does, Short, Faults, Long}
use Rattle.execution.specs.declared.End.{End}
use Rattle.command.specs.Commands.{Known, entry, kind_in, commands}

-- The table over machines that only keep the action executed last.
abbrev pub findings : Known → Table (Option Action)
findings known = commands (λ s. known) (λ a w s. some a)

-- What a turn finds on these words, in a ring that carries cap words.
abbrev pub finds_in : Known → ℕ → List ℕ → Turn (Option Action)
finds_in known cap w = turn_of cap (findings known) none w

-- The turn on a machine s where that is found on the words w.
abbrev pub on_machine : {S : Type 0} → (Action → List ℕ → S → S) → S → List ℕ → Turn (Option Action) → Turn S
on_machine does s w (ends e) = ends e
on_machine does s w (exec n none) = ends Drained
on_machine does s w (exec n (some a)) = exec n (does a (take n w) s)

-- What the code answers, as a turn.
abbrev pub as_turn : Result (Action × ℕ) End → Turn (Option Action)
as_turn (Err e) = ends e
as_turn (Ok done) = exec done.1 (some done.0)

-- ---- a row of words

-- The data behind a command's head, if it has any.
abbrev pub data_of : Kind → Option Data
data_of Update = none
data_of RectFill = none
data_of RectCopy = none
data_of RectRopFill = none
data_of RectRopCopy = none
data_of DefineAlphaCursor = some D.Cursor
data_of UpdateVerbose = none
data_of Fence = none
data_of Escape = some D.Escape
data_of Foreign = none

-- A turn on a row of words as a step: where it waits, or has no words, the row is short.
abbrev pub step_by : Turn (Option Action) → Step
step_by (ends Drained) = Short
step_by (ends Waiting) = Short
step_by (ends (Fault c)) = Faults c
step_by (exec n none) = Short
step_by (exec n (some a)) = Does a n

-- What the front of a row of words says. A command with data behind its head is only named: its data need not lie in the row.
abbrev pub step_for : Known → Option Data → List ℕ → Step
step_for known none row = step_by (finds_in known (length row) row)
step_for known (some behind) row = Long behind

unfoldable pub step_in : Known → List ℕ → Step
step_in known row = step_for known (data_of (kind_in row)) row

-- ---- a command with data behind its head

abbrev pub kind_with : Data → Kind
kind_with D.Cursor = DefineAlphaCursor
kind_with D.Escape = Escape

-- n words that begin with its number and the arguments of a head, 0 behind them: a turn looks at no word behind a head.
unfoldable pub begun : Data → List ℕ → ℕ → List ℕ
begun behind head n = tabulate n (λ i. cond (eqb i 0) (entry (kind_with behind)).number (get_or head i 0))
