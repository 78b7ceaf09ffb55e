-- Whatever follows the row, the run still to do from here is the whole run.
use Rattle.std.proofs.Common.{◌-◌, ◌≤◌}
use Rattle.run.specs.Going.{scene_of, RowGoing}
use Rattle.run.proofs.row_turns.Given as goal

abbrev pub invariant-loop-spent : goal.invariant-loop-spent
invariant-loop-spent l =
    (l.spent ≤ l.budget)
    × RowGoing (scene_of l.stage) l.budget l.initial.memory l.from l.end l.before l.initial.screen l.at l.fence (l.budget - l.spent) l.memory l.screen
