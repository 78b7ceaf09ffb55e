-- The run still to do from here is the whole run.
use Rattle.run.specs.Run.{machine, posted_in}
use Rattle.run.specs.Going.{scene_of, Going}
use Rattle.run.proofs.turns.Given as goal

abbrev pub invariant-loop-left : goal.invariant-loop-left
invariant-loop-left l =
    Going (scene_of l.stage) l.budget l.initial.v l.initial.ring
    (machine l.initial.marks l.initial.screen l.initial.cursor (posted_in l.stage.posts l.initial.ring))
    l.v l.ring (machine l.marks l.screen l.cursor (posted_in l.stage.posts l.ring)) l.left

abbrev pub decreases-loop-left : goal.decreases-loop-left
decreases-loop-left l = l.left
