-- The pairs before i are performed, and the walk still to do is the rest of the whole walk; the memories are the same.
use Rattle.std.proofs.Common.{◌*◌}
use Rattle.device_run.specs.Run.{contents, SameMemories}
use Rattle.history.specs.Replay.{world}
use Rattle.history.proofs.Walks.{Walked}
use Rattle.history.proofs.walk.Given as goal

abbrev pub invariant-loop-i : goal.invariant-loop-i
invariant-loop-i l = record {
  walked : Walked l.initial.list (world l.initial.d (contents l.initial.memories)) l.list (world l.d (contents l.memories)) (2 * l.i);
  same : SameMemories l.memories l.initial.memories;
}
