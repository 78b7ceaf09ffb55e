-- What was read is served, and the session has room for a chunk.
use Rattle.std.proofs.Common.{length}
use Rattle.console_session.specs.Console.{contents, SameMemories}
use Rattle.console_session.specs.Session.{state_of, Within, Served}
use Rattle.console.proofs.serve.Given as goal

abbrev pub invariant-loop : goal.invariant-loop
invariant-loop g l = record {
  served : Served (state_of l.initial.session l.initial.line (contents l.initial.memories) l.initial.out) (state_of l.session l.line (contents l.memories) l.out);
  room : Within l.session (length l.initial.buffer) (length l.initial.line) (length l.initial.out);
  same : SameMemories l.memories l.initial.memories;
}
