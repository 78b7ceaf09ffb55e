-- The bytes passed are fed, and there is room for the text of the others.
use Rattle.std.proofs.Common.{◌≡◌, length, take}
use Rattle.console_session.specs.Console.{contents, SameMemories}
use Rattle.console_session.specs.Session.{state_of, fed_all, flushed, line_with, line_fed, Buffers}
use Rattle.console_session.proofs.Feeding.{Feeding}
use Rattle.console_session.proofs.feed_bytes.Given as goal

abbrev pub invariant-loop-b : goal.invariant-loop-b
invariant-loop-b l = record {
  state : state_of l.session l.line (contents l.memories) l.out
      ≡ fed_all (state_of l.initial.session l.initial.line (contents l.initial.memories) l.initial.out) (take l.b-index l.chunk);
  buffers : Buffers l.initial.session l.session l.line l.initial.out l.out (line_fed (line_with l.initial.session.held l.initial.line) (take l.b-index l.chunk))
      (fed_all (flushed (state_of l.initial.session l.initial.line (contents l.initial.memories) l.initial.out)) (take l.b-index l.chunk)).printed;
  feeding : Feeding l.initial.session l.session l.b-index (length l.chunk);
  same : SameMemories l.memories l.initial.memories;
}
