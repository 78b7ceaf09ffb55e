-- A head that does not wrap is one copy.
use Rattle.std.proofs.Common.{◌+◌, length, sym, ◌∙◌, arith}
use borrow.Author.Tests.{lt-ltb}
use Rattle.ring.specs.Waiting.{ahead}
use Rattle.writer.proofs.Laying.{laid_row}
use Rattle.writer.proofs.put_head.Goals as goal

pub returns-then-past-place-clause-ring_after : goal.returns-then-past-place-clause-ring_after
returns-then-past-place-clause-ring_after c =
    let a = c.args in
    c.lay_head.ensures ∙ sym (laid_row a.place.lo a.place.hi a.place.at a.head.now a.ring.now (omega arith) (omega arith))

pub returns-then-past-place-clause-value : goal.returns-then-past-place-clause-value
unfolding ahead
returns-then-past-place-clause-value c = let a = c.args in rw (lt-ltb (a.place.at + length a.head.now) a.place.hi (omega arith))
