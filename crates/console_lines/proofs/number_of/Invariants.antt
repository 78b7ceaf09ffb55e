-- The bytes passed are digits and make the value.
use Rattle.console_lines.proofs.Numbers.{Read}
use Rattle.console_lines.proofs.number_of.Given as goal

abbrev pub invariant-loop-b : goal.invariant-loop-b
invariant-loop-b l = Read l.field l.value l.b-index
