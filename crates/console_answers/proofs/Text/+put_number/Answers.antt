-- A number of two digits or more has those of its tens and one more.
use Rattle.std.proofs.Common.{arith}
use Rattle.console_answers.proofs.Decimal.{decimal_large}
use Rattle.console_answers.proofs.Putting.{puts_then}
use Rattle.console_answers.proofs.Text.+put_number.Goals as goal

pub returns : goal.returns
returns t c = rw (decimal_large c.args.n (omega arith) (omega arith)) (puts_then c.put_number.ensures c.put-2.ensures)
