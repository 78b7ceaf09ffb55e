-- The tens of a number are fewer.
use Rattle.console_answers.proofs.Text.+put_number.Given as goal

abbrev pub decreases-put_number : goal.decreases-put_number
decreases-put_number l = l.n
