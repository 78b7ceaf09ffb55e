-- The turns of a run, in document 01's order. They have to be believed: they are what the contract of a run says the code does (`run/Run.run_words`).
use Rattle.std.specs.Prelude.{List, ℕ, zero, suc}
use Rattle.execution.specs.Straight.{Turn, ends, exec, Line, beyond, next}
use Rattle.execution.specs.Claim.{Answer, spent, ended}

-- What a run of a line gives: its answer, "the number of commands consumed in this run", and the words and the machine that are left.
pub record LineRun (S : Type 0) : Type 0 where
  pub answer : Answer
  pub count : ℕ
  pub line : Line S

module _ {S : Type 0} where
  -- with one command more before it
  abbrev pub one_more : LineRun S → LineRun S
  one_more r = record { answer = r.answer; count = suc r.count; line = r.line }

module _ {S : Type 0} (turn : S → List ℕ → Turn S) where
  -- "The run stops after a number of commands never above its budget, a 32-bit number. Each turn, in this order: budget used up: 2. .. Then it is executed,
  -- STOP passes it": first the budget, then the turn on the words that wait. A turn that ends consumes nothing and ends the run; one that executes is counted.
  unfoldable pub runs : ℕ → Line S → LineRun S
  runs zero a = record { answer = spent; count = 0; line = a }
  runs (suc b) a = elim (next turn a) [ ends e ↦ record { answer = ended e; count = 0; line = a } | exec n s ↦ one_more (runs b (beyond a n s)) ]
