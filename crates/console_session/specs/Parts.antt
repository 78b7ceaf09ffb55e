-- What the inner functions answer. Nothing here has to be believed.
use Rattle.std.specs.Prelude.{ℕ, ◌≡◌, cond, List, eqb}
use Rattle.ring.specs.Append.{Appended}
use Rattle.register_write.specs.Answers.{WriteOutcome}
use Rattle.console_answers.specs.declared.ConsoleAnswer.{ConsoleAnswer}
use Rattle.console_answers.specs.declared.ConsoleAnswer.TheVariants.{Written, Full, Nothing}
use Rattle.console_session.specs.declared.Performed.{Performed as Done}

-- The answer to a register write, and the device that it left.
abbrev pub written_of : ℕ → WriteOutcome → Done
written_of index o = record { device = o.device; answer = Written index o.answer }

-- The answer to an append, and the ring memory that it left.
pub record append_answer (answer : ConsoleAnswer) (ring : List ℕ) (a : Appended) : Type 0 where
  pub says : answer ≡ cond (eqb a.answer 0) Nothing Full
  pub leaves : ring ≡ a.ring
