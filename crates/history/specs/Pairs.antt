-- One pair of a list through the public calls: what an inner function does. Nothing here has to be believed.
use Rattle.device_run.specs.Run.{Lent}
use Rattle.history.specs.declared.Performed.{Performed}
use Rattle.history.specs.Calls.{World, perform}
use Rattle.history.specs.Demand.{call_of}
use Rattle.history.specs.Replay.{count_in, op_of, world}
use Rattle.std.specs.Prelude.{ℕ}

-- One pair of a list: the number that its call answers, its count, and what it leaves.
pub record Pair : Type 0 where
  pub answer : ℕ
  pub count : ℕ
  pub world : World

abbrev pub performed : Performed → Lent → Pair
performed p l = record { answer = p.answer; count = p.count; world = world p.device l }

unfoldable pub pair_of : ℕ → ℕ → World → Pair
pair_of kind operand w =
    let o = perform (call_of (op_of kind operand)) w in
    record { answer = o.answer; count = count_in o.values; world = o.world }
