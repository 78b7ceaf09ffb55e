-- The ring as a queue: appends and runs of it, each on what the last one left.
-- That it meets the claim is a theorem for any turn (`QueueLaws.demand3`). Who reads that theorem has to believe it; what is claimed of the device does not
-- name it.
use Rattle.std.specs.Prelude.{Bool, true, false, List, [], ◌∷◌, ℕ, length, eqb}
use Rattle.std.proofs.Math.Option.{Option, none, some}
use Rattle.execution.specs.declared.Cause.{Cause}
use Rattle.execution.specs.Straight.{Turn, Line, more}
use Rattle.execution.specs.Claim.{Op, append, run, standing, Reply, appended, ran, Event, met}
use Rattle.execution.specs.Turns.{LineRun, runs}

-- the words waiting, the machine, and the standing fault
pub record Queue (S : Type 0) : Type 0 where
  pub line : Line S
  pub stands : Option Cause

-- what an operation gives: its answer, and what is there afterwards
pub record Acted (S : Type 0) : Type 0 where
  pub reply : Reply
  pub queue : Queue S

-- what a list of operations gives: each with its answer, and what is there afterwards
pub record Played (S : Type 0) : Type 0 where
  pub events : List Event
  pub queue : Queue S

module _ {S : Type 0} where
  -- an empty ring with no fault
  unfoldable pub fresh : S → Queue S
  fresh s₀ = record { line = record { words = []; machine = s₀ }; stands = none }

  -- an append: of a full ring refused, with nothing changed
  unfoldable pub offer : Bool → ℕ → Queue S → Acted S
  offer true x q = record { reply = appended false; queue = q }
  offer false x q = record { reply = appended true; queue = record { line = more q.line (x ∷ []); stands = q.stands } }

  -- a run that is not refused, as it leaves the queue
  abbrev pub settle : LineRun S → Acted S
  settle r = record { reply = ran r.answer r.count; queue = record { line = r.line; stands = met r.answer } }

module _ {S : Type 0} (turn : S → List ℕ → Turn S) where
  -- a run of budget b where this fault, if any, stands
  unfoldable pub try : Option Cause → ℕ → Queue S → Acted S
  try none b q = settle (runs turn b q.line)
  try (some c) b q = record { reply = ran standing 0; queue = q }

module _ {S : Type 0} (cap : ℕ) (turn : S → List ℕ → Turn S) where
  -- one operation
  unfoldable pub act : Op → Queue S → Acted S
  act (append x) q = offer (eqb (length q.line.words) cap) x q
  act (run b) q = try turn q.stands b q

  -- a list of them, each on what the last one left
  unfoldable pub play : List Op → Queue S → Played S
  play [] q = record { events = []; queue = q }
  play (o ∷ os) q =
      let a = act o q in
      let r = play os a.queue in
      record { events = record { op = o; reply = a.reply } ∷ r.events; queue = r.queue }
