-- Demand 3 on a device and its memories: document 01, "Straight execution".
use Rattle.std.specs.Prelude.{ℕ, zero, suc, ◌-◌, ◌*◌, ◌/◌, ◌≤◌, ◌≡◌, Bool, false, ◌&&◌, List, [], ◌∷◌, map, eqb, length, get_or}
use Rattle.std.proofs.Math.Option.{Option, none, some}
use Rattle.execution.specs.declared.Cause.{Cause}
use Rattle.execution.specs.Straight.{Turn, Line}
use Rattle.execution.specs.Claim.{Op, Event, reply_number, counted, fed, line_after, Demand3}
use Rattle.execution.specs.Claim as C
use Rattle.ring.specs.declared.Ring.{Ring}
use Rattle.ring.specs.Acceptance.{min_of, max_of, next_of, stop_of, usable}
use Rattle.ring.specs.Waiting.{after, waiting, carried}
use Rattle.effect.specs.Effects.{Machine}
use Rattle.device.specs.declared.Condition.{Condition}
use Rattle.device.specs.declared.Condition.TheVariants.{Idle, Running, Faulted}
use Rattle.device.specs.Device.{enabled_of, configured_of, condition_of, mode_fits, well_formed}
use Rattle.device_run.specs.Run.{lent_good, machine_of, turn_for}
use Rattle.history.specs.Calls.{World, Call, append, run, CallOutcome, History}

-- "Its ring was last accepted with NEXT_CMD = STOP and since then nothing was written to it and no run made, refusals aside." Of that the state shows: no
-- fault stands, what is remembered is what the ring words say, and NEXT_CMD = STOP.
unfoldable pub ring_at_start : List ℕ → Condition → Bool
ring_at_start ring Idle = false
ring_at_start ring (Faulted c) = false
ring_at_start ring (Running g) =
    usable ring
    && (eqb (min_of ring / 4) g.min && (eqb (max_of ring / 4) g.max && (eqb (stop_of ring / 4) g.stop && eqb (next_of ring) (stop_of ring))))

-- "Demand 3 starts from a made device, enabled and configured, whose mode fits. .. every lent length is right."
unfoldable pub is_start : World → Bool
is_start w =
    well_formed w.device
    && (lent_good w.device w.lent
    && (configured_of w.device
    && (enabled_of w.device
    && (mode_fits w.device && ring_at_start w.lent.ring (condition_of w.device)))))

-- "uses its framebuffer, mode, MIN and MAX": document 01's table and turn, as of the start.
abbrev pub world_turn : World → Ring → Machine → List ℕ → Turn Machine
world_turn w g = turn_for w.device w.lent g

-- "The words left are those waiting": from ring word 3 up to ring word 2.
abbrev pub world_words : Ring → World → List ℕ
world_words g w = waiting w.lent.ring g.min g.max (stop_of w.lent.ring / 4) (next_of w.lent.ring / 4)

-- "Its state: the words left, screen, cursor image, defined cursor (none, or id, hotspot and size), fence." Document 02, P1: "Demand 3 counts word 6 among
-- the things equal to straight execution when MIN allows it."
abbrev pub world_machine : Ring → World → Machine
world_machine g w = machine_of w.device w.lent g

abbrev pub world_line : Ring → World → Line Machine
world_line g w = record { words = world_words g w; machine = world_machine g w }

abbrev pub stands_in : Condition → Option Cause
stands_in Idle = none
stands_in (Running g) = none
stands_in (Faulted c) = some c

-- n words on, wrapping as often as it takes
unfoldable pub words_on : ℕ → ℕ → ℕ → ℕ → ℕ
words_on lo hi p zero = p
words_on lo hi p (suc n) = words_on lo hi (after lo hi p) n

-- Demand 3, whole. From the start w₀ with the remembered ring g, the operations and answers es have led to w.
pub record Demand (g : Ring) (w₀ : World) (es : List Event) (w : World) : Type 0 where
  -- the claim on straight execution, the words left, the machine, the fault and every answer
  pub claim : Demand3 (carried g.min g.max) (world_turn w₀ g) (world_machine g w₀) es (world_line g w) (stands_in (condition_of w.device))
  -- "ring word 3 has moved on by 4 for each word dropped, wrapping"
  pub word_3 : stop_of w.lent.ring ≡ 4 * words_on g.min g.max g.stop (length (fed es) - length (world_words g w))
  -- and where no fault stands it is the STOP that the device remembers, with the start's MIN and MAX
  pub remembered : (h : Ring) → condition_of w.device ≡ Running h → (h.min ≡ g.min) × (h.max ≡ g.max) × (4 * h.stop ≡ stop_of w.lent.ring)
  -- "Demand 3 counts word 6 among the things equal to straight execution when MIN allows it": 28 bytes, seven words
  pub word_6 : 7 ≤ g.min → get_or w.lent.ring 6 0 ≡ (line_after (world_turn w₀ g) (world_machine g w₀) es).machine.posted

-- "any list of appends, one word each by the published rule, and runs of any budget", as calls
abbrev pub call_of : Op → Call
call_of (C.append x) = append x
call_of (C.run b) = run b

-- what an operation with its answer looks like from outside: its number, and a run's count
abbrev pub numbers_of : Event → List ℕ
numbers_of e = reply_number e.reply ∷ count_of e.op (counted e.reply)
  where
    count_of : Op → ℕ → List ℕ
    count_of (C.append x) c = []
    count_of (C.run b) c = c ∷ []

-- What a list of operations led to: the operations os, from the start w₀ with the remembered ring g, gave the answers and left the world of h.
pub record Shown (g : Ring) (w₀ : World) (os : List Op) (h : History) : Type 0 where
  -- the operations with their answers
  pub events : List Event
  pub asked : map (λ (e : Event). e.op) events ≡ os
  -- the numbers and counts that the calls answered
  pub answered : map (λ (o : CallOutcome). o.answer ∷ o.values) h.outcomes ≡ map numbers_of events
  pub demand : Demand g w₀ events h.world
