-- Document 01, "Registers": "the id gates nothing else, the ring included (house)". Two worlds that differ in it alone, and what no call but the read of
-- register 0 can tell of them.
use Rattle.std.specs.Prelude.{ℕ, ◌≡◌, List, [], ◌∷◌, map}
use Rattle.device.specs.declared.Device.{Device}
use Rattle.device.specs.Device.{enabled_of, configured_of, with_registers}
use Rattle.register_write.specs.Registers.{set_state}
use Rattle.history.specs.Calls.{World, Call, make, write, read, run, append, submit, picture, offscreen, fence, passed, lend, CallOutcome, History}

-- the device with another id
abbrev pub with_id : Device → ℕ → Device
with_id d id = with_registers d (set_state d.registers id (enabled_of d) (configured_of d))

-- Two worlds, equal but for the id.
pub record SameButId (w z : World) : Type 0 where
  pub device : z.device ≡ with_id w.device z.device.registers.id
  pub lent : z.lent ≡ w.lent
  pub output : z.output ≡ w.output

-- What a call gives on the two: the same answer and values, and again worlds that are equal but for the id.
pub record SameOutcome (o p : CallOutcome) : Type 0 where
  pub answer : p.answer ≡ o.answer
  pub values : p.values ≡ o.values
  pub world : SameButId o.world p.world

-- Every call but the read of register 0.
abbrev pub NotTheId : Call → Type 0
NotTheId (make memory pixels) = Unit {0}
NotTheId (write index value) = Unit {0}
NotTheId (read index) = index ≡ 0 → ⊥
NotTheId (run budget) = Unit {0}
NotTheId (append word) = Unit {0}
NotTheId (submit c) = Unit {0}
NotTheId picture = Unit {0}
NotTheId offscreen = Unit {0}
NotTheId fence = Unit {0}
NotTheId (passed number) = Unit {0}
NotTheId (lend l output) = Unit {0}

abbrev pub NeverTheId : List Call → Type 0
NeverTheId [] = Unit {0}
NeverTheId (c ∷ cs) = NotTheId c × NeverTheId cs

-- all answers of a history, with their values
abbrev pub answers_in : History → List (List ℕ)
answers_in h = map (λ (o : CallOutcome). o.answer ∷ o.values) h.outcomes

-- What calls in a row give on the two.
pub record SameHistory (h k : History) : Type 0 where
  pub answers : answers_in k ≡ answers_in h
  pub world : SameButId h.world k.world
