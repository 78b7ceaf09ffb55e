-- A list of appends and runs as words, through the public calls.
use Rattle.std.specs.Prelude.{ℕ, ◌≡◌, true, false, cond, List, [], ◌∷◌, map, eqb, Option, Some, None}
use Rattle.execution.specs.Claim.{Op}
use Rattle.execution.specs.Claim as C
use Rattle.ring.specs.declared.Ring.{Ring}
use Rattle.device.specs.declared.Device.{Device}
use Rattle.device.specs.declared.Condition.TheVariants.{Running}
use Rattle.device.specs.Device.{condition_of}
use Rattle.device_run.specs.Run.{Lent}
use Rattle.history.specs.Calls.{World, CallOutcome, History, perform_all}
use Rattle.history.specs.Demand.{is_start, call_of, Shown}

-- A replay makes no picture, and needs no output.
abbrev pub world : Device → Lent → World
world d l = record { device = d; lent = l; output = [] }

-- A pair of words, kind and operand, is an operation: kind 0 an append of the operand, every other a run with the operand as its budget.
unfoldable pub op_of : ℕ → ℕ → Op
op_of kind operand = cond (eqb kind 0) (C.append operand) (C.run operand)

-- The operations of a list. A last word without a partner is none.
unfoldable pub ops_of : List ℕ → List Op
ops_of [] = []
ops_of (kind ∷ []) = []
ops_of (kind ∷ operand ∷ l) = op_of kind operand ∷ ops_of l

-- The first of a call's values: a run's count; an append has none, and its count is 0.
abbrev pub count_in : List ℕ → ℕ
count_in [] = 0
count_in (c ∷ l) = c

-- The list with its answers: each pair is replaced by the number that its call answered and its count.
unfoldable pub answers_in : List ℕ → List CallOutcome → List ℕ
answers_in [] os = []
answers_in (kind ∷ []) os = kind ∷ []
answers_in (kind ∷ operand ∷ l) [] = kind ∷ operand ∷ l
answers_in (kind ∷ operand ∷ l) (o ∷ os) = o.answer ∷ count_in o.values ∷ answers_in l os

-- All that a list of calls answers and leaves.
abbrev pub history_of : List ℕ → World → History
history_of list w = perform_all (map call_of (ops_of list)) w

-- The same as the words of a list and the memories have it.
pub record Walk : Type 0 where
  pub list : List ℕ
  pub world : World

abbrev pub walk : List ℕ → World → Walk
walk list w = record { list = list; world = w }

unfoldable pub walk_of : List ℕ → World → Walk
walk_of list w = walk (answers_in list (history_of list w).outcomes) (history_of list w).world

-- Each pair of the list was a public call on what the last one left, and all of it together is demand 3.
pub record Replays (w₀ : World) (list₀ list : List ℕ) (w : World) : Type 0 where
  pub start : is_start w₀ ≡ true
  pub calls : walk list w ≡ walk_of list₀ w₀
  pub demand : (g : Ring) → condition_of w₀.device ≡ Running g → Shown g w₀ (ops_of list₀) (history_of list₀ w₀)

-- The device and its memories are no start of demand 3, and nothing has changed.
pub record Refuses (w₀ : World) (list₀ list : List ℕ) (l : Lent) : Type 0 where
  pub no_start : is_start w₀ ≡ false
  pub same_list : list ≡ list₀
  pub same_memories : l ≡ w₀.lent

-- What a replay answers, the device or none where the list was not begun, and leaves.
abbrev pub ReplayResult : World → List ℕ → Option Device → List ℕ → Lent → Type 0
ReplayResult w₀ list₀ None list l = Refuses w₀ list₀ list l
ReplayResult w₀ list₀ (Some d) list l = Replays w₀ list₀ list (world d l)
