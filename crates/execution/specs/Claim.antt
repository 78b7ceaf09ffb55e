-- Demand 3 as one claim about a list of operations with the answers they got, and about what is there afterwards: document 01, "Straight execution".
-- It speaks of straight execution alone, of no run's turns and of no ring memory.
use Rattle.std.specs.Prelude.{◌≡◌, Bool, true, false, not, List, [], ◌∷◌, ◌++◌, map, ℕ, ◌+◌, ◌≤◌, min, length, eqb}
use Rattle.std.proofs.Math.Option.{Option, none, some}
use Rattle.execution.specs.declared.Cause.{Cause}
use Rattle.execution.specs.declared.End.{End}
use Rattle.execution.specs.declared.End.TheVariants.{Drained, Waiting, Fault}
use Rattle.execution.specs.Straight.{cause_number, end_number, Turn, ends, Line, next, steps, straight, whole, ending}

-- Demand 3: "any list of appends, one word each by the published rule, and runs of any budget, refused ones included"
pub data Op : Type 0 where
  append run : ℕ → Op

-- How a run ended: budget spent, a fault standing already, or an answer that ends straight execution.
pub data Answer : Type 0 where
  spent standing : Answer
  ended : End → Answer

-- What an operation answered: an append, whether its word was taken; a run, how it ended, and its count: "The answer carries the number of commands
-- consumed in this run."
pub data Reply : Type 0 where
  appended : Bool → Reply
  ran : Answer → ℕ → Reply

-- An operation with its answer.
pub record Event : Type 0 where
  pub op : Op
  pub reply : Reply

-- Document 01, "Answer numbers", of a run: 2 budget spent, 23 fault already standing.
abbrev pub answer_number : Answer → ℕ
answer_number spent = 2
answer_number standing = 23
answer_number (ended e) = end_number e

-- An append's number is 0 where its word was taken and 1 where it was refused.
abbrev pub reply_number : Reply → ℕ
reply_number (appended true) = 0
reply_number (appended false) = 1
reply_number (ran r c) = answer_number r

-- Of one operation: the words it put into the ring, the commands it executed, the fault it answered.

unfoldable pub taken : Op → Reply → List ℕ
taken (append x) (appended true) = x ∷ []
taken (append x) (appended false) = []
taken (append x) (ran r c) = []
taken (run b) r = []

unfoldable pub counted : Reply → ℕ
counted (appended t) = 0
counted (ran r c) = c

unfoldable pub met_end : End → Option Cause
met_end Drained = none
met_end Waiting = none
met_end (Fault c) = some c

unfoldable pub met : Answer → Option Cause
met spent = none
met standing = none
met (ended e) = met_end e

unfoldable pub faulted : Reply → Option Cause
faulted (appended t) = none
faulted (ran r c) = met r

-- the first fault of two
unfoldable pub first : Option Cause → Option Cause → Option Cause
first none d = d
first (some c) d = some c

-- Of a list of operations with their answers.

-- The operations alone.
abbrev pub ops_in : List Event → List Op
ops_in es = map (λ (e : Event). e.op) es

-- "Straight execution is fed the words that the list's appends took, in order."
unfoldable pub fed : List Event → List ℕ
fed [] = []
fed (e ∷ es) = taken e.op e.reply ++ fed es

-- "Let k be the sum of the counts the list's runs answered."
unfoldable pub count_all : List Event → ℕ
count_all [] = 0
count_all (e ∷ es) = counted e.reply + count_all es

-- "A fault stands exactly when a run of the list answered 10, 11 or 12, and has that number": the first, and there is no second
unfoldable pub standing_fault : List Event → Option Cause
standing_fault [] = none
standing_fault (e ∷ es) = first (faulted e.reply) (standing_fault es)

-- "Its number is 2 if c = b, else the answer that ends straight execution there."
unfoldable pub verdict : Bool → End → Answer
verdict true e = spent
verdict false e = ended e

-- Demand 3: a run of a full ring "takes a command out, reports a fault or says that one stands"
unfoldable pub Moves : Answer → ℕ → Type 0
Moves spent c = 1 ≤ c
Moves standing c = Unit {0}
Moves (ended Drained) c = 1 ≤ c
Moves (ended Waiting) c = 1 ≤ c
Moves (ended (Fault f)) c = Unit {0}

unfoldable pub MovesOn : Reply → Type 0
MovesOn (appended t) = ⊥
MovesOn (ran r c) = Moves r c

module _ {S : Type 0} where
  -- "Straight execution begins with the screen, cursor and fence of that moment", the machine s₀, and is fed all words that were taken.
  abbrev pub start : S → List Event → Line S
  start s₀ es = record { words = fed es; machine = s₀ }

module _ {S : Type 0} (turn : S → List ℕ → Turn S) where
  -- what the first k steps leave
  abbrev pub line_after : S → List Event → Line S
  line_after s₀ es = straight turn (count_all es) (start s₀ es)

module _ {S : Type 0} (cap : ℕ) (turn : S → List ℕ → Turn S) where
  -- What an operation answers where this line is left and this fault, if any, stands. The ring carries cap words, (MAX − MIN)/4 − 1.
  -- "The ring is full, and an append refused, exactly when (MAX − MIN)/4 − 1 words are left." "A fault stands ..; a run then answers 23, count 0."
  -- "Where no fault stands, a run of budget b answers as count c the smaller of b and the number of those steps. Its number is 2 if c = b, else the
  -- answer that ends straight execution there."
  unfoldable pub says : Line S → Option Cause → Op → Reply
  says a f (append x) = appended (not (eqb (length a.words) cap))
  says a none (run b) = ran (verdict (eqb (min b (whole turn a)) b) (ending turn a)) (min b (whole turn a))
  says a (some c) (run b) = ran standing 0

  -- Demand 3, all but ring word 3, which the ring's layer adds. From an empty ring and the machine s₀ the operations es, with these answers, have led
  -- to the words waiting and the machine z, and to the standing fault f.
  pub record Demand3 (s₀ : S) (es : List Event) (z : Line S) (f : Option Cause) : Type 0 where
    -- "After the list, the first k steps all execute": of the list, and of each of its first parts p
    pub executes : (p r : List Event) → es ≡ p ++ r → steps turn (count_all p) (start s₀ p) ≡ count_all p
    -- "all P screen words, all cursor words, the defined cursor and the fence are as those steps leave them"; "The words left are those waiting"
    pub same : z ≡ line_after turn s₀ es
    -- "A fault stands exactly when a run of the list answered 10, 11 or 12, and has that number"
    pub fault_stands : f ≡ standing_fault es
    pub fault_number : (c : Cause) → f ≡ some c → cause_number c ≤ 12
    -- and straight execution still ends there, with that answer
    pub fault_ends : (c : Cause) → f ≡ some c → next turn z ≡ ends (Fault c)
    -- "Each append and each run is judged on the part of the list before it: its words left, its standing fault, its steps that still execute."
    pub answers : (p r : List Event) (e : Event) → es ≡ p ++ e ∷ r → e.reply ≡ says (line_after turn s₀ p) (standing_fault p) e.op
    -- never more words wait than the ring carries
    pub fits : length z.words ≤ cap
    -- Demand 3: "A full ring never just waits: one run with budget one or more takes a command out, reports a fault or says that one stands."
    pub full_ring_moves : (p r : List Event) (b : ℕ) (y : Reply) → es ≡ p ++ record { op = run b; reply = y } ∷ r
        → length (line_after turn s₀ p).words ≡ cap → 1 ≤ b → MovesOn y
