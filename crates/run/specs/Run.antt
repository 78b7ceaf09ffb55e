-- A run: document 01, "One command out of the ring", and document 02, P1: "The fence where guests look".
use Rattle.std.specs.Prelude.{ℕ, ◌-◌, ◌*◌, ◌/◌, ◌<◌, ◌≡◌, Bool, cond, ◌&&◌, List, eqb, leb, length, get_or, set, Option, Some, None}
use Rattle.execution.specs.declared.End.{End}
use Rattle.execution.specs.declared.End.TheVariants.{Fault}
use Rattle.execution.specs.declared.Cause.TheVariants.{BadNext}
use Rattle.execution.specs.Straight.{ends}
use Rattle.execution.specs.Straight as O
use Rattle.execution.specs.Table.{Table, turn_of, unless}
use Rattle.execution.specs.Claim as Claim
use Rattle.execution.specs.Turns as Turns
use Rattle.cursor.specs.Plane.{image_words}
use Rattle.ring.specs.declared.Ring.{Ring}
use Rattle.ring.specs.Acceptance.{next_of, max_words}
use Rattle.ring.specs.Waiting.{ahead, waiting, carried, placed, next_good}
use Rattle.command.specs.declared.Kind.TheVariants.{Fence}
use Rattle.command.specs.Commands.{Known, entry, kind_in, commands}
use Rattle.effect.specs.declared.Marks.{Marks}
use Rattle.effect.specs.Effects.{Scene, Machine, Paints, done}
use Rattle.run.specs.declared.RingRun.{RingRun}

-- The machine of straight execution, from what the code holds.
abbrev pub machine : Marks → List ℕ → List ℕ → ℕ → Machine
machine marks screen cursor posted = record { screen = screen; cursor = cursor; marks = marks; posted = posted }

-- What the commands' checks know of it.
abbrev pub known_of : Machine → Known
known_of m = tt

-- Document 01's commands, each doing what the contracts of the painters, of the cursor's copy and of the fence say.
abbrev pub table : Scene → Table Machine
table s = commands known_of (done s)

-- "Each turn, in this order: budget used up: 2. NEXT_CMD not a multiple of 4 or outside the ring: 13. NEXT_CMD = STOP: 0. .." The budget is looked at by
-- `runs`, what follows 13 by `turn_of`. A run does not write NEXT_CMD, so it is the same in each turn.
unfoldable pub turn_in : Scene → Ring → ℕ → Machine → List ℕ → O.Turn Machine
turn_in s g next m w = unless (next_good g next) (ends (Fault BadNext)) (turn_of (carried g.min g.max) (table s) m w)

-- No FENCE is among the first k commands that a line executes.
abbrev pub NoFence : (Machine → List ℕ → O.Turn Machine) → ℕ → O.Line Machine → Type 0
NoFence turn k a = (j : ℕ) → j < k → kind_in (O.straight turn j a).words ≡ Fence → ⊥

-- No fill or copy is among them.
abbrev pub NoPainting : (Machine → List ℕ → O.Turn Machine) → ℕ → O.Line Machine → Type 0
NoPainting turn k a = (j : ℕ) → j < k → Paints ((entry (kind_in (O.straight turn j a).words)).action (O.straight turn j a).words) → ⊥

-- "STOP passes it": n words on.
abbrev pub passed : Ring → ℕ → Ring
passed g n = record { min = g.min; max = g.max; stop = ahead g.min g.max g.stop n }

-- "ring word 3 is written", in bytes, where STOP has come to this word.
unfoldable pub stamped : ℕ → List ℕ → List ℕ
stamped stop ring = set ring 3 (stop * 4)

-- "When MIN is 28 or more", which is seven words: whether fences are posted in word 6. It goes by the remembered MIN.
abbrev pub posts_in : Ring → Bool
posts_in g = leb 7 g.min

-- "an executed FENCE also writes its number to word 6; below that, as today": there word 6 is a word of the ring, and a run never writes it.
unfoldable pub posting : Bool → ℕ → List ℕ → List ℕ
posting posts number ring = cond posts (set ring 6 number) ring

-- What is posted in a ring memory, where fences are: its word 6.
unfoldable pub posted_in : Bool → List ℕ → ℕ
posted_in posts ring = cond posts (get_or ring 6 0) 0

-- What a run gives: its answer, "the number of commands consumed in this run", and all that it can change.
pub record RingOutcome : Type 0 where
  pub answer : Claim.Answer
  pub count : ℕ
  pub place : Ring
  pub ring : List ℕ
  pub machine : Machine

-- How a turn ended the run, or none where the budget was spent first.
abbrev pub answer_of : Option End → Claim.Answer
answer_of None = Claim.spent
answer_of (Some e) = Claim.ended e

-- From what the code gives, and the memories at its exit: what is posted stands in the ring.
abbrev pub ring_outcome : RingRun → List ℕ → List ℕ → List ℕ → RingOutcome
ring_outcome r ring screen cursor = record {
  answer = answer_of r.end;
  count = r.count;
  place = r.ring;
  ring = ring;
  machine = machine r.marks screen cursor (posted_in (posts_in r.ring) ring);
}

-- STOP has passed the words that turns dropped. "A run then changes words 3 and 6 only", "and none if it consumed nothing".
unfoldable pub left : Ring → List ℕ → List ℕ → Turns.LineRun Machine → RingOutcome
left g ring words r =
    let to = passed g (length words - length r.line.words) in
    record {
      answer = r.answer;
      count = r.count;
      place = to;
      ring = cond (eqb r.count 0) ring (stamped to.stop (posting (posts_in g) r.line.machine.posted ring));
      machine = r.line.machine;
    }

-- A run of all turns on these words.
unfoldable pub run_words : (Machine → List ℕ → O.Turn Machine) → Ring → ℕ → List ℕ → List ℕ → Machine → RingOutcome
run_words turn g budget ring words m = left g ring words (Turns.runs turn budget (record { words = words; machine = m }))

-- The remembered ring lies in the ring memory, and in the largest that a device can have, 2,097,152 bytes; the cursor image has its 4,096 words.
unfoldable pub fitting : Ring → ℕ → ℕ → Bool
fitting g words image = placed g words && (leb g.max max_words && eqb image image_words)

-- A run. With a ring that lies outside its memory, or another cursor image, it does nothing and answers 13; no device gets there.
unfoldable pub run_in : Scene → Ring → ℕ → List ℕ → Machine → RingOutcome
run_in s g budget ring m =
    cond (fitting g (length ring) (length m.cursor))
    (run_words (turn_in s g (next_of ring)) g budget ring (waiting ring g.min g.max g.stop (next_of ring / 4)) m)
    (record { answer = Claim.ended (Fault BadNext); count = 0; place = g; ring = ring; machine = m })
