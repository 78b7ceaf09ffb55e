-- What an append does to the ring memory: document 01, "Straight execution". Offsets are in bytes, as the ring words have them.
use Rattle.std.specs.Prelude.{Bool, cond, not, ◌&&◌, List, ℕ, ◌+◌, ◌/◌, eqb, set, Err, Ok, Result}
use Rattle.ring.specs.declared.AppendRefused.{AppendRefused}
use Rattle.ring.specs.Acceptance.{min_of, max_of, next_of, stop_of, usable}

-- "moves NEXT_CMD on by 4, MAX becoming MIN"
unfoldable pub moved_on : ℕ → ℕ → ℕ → ℕ
moved_on min max offset = cond (eqb (offset + 4) max) min (offset + 4)

-- "if that would make it equal ring word 3, it is refused". Ring words that are not usable are refused too.
unfoldable pub can_append : List ℕ → Bool
can_append ring = usable ring && not (eqb (moved_on (min_of ring) (max_of ring) (next_of ring)) (stop_of ring))

-- "An append writes its word at NEXT_CMD and moves NEXT_CMD on by 4, MAX becoming MIN; if that would make it equal ring word 3, it is refused and nothing
-- changes."
unfoldable pub append_to : List ℕ → ℕ → List ℕ
append_to ring x =
    cond (can_append ring) (set (set ring (next_of ring / 4) x) 2 (moved_on (min_of ring) (max_of ring) (next_of ring))) ring

-- An append's number is 0 where its word was taken and 1 where it was refused: document 01's table has none.
abbrev pub append_number : Result (Unit {0}) AppendRefused → ℕ
append_number (Ok t) = 0
append_number (Err e) = 1

-- An append answers a number and leaves the ring memory.
pub record Appended : Type 0 where
  pub answer : ℕ
  pub ring : List ℕ

abbrev pub appended : Result (Unit {0}) AppendRefused → List ℕ → Appended
appended a ring = record { answer = append_number a; ring = ring }

-- What an append answers, 0 taken and 1 refused, and what it leaves.
unfoldable pub append_of : List ℕ → ℕ → Appended
append_of ring x = record { answer = cond (can_append ring) 0 1; ring = append_to ring x }
