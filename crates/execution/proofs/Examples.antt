-- A list of operations played on a small ring, and the sides of the claim for it, all computed: FENCE and ESCAPE, a ring that carries five words.
-- Assumes nothing.
use mathlib.Core.Path.{◌≡◌, refl}
use mathlib.Core.Bool.{true, false, cond, ◌||◌}
use mathlib.Core.Option.{none, some}
use mathlib.Core.List.{List, [], ◌∷◌, map}
use Prim.Native.Nat.{ℕ, ◌+◌, ◌/◌}
use native.Mathlib.Omega.{arith}
use lib.ListN.{get_or}
use lib.Dec.{eqb}
use borrow.Table.Steps.{cases}
use Rattle.execution.specs.declared.Cause.TheVariants.{TooLong}
use Rattle.execution.specs.declared.End.TheVariants.{Fault}
use Rattle.execution.specs.Straight.{Turn, Line, end_of, steps, straight, whole, ending}
use Rattle.execution.specs.Table.{Table, unless, turn_of, TableLaws}
use Rattle.execution.specs.Claim.{Op, append, run, ended, appended, ran, Event, reply_number, counted, taken, met_end, met, faulted, first, fed, count_all, standing_fault}
use Rattle.execution.specs.Claim.{verdict, line_after, says, Demand3}
use Rattle.execution.specs.Turns.{runs}
use Rattle.execution.specs.Queue.{Played, fresh, offer, try, act, play}
use Rattle.execution.proofs.Tables.{laws_of}
use Rattle.execution.proofs.QueueLaws.{demand3}

-- FENCE, 30, has two words; ESCAPE, 33, a head of three and then ceil(size/4). The machine is the last fence.
abbrev commands : Table ℕ
commands = record {
  offered = λ x. eqb x 30 || eqb x 33;
  head = λ x. cond (eqb x 30) 2 3;
  head_good = λ h. true;
  size = λ h. cond (eqb (get_or h 0 0) 30) 2 (3 + (get_or h 2 0 + 3) / 4);
  good = λ s w. true;
  effect = λ s w. cond (eqb (get_or w 0 0) 30) (get_or w 1 0) s;
}

unfoldable turn : ℕ → List ℕ → Turn ℕ
turn = turn_of 5 commands

-- FENCE 7 and half a FENCE, runs of budget 0, 1 and 9; then the other half and the head of an ESCAPE of 12 bytes, six words: the ring is full and
-- takes no more, and the next run executes FENCE 8 and faults
ops : List Op
ops =
    append 30 ∷ append 7 ∷ append 30 ∷ run 0 ∷ run 1 ∷ run 9 ∷ append 8 ∷ append 33 ∷ append 0 ∷ append 12 ∷ append 1 ∷ run 9 ∷ run 0 ∷ []

unfoldable played : Played ℕ
played = play 5 turn ops (fresh 0)

unfoldable events : List Event
events = played.events

numbers : map (λ (e : Event). reply_number e.reply) events ≡ 0 ∷ 0 ∷ 0 ∷ 2 ∷ 2 ∷ 1 ∷ 0 ∷ 0 ∷ 0 ∷ 0 ∷ 1 ∷ 12 ∷ 23 ∷ []
unfolding events played turn ops fresh play act offer try runs turn_of unless met_end met
numbers = refl

counts : map (λ (e : Event). counted e.reply) events ≡ 0 ∷ 0 ∷ 0 ∷ 0 ∷ 1 ∷ 0 ∷ 0 ∷ 0 ∷ 0 ∷ 0 ∷ 0 ∷ 1 ∷ 0 ∷ []
unfolding events played turn ops fresh play act offer try runs turn_of unless met_end met counted
counts = refl

-- two commands are executed, the fault stands, and what is left is the head of the ESCAPE, with the last fence
executed : (count_all events ≡ 2) × (standing_fault events ≡ some TooLong) × (line_after turn 0 events ≡ record { words = 33 ∷ 0 ∷ 12 ∷ []; machine = 8 })
unfolding events played turn ops fresh play act offer try runs turn_of unless met_end met counted taken faulted first fed count_all standing_fault straight
executed = (refl, refl, refl)

full : Line ℕ
full = record { words = 30 ∷ 8 ∷ 33 ∷ 0 ∷ 12 ∷ []; machine = 7 }

-- what document 01 gives for the full ring: an append is refused, a run of budget 9 is one command and then 12
answers : (says 5 turn full none (append 1) ≡ appended false) × (says 5 turn full none (run 9) ≡ ran (ended (Fault TooLong)) 1)
unfolding full turn turn_of unless says steps straight whole ending end_of verdict
answers = (refl, refl)

-- this table keeps what a table owes, and so its lists meet the claim

commands_laws : TableLaws 5 commands
commands_laws = record {
  head_fits = λ x e. cases (eqb x 30) (λ t. rw t (omega arith)) (λ f. rw f (omega arith));
  size_some = λ h. cases (eqb (get_or h 0 0) 30) (λ t. rw t (omega arith)) (λ f. rw f (omega arith));
}

claimed : Demand3 5 turn 0 events played.queue.line played.queue.stands
unfolding turn played events
claimed = demand3 (laws_of 5 commands commands_laws) 0 (omega arith) ops
