-- Demand 3 on a device and its memories: every list of appends and runs, through the public calls.
-- Assumes nothing.
use mathlib.Core.Path.{◌≡◌, refl, sym, ap, ap₂, ◌∙◌}
use mathlib.Core.Bool.{true}
use mathlib.Core.List.{List, [], ◌∷◌, ◌++◌, map}
use Prim.Native.Nat.{ℕ, ◌+◌, ◌≤◌}
use native.Mathlib.Omega.{arith}
use native.Mathlib.Nat.{add-zero, zero-add}
use lib.ListN.{length, length-append}
use borrow.Author.Tests.{le-leb}
use Rattle.execution.specs.Straight.{Turn, Line}
use Rattle.execution.specs.Claim.{Op, taken, fed, Demand3}
use Rattle.execution.specs.Claim as C
use Rattle.execution.specs.Queue.{Queue, Played, fresh, act, play}
use Rattle.execution.proofs.QueueLaws.{play_ops, demand3}
use Rattle.execution.specs.Table.{Laws}
use Rattle.ring.specs.declared.Ring.{Ring}
use Rattle.ring.specs.Waiting.{carried}
use Rattle.command.proofs.Laws.{command_laws}
use Rattle.effect.specs.Effects.{Machine, done}
use Rattle.run.specs.Run.{known_of, posts_in}
use Rattle.run.proofs.Posting.{posted_six}
use Rattle.device_run.specs.Run.{scene_for}
use Rattle.device.specs.declared.Condition.TheVariants.{Running}
use Rattle.device.specs.Device.{condition_of}
use Rattle.history.specs.Calls.{World, CallOutcome, perform, History, perform_all}
use Rattle.history.specs.Demand.{is_start, world_turn, world_machine, world_line, stands_in, call_of, numbers_of, Shown}
use Rattle.history.specs.Replay.{ops_of, walk, walk_of, Replays}
use Rattle.history.proofs.Places.{in_words}
use Rattle.history.proofs.Steps.{Started, Shows, Step, shows_stands, shows_ring, shows_stop, append_step, run_step, started, start_shows}

module _ (g : Ring) (w₀ : World) where
  abbrev cap : ℕ
  cap = carried g.min g.max

  abbrev turn : Machine → List ℕ → Turn Machine
  turn = world_turn w₀ g

  -- a list of calls of the one is the list of operations of the other
  record Plays (k : ℕ) (w : World) (q : Queue Machine) (os : List Op) : Type 0 where
    same_answers : map (λ (o : CallOutcome). o.answer ∷ o.values) (perform_all (map call_of os) w).outcomes ≡ map numbers_of (play cap turn os q).events
    shows : Shows g w₀ (k + length (fed (play cap turn os q).events)) (perform_all (map call_of os) w).world (play cap turn os q).queue

  module _ (st : Started w₀) where
    step : (k : ℕ) (w : World) (q : Queue Machine) → Shows g w₀ k w q → (o : Op) → Step g w₀ k o (perform (call_of o) w) (act cap turn o q)
    step k w q s (C.append x) = append_step g w₀ k w q s x
    step k w q s (C.run b) = run_step g w₀ st k w q s b

    plays : (os : List Op) (k : ℕ) (w : World) (q : Queue Machine) → Shows g w₀ k w q → Plays k w q os
    unfolding perform_all play fed
    plays [] k w q s = record { same_answers = refl; shows = rw add-zero s }
    plays (o ∷ os) k w q s =
        let f = step k w q s o in
        let a = act cap turn o q in
        let n = length (taken o a.reply) in
        let r = plays os (k + n) (perform (call_of o) w).world a.queue f.shows in
        let same : k + n + length (fed (play cap turn os a.queue).events) ≡ k + length (taken o a.reply ++ fed (play cap turn os a.queue).events) =
        rw length-append (omega arith) in
        record { same_answers = ap₂ ◌∷◌ f.same_answers r.same_answers; shows = rw (← same) r.shows }

module _ (g : Ring) (w₀ : World) (e : is_start w₀ ≡ true) (q : condition_of w₀.device ≡ Running g) (os : List Op) where
  abbrev played : Played Machine
  played = play (cap g w₀) (turn g w₀) os (fresh (world_machine g w₀))

  abbrev history : History
  history = perform_all (map call_of os) w₀

  led : Plays g w₀ 0 w₀ (fresh (world_machine g w₀)) os
  led = plays g w₀ (started w₀ e) os 0 w₀ (fresh (world_machine g w₀)) (start_shows g w₀ e q)

  shown : Shows g w₀ (length (fed played.events)) (perform_all (map call_of os) w₀).world played.queue
  shown = rw zero-add at led.shows

  laws : (10 ≤ cap g w₀) × Laws (cap g w₀) (turn g w₀)
  laws =
      let i = in_words g.min g.max w₀.lent.ring (start_shows g w₀ e q).holds in
      let h : 10 ≤ cap g w₀ = omega arith in
      (h, command_laws known_of (done (scene_for w₀.device w₀.lent g)) (cap g w₀) h)

  claimed : Demand3 (cap g w₀) (turn g w₀) (world_machine g w₀) played.events (world_line g history.world) (stands_in (condition_of history.world.device))
  claimed = rw (shown.line, shows_stands g w₀ shown) (demand3 laws.1 (world_machine g w₀) (omega (arith, laws.0)) os)

  -- DEMAND 3: from every start, every list of appends and runs through the public calls.
  pub demand_3 : Shown g w₀ os (perform_all (map call_of os) w₀)
  demand_3 = record {
    events = played.events;
    asked = play_ops (cap g w₀) (turn g w₀) os (fresh (world_machine g w₀));
    answered = led.same_answers;
    demand = record {
      claim = claimed;
      word_3 = shows_stop g w₀ shown;
      remembered = shows_ring g w₀ shown;
      word_6 = λ h.
          sym (posted_six (posts_in g) history.world.lent.ring (le-leb 7 g.min h)) ∙ ap (λ (l : Line Machine). l.machine.posted) claimed.same;
    };
  }

  -- The device's sizes and registers and the framebuffer stay.
  pub stays : ((perform_all (map call_of os) w₀).world.device.sizes ≡ w₀.device.sizes)
      × ((perform_all (map call_of os) w₀).world.device.registers ≡ w₀.device.registers)
      × ((perform_all (map call_of os) w₀).world.lent.framebuffer ≡ w₀.lent.framebuffer)
  stays = (shown.sizes, shown.registers, shown.framebuffer)

-- the same of a list of words
pub replays : (w₀ : World) (list₀ list : List ℕ) (w : World) → is_start w₀ ≡ true → walk list w ≡ walk_of list₀ w₀ → Replays w₀ list₀ list w
replays w₀ list₀ list w e q = record { start = e; calls = q; demand = λ g r. demand_3 g w₀ e r (ops_of list₀) }
