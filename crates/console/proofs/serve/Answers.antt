-- A turn serves one chunk more.
use Rattle.std.proofs.Common.{rules}
use Rattle.console.proofs.Turning.{served_none, served_more}
use Rattle.console.proofs.serve.Goals as goal

pub loop-init : goal.loop-init
loop-init g c = record { served = served_none _; room = c.requires; same = search rules }

pub loop-preserved : goal.loop-preserved
loop-preserved g c = record {
  served = served_more _ c.loop.invariant.served c.turn-done.ensures.state;
  room = c.turn-done.ensures.room _ _ _ c.loop.invariant.room;
  same = search rules;
}

pub returns-then-not-goes_on-clause-served : goal.returns-then-not-goes_on-clause-served
returns-then-not-goes_on-clause-served g c = served_more _ c.loop.invariant.served c.turn-done.ensures.state

pub returns-then-not-goes_on-clause-room : goal.returns-then-not-goes_on-clause-room
returns-then-not-goes_on-clause-room g c = c.turn-done.ensures.room _ _ _ c.loop.invariant.room
