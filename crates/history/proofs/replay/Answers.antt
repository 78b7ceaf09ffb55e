-- From a start the walk is demand 3.
use Rattle.history.proofs.Laws.{replays}
use Rattle.history.proofs.replay.Goals as goal

pub returns-clause-replayed : goal.returns-clause-replayed
returns-clause-replayed c = replays _ _ _ _ (cc) c.walk.ensures.walked
