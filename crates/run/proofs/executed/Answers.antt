-- STOP comes to stand in the largest ring.
use Rattle.run.proofs.TurnLaws.{stop_fits}
use Rattle.run.proofs.executed.Goals as goal

pub stamp-requires : goal.stamp-requires
stamp-requires c =
    let p = c.requires.size_le_n in
    (p.2, rw c.pass-to.ensures (stop_fits c.requires.in_view p.1 _ p.0))
