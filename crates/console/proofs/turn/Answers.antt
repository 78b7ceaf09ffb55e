-- The chunk that was read fits, so it is fed.
use Rattle.std.proofs.Common.{ap}
use Rattle.console_session.specs.Session.{State, flushed}
use Rattle.console_session.proofs.Feeding.{within_fits}
use Rattle.console.proofs.Turning.{part_within}
use Rattle.console.proofs.turn.Goals as goal

pub returns-clause-state : goal.returns-clause-state
returns-clause-state g c =
    let fits = within_fits _ _ _ _ (part_within _ c.unwrap_or-read.result c.fill.auto.buffer c.requires) in
    rw c.flush.ensures (ap (λ (t : State). flushed t) (rw fits at c.feed-fed.ensures.state))
