-- Each turn performs a pair and writes its two words, and the end has performed all of them.
use Rattle.std.proofs.Common.{rules}
use Rattle.history.proofs.Walks.{walked_more, walked_end}
use Rattle.history.proofs.walk.Goals as goal

pub loop-i-preserved : goal.loop-i-preserved
loop-i-preserved c = record {
  walked = walked_more _ _ _ _ _ c.loop-i.invariant.walked _ c.loop-i-test.true c.perform_pair-p.ensures.performed;
  same = search rules;
}

pub returns-clause-walked : goal.returns-clause-walked
returns-clause-walked c = walked_end _ _ _ _ _ c.loop-i.invariant.walked c.loop-i-test.false
