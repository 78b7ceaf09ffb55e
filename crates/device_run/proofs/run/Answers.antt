-- A run that is not refused before its condition is looked at goes by its condition.
use Rattle.std.proofs.Common.{◌≡◌, true, false, sym, ◌∙◌, rules}
use Rattle.std.proofs.lemmas.Bool.{not-true}
use Rattle.device.specs.Device.{well_formed}
use Rattle.device_run.specs.Run.{contents, lent_good, run_by, run_of}
use Rattle.device_run.proofs.RunLaws.{run_by_lem}
use Rattle.device_run.proofs.run.Goals as goal

pub returns-then-not-d-clause-ran : goal.returns-then-not-d-clause-ran
unfolding run_of
returns-then-not-d-clause-ran c =
    let a = c.args in
    let good : well_formed a.d ≡ true = cc in
    let long : lent_good a.d (contents a.memories.now) ≡ true = cc in
    let config : a.d.registers.config ≡ false = not-true _ c.if-not-d.true in
    rw (good, long, config)

pub returns-in-Idle-clause-ran : goal.returns-in-Idle-clause-ran
unfolding run_by
returns-in-Idle-clause-ran c =
    sym (run_by_lem c.args.d _ c.args.budget _ (cc) (cc) (search rules) (search rules) (cc) c.in-Idle.is)

pub returns-in-Running-clause-ran : goal.returns-in-Running-clause-ran
returns-in-Running-clause-ran c =
    c.run_ring.ensures.ran
    ∙ sym (run_by_lem c.args.d _ c.args.budget _ (cc) (cc) (search rules) (search rules) (cc) c.in-Running.is)

pub returns-in-Faulted-clause-ran : goal.returns-in-Faulted-clause-ran
unfolding run_by
returns-in-Faulted-clause-ran c =
    sym (run_by_lem c.args.d _ c.args.budget _ (cc) (cc) (search rules) (search rules) (cc) c.in-Faulted.is)
