-- A run that is not refused before its condition is looked at.
-- Assumes nothing.
use mathlib.Core.Path.{◌≡◌, ap, ◌∙◌}
use mathlib.Core.Bool.{Bool, true, cond}
use Prim.Native.Nat.{ℕ}
use Rattle.device.specs.declared.Condition.{Condition}
use Rattle.device.specs.declared.Device.{Device}
use Rattle.device.specs.Device.{mode_fits, well_formed}
use Rattle.device_run.specs.Run.{Lent, RunOutcome, lent_good, refused_run, run_by, run_of}

pub run_by_lem : (d : Device) (l : Lent) (budget : ℕ) (c : Condition) → well_formed d ≡ true → lent_good d l ≡ true
    → d.registers.config ≡ true → d.registers.enable ≡ true → mode_fits d ≡ true → d.condition ≡ c
    → run_of d l budget ≡ run_by d l budget c
unfolding run_of
run_by_lem d l budget c good long config enable fits is =
    let not-run : ℕ → RunOutcome = refused_run d l in
    let by_mode : Bool → RunOutcome = λ t. cond t (run_by d l budget d.condition) (not-run 24) in
    let by-enable : Bool → RunOutcome = λ t. cond t (by_mode (mode_fits d)) (not-run 21) in
    let by-config : Bool → RunOutcome = λ t. cond t (by-enable d.registers.enable) (not-run 22) in
    let by_length : Bool → RunOutcome = λ t. cond t (by-config d.registers.config) (not-run 20) in
    ap (λ (t : Bool). cond t (by_length (lent_good d l)) (not-run 22)) good
    ∙ ap by_length long
    ∙ ap by-config config
    ∙ ap by-enable enable
    ∙ ap by_mode fits
    ∙ ap (run_by d l budget) is
