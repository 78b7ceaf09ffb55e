-- A run leaves the framebuffer as it was.
-- Assumes nothing.
use mathlib.Core.Path.{◌≡◌, refl}
use mathlib.Core.Bool.{Bool, true, false, cond}
use mathlib.Core.List.{List}
use Prim.Native.Nat.{ℕ}
use Rattle.device.specs.declared.Condition.{Condition}
use Rattle.device.specs.declared.Condition.TheVariants.{Idle, Running, Faulted}
use Rattle.device.specs.declared.Device.{Device}
use Rattle.device.specs.Device.{well_formed, configured_of, enabled_of, mode_fits, condition_of}
use Rattle.device_run.specs.Run.{Lent, RunOutcome, lent_good, run_by, run_of}

either : (t : Bool) (framebuffer : List ℕ) (a b : RunOutcome) → a.lent.framebuffer ≡ framebuffer → b.lent.framebuffer ≡ framebuffer
    → (cond t a b).lent.framebuffer ≡ framebuffer
either true framebuffer a b p q = p
either false framebuffer a b p q = q

by : (d : Device) (l : Lent) (budget : ℕ) (c : Condition) → (run_by d l budget c).lent.framebuffer ≡ l.framebuffer
unfolding run_by
by d l budget Idle = refl
by d l budget (Running g) = refl
by d l budget (Faulted c) = refl

pub keeps_framebuffer : (d : Device) (l : Lent) (budget : ℕ) → (run_of d l budget).lent.framebuffer ≡ l.framebuffer
unfolding run_of
keeps_framebuffer d l budget =
    either (well_formed d) _ _ _
    (either (lent_good d l) _ _ _
    (either (configured_of d) _ _ _ (either (enabled_of d) _ _ _ (either (mode_fits d) _ _ _ (by d l budget (condition_of d)) refl) refl) refl)
    refl)
    refl
