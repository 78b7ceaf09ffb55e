-- Answer numbers of reads: each comes exactly when document 01's rule says so.
-- Assumes nothing.
use mathlib.Core.Path.{◌≡◌, refl}
use mathlib.Core.Bool.{true}
use mathlib.Core.Logic.{◌↔◌}
use Prim.Native.Nat.{ℕ}
use native.Mathlib.Omega.{arith}
use borrow.Table.Steps.{cases}
use Rattle.register.specs.declared.Register.{Register}
use Rattle.register.specs.declared.Register.TheVariants.{Writes, Reads, Absent}
use Rattle.register.specs.Numbers.{register_of}
use Rattle.device.specs.declared.Device.{Device}
use Rattle.device.specs.Device.{well_formed}
use Rattle.register_read.specs.Registers.{read_by, read_of}

-- "Reading an absent register gives 30 and value 0."
pub absent_read : (d : Device) (index : ℕ) → register_of index ≡ Absent → read_of d index ≡ record { answer = 30; value = 0 }
unfolding read_of read_by
absent_read d index e = cases (well_formed d) (λ m. rw (m, e)) (λ f. rw f)

is_30 : (d : Device) (r : Register) → (read_by d r).answer ≡ 30 → r ≡ Absent
unfolding read_by
is_30 d (Writes w) e = absurd (omega arith)
is_30 d (Reads r) e = absurd (omega arith)
is_30 d Absent e = refl

pub read_30 : (d : Device) (index : ℕ) → well_formed d ≡ true → ((read_of d index).answer ≡ 30) ↔ (register_of index ≡ Absent)
unfolding read_of
read_30 d index m = (λ e. is_30 d (register_of index) (rw m at e), λ e. rw (absent_read d index e))
