-- What making answers: document 01, "What is lent" and "Answer numbers".
use Rattle.std.specs.Prelude.{ℕ, cond, Option, Some, None, Result, Ok, Err}
use Rattle.device.specs.declared.Device.{Device}
use Rattle.device.specs.Device.{sizes_good, fresh}
use Rattle.device.specs.declared.BadSizes.{BadSizes}

-- making: 0 taken, and a device; 34 M or P, and none
pub record Creation : Type 0 where
  pub answer : ℕ
  pub device : Option Device

abbrev pub creation : Result Device BadSizes → Creation
creation (Ok d) = record { answer = 0; device = Some d }
creation (Err e) = record { answer = 34; device = None }

-- "otherwise answer 34", and then "making yields no device"
unfoldable pub made_of : ℕ → ℕ → Creation
made_of memory pixels =
    cond (sizes_good memory pixels) (record { answer = 0; device = Some (fresh memory pixels) }) (record { answer = 34; device = None })
