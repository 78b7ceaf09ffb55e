-- What a well-formed device is, condition by condition.
-- Assumes nothing.
use mathlib.Core.Path.{◌≡◌}
use mathlib.Core.Bool.{true}
use Prim.Native.Nat.{◌*◌, ◌%◌, ◌≤◌}
use native.Mathlib.Nat.{mul-le-mul, mul_comm, le-div_iff_mul-le, mul-div-le}
use native.Mathlib.Omega.{arith}
use borrow.Author.Tests.{eqb-true, leb-true, le-leb, lt-ltb}
use Rattle.geometry.proofs.Tests.{both}
use Rattle.raster.specs.Painters.{rows_fit}
use Rattle.device.specs.declared.Device.{Device}
use Rattle.device.specs.Device.{memory_of, pixels_of, width_of, height_of, rows_of, defined_of}
use Rattle.device.specs.Device.{sizes_good, mode_good, mode_fits, condition_good, defined_good, well_formed}

pub record WellFormed (d : Device) : Type 0 where
  pub memory_words : memory_of d % 4 ≡ 0
  pub memory_low : 10256 ≤ memory_of d
  pub memory_high : memory_of d ≤ 2097152
  pub pixels_low : 1 ≤ pixels_of d
  pub pixels_high : pixels_of d ≤ 4096000
  pub width_low : 1 ≤ width_of d
  pub width_high : width_of d ≤ 2560
  pub height_low : 1 ≤ height_of d
  pub height_high : height_of d ≤ 1600
  pub condition : condition_good (memory_of d) d.registers.config d.condition ≡ true
  pub defined : defined_good (defined_of d) ≡ true

pub well_formed_lem : (d : Device) → well_formed d ≡ true → WellFormed d
unfolding well_formed sizes_good mode_good
well_formed_lem d e =
    let sizes = both _ _ e in
    let words = both _ _ sizes.0 in
    let low = both _ _ words.1 in
    let high = both _ _ low.1 in
    let pixels = both _ _ high.1 in
    let mode = both _ _ sizes.1 in
    let width = both _ _ mode.0 in
    let width_high = both _ _ width.1 in
    let height = both _ _ width_high.1 in
    let rest = both _ _ mode.1 in
    record {
      memory_words = eqb-true _ _ words.0;
      memory_low = leb-true _ _ low.0;
      memory_high = leb-true _ _ high.0;
      pixels_low = leb-true _ _ pixels.0;
      pixels_high = leb-true _ _ pixels.1;
      width_low = leb-true _ _ width.0;
      width_high = leb-true _ _ width_high.0;
      height_low = leb-true _ _ height.0;
      height_high = leb-true _ _ height.1;
      condition = rest.0;
      defined = rest.1;
    }

-- the mode's bytes fit 32 bits
pub fb_size_fits : (d : Device) → WellFormed d → 4 * width_of d * height_of d ≤ 16384000
fb_size_fits d w = mul-le-mul {n₂ = 10240} {m₂ = 1600} (omega arith) w.height_high

-- ---- the rows that fills and copies reach

-- the mode's rows are among them, where it fits
pub mode_in_rows : (d : Device) → WellFormed d → mode_fits d ≡ true → height_of d ≤ rows_of d
mode_in_rows d w fits = (le-div_iff_mul-le w.width_low).1 (rw (mul_comm (height_of d) (width_of d)) (leb-true _ _ fits))

-- they lie in the lent screen, so that no painter of a run leaves it alone for its rows
pub rows_fit_lem : (d : Device) → WellFormed d → rows_fit (width_of d) (rows_of d) (pixels_of d) ≡ true
unfolding rows_fit
rows_fit_lem d w = rw (lt-ltb 0 (width_of d) w.width_low, le-leb _ _ w.width_high) (le-leb _ _ (mul-div-le (pixels_of d) (width_of d)))
