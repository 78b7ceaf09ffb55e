-- "The mode joined with P4's rectangle, in the lent screen": what fills and copies reach, by rows. Document 02, P5.
-- Assumes nothing.
use mathlib.Core.Path.{◌≡◌}
use mathlib.Core.Bool.{true, ◌&&◌}
use mathlib.Core.Logic.{◌↔◌}
use Prim.Native.Nat.{ℕ, ◌+◌, ◌-◌, ◌*◌, ◌/◌, ◌%◌, ◌≤◌, ◌<◌}
use native.Mathlib.Nat.{mul_comm, mod-lt, mul-add-div, div-eq_of_lt, mul-div-mul_left, div-lt_iff_lt-mul}
use native.Mathlib.Omega.{arith}
use lib.Dec.{ltb}
use borrow.Author.Tests.{ltb-true, ltb-false, lt-ltb, le-leb}
use borrow.Table.Steps.{cases}
use Rattle.geometry.specs.Pixels.{column_of, row_of}
use Rattle.geometry.proofs.Tests.{both, and_yes}
use Rattle.device.specs.declared.Device.{Device}
use Rattle.device.specs.Device.{pixels_of, width_of, height_of, rows_of, mode_fits, well_formed}
use Rattle.device.proofs.Laws.{well_formed_lem, mode_in_rows}
use Rattle.register_read.specs.Registers.{read_only_value}
use Rattle.offscreen.specs.Offscreen.{ceiling, offscreen_of, in_mode, in_offscreen, joined}
use Rattle.offscreen.proofs.RightEdge.{right_is_width}

-- a multiple, divided and rounded up, is its factor
whole : (a n : ℕ) → 1 ≤ a → ceiling (a * n) a ≡ n
whole a n h =
    let sum : a * n + a - 1 ≡ a * n + (a - 1) = omega arith in
    rw (sum, mul-add-div h n (a - 1), div-eq_of_lt {n = a - 1} {m = a} (omega arith)) (omega arith)

-- the mode's pixels are in the mode or offscreen, whatever the device
pub mode_joined : (d : Device) (x y : ℕ) → ltb x (width_of d) ≡ true → ltb y (height_of d) ≡ true → joined d x y ≡ true
unfolding joined in_mode
mode_joined d x y across down = rw (across, down)

module _ (d : Device) (good : well_formed d ≡ true) where
  wide : 1 ≤ width_of d
  wide = (well_formed_lem d good).width_low

  -- "y from FB_SIZE / BYTES_PER_LINE rounded up": the rectangle begins where the mode ends
  pub top_is_height : (offscreen_of d).top ≡ height_of d
  unfolding offscreen_of read_only_value
  top_is_height = let w = wide in rw good (whole (4 * width_of d) (height_of d) (omega arith))

  -- "to VRAM_SIZE / BYTES_PER_LINE": and ends with the last row that lies whole in P pixels
  pub bottom_is_rows : (offscreen_of d).bottom ≡ rows_of d
  unfolding offscreen_of read_only_value
  bottom_is_rows = rw good (mul-div-mul_left {m = 4} (pixels_of d) (width_of d) (omega arith))

  left_is_0 : (offscreen_of d).left ≡ 0
  unfolding offscreen_of
  left_is_0 = rw good

  module _ (fits : mode_fits d ≡ true) where
    joined_pixel : (x y : ℕ) → joined d x y ≡ (ltb x (width_of d) && ltb y (rows_of d))
    unfolding joined in_mode in_offscreen
    joined_pixel x y =
        let h = mode_in_rows d (well_formed_lem d good) fits in
        rw (left_is_0, right_is_width d good, top_is_height, bottom_is_rows, le-leb 0 x (omega arith))
        (cases (ltb x (width_of d))
        (λ across.
        rw across
        (cases (ltb y (height_of d))
        (λ t. let l = ltb-true y (height_of d) t in rw (t, lt-ltb y (rows_of d) (omega arith)))
        (λ f. rw (f, le-leb (height_of d) y (ltb-false y (height_of d) f)))))
        (λ f. rw f))

    -- "in the mode or offscreen" is: in the rows of the mode's width that lie whole in P pixels. By these the code goes.
    pub joined_rows : joined d ≡ (λ x y. ltb x (width_of d) && ltb y (rows_of d))
    joined_rows = λ i x y. joined_pixel x y i

    -- The places of these pixels in the lent screen are those below width·rows. The P mod width behind them are of none.
    pub joined_places : (k : ℕ) → (joined d (column_of (width_of d) k) (row_of (width_of d) k) ≡ true) ↔ (k < width_of d * rows_of d)
    joined_places k =
        let x = k % width_of d in
        let y = k / width_of d in
        let row = div-lt_iff_lt-mul {k = width_of d} {x = k} {y = rows_of d} wide in
        rw (joined_pixel x y, mul_comm (width_of d) (rows_of d)) (
          λ e. row.0 (ltb-true y (rows_of d) (both (ltb x (width_of d)) (ltb y (rows_of d)) e).1),
          λ l. and_yes _ _ (lt-ltb x (width_of d) (mod-lt k wide)) (lt-ltb y (rows_of d) (row.1 l)),
        )
