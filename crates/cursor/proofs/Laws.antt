-- What the overlay promises of single pixels, for readers and for the layers above.
-- Assumes nothing.
use mathlib.Core.Path.{◌≡◌, refl, ◌∙◌}
use mathlib.Core.Bool.{true, false}
use mathlib.Core.List.{List}
use Prim.Native.Nat.{ℕ, ◌+◌, ◌*◌, ◌/◌, ◌%◌, ◌≤◌, ◌<◌}
use native.Mathlib.Nat.{add-mul, one-mul, mul_comm, mul-le-mul_right}
use native.Mathlib.Omega.{arith}
use lib.Dec.{ltb}
use lib.IntN.{nat_abs}
use lib.ListN.{length, get_or}
use Rattle.geometry.specs.Pixels.{column_of, row_of}
use Rattle.geometry.proofs.Tests.{both}
use Rattle.geometry.proofs.Painted.{get_or-painted, painted_if_lem, length-painted_if, outside_if}
use Rattle.pixel.specs.Blend.{blend_pixel}
use Rattle.cursor.specs.declared.Shape.{Shape}
use Rattle.cursor.specs.Plane.{corner_of, offset_at, covers, covered, cursor_pixel, overlay_fits, overlaid}
use Rattle.cursor.proofs.Spans.{covers_below}

module _ (width rows : ℕ) (s : Shape) (x y : ℕ) (image old : List ℕ) where
  -- no word is added or lost
  pub length-overlaid : length (overlaid width rows s x y image old) ≡ length old
  unfolding overlaid
  length-overlaid = length-painted_if _ _ _ old

  -- where the cursor does not cover, the picture stays
  pub uncovered_stays : (k : ℕ) → k < length old → covered width rows s x y k ≡ false → get_or (overlaid width rows s x y image old) k 0 ≡ get_or old k 0
  unfolding overlaid
  uncovered_stays k there off = outside_if _ _ _ old k there off

  -- and where it does, its pixel is blended over the picture's
  pub covered_blends : (k : ℕ) → overlay_fits width rows s (length old) (length image) ≡ true → covered width rows s x y k ≡ true → k < length old
      → get_or (overlaid width rows s x y image old) k 0 ≡ blend_pixel (cursor_pixel width s x y image k) (get_or old k 0)
  unfolding overlaid
  covered_blends k fits on there = rw (painted_if_lem _ _ _ old fits) (get_or-painted _ _ old k there ∙ rw on)

-- the cursor's pixel over a covered place is one of its w·h
pub pixel_there : (width rows : ℕ) (s : Shape) (x y k : ℕ) → covered width rows s x y k ≡ true
    → nat_abs (offset_at (corner_of y s.hoty) (row_of width k)) * s.w + nat_abs (offset_at (corner_of x s.hotx) (column_of width k)) < s.w * s.h
unfolding covered
pixel_there width rows s x y k on =
    let a = both (ltb (k / width) rows) _ on in
    let b = both (covers (corner_of x s.hotx) s.w (k % width)) (covers (corner_of y s.hoty) s.h (k / width)) a.1 in
    in_image _ _ s.w s.h (covers_below (corner_of x s.hotx) s.w (k % width) b.0) (covers_below (corner_of y s.hoty) s.h (k / width) b.1)
  where
    in_image : (i j w h : ℕ) → i < w → j < h → j * w + i < w * h
    in_image i j w h p q =
        let d : (j + 1) * w ≤ h * w = mul-le-mul_right w (omega arith) in
        omega (arith, add-mul j 1 w, one-mul w, mul_comm w h)

-- document 01, case 9: at X 4294967295, with hotspot 0 and width 2, the columns −1 and 0 are covered, and over column 0 stands the cursor's column 1
pub minus_one_covers_0 : covers (corner_of 4294967295 0) 2 0 ≡ true
unfolding covers
minus_one_covers_0 = refl

pub minus_one_leaves_1 : covers (corner_of 4294967295 0) 2 1 ≡ false
unfolding covers
minus_one_leaves_1 = refl

pub minus_one_column : nat_abs (offset_at (corner_of 4294967295 0) 0) ≡ 1
minus_one_column = refl
