-- A finished picture: document 01, "The cursor plane".
use Rattle.std.specs.Prelude.{ℕ, ◌*◌, Bool, false, cond, ◌&&◌, List, ltb, leb, length, get_or, Option, Some, None}
use Rattle.geometry.specs.Pixels.{row_of, painted_if}
use Rattle.pixel.specs.Blend.{blend_pixel}
use Rattle.raster.specs.Painters.{rows_fit}
use Rattle.cursor.specs.Plane.{covered, cursor_pixel}
use Rattle.picture.specs.declared.VisibleCursor.{VisibleCursor}

-- The cursor's words are lent, and it covers the pixel at place k.
unfoldable pub covered_by : ℕ → ℕ → Option VisibleCursor → ℕ → ℕ → Bool
covered_by width rows None words k = false
covered_by width rows (Some c) words k = leb (c.shape.w * c.shape.h) words && covered width rows c.shape c.x c.y k

unfoldable pub pixel_over : ℕ → Option VisibleCursor → List ℕ → ℕ → ℕ
pixel_over width None image k = 0
pixel_over width (Some c) image k = cursor_pixel width c.shape c.x c.y image k

-- "Covered: .." the cursor pixel blended over the screen's; "Uncovered pixels equal the screen".
unfoldable pub picture_pixel : ℕ → ℕ → Option VisibleCursor → List ℕ → List ℕ → ℕ → ℕ
picture_pixel width rows over screen image k =
    cond (covered_by width rows over (length image) k) (blend_pixel (pixel_over width over image k) (get_or screen k 0)) (get_or screen k 0)

-- The rows fit the screen and the output that are lent.
abbrev pub lent : ℕ → ℕ → List ℕ → List ℕ → Bool
lent width rows screen old = rows_fit width rows (length old) && leb (width * rows) (length screen)

-- "output beyond the mode is unchanged". Where the rows do not fit what is lent, nothing changes.
unfoldable pub composed : ℕ → ℕ → Option VisibleCursor → List ℕ → List ℕ → List ℕ → List ℕ
composed width rows over screen image old =
    painted_if (lent width rows screen old) (λ k. ltb (row_of width k) rows) (picture_pixel width rows over screen image) old
