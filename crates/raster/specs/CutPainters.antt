-- The painters at a rectangle that is cut already: what their inner functions do. Nothing here has to be believed.
use Rattle.std.specs.Prelude.{ℕ, ◌+◌, ◌≤◌, List, length, get_or}
use Rattle.geometry.specs.declared.Rect.{Rect}
use Rattle.geometry.specs.Pixels.{place_of, in_rect, painted}
use Rattle.geometry.specs.Parts.{Inside}
use Rattle.pixel.specs.RasterOperation.{raster_op}
use Rattle.raster.specs.Painters.{max_width, source_column, source_row}

-- The rectangle lies in the rows of width pixels that the list holds, and for a copy also its source at (sx, sy).
abbrev pub InRows : ℕ → Rect → List ℕ → Type 0
InRows width r l = Inside width r.x r.y r.w r.h (length l)

pub record CopyInRows (width sx sy : ℕ) (r : Rect) (l : List ℕ) : Type 0 where
  pub to_in : InRows width r l
  pub from_in : Inside width sx sy r.w r.h (length l)
  pub narrow : width ≤ max_width

-- The n places from from on and those from to on are there.
abbrev pub BothFit : ℕ → ℕ → ℕ → List ℕ → Type 0
BothFit from to n l = (from + n ≤ length l) × (to + n ≤ length l)

-- Each pixel of the rectangle becomes f of what stood there: a fill.
unfoldable pub filled_by : ℕ → Rect → (ℕ → ℕ) → List ℕ → List ℕ
filled_by width r f old = painted (in_rect width r.x r.y r.w r.h) (λ k. f (get_or old k 0)) old

abbrev pub filled_cut : ℕ → Rect → ℕ → ℕ → List ℕ → List ℕ
filled_cut width r colour rop old = filled_by width r (raster_op rop colour) old

unfoldable pub updated_cut : ℕ → Rect → List ℕ → List ℕ → List ℕ
updated_cut width r framebuffer old = painted (in_rect width r.x r.y r.w r.h) (λ k. get_or framebuffer k 0) old

-- Each pixel of the rectangle becomes f of its source and of what stood there, all read first: a copy.
unfoldable pub copied_by : ℕ → ℕ → ℕ → Rect → (ℕ → ℕ → ℕ) → List ℕ → List ℕ
copied_by width sx sy r f old =
    painted (in_rect width r.x r.y r.w r.h)
    (λ k. f (get_or old (place_of width (source_column width sx r.x k) (source_row width sy r.y k)) 0) (get_or old k 0)) old

abbrev pub copied_cut : ℕ → ℕ → ℕ → Rect → ℕ → List ℕ → List ℕ
copied_cut width sx sy r rop old = copied_by width sx sy r (raster_op rop) old
