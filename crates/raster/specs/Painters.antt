-- What the painters do to a screen: document 01, "One command out of the ring". Each is said pixel by pixel over the old screen and
-- the whole rectangle as it came. Bounded by (width, rows): the rows are the mode's height for an
-- update, and for fills and copies also the offscreen rows behind it (document 02, P5).
use Rattle.std.specs.Prelude.{ℕ, ◌+◌, ◌-◌, ◌*◌, Bool, ◌&&◌, List, leb, ltb, length, get_or}
use Rattle.geometry.specs.declared.Rect.{Rect}
use Rattle.geometry.specs.Pixels.{place_of, column_of, row_of, in_area, painted_if}
use Rattle.pixel.specs.RasterOperation.{raster_op}

-- "WIDTH (1 to 2,560)"
abbrev pub max_width : ℕ
max_width = 2560

-- The rows lie in a lent memory of n words, and their width is one that a mode can have. Where not, a painter changes nothing.
unfoldable pub rows_fit : ℕ → ℕ → ℕ → Bool
rows_fit width rows n = ltb 0 width && leb width max_width && leb (width * rows) n

-- "fills .. act on the screen alone": each pixel of the rectangle in the rows gets the raster operation of the colour and what stood there.
-- A plain fill is operation 3. Which pixels may be painted, and whether the rows fit, are parameters.
unfoldable pub filled_in : Bool → (ℕ → Bool) → ℕ → ℕ → List ℕ → List ℕ
filled_in fits inside colour rop old = painted_if fits inside (λ k. raster_op rop colour (get_or old k 0)) old

unfoldable pub filled : ℕ → ℕ → Rect → ℕ → ℕ → List ℕ → List ℕ
filled width rows r colour rop old = filled_in (rows_fit width rows (length old)) (in_area width rows r) colour rop old

-- "UPDATE brings framebuffer pixels to the screen".
unfoldable pub updated : ℕ → ℕ → Rect → List ℕ → List ℕ → List ℕ
updated width rows r framebuffer old =
    painted_if (rows_fit width rows (length old) && leb (width * rows) (length framebuffer)) (in_area width rows r) (λ k. get_or framebuffer k 0) old

-- The source pixel of the destination pixel at place k: offset (i, j) from (x, y) comes from offset (i, j) of (sx, sy).
abbrev pub source_column : ℕ → ℕ → ℕ → ℕ → ℕ
source_column width sx x k = sx + (column_of width k - x)

abbrev pub source_row : ℕ → ℕ → ℕ → ℕ → ℕ
source_row width sy y k = sy + (row_of width k - y)

-- "In a copy, offset (i, j) moves exactly if both its source and its destination pixel lie in the mode", or, by document 02, P5, "in the mode or offscreen"
unfoldable pub moves : ℕ → ℕ → ℕ → ℕ → Rect → ℕ → Bool
moves width rows sx sy r k =
    in_area width rows r k && (ltb (source_column width sx r.x k) width && ltb (source_row width sy r.y k) rows)

-- ".. and all sources are read before any is written": every source is a pixel of the old screen. A plain copy is operation 3.
unfoldable pub copied_in : Bool → (ℕ → Bool) → ℕ → ℕ → ℕ → Rect → ℕ → List ℕ → List ℕ
copied_in fits inside width sx sy r rop old =
    painted_if fits inside
    (λ k. raster_op rop (get_or old (place_of width (source_column width sx r.x k) (source_row width sy r.y k)) 0) (get_or old k 0)) old

unfoldable pub copied : ℕ → ℕ → ℕ → ℕ → Rect → ℕ → List ℕ → List ℕ
copied width rows sx sy r rop old = copied_in (rows_fit width rows (length old)) (moves width rows sx sy r) width sx sy r rop old
