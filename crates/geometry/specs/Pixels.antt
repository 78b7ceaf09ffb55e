-- Pixels in rows: document 01, "What is lent". A lent memory is a list of pixels; only the places below its length are there.
use Rattle.std.specs.Prelude.{ℕ, zero, suc, ◌+◌, ◌*◌, ◌/◌, ◌%◌, ◌<◌, ◌≤◌, Bool, ◌&&◌, cond, List, [], ◌∷◌, leb, ltb, length, get_or}
use Rattle.geometry.specs.declared.Rect.{Rect}

-- "Pixel (x, y) stands at y·width + x."
abbrev pub place_of : ℕ → ℕ → ℕ → ℕ
place_of width x y = y * width + x

-- The pixel that stands at place k: its column and its row (laws `column_of_place`, `row_of_place`, `place_of_pixel`).
abbrev pub column_of : ℕ → ℕ → ℕ
column_of width k = k % width

abbrev pub row_of : ℕ → ℕ → ℕ
row_of width k = k / width

-- k is one of the n numbers from a on.
abbrev pub within : ℕ → ℕ → ℕ → Bool
within a n k = leb a k && ltb k (a + n)

-- The pixel at place k is one of the w by h pixels at (x, y).
unfoldable pub in_rect : ℕ → ℕ → ℕ → ℕ → ℕ → ℕ → Bool
in_rect width x y w h k = within x w (column_of width k) && within y h (row_of width k)

-- The pixel at place k is one of the rectangle's and lies in the rows. (Its column is below width anyhow.)
unfoldable pub in_area : ℕ → ℕ → Rect → ℕ → Bool
in_area width rows r k = in_rect width r.x r.y r.w r.h k && ltb (row_of width k) rows

-- The list f 0, f 1, .., f (n - 1).
unfoldable pub tabulate : ℕ → (ℕ → ℕ) → List ℕ
tabulate zero f = []
tabulate (suc n) f = f 0 ∷ tabulate n (λ k. f (suc k))

-- The old pixels, with new k at each place k that is inside.
unfoldable pub painted : (ℕ → Bool) → (ℕ → ℕ) → List ℕ → List ℕ
painted inside new old = tabulate (length old) (λ k. cond (inside k) (new k) (get_or old k 0))

-- The same for a painter that may be refused: where it is, the old pixels.
unfoldable pub painted_if : Bool → (ℕ → Bool) → (ℕ → ℕ) → List ℕ → List ℕ
painted_if fits inside new old = cond fits (painted inside new old) old

-- For readers: (px, py) is a pixel of w by h pixels at (x, y).
pub record Has (x y w h px py : ℕ) : Type 0 where
  pub left : x ≤ px
  pub right : px < x + w
  pub top : y ≤ py
  pub bottom : py < y + h

-- It is one of the rectangle and lies in the rows: cut to them, it remains.
pub record Remains (r : Rect) (width rows px py : ℕ) : Type 0 where
  pub has : Has r.x r.y r.w r.h px py
  pub across : px < width
  pub down : py < rows
