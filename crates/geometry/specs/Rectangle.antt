-- Rectangles and their cut: document 01, "One command out of the ring".
use Rattle.std.specs.Prelude.{ℕ, ◌+◌, ◌-◌, min, cond, eqb, Option, Some, None}
use Rattle.geometry.specs.declared.Rect.{Rect}

-- "Rectangles are unsigned; x + w is a whole number and never wraps."
-- How many of the n places from at on lie below limit.
abbrev pub span_below : ℕ → ℕ → ℕ → ℕ
span_below limit at n = min (at + n) limit - at

-- The rectangle of w by h pixels at (x, y); nothing is left where it has no pixel.
abbrev pub cut_of : ℕ → ℕ → ℕ → ℕ → Option Rect
cut_of x y w h = cond (eqb w 0) None (cond (eqb h 0) None (Some (record { x = x; y = y; w = w; h = h })))

-- "They are cut to the mode": to rows of width pixels.
unfoldable pub cut_to : Rect → ℕ → ℕ → Option Rect
cut_to r width rows = cut_of r.x r.y (span_below width r.x r.w) (span_below rows r.y r.h)

-- "In a copy, offset (i, j) moves exactly if both its source and its destination pixel lie in the mode":
-- the destination, of what the cut of the destination leaves and the cut of the source at (sx, sy) then leaves of that.
unfoldable pub cut_copy : ℕ → ℕ → Rect → ℕ → ℕ → Option Rect
cut_copy sx sy r width rows =
    cut_of r.x r.y (span_below width sx (span_below width r.x r.w)) (span_below rows sy (span_below rows r.y r.h))

-- w by h pixels at (x, y).
abbrev pub rect : ℕ → ℕ → ℕ → ℕ → Rect
rect x y w h = record { x = x; y = y; w = w; h = h }
