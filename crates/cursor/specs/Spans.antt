-- What of a cursor lies in the picture, in natural numbers: what the inner functions compute. Nothing here has to be believed.
use Rattle.std.specs.Prelude.{ℕ, suc, ◌+◌, ◌-◌, min, cond, List, leb, ℤ, pos, negsuc, get_or}
use Rattle.geometry.specs.Pixels.{place_of, column_of, row_of, in_rect, painted}
use Rattle.pixel.specs.Blend.{blend_pixel}
use Rattle.cursor.specs.declared.Span.{Span}

abbrev pub span : ℕ → ℕ → ℕ → Span
span at skip n = record { at = at; skip = skip; n = n }

-- The cursor's columns from skip to below size, over the picture's from at to below limit; where one of the two has none, nothing at 0.
abbrev pub span_at : ℕ → ℕ → ℕ → ℕ → Span
span_at at skip size limit =
    cond (leb limit at) (span 0 0 0) (cond (leb size skip) (span 0 0 0) (span at skip (min (size - skip) (limit - at))))

-- A corner in the picture, or how many of the cursor's columns lie before the picture.
abbrev pub at_of : ℤ → ℕ
at_of (pos a) = a
at_of (negsuc b) = 0

abbrev pub skip_of : ℤ → ℕ
skip_of (pos a) = 0
skip_of (negsuc b) = suc b

unfoldable pub span_from : ℤ → ℕ → ℕ → Span
span_from corner size limit = span_at (at_of corner) (skip_of corner) size limit

-- The cursor, of w columns, over a picture, by the columns and the rows that are visible.
unfoldable pub overlaid_visible : ℕ → ℕ → Span → Span → List ℕ → List ℕ → List ℕ
overlaid_visible width w columns lines image old =
    painted (in_rect width columns.at lines.at columns.n lines.n)
    (λ k. blend_pixel
    (get_or image (place_of w (column_of width k - columns.at + columns.skip) (row_of width k - lines.at + lines.skip)) 0)
    (get_or old k 0)) old
