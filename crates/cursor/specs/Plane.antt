-- The cursor plane: document 01, "The cursor plane".
use Rattle.std.specs.Prelude.{ℕ, ◌+◌, ◌*◌, ◌^◌, Bool, cond, not, ◌&&◌, List, ltb, leb, ℤ, pos, ◌-ℤ◌, nat_abs, length, get_or}
use Rattle.std.specs.Int.Signed.{lt_z}
use Rattle.geometry.specs.Pixels.{column_of, row_of, painted_if}
use Rattle.pixel.specs.Blend.{blend_pixel}
use Rattle.cursor.specs.declared.Shape.{Shape}

-- "Cursor: w and h 1 to 64"
abbrev pub max_side : ℕ
max_side = 64

-- "the cursor image (4,096)": the words of 64 by 64 pixels
abbrev pub image_words : ℕ
image_words = 4096

-- "Cursor: w and h 1 to 64, hotx < w, hoty < h, else 11."
unfoldable pub shape_good : Shape → Bool
shape_good s = leb 1 s.w && (leb s.w max_side && (leb 1 s.h && (leb s.h max_side && (ltb s.hotx s.w && ltb s.hoty s.h))))

-- "X and Y are read as signed 32-bit numbers"
abbrev pub signed : ℕ → ℤ
signed x = cond (ltb x (2 ^ 31)) (pos x) (pos x -ℤ pos (2 ^ 32))

-- "the top left corner is position minus hotspot and may be negative"
abbrev pub corner_of : ℕ → ℕ → ℤ
corner_of position hot = signed position -ℤ pos hot

-- The cursor's column under column k of the picture, or its row under row k: one of the cursor's if it is from 0 to below its size.
abbrev pub offset_at : ℤ → ℕ → ℤ
offset_at corner k = pos k -ℤ corner

unfoldable pub covers : ℤ → ℕ → ℕ → Bool
covers corner size k = not (lt_z (offset_at corner k) (pos 0)) && lt_z (offset_at corner k) (pos size)

-- The pixel at place k of the picture is covered by the cursor at position (x, y).
unfoldable pub covered : ℕ → ℕ → Shape → ℕ → ℕ → ℕ → Bool
covered width rows s x y k =
    ltb (row_of width k) rows
    && (covers (corner_of x s.hotx) s.w (column_of width k) && covers (corner_of y s.hoty) s.h (row_of width k))

-- "Its pixels fill the first w·h cursor words, row by row": the cursor's pixel over place k.
unfoldable pub cursor_pixel : ℕ → Shape → ℕ → ℕ → List ℕ → ℕ → ℕ
cursor_pixel width s x y image k =
    get_or image (nat_abs (offset_at (corner_of y s.hoty) (row_of width k)) * s.w + nat_abs (offset_at (corner_of x s.hotx) (column_of width k))) 0

-- The picture's rows and the cursor's pixels are there. Where not, nothing is blended.
unfoldable pub overlay_fits : ℕ → ℕ → Shape → ℕ → ℕ → Bool
overlay_fits width rows s pixels words = ltb 0 width && (leb (width * rows) pixels && leb (s.w * s.h) words)

-- "Covered: with a the cursor pixel's top byte, each colour is ..": the covered pixels are blended, the others stay.
unfoldable pub overlaid : ℕ → ℕ → Shape → ℕ → ℕ → List ℕ → List ℕ → List ℕ
overlaid width rows s x y image old =
    painted_if (overlay_fits width rows s (length old) (length image)) (covered width rows s x y)
    (λ k. blend_pixel (cursor_pixel width s x y image k) (get_or old k 0)) old
