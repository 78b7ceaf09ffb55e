-- The blend of a cursor pixel over the pixel below: document 01, "The cursor plane".
use Rattle.std.specs.Prelude.{ℕ, ◌+◌, ◌-◌, ◌*◌, ◌/◌, ◌%◌}

-- A pixel's top byte, and its three colours.
abbrev pub top_byte : ℕ → ℕ
top_byte p = p / 16777216 % 256

abbrev pub red_of : ℕ → ℕ
red_of p = p / 65536 % 256

abbrev pub green_of : ℕ → ℕ
green_of p = p / 256 % 256

abbrev pub blue_of : ℕ → ℕ
blue_of p = p % 256

-- "with a the cursor pixel's top byte, each colour is floor((a·cursor + (255 − a)·below + 127) / 255)"
abbrev pub blend_colour : ℕ → ℕ → ℕ → ℕ
blend_colour a cursor below = (a * cursor + (255 - a) * below + 127) / 255

-- ".. each colour .., top byte 0"
unfoldable pub blend_pixel : ℕ → ℕ → ℕ
blend_pixel cursor below =
    blend_colour (top_byte cursor) (red_of cursor) (red_of below) * 65536
    + blend_colour (top_byte cursor) (green_of cursor) (green_of below) * 256
    + blend_colour (top_byte cursor) (blue_of cursor) (blue_of below)
