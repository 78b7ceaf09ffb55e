-- The usable offscreen rectangle: document 01, "Registers", and document 02, P4: "The offscreen width is wrong"; and the pixels that fills and copies
-- reach: document 02, P5.
use Rattle.std.specs.Prelude.{ℕ, ◌+◌, ◌-◌, ◌*◌, ◌/◌, Bool, cond, ◌&&◌, ◌||◌, leb, ltb}
use Rattle.device.specs.declared.Device.{Device}
use Rattle.offscreen.specs.declared.Edges.{Edges}
use Rattle.register.specs.declared.ReadOnly.{ReadOnly}
use Rattle.register.specs.declared.ReadOnly.TheVariants.{BitsPerPixel, BytesPerLine, FbSize, VramSize}
use Rattle.device.specs.Device.{width_of, height_of, well_formed}
use Rattle.register_read.specs.Registers.{read_only_value}

-- What a read-only register reads.
abbrev pub reads : Device → ReadOnly → ℕ
reads d r = read_only_value d.sizes (width_of d) (height_of d) d.busy r

-- a / b, rounded up
abbrev pub ceiling : ℕ → ℕ → ℕ
ceiling a b = (a + b - 1) / b

-- 02: "The right end is 8·BYTES_PER_LINE divided by bits per pixel .. Document 01's rule is replaced; its other three edges stand." 01: "x from 0 .., y from
-- FB_SIZE / BYTES_PER_LINE rounded up to VRAM_SIZE / BYTES_PER_LINE, floors otherwise, ends excluded. It may be empty. The base only reports its four
-- edges, worked out by these rules even then."
unfoldable pub offscreen_of : Device → Edges
offscreen_of d =
    cond (well_formed d)
    (record {
      left = 0;
      top = ceiling (reads d FbSize) (reads d BytesPerLine);
      right = 8 * reads d BytesPerLine / reads d BitsPerPixel;
      bottom = reads d VramSize / reads d BytesPerLine;
    })
    (record { left = 0; top = 0; right = 0; bottom = 0 })

-- Pixel (x, y) is in the mode.
unfoldable pub in_mode : Device → ℕ → ℕ → Bool
in_mode d x y = ltb x (width_of d) && ltb y (height_of d)

-- Pixel (x, y) is offscreen: in P4's rectangle, "ends excluded".
unfoldable pub in_offscreen : Device → ℕ → ℕ → Bool
in_offscreen d x y = let e = offscreen_of d in leb e.left x && (ltb x e.right && (leb e.top y && ltb y e.bottom))

-- "Commands 2, 3, 13 and 14 .. : they are cut to the mode joined with P4's rectangle, in the lent screen": pixel (x, y) is "in the mode or offscreen".
unfoldable pub joined : Device → ℕ → ℕ → Bool
joined d x y = in_mode d x y || in_offscreen d x y
