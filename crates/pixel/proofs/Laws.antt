-- Laws of the raster operations and of the blend, for readers and for the crates above.
-- Assumes nothing.
use mathlib.Core.Path.{◌≡◌}
use Prim.Native.Nat.{ℕ, ◌+◌, ◌-◌, ◌*◌, ◌/◌, ◌%◌, ◌^◌, ◌≤◌, ◌<◌}
use native.Mathlib.Nat.{mul-le-mul_left}
use native.Mathlib.Omega.{arith}
use borrow.Author.Tests.{le-ltb}
use Rattle.pixel.specs.RasterOperation.{raster_op}
use Rattle.pixel.specs.Blend.{top_byte, blend_colour, blend_pixel}
use Rattle.pixel.proofs.Bitwise.{under, raster}
use Rattle.pixel.proofs.Named.{copy_is}

pub copy_stores_source : (s d : ℕ) → s < 2 ^ 32 → d < 2 ^ 32 → raster_op 3 s d ≡ s
copy_stores_source = copy_is

pub no_operation : (rop s d : ℕ) → 16 ≤ rop → raster_op rop s d ≡ d
unfolding raster_op
no_operation rop s d h = rw (le-ltb rop 16 h)

pub raster_fits : (rop s d : ℕ) → s < 2 ^ 32 → d < 2 ^ 32 → raster_op rop s d < 2 ^ 32
unfolding raster_op
raster_fits rop s d = under (raster rop) 32 s d

-- a colour before the rounding: 255 times 255 at most
pub weighted : (a cursor below : ℕ) → a ≤ 255 → cursor ≤ 255 → below ≤ 255 → a * cursor + (255 - a) * below ≤ 65025
weighted a cursor below h k l = omega (arith, mul-le-mul_left a k, mul-le-mul_left (255 - a) l)

pub blend_colour_fits : (a cursor below : ℕ) → a ≤ 255 → cursor ≤ 255 → below ≤ 255 → blend_colour a cursor below ≤ 255
blend_colour_fits a cursor below h k l = omega (arith, weighted a cursor below h k l)

-- an opaque cursor pixel shows its colours, a clear one those below
pub blend_opaque : (cursor below : ℕ) → top_byte cursor ≡ 255 → blend_pixel cursor below ≡ cursor % 16777216
unfolding blend_pixel
blend_opaque cursor below e = rw e (omega arith)

pub blend_clear : (cursor below : ℕ) → top_byte cursor ≡ 0 → blend_pixel cursor below ≡ below % 16777216
unfolding blend_pixel
blend_clear cursor below e = rw e (omega arith)

pub blend_fits : (cursor below : ℕ) → blend_pixel cursor below < 16777216
unfolding blend_pixel
blend_fits cursor below =
    let fits : (c b : ℕ) → blend_colour (top_byte cursor) (c % 256) (b % 256) ≤ 255 =
    λ c b. blend_colour_fits (top_byte cursor) (c % 256) (b % 256) (omega arith) (omega arith) (omega arith) in
    omega (arith, fits (cursor / 65536) (below / 65536), fits (cursor / 256) (below / 256), fits cursor below)
