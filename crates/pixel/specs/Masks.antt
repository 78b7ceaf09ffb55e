-- The raster operations by masks, as the functions for row loops compute them. `Reduces` and `Merges` say that masks give `raster_op`, and the contracts of
-- `Reduced::apply` and `Masks::apply` that what these return is it, whatever the formula.
use Rattle.std.specs.Prelude.{◌≡◌, cond, ℕ, ◌^◌, ◌<◌, eqb}
use Rattle.std.specs.Int.Bits.{bit_and, bit_xor}
use Rattle.pixel.specs.declared.Masks.{Masks}
use Rattle.pixel.specs.RasterOperation.{raster_op}

-- With one source: the destination and keep, exclusive-or flip.
unfoldable pub reduce_pixel : ℕ → ℕ → ℕ → ℕ
reduce_pixel keep flip d = bit_xor (bit_and d keep) flip

-- The masks are those of operation rop at source s: for every destination they give the operation's result.
pub record Reduces (rop s keep flip : ℕ) : Type 0 where
  pub agrees : (d : ℕ) → d < 2 ^ 32 → reduce_pixel keep flip d ≡ raster_op rop s d

-- A pixel by masks: the formula for any masks, and the result of every operation whose masks they are.
pub record PixelReduced (keep flip d r : ℕ) : Type 0 where
  pub formula : r ≡ reduce_pixel keep flip d
  pub operation : (rop s : ℕ) → Reduces rop s keep flip → r ≡ raster_op rop s d

-- With many sources: at each bit an operation is product·s·d + source·s + dest·d + constant, sums being exclusive-or.
-- Where the product counts, that is (s + dest)·(d + source) + (dest·source + constant).
unfoldable pub merge_pixel : Masks → ℕ → ℕ → ℕ
merge_pixel m s d =
    cond (eqb m.product 0)
    (bit_xor (bit_and d m.dest) (bit_xor (bit_and s m.source) m.constant))
    (bit_xor (bit_and (bit_xor s m.dest) (bit_xor d m.source)) (bit_xor (bit_and m.dest m.source) m.constant))

-- The masks are those of operation rop: for every source and destination they give the operation's result.
pub record Merges (rop : ℕ) (m : Masks) : Type 0 where
  pub agrees : (s d : ℕ) → s < 2 ^ 32 → d < 2 ^ 32 → merge_pixel m s d ≡ raster_op rop s d

-- A pixel by masks, as above.
pub record PixelMerged (m : Masks) (s d r : ℕ) : Type 0 where
  pub formula : r ≡ merge_pixel m s d
  pub operation : (rop : ℕ) → Merges rop m → r ≡ raster_op rop s d
