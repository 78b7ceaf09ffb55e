-- `fill_cut` meets its contract: operation 3 stores the colour, in a single pixel or in rows.
use Rattle.std.proofs.Common.{◌∙◌, rules}
use Rattle.raster.proofs.ByMasks.{plain_filled}
use Rattle.raster.proofs.fill_cut.Goals as goal

pub returns-then-area-eq1-2 : goal.returns-then-area-eq1-2
returns-then-area-eq1-2 c =
    rw (c.if-rop-ne-COPY.false, c.if-area-eq1.true, c.if-area-eq1-2.true) ((rw c.corner_of.ensures at c.store_pixel.ensures) ∙ plain_filled _ _ _ _ c.ranges.colour.fits (λ k. search rules))

pub returns-else-area-eq1 : goal.returns-else-area-eq1
returns-else-area-eq1 c = rw c.if-rop-ne-COPY.false (c.fill_rows.ensures ∙ plain_filled _ _ _ _ c.ranges.colour.fits (λ k. search rules))
