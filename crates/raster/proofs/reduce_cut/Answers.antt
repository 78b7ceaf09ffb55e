-- `reduce_cut` meets its contract: the masks give the operation, and where nothing is kept the flip is stored.
use Rattle.std.proofs.Common.{◌∙◌, rules}
use Rattle.raster.proofs.ByMasks.{stored_filled}
use Rattle.raster.proofs.reduce_cut.Goals as goal

pub returns-then-masks-eq0 : goal.returns-then-masks-eq0
returns-then-masks-eq0 c = c.fill_rows.ensures ∙ stored_filled _ _ _ c.of-masks.ensures c.if-masks-eq0.true (λ k. search rules)
