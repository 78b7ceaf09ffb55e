-- `fill` meets its contract: the cut rectangle lies in the rows.
use Rattle.std.proofs.Common.{sym, ◌∙◌}
use Rattle.raster.proofs.Cuts.{rows_fit_lem, cut_inside}
use Rattle.raster.proofs.fill.Goals as goal

pub fill_cut-requires : goal.fill_cut-requires
fill_cut-requires c = cut_inside _ _ _ _ (sym c.in-Some.ensures) _ (rows_fit_lem _ _ _ (sym c.lies_in.ensures ∙ c.if-not-lies_in.false)).long
