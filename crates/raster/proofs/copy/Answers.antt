-- `copy` meets its contract: both rectangles lie in the rows.
use Rattle.std.proofs.Common.{sym, ◌∙◌}
use Rattle.raster.proofs.Cuts.{rows_fit_lem, copy_inside}
use Rattle.raster.proofs.copy.Goals as goal

pub copy_cut-requires : goal.copy_cut-requires
copy_cut-requires c =
    let fit = rows_fit_lem _ _ _ (sym c.lies_in.ensures ∙ c.if-not-lies_in.false) in
    let both = copy_inside _ _ _ _ _ _ (sym c.in-Some.ensures) _ fit.long in
    record { to_in = both.0; from_in = both.1; narrow = fit.narrow }
