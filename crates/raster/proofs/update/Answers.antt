-- `update` meets its contract: the cut rectangle lies in the rows of both memories.
use Rattle.std.proofs.Common.{sym, ◌∙◌}
use Rattle.raster.proofs.Cuts.{rows_fit_lem, cut_inside}
use Rattle.raster.proofs.update.Goals as goal

pub update_cut-requires : goal.update_cut-requires
update_cut-requires c =
    let is = sym c.in-Some.ensures in
    record {
      inside = cut_inside _ _ _ _ is _ (rows_fit_lem _ _ _ (sym c.lies_in.ensures ∙ c.if-not-lies_in.false)).long;
      inside_2 = cut_inside _ _ _ _ is _ (rows_fit_lem _ _ _ (sym c.lies_in-else-not-lies_in.ensures ∙ c.if-not-lies_in-2.false)).long;
    }
