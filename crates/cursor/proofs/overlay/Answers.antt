-- The visible columns and rows lie in the picture and in the image.
use Rattle.std.proofs.Common.{sym, ◌∙◌}
use Rattle.cursor.proofs.Spans.{in_picture, in_image}
use Rattle.cursor.proofs.overlay.Goals as goal

pub overlay_visible-requires-clause-in_picture : goal.overlay_visible-requires-clause-in_picture
overlay_visible-requires-clause-in_picture c =
    rw (c.span_of-columns.ensures, c.span_of-lines.ensures) (in_picture _ _ _ c.args.at.x c.args.at.y _ _ (sym c.overlay_fits.ensures ∙ c.if-not-overlay_fits.false))

pub overlay_visible-requires-clause-in_image : goal.overlay_visible-requires-clause-in_image
overlay_visible-requires-clause-in_image c =
    rw (c.span_of-columns.ensures, c.span_of-lines.ensures) (in_image _ _ _ c.args.at.x c.args.at.y _ _ (sym c.overlay_fits.ensures ∙ c.if-not-overlay_fits.false))
