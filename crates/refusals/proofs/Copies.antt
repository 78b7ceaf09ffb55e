-- Demand 2's copy rule on a device: "In a copy, offset (i, j) moves exactly if both its source and its destination pixel lie in the mode", where, by document
-- 02, P5, "Demand 2's copy rule reads 'in the mode or offscreen' for both pixels".
-- Assumes nothing.
use Rattle.std.proofs.Common.{◌≡◌, ◌∙◌, true, ◌&&◌, List, ℕ, ◌<◌, length, get_or}
use borrow.Table.Steps.{cases}
use Rattle.geometry.specs.declared.Rect.{Rect}
use Rattle.geometry.specs.Pixels.{place_of, column_of, row_of, in_rect}
use Rattle.geometry.proofs.Tests.{both}
use Rattle.geometry.proofs.Cutting.{in_rect_lem, rect_in}
use Rattle.pixel.specs.RasterOperation.{raster_op}
use Rattle.ring.specs.declared.Ring.{Ring}
use Rattle.geometry.specs.declared.Point.{Point}
use Rattle.command.specs.declared.Action.TheVariants.{Copy}
use Rattle.effect.specs.Effects.{rows_in, screen_after}
use Rattle.effect.proofs.Reach as Reach
use Rattle.device.specs.declared.Device.{Device}
use Rattle.device.specs.Device.{pixels_of, width_of, well_formed}
use Rattle.device.proofs.Laws.{well_formed_lem, rows_fit_lem}
use Rattle.offscreen.specs.Offscreen.{joined}
use Rattle.device_run.specs.Run.{Lent, scene_for}
use Rattle.refusals.specs.Refusing.{source_x, source_y, CopyMoves}

-- A copy from (sx, sy) into the rectangle, on a lent screen of P words: what is at place k then.
module _ (d : Device) (l : Lent) (g : Ring) (from : Point) (r : Rect) (rop : ℕ) (screen : List ℕ) (k : ℕ) where
  module _ (good : well_formed d ≡ true) (long : length screen ≡ pixels_of d) (there : k < pixels_of d) where
    rows_lie : rows_in (scene_for d l g) screen ≡ true
    rows_lie = rw long (rows_fit_lem d (well_formed_lem d good))

    -- an offset that moves leaves the operation of its source and of what stood at its destination, both of the old screen
    pub copy_moves : CopyMoves d from r k
        → get_or (screen_after (scene_for d l g) (Copy from r rop) screen) k 0
        ≡ raster_op rop (get_or screen (place_of (width_of d) (source_x d from r k) (source_y d from r k)) 0) (get_or screen k 0)
    copy_moves m =
        Reach.copy_moves (scene_for d l g) from r rop screen k rows_lie (rw long there)
        ∙ rw (rect_in (width_of d) r.x r.y r.w r.h k m.0, m.1, m.2)

    -- and one that does not leaves what stood there
    pub copy_stays : (¬ CopyMoves d from r k) → get_or (screen_after (scene_for d l g) (Copy from r rop) screen) k 0 ≡ get_or screen k 0
    copy_stays n =
        Reach.copy_moves (scene_for d l g) from r rop screen k rows_lie (rw long there)
        ∙ (cases (in_rect (width_of d) r.x r.y r.w r.h k && joined d (column_of (width_of d) k) (row_of (width_of d) k) && joined d (source_x d from r k) (source_y d from r k))
        (λ t.
        let a = both _ (joined d (source_x d from r k) (source_y d from r k)) t in
        let b = both (in_rect (width_of d) r.x r.y r.w r.h k) (joined d (column_of (width_of d) k) (row_of (width_of d) k)) a.0 in
        absurd (n (in_rect_lem (width_of d) r.x r.y r.w r.h k b.0, b.1, a.1)))
        (λ f. rw f))
