-- The update of all rows and then the overlay give the picture; and what the picture promises of single pixels, for readers.
-- Assumes nothing.
use mathlib.Core.Path.{◌≡◌, sym, ◌∙◌}
use mathlib.Core.Bool.{true, false, cond, ◌&&◌}
use mathlib.Core.List.{List}
use Prim.Native.Nat.{ℕ, ◌*◌, ◌/◌, ◌<◌}
use native.Mathlib.Nat.{mod-lt}
use native.Mathlib.Omega.{arith}
use lib.Dec.{ltb, leb}
use lib.ListN.{length, get_or}
use borrow.Author.Tests.{ltb-true, lt-ltb, le-leb}
use borrow.Table.Steps.{cases}
use Rattle.geometry.specs.Pixels.{row_of, in_rect, in_area, painted}
use Rattle.geometry.proofs.Tests.{both, and_yes, same_bool}
use Rattle.geometry.proofs.Painted.{get_or-painted, is_painted, painted_region, painted_if_lem, refused_if, length-painted_if, outside_if}
use Rattle.geometry.proofs.Cutting.{rect_in}
use Rattle.geometry.specs.Rectangle.{rect}
use Rattle.pixel.specs.Blend.{blend_pixel}
use Rattle.raster.specs.Painters.{rows_fit, updated}
use Rattle.raster.proofs.Cuts.{Fit, rows_fit_lem}
use Rattle.raster.proofs.Laws.{length-updated}
use Rattle.cursor.specs.Plane.{covered, overlay_fits, overlaid}
use Rattle.cursor.proofs.Laws.{length-overlaid}
use Rattle.std.specs.Prelude.{Option, Some, None}
use Rattle.picture.specs.declared.VisibleCursor.{VisibleCursor}
use Rattle.picture.specs.Picture.{covered_by, pixel_over, picture_pixel, composed, lent}

-- the pixels of the whole rectangle are those of the rows
whole_area : (width rows k : ℕ) → 0 < width → in_area width rows (rect 0 0 width rows) k ≡ ltb (row_of width k) rows
unfolding in_area
whole_area width rows k wide =
    same_bool _ _
    (λ e. (both (in_rect width 0 0 width rows k) (ltb (k / width) rows) e).1)
    (λ e.
    let m = mod-lt k wide in
    let b = ltb-true (k / width) rows e in
    and_yes _ _ (rect_in width 0 0 width rows k (record { left = omega arith; right = omega arith; top = omega arith; bottom = omega arith })) e)

-- the output after the update of the whole rectangle
abbrev pub brought : ℕ → ℕ → List ℕ → List ℕ → List ℕ
brought width rows screen old = updated width rows (rect 0 0 width rows) screen old

module _ (width rows : ℕ) (screen image old : List ℕ) where
  -- ---- for readers

  -- no word is added or lost
  pub length-composed : (over : Option VisibleCursor) → length (composed width rows over screen image old) ≡ length old
  unfolding composed
  length-composed over = length-painted_if _ _ _ old

  module _ (over : Option VisibleCursor) (k : ℕ) (there : k < length old) where
    -- the output behind the rows stays
    pub beyond_stays : ltb (row_of width k) rows ≡ false → get_or (composed width rows over screen image old) k 0 ≡ get_or old k 0
    unfolding composed
    beyond_stays off = outside_if _ _ _ old k there off

    module _ (fits : lent width rows screen old ≡ true) (on : ltb (row_of width k) rows ≡ true) where
      row_pixel : get_or (composed width rows over screen image old) k 0 ≡ picture_pixel width rows over screen image k
      unfolding composed
      row_pixel = rw (painted_if_lem _ _ _ old fits) (get_or-painted _ _ old k there ∙ rw on)

      -- in the rows, the screen's pixel where the cursor does not cover it
      pub uncovered_is_screen : covered_by width rows over (length image) k ≡ false → get_or (composed width rows over screen image old) k 0 ≡ get_or screen k 0
      unfolding picture_pixel
      uncovered_is_screen bare = row_pixel ∙ rw bare

      -- and where it does, the cursor's blended over it
      pub covered_is_blended : covered_by width rows over (length image) k ≡ true
          → get_or (composed width rows over screen image old) k 0 ≡ blend_pixel (pixel_over width over image k) (get_or screen k 0)
      unfolding picture_pixel
      covered_is_blended c = row_pixel ∙ rw c

  -- ---- the function: where the rows do not lie in the output or in the screen, with the screen alone, and with the cursor over it

  pub outside_output : rows_fit width rows (length old) ≡ false → (over : Option VisibleCursor) → old ≡ composed width rows over screen image old
  unfolding composed
  outside_output misfit over = sym (refused_if _ _ _ old (rw misfit))

  module _ (in_output : rows_fit width rows (length old) ≡ true) where
    pub outside_screen : rows_fit width rows (length screen) ≡ false → (over : Option VisibleCursor) → old ≡ composed width rows over screen image old
    unfolding composed rows_fit
    outside_screen misfit over =
        let a = both (ltb 0 width && leb width 2560) (leb (width * rows) (length old)) in_output in
        let u : leb (width * rows) (length screen) ≡ false = rw a.0 at misfit in
        sym (refused_if _ _ _ old (rw (in_output, u)))

    module _ (in_screen : rows_fit width rows (length screen) ≡ true) where
      fit : Fit width rows (length old)
      fit = rows_fit_lem width rows (length old) in_output

      fits : lent width rows screen old ≡ true
      fits = and_yes _ _ in_output (le-leb _ _ (rows_fit_lem width rows (length screen) in_screen).long)

      brought_rows : brought width rows screen old ≡ painted (λ k. ltb (row_of width k) rows) (λ k. get_or screen k 0) old
      unfolding updated
      brought_rows = painted_if_lem _ _ _ old fits ∙ painted_region _ _ _ old (λ k h. whole_area width rows k fit.wide)

      pub bare : brought width rows screen old ≡ composed width rows None screen image old
      unfolding composed picture_pixel covered_by
      bare = brought_rows ∙ sym (painted_if_lem _ _ _ old fits)

      module _ (c : VisibleCursor) where
        abbrev was : List ℕ
        was = brought width rows screen old

        abbrev is : List ℕ
        is = overlaid width rows c.shape c.x c.y image was

        -- where the words of the cursor are lent, the rows fit for the overlay too
        overlay_fits_lem : overlay_fits width rows c.shape (length was) (length image) ≡ leb (c.shape.w * c.shape.h) (length image)
        unfolding overlay_fits
        overlay_fits_lem = rw (length-updated, lt-ltb 0 width fit.wide, le-leb (width * rows) (length old) fit.long)

        over_pixel : (k : ℕ) → k < length old
            → get_or is k 0 ≡ cond (ltb (row_of width k) rows) (picture_pixel width rows (Some c) screen image k) (get_or old k 0)
        unfolding overlaid picture_pixel covered_by pixel_over covered
        over_pixel k there =
            let there-too : k < length was = rw length-updated there in
            let e : get_or was k 0 ≡ cond (ltb (k / width) rows) (get_or screen k 0) (get_or old k 0) = rw brought_rows (get_or-painted _ _ old k there) in
            cases (leb (c.shape.w * c.shape.h) (length image))
            (λ t. rw (painted_if_lem _ _ _ was (overlay_fits_lem ∙ t), get_or-painted _ _ was k there-too, e, t) (cases (ltb (k / width) rows) (λ t. rw t) (λ f. rw f)))
            (λ f. rw (refused_if _ _ _ was (overlay_fits_lem ∙ f), e, f))

        pub with_cursor : overlaid width rows c.shape c.x c.y image (brought width rows screen old) ≡ composed width rows (Some c) screen image old
        unfolding composed
        with_cursor =
            is_painted _ _ old is (length-overlaid width rows c.shape c.x c.y image was ∙ length-updated width rows _ screen old) over_pixel
            ∙ sym (painted_if_lem _ _ _ old fits)
