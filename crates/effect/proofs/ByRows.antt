-- A scene by rows, as the code has it: fills and copies leave there what the painters of `raster` do in these rows. Document 02, P5.
-- Assumes nothing.
use mathlib.Core.Path.{◌≡◌, sym, ap, ◌∙◌}
use mathlib.Core.Bool.{Bool, true, ◌&&◌}
use mathlib.Core.List.{List}
use Prim.Native.Nat.{ℕ, ◌%◌, ◌<◌}
use native.Mathlib.Nat.{mod-lt}
use lib.Dec.{ltb}
use borrow.Author.Tests.{lt-ltb}
use borrow.Table.Steps.{cases}
use Rattle.geometry.specs.declared.Frame.{Frame}
use Rattle.geometry.specs.declared.Rect.{Rect}
use Rattle.geometry.specs.Pixels.{in_area, painted_if}
use Rattle.geometry.proofs.Painted.{painted_region, painted_if_lem, refused_if}
use Rattle.raster.specs.Painters.{filled_in, filled, source_column, source_row, moves, copied_in, copied}
use Rattle.raster.proofs.Cuts.{rows_fit_lem}
use Rattle.geometry.specs.declared.Point.{Point}
use Rattle.command.specs.declared.Action.TheVariants.{Fill, Copy}
use Rattle.effect.specs.Effects.{Scene, scene, reached, copies, screen_after}

-- a painter that may be refused is the same at the same places
region_if : (fits : Bool) (R Q : ℕ → Bool) (new : ℕ → ℕ) (old : List ℕ) → (fits ≡ true → (k : ℕ) → R k ≡ Q k)
    → painted_if fits R new old ≡ painted_if fits Q new old
region_if fits R Q new old same =
    cases fits
    (λ t. painted_if_lem fits R new old t ∙ painted_region R Q new old (λ k h. same t k) ∙ sym (painted_if_lem fits Q new old t))
    (λ f. refused_if fits R new old f ∙ sym (refused_if fits Q new old f))

module _ (f : Frame) (framebuffer : List ℕ) (posts : Bool) (r : Rect) where
  abbrev by_rows : Scene
  by_rows = scene f framebuffer posts

  -- a place's column is below the width anyhow
  in_area_lem : 0 < f.width → (k : ℕ) → reached by_rows r k ≡ in_area f.width f.rows r k
  unfolding reached in_area
  in_area_lem wide k = rw (lt-ltb (k % f.width) f.width (mod-lt k wide))

  moving : (from : Point) → 0 < f.width → (k : ℕ) → copies by_rows from r k ≡ moves f.width f.rows from.x from.y r k
  unfolding copies moves
  moving from wide k =
      ap
      (λ (t : Bool).
      t
      && (ltb (source_column f.width from.x r.x k) f.width && ltb (source_row f.width from.y r.y k) f.rows))
      (in_area_lem wide k)

  pub fill_by_rows : (colour rop : ℕ) (screen : List ℕ)
      → screen_after by_rows (Fill r colour rop) screen ≡ filled f.width f.rows r colour rop screen
  unfolding screen_after filled_in filled
  fill_by_rows colour rop screen = region_if _ _ _ _ screen (λ t. in_area_lem (rows_fit_lem _ _ _ t).wide)

  pub copy_by_rows : (from : Point) (rop : ℕ) (screen : List ℕ)
      → screen_after by_rows (Copy from r rop) screen ≡ copied f.width f.rows from.x from.y r rop screen
  unfolding screen_after copied_in copied
  copy_by_rows from rop screen = region_if _ _ _ _ screen (λ t. moving from (rows_fit_lem _ _ _ t).wide)
