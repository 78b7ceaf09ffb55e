-- What the painters promise of single pixels, for readers and for the layers above.
-- Assumes nothing.
use mathlib.Core.Path.{◌≡◌, sym, ◌∙◌}
use mathlib.Core.Bool.{true, false, ◌&&◌}
use mathlib.Core.List.{List}
use Prim.Native.Nat.{ℕ, ◌*◌, ◌^◌, ◌≤◌, ◌<◌}
use lib.Dec.{leb}
use lib.ListN.{length, get_or}
use borrow.Table.Steps.{cases}
use Rattle.geometry.specs.declared.Rect.{Rect}
use Rattle.geometry.specs.Pixels.{place_of, in_area}
use Rattle.geometry.proofs.Painted.{get_or-painted, painted_same, painted_if_lem, refused_if, length-painted_if, outside_if, same_if}
use Rattle.pixel.proofs.Laws.{copy_stores_source, no_operation}
use Rattle.raster.specs.Painters.{rows_fit, filled_in, filled, updated, source_column, source_row, moves, copied_in, copied}

-- ---- no word is added or lost

pub length-filled : (width rows : ℕ) (r : Rect) (colour rop : ℕ) (old : List ℕ) → length (filled width rows r colour rop old) ≡ length old
unfolding filled filled_in
length-filled width rows r colour rop old = length-painted_if _ _ _ old

pub length-updated : (width rows : ℕ) (r : Rect) (framebuffer old : List ℕ) → length (updated width rows r framebuffer old) ≡ length old
unfolding updated
length-updated width rows r framebuffer old = length-painted_if _ _ _ old

pub length-copied : (width rows sx sy : ℕ) (r : Rect) (rop : ℕ) (old : List ℕ) → length (copied width rows sx sy r rop old) ≡ length old
unfolding copied copied_in
length-copied width rows sx sy r rop old = length-painted_if _ _ _ old

-- ---- "No pixel outside the cut destination changes"

module _ (width rows : ℕ) (r : Rect) (old : List ℕ) (k : ℕ) (there : k < length old) where
  pub fill_outside : (colour rop : ℕ) → in_area width rows r k ≡ false → get_or (filled width rows r colour rop old) k 0 ≡ get_or old k 0
  unfolding filled filled_in
  fill_outside colour rop off = outside_if _ _ _ old k there off

  pub update_outside : (framebuffer : List ℕ) → in_area width rows r k ≡ false → get_or (updated width rows r framebuffer old) k 0 ≡ get_or old k 0
  unfolding updated
  update_outside framebuffer off = outside_if _ _ _ old k there off

  pub copy_outside : (sx sy rop : ℕ) → moves width rows sx sy r k ≡ false → get_or (copied width rows sx sy r rop old) k 0 ≡ get_or old k 0
  unfolding copied copied_in
  copy_outside sx sy rop off = outside_if _ _ _ old k there off

  -- ---- operation 3 stores the source

  pub plain_fill : (colour : ℕ) → rows_fit width rows (length old) ≡ true → in_area width rows r k ≡ true → colour < 2 ^ 32 → get_or old k 0 < 2 ^ 32
      → get_or (filled width rows r colour 3 old) k 0 ≡ colour
  unfolding filled filled_in
  plain_fill colour fits on hc hd = rw (painted_if_lem _ _ _ old fits) (get_or-painted _ _ old k there ∙ rw on (copy_stores_source colour (get_or old k 0) hc hd))

  pub plain_copy : (sx sy : ℕ) → rows_fit width rows (length old) ≡ true → moves width rows sx sy r k ≡ true → ((i : ℕ) → get_or old i 0 < 2 ^ 32)
      → get_or (copied width rows sx sy r 3 old) k 0 ≡ get_or old (place_of width (source_column width sx r.x k) (source_row width sy r.y k)) 0
  unfolding copied copied_in
  plain_copy sx sy fits on words = rw (painted_if_lem _ _ _ old fits) (get_or-painted _ _ old k there ∙ rw on (copy_stores_source _ (get_or old k 0) (words _) (words k)))

-- ---- a number above 15 is no operation

pub fill_no_operation : (width rows : ℕ) (r : Rect) (colour rop : ℕ) (old : List ℕ) → 16 ≤ rop → filled width rows r colour rop old ≡ old
unfolding filled filled_in
fill_no_operation width rows r colour rop old h = same_if _ _ _ old (λ k _. no_operation rop colour (get_or old k 0) h)

pub copy_no_operation : (width rows sx sy : ℕ) (r : Rect) (rop : ℕ) (old : List ℕ) → 16 ≤ rop → copied width rows sx sy r rop old ≡ old
unfolding copied copied_in
copy_no_operation width rows sx sy r rop old h = same_if _ _ _ old (λ k _. no_operation rop _ (get_or old k 0) h)

-- ---- equal sources give equal results: framebuffers that agree in the rectangle, whatever else they hold

pub update_same : (width rows : ℕ) (r : Rect) (f g old : List ℕ) → length f ≡ length g
    → ((k : ℕ) → k < length old → in_area width rows r k ≡ true → get_or f k 0 ≡ get_or g k 0) → updated width rows r f old ≡ updated width rows r g old
unfolding updated
update_same width rows r f g old e each =
    cases (rows_fit width rows (length old) && leb (width * rows) (length g))
    (λ t. rw e (painted_if_lem _ _ _ old t ∙ painted_same _ _ _ old each ∙ sym (painted_if_lem _ _ _ old t)))
    (λ n. rw e (refused_if _ _ _ old n ∙ sym (refused_if _ _ _ old n)))
