-- A painter of the whole rectangle is the painter of what the cut leaves.
-- Assumes nothing.
use mathlib.Core.Path.{◌≡◌, refl, sym, ◌∙◌}
use mathlib.Core.Bool.{true, false, ◌&&◌}
use mathlib.Core.List.{List}
use Prim.Native.Nat.{ℕ, ◌+◌, ◌-◌, ◌*◌, ◌/◌, ◌%◌, ◌≤◌, ◌<◌}
use native.Mathlib.Nat.{mod-lt}
use native.Mathlib.Omega.{arith}
use lib.Dec.{ltb, leb}
use lib.ListN.{length}
use borrow.Author.Tests.{ltb-true, leb-true, lt-ltb, le-leb}
use Rattle.geometry.specs.declared.Rect.{Rect}
use Rattle.std.specs.Prelude.{Some, None}
use Rattle.geometry.specs.Rectangle.{span_below, cut_to, cut_copy}
use Rattle.geometry.specs.Pixels.{in_rect, in_area}
use Rattle.geometry.specs.Parts.{Inside}
use Rattle.geometry.proofs.Tests.{both, and_yes, same_bool}
use Rattle.geometry.proofs.Painted.{painted_same, painted_region, none_painted, painted_if_lem, refused_if}
use Rattle.geometry.proofs.Rows.{inside}
use Rattle.geometry.proofs.Cutting.{cut_rectangle, cut_nothing, in_rect_lem, rect_in, in_none, area_cut}
use Rattle.raster.specs.Painters.{rows_fit, filled_in, filled, updated, moves, copied_in, copied}
use Rattle.raster.specs.CutPainters.{filled_by, filled_cut, updated_cut, copied_by, copied_cut}

pub record Fit (width rows n : ℕ) : Type 0 where
  pub wide : 0 < width
  pub narrow : width ≤ 2560
  pub long : width * rows ≤ n

pub rows_fit_lem : (width rows n : ℕ) → rows_fit width rows n ≡ true → Fit width rows n
unfolding rows_fit
rows_fit_lem width rows n e =
    let a = both (ltb 0 width && leb width 2560) (leb (width * rows) n) e in
    let b = both (ltb 0 width) (leb width 2560) a.0 in
    record { wide = ltb-true 0 width b.0; narrow = leb-true width 2560 b.1; long = leb-true (width * rows) n a.1 }

-- ---- where

module _ (width rows : ℕ) (r a : Rect) (is : cut_to r width rows ≡ Some a) where
  pub cut_inside : (n : ℕ) → width * rows ≤ n → Inside width a.x a.y a.w a.h n
  unfolding cut_to
  cut_inside n long =
      let s = cut_rectangle r.x r.y (span_below width r.x r.w) (span_below rows r.y r.h) a is in
      rw s.0 (inside width rows r.x r.y (span_below width r.x r.w) (span_below rows r.y r.h) n (omega arith) (omega arith) long)

  pub area_rectangle : 0 < width → (k : ℕ) → in_rect width a.x a.y a.w a.h k ≡ in_area width rows r k
  unfolding cut_to
  area_rectangle pos k =
      let s = cut_rectangle r.x r.y (span_below width r.x r.w) (span_below rows r.y r.h) a is in
      rw s.0 (sym (area_cut width rows r k pos))

pub area_nothing : (width rows : ℕ) (r : Rect) → cut_to r width rows ≡ None → 0 < width → (k : ℕ) → in_area width rows r k ≡ false
unfolding cut_to
area_nothing width rows r is pos k =
    area_cut width rows r k pos ∙ in_none width r.x r.y _ _ k (cut_nothing r.x r.y _ _ is)

-- the places that a copy moves are those of its cut rectangle
moves_cut : (width rows sx sy : ℕ) (r : Rect) (k : ℕ) → 0 < width
    → moves width rows sx sy r k
    ≡ in_rect width r.x r.y (span_below width sx (span_below width r.x r.w)) (span_below rows sy (span_below rows r.y r.h)) k
unfolding moves
moves_cut width rows sx sy r k pos =
    let m = mod-lt k pos in
    let w = span_below width r.x r.w in
    let h = span_below rows r.y r.h in
    rw (area_cut width rows r k pos) (same_bool _ _
    (λ e.
    let b = both (in_rect width r.x r.y w h k) (ltb (sx + (k % width - r.x)) width && ltb (sy + (k / width - r.y)) rows) e in
    let i = in_rect_lem width r.x r.y w h k b.0 in
    let c = both (ltb (sx + (k % width - r.x)) width) (ltb (sy + (k / width - r.y)) rows) b.1 in
    let cx = ltb-true (sx + (k % width - r.x)) width c.0 in
    let cy = ltb-true (sy + (k / width - r.y)) rows c.1 in
    rect_in width r.x r.y (span_below width sx w) (span_below rows sy h) k
    (record { left = i.left; right = omega arith; top = i.top; bottom = omega arith }))
    (λ e.
    let i = in_rect_lem width r.x r.y (span_below width sx w) (span_below rows sy h) k e in
    and_yes _ _ (rect_in width r.x r.y w h k (record { left = i.left; right = omega arith; top = i.top; bottom = omega arith }))
    (and_yes _ _ (lt-ltb (sx + (k % width - r.x)) width (omega arith)) (lt-ltb (sy + (k / width - r.y)) rows (omega arith)))))

module _ (width rows sx sy : ℕ) (r a : Rect) (is : cut_copy sx sy r width rows ≡ Some a) where
  pub copy_inside : (n : ℕ) → width * rows ≤ n → Inside width a.x a.y a.w a.h n × Inside width sx sy a.w a.h n
  unfolding cut_copy
  copy_inside n long =
      let w = span_below width sx (span_below width r.x r.w) in
      let h = span_below rows sy (span_below rows r.y r.h) in
      let s = cut_rectangle r.x r.y w h a is in
      rw s.0 (inside width rows r.x r.y w h n (omega arith) (omega arith) long, inside width rows sx sy w h n (omega arith) (omega arith) long)

  pub moves_rectangle : 0 < width → (k : ℕ) → in_rect width a.x a.y a.w a.h k ≡ moves width rows sx sy r k
  unfolding cut_copy
  moves_rectangle pos k =
      let s = cut_rectangle r.x r.y (span_below width sx (span_below width r.x r.w)) (span_below rows sy (span_below rows r.y r.h)) a is in
      rw s.0 (sym (moves_cut width rows sx sy r k pos))

  pub copy_corner : (a.x ≡ r.x) × (a.y ≡ r.y)
  unfolding cut_copy
  copy_corner =
      let s = cut_rectangle r.x r.y (span_below width sx (span_below width r.x r.w)) (span_below rows sy (span_below rows r.y r.h)) a is in
      rw s.0 (refl, refl)

pub moves_nothing : (width rows sx sy : ℕ) (r : Rect) → cut_copy sx sy r width rows ≡ None → 0 < width → (k : ℕ) → moves width rows sx sy r k ≡ false
unfolding cut_copy
moves_nothing width rows sx sy r is pos k =
    moves_cut width rows sx sy r k pos ∙ in_none width r.x r.y _ _ k (cut_nothing r.x r.y _ _ is)

-- ---- the painters: refused, with nothing left, and at the cut rectangle

module _ (width rows : ℕ) (r : Rect) (colour rop : ℕ) (old : List ℕ) where
  pub fill_refused : rows_fit width rows (length old) ≡ false → old ≡ filled width rows r colour rop old
  unfolding filled filled_in
  fill_refused misfit = sym (refused_if _ _ _ old misfit)

  pub fill_nothing : rows_fit width rows (length old) ≡ true → cut_to r width rows ≡ None → old ≡ filled width rows r colour rop old
  unfolding filled filled_in
  fill_nothing fit is =
      sym (painted_if_lem _ _ _ old fit ∙ none_painted _ _ old (λ k h. area_nothing width rows r is (rows_fit_lem width rows _ fit).wide k))

  pub fill_cut : (a : Rect) → rows_fit width rows (length old) ≡ true → cut_to r width rows ≡ Some a
      → filled_cut width a colour rop old ≡ filled width rows r colour rop old
  unfolding filled filled_in filled_by
  fill_cut a fit is =
      painted_region _ _ _ old (λ k h. area_rectangle width rows r a is (rows_fit_lem width rows _ fit).wide k) ∙ sym (painted_if_lem _ _ _ old fit)

module _ (width rows : ℕ) (r : Rect) (framebuffer old : List ℕ) where
  pub update_refused : rows_fit width rows (length old) ≡ false → old ≡ updated width rows r framebuffer old
  unfolding updated
  update_refused misfit = sym (refused_if _ _ _ old (rw misfit))

  both_fit : rows_fit width rows (length old) ≡ true → rows_fit width rows (length framebuffer) ≡ true
      → rows_fit width rows (length old) && leb (width * rows) (length framebuffer) ≡ true
  both_fit fit lent = and_yes _ _ fit (le-leb _ _ (rows_fit_lem width rows _ lent).long)

  pub update_unlent : rows_fit width rows (length old) ≡ true → rows_fit width rows (length framebuffer) ≡ false → old ≡ updated width rows r framebuffer old
  unfolding updated rows_fit
  update_unlent fit unlent =
      let a = both (ltb 0 width && leb width 2560) (leb (width * rows) (length old)) fit in
      let u : leb (width * rows) (length framebuffer) ≡ false = rw a.0 at unlent in
      sym (refused_if _ _ _ old (rw (fit, u)))

  pub update_nothing : rows_fit width rows (length old) ≡ true → rows_fit width rows (length framebuffer) ≡ true → cut_to r width rows ≡ None
      → old ≡ updated width rows r framebuffer old
  unfolding updated
  update_nothing fit lent-too is =
      sym (painted_if_lem _ _ _ old (both_fit fit lent-too) ∙ none_painted _ _ old (λ k h. area_nothing width rows r is (rows_fit_lem width rows _ fit).wide k))

  pub update_cut : (a : Rect) → rows_fit width rows (length old) ≡ true → rows_fit width rows (length framebuffer) ≡ true → cut_to r width rows ≡ Some a
      → updated_cut width a framebuffer old ≡ updated width rows r framebuffer old
  unfolding updated updated_cut
  update_cut a fit lent-too is =
      painted_region _ _ _ old (λ k h. area_rectangle width rows r a is (rows_fit_lem width rows _ fit).wide k) ∙ sym (painted_if_lem _ _ _ old (both_fit fit lent-too))

module _ (width rows sx sy : ℕ) (r : Rect) (rop : ℕ) (old : List ℕ) where
  pub copy_refused : rows_fit width rows (length old) ≡ false → old ≡ copied width rows sx sy r rop old
  unfolding copied copied_in
  copy_refused misfit = sym (refused_if _ _ _ old misfit)

  pub copy_nothing : rows_fit width rows (length old) ≡ true → cut_copy sx sy r width rows ≡ None → old ≡ copied width rows sx sy r rop old
  unfolding copied copied_in
  copy_nothing fit is =
      sym (painted_if_lem _ _ _ old fit ∙ none_painted _ _ old (λ k h. moves_nothing width rows sx sy r is (rows_fit_lem width rows _ fit).wide k))

  pub copy_cut : (a : Rect) → rows_fit width rows (length old) ≡ true → cut_copy sx sy r width rows ≡ Some a
      → copied_cut width sx sy a rop old ≡ copied width rows sx sy r rop old
  unfolding copied copied_in copied_by
  copy_cut a fit is =
      let corner = copy_corner width rows sx sy r a is in
      painted_region _ _ _ old (λ k h. moves_rectangle width rows sx sy r a is (rows_fit_lem width rows _ fit).wide k)
      ∙ painted_same _ _ _ old (λ k h t. rw (corner.0, corner.1))
      ∙ sym (painted_if_lem _ _ _ old fit)
