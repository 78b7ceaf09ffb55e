-- What a cut means for pixels: the rectangle that is left has exactly the pixels that lie inside, and nothing is left exactly where there is none.
-- Assumes nothing.
use mathlib.Core.Path.{◌≡◌, refl}
use mathlib.Core.Bool.{true, false, true≢false}
use mathlib.Core.Logic.{◌⊎◌, inl, inr, ⊎_elim}
use Prim.Native.Nat.{ℕ, ◌+◌, ◌-◌, ◌/◌, ◌%◌, ◌≤◌, ◌<◌}
use native.Mathlib.Nat.{mod-lt}
use native.Mathlib.Omega.{arith}
use lib.Dec.{eqb, ltb}
use borrow.Author.Tests.{eqb-true, eqb-false, ne_eqb, ltb-true, lt-ltb}
use borrow.Table.Steps.{cases}
use Rattle.geometry.specs.declared.Rect.{Rect}
use Rattle.std.specs.Prelude.{Some, None}
use Rattle.geometry.specs.Rectangle.{span_below, cut_of, cut_to, cut_copy, rect}
use Rattle.geometry.specs.Pixels.{within, in_rect, in_area, Has, Remains}
use Rattle.geometry.proofs.Tests.{both, and_yes, same_bool, within_in, within_yes}

-- ---- the two answers of a cut, with what each says of the numbers

pub cut_cases : {P : Type 0} (x y w h : ℕ) → (cut_of x y w h ≡ None → (w ≡ 0) ⊎ (h ≡ 0) → P)
    → (cut_of x y w h ≡ Some (rect x y w h) → 0 < w → 0 < h → P) → P
cut_cases x y w h none some =
    cases (eqb w 0)
    (λ t. none (rw t) (inl (eqb-true w 0 t)))
    (λ f. cases (eqb h 0)
    (λ t. none (rw (f, t)) (inr (eqb-true h 0 t)))
    (λ g.
    let u = eqb-false w 0 f in
    let v = eqb-false h 0 g in
    some (rw (f, g)) (omega arith) (omega arith)))

pub cut_rectangle : (x y w h : ℕ) (a : Rect) → cut_of x y w h ≡ Some a → (a ≡ rect x y w h) × (0 < w) × (0 < h)
cut_rectangle x y w h a e =
    cut_cases x y w h (λ n o. absurd (true≢false cc)) (λ r p q. (cc, p, q))

pub cut_nothing : (x y w h : ℕ) → cut_of x y w h ≡ None → (w ≡ 0) ⊎ (h ≡ 0)
cut_nothing x y w h e = cut_cases x y w h (λ n o. o) (λ r p q. absurd (true≢false cc))

cut_some : (x y w h : ℕ) → 0 < w → 0 < h → cut_of x y w h ≡ Some (rect x y w h)
cut_some x y w h p q = rw (ne_eqb w 0 (λ e. omega arith), ne_eqb h 0 (λ e. omega arith))

-- ---- pixels

pub in_rect_lem : (width x y w h k : ℕ) → in_rect width x y w h k ≡ true → Has x y w h (k % width) (k / width)
unfolding in_rect
in_rect_lem width x y w h k e =
    let b = both (within x w (k % width)) (within y h (k / width)) e in
    let c = within_in x w (k % width) b.0 in
    let r = within_in y h (k / width) b.1 in
    record { left = c.0; right = c.1; top = r.0; bottom = r.1 }

pub rect_in : (width x y w h k : ℕ) → Has x y w h (k % width) (k / width) → in_rect width x y w h k ≡ true
unfolding in_rect
rect_in width x y w h k i = and_yes _ _ (within_yes x w (k % width) i.left i.right) (within_yes y h (k / width) i.top i.bottom)

pub in_none : (width x y w h k : ℕ) → (w ≡ 0) ⊎ (h ≡ 0) → in_rect width x y w h k ≡ false
in_none width x y w h k o =
    cases (in_rect width x y w h k)
    (λ t. let i = in_rect_lem width x y w h k t in ⊎_elim (λ (e : w ≡ 0). absurd (omega arith)) (λ (e : h ≡ 0). absurd (omega arith)) o)
    (λ f. f)

-- the pixels of a rectangle in the rows are those of the cut rectangle
pub area_cut : (width rows : ℕ) (r : Rect) (k : ℕ) → 0 < width
    → in_area width rows r k ≡ in_rect width r.x r.y (span_below width r.x r.w) (span_below rows r.y r.h) k
unfolding in_area
area_cut width rows r k pos =
    let m = mod-lt k pos in
    same_bool _ _
    (λ e.
    let b = both (in_rect width r.x r.y r.w r.h k) (ltb (k / width) rows) e in
    let i = in_rect_lem width r.x r.y r.w r.h k b.0 in
    let t = ltb-true (k / width) rows b.1 in
    rect_in width r.x r.y _ _ k (record { left = i.left; right = omega arith; top = i.top; bottom = omega arith }))
    (λ e.
    let i = in_rect_lem width r.x r.y (span_below width r.x r.w) (span_below rows r.y r.h) k e in
    and_yes _ _ (rect_in width r.x r.y r.w r.h k (record { left = i.left; right = omega arith; top = i.top; bottom = omega arith }))
    (lt-ltb (k / width) rows (omega arith)))

-- ---- for readers

-- nothing is left exactly when no pixel remains
pub nothing_left : (r : Rect) (width rows : ℕ)
    → (cut_to r width rows ≡ None → (px py : ℕ) → Remains r width rows px py → ⊥)
    × (((px py : ℕ) → Remains r width rows px py → ⊥) → cut_to r width rows ≡ None)
unfolding cut_to
nothing_left r width rows =
    let w = span_below width r.x r.w in
    let h = span_below rows r.y r.h in
    cut_cases r.x r.y w h
    (λ n o. (λ _ px py p. ⊎_elim (λ (e : w ≡ 0). omega arith) (λ (e : h ≡ 0). omega arith) o, λ _. n))
    (λ e p q. (
      λ n. absurd (true≢false cc),
      λ no. absurd (no r.x r.y (record {
        has = record { left = omega arith; right = omega arith; top = omega arith; bottom = omega arith };
        across = omega arith;
        down = omega arith;
      })),
    ))

-- what is left has exactly the pixels that remain
pub cut_pixels : (r a : Rect) (width rows px py : ℕ) → cut_to r width rows ≡ Some a
    → (Has a.x a.y a.w a.h px py → Remains r width rows px py) × (Remains r width rows px py → Has a.x a.y a.w a.h px py)
unfolding cut_to
cut_pixels r a width rows px py e =
    let s = cut_rectangle r.x r.y (span_below width r.x r.w) (span_below rows r.y r.h) a e in
    rw s.0 (
      λ i. record { has = record { left = omega arith; right = omega arith; top = omega arith; bottom = omega arith }; across = omega arith; down = omega arith },
      λ i. record { left = omega arith; right = omega arith; top = omega arith; bottom = omega arith },
    )

-- cutting twice is cutting once
pub cut_again : (r a : Rect) (width rows : ℕ) → cut_to r width rows ≡ Some a → cut_to a width rows ≡ Some a
unfolding cut_to
cut_again r a width rows e =
    let w = span_below width r.x r.w in
    let h = span_below rows r.y r.h in
    let s = cut_rectangle r.x r.y w h a e in
    let u : span_below width r.x w ≡ w = omega arith in
    let v : span_below rows r.y h ≡ h = omega arith in
    rw (s.0, u, v) (cut_some r.x r.y w h s.1 s.2)

-- a rectangle that begins inside and reaches the edge or beyond, as whole numbers, however far, is cut at the edge: a wide bar does not vanish
pub wide_bar : (r : Rect) (width rows : ℕ) → r.x < width → width ≤ r.x + r.w → r.y < rows → rows ≤ r.y + r.h
    → cut_to r width rows ≡ Some (rect r.x r.y (width - r.x) (rows - r.y))
unfolding cut_to
wide_bar r width rows a b c d =
    let w : span_below width r.x r.w ≡ width - r.x = omega arith in
    let h : span_below rows r.y r.h ≡ rows - r.y = omega arith in
    rw (w, h) (cut_some r.x r.y (width - r.x) (rows - r.y) (omega arith) (omega arith))

-- the same with numbers whose sums pass 2 ^ 32
pub wide_bar_example : cut_to (rect 1 2 4294967295 4294967295) 640 480 ≡ Some (rect 1 2 639 478)
unfolding cut_to
wide_bar_example = refl

-- a copy's offset (i, j) is left exactly if it is one of the rectangle's, and its source and its destination lie in the rows
pub record Moves (sx sy : ℕ) (r : Rect) (width rows i j : ℕ) : Type 0 where
  pub wide : i < r.w
  pub high : j < r.h
  pub across : r.x + i < width
  pub down : r.y + j < rows
  pub source_across : sx + i < width
  pub source_down : sy + j < rows

pub copy_pixels : (sx sy : ℕ) (r a : Rect) (width rows i j : ℕ) → cut_copy sx sy r width rows ≡ Some a
    → ((i < a.w) × (j < a.h) → Moves sx sy r width rows i j) × (Moves sx sy r width rows i j → (i < a.w) × (j < a.h))
unfolding cut_copy
copy_pixels sx sy r a width rows i j e =
    let w = span_below width r.x r.w in
    let h = span_below rows r.y r.h in
    let s = cut_rectangle r.x r.y (span_below width sx w) (span_below rows sy h) a e in
    rw s.0 (
      λ b. record { wide = omega arith; high = omega arith; across = omega arith; down = omega arith; source_across = omega arith; source_down = omega arith },
      λ m. (omega arith, omega arith),
    )

pub copy_nothing_left : (sx sy : ℕ) (r : Rect) (width rows : ℕ)
    → (cut_copy sx sy r width rows ≡ None → (i j : ℕ) → Moves sx sy r width rows i j → ⊥)
    × (((i j : ℕ) → Moves sx sy r width rows i j → ⊥) → cut_copy sx sy r width rows ≡ None)
unfolding cut_copy
copy_nothing_left sx sy r width rows =
    let w = span_below width sx (span_below width r.x r.w) in
    let h = span_below rows sy (span_below rows r.y r.h) in
    cut_cases r.x r.y w h
    (λ n o. (λ _ i j m. ⊎_elim (λ (e : w ≡ 0). omega arith) (λ (e : h ≡ 0). omega arith) o, λ _. n))
    (λ e p q. (
      λ n. absurd (true≢false cc),
      λ no. absurd (no 0 0 (record { wide = omega arith; high = omega arith; across = omega arith; down = omega arith; source_across = omega arith; source_down = omega arith })),
    ))
