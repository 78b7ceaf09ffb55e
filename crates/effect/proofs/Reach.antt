-- How far an executed command reaches in the screen: an update the mode, fills and copies what is in the mode or offscreen, the others nothing.
-- Document 02, P5.
-- Assumes nothing.
use mathlib.Core.Path.{◌≡◌, refl, sym, ◌∙◌}
use mathlib.Core.Bool.{Bool, true, false, cond, ◌&&◌}
use mathlib.Core.List.{List}
use Prim.Native.Nat.{ℕ, ◌*◌, ◌/◌, ◌≤◌, ◌<◌}
use native.Mathlib.Nat.{mul_comm, mod-lt, le-div_iff_mul-le}
use lib.Dec.{ltb}
use lib.ListN.{length, get_or, get_or-eq_default}
use borrow.Author.Tests.{ltb-true, ltb-false, lt-ltb, le-ltb}
use borrow.Table.Steps.{cases}
use Rattle.geometry.specs.declared.Rect.{Rect}
use Rattle.geometry.specs.Pixels.{place_of, column_of, row_of, in_rect, in_area}
use Rattle.geometry.proofs.Tests.{not_both}
use Rattle.geometry.proofs.Painted.{get_or-painted, painted_if_lem, length-painted_if, outside_if}
use Rattle.pixel.specs.RasterOperation.{raster_op}
use Rattle.raster.specs.Painters.{filled_in, source_column, source_row, copied_in}
use Rattle.raster.proofs.Laws.{length-updated, update_outside}
use Rattle.geometry.specs.declared.Point.{Point}
use Rattle.command.specs.declared.Action.{Action}
use Rattle.command.specs.declared.Action.TheVariants.{Update, Fill, Copy, Define, Fence, Nothing}
use Rattle.effect.specs.Effects.{Scene, reached, copies, rows_in, Paints, screen_after}

-- no word of the screen is added or lost
pub screen_length : (s : Scene) (a : Action) (screen : List ℕ) → length (screen_after s a screen) ≡ length screen
unfolding screen_after filled_in copied_in
screen_length s (Update r) screen = length-updated s.width s.height r s.framebuffer screen
screen_length s (Fill r colour rop) screen = length-painted_if _ _ _ screen
screen_length s (Copy from r rop) screen = length-painted_if _ _ _ screen
screen_length s (Define shape) screen = refl
screen_length s (Fence number) screen = refl
screen_length s Nothing screen = refl

-- places from width·rows on are in none of the rows
pub beyond_rows : (width rows k : ℕ) → 0 < width → width * rows ≤ k → ltb (k / width) rows ≡ false
beyond_rows width rows k wide h = le-ltb (k / width) rows ((le-div_iff_mul-le wide).1 (rw (mul_comm rows width) h))

-- ---- "No pixel outside the cut destination changes"

-- whether the pixel at place k is in the mode or offscreen
abbrev pub joined_at : Scene → ℕ → Bool
joined_at s k = s.joined (column_of s.width k) (row_of s.width k)

-- the pixel at place k is one that an action cannot paint, whatever its rectangle
abbrev Outside : Scene → ℕ → Action → Type 0
Outside s k (Update r) = ltb (row_of s.width k) s.height ≡ false
Outside s k (Fill r colour rop) = joined_at s k ≡ false
Outside s k (Copy from r rop) = joined_at s k ≡ false
Outside s k (Define shape) = Unit {0}
Outside s k (Fence number) = Unit {0}
Outside s k Nothing = Unit {0}

and_no : (a b : Bool) → b ≡ false → a && b ≡ false
and_no true b e = e
and_no false b e = refl

module _ (s : Scene) (screen : List ℕ) (k : ℕ) where
  unreached : (r : Rect) → joined_at s k ≡ false → reached s r k ≡ false
  unfolding reached
  unreached r out = and_no (in_rect s.width r.x r.y r.w r.h k) (joined_at s k) out

  unmoved : (from : Point) (r : Rect) → joined_at s k ≡ false → copies s from r k ≡ false
  unfolding copies
  unmoved from r out = rw (unreached r out)

  not_updated : (r : Rect) → ltb (row_of s.width k) s.height ≡ false → in_area s.width s.height r k ≡ false
  unfolding in_area
  not_updated r out = and_no (in_rect s.width r.x r.y r.w r.h k) _ out

  screen_there : (a : Action) → Outside s k a → k < length screen → get_or (screen_after s a screen) k 0 ≡ get_or screen k 0
  unfolding screen_after filled_in copied_in
  screen_there (Update r) out l = update_outside s.width s.height r screen k l s.framebuffer (not_updated r out)
  screen_there (Fill r colour rop) out l = outside_if _ _ _ screen k l (unreached r out)
  screen_there (Copy from r rop) out l = outside_if _ _ _ screen k l (unmoved from r out)
  screen_there (Define shape) out l = refl
  screen_there (Fence number) out l = refl
  screen_there Nothing out l = refl

  screen_outside : (a : Action) → Outside s k a → get_or (screen_after s a screen) k 0 ≡ get_or screen k 0
  screen_outside a out =
      cases (ltb k (length screen))
      (λ t. screen_there a out (ltb-true k (length screen) t))
      (λ f.
      let l : length screen ≤ k = ltb-false k (length screen) f in
      get_or-eq_default (screen_after s a screen) 0 (rw (screen_length s a screen) l) ∙ sym (get_or-eq_default screen 0 l))

-- but for fills and copies no action paints behind the mode's rows
outside_mode : (s : Scene) (k : ℕ) (a : Action) → (Paints a → ⊥) → ltb (row_of s.width k) s.height ≡ false → Outside s k a
outside_mode s k (Update r) other out = out
outside_mode s k (Fill r colour rop) other out = absurd (other tt)
outside_mode s k (Copy from r rop) other out = absurd (other tt)
outside_mode s k (Define shape) other out = tt
outside_mode s k (Fence number) other out = tt
outside_mode s k Nothing other out = tt

-- the mode's pixels are among those in the mode or offscreen
abbrev pub ModeJoined : Scene → Type 0
ModeJoined s = (x y : ℕ) → ltb x s.width ≡ true → ltb y s.height ≡ true → s.joined x y ≡ true

-- where they are, no action paints what is neither in the mode nor offscreen
outside_joined : (s : Scene) (k : ℕ) → ModeJoined s → 0 < s.width → joined_at s k ≡ false → (a : Action) → Outside s k a
outside_joined s k mode wide out (Update r) =
    cases (ltb (k / s.width) s.height) (λ t. not_both (joined_at s k) (mode _ _ (lt-ltb _ _ (mod-lt k wide)) t) out) (λ f. f)
outside_joined s k mode wide out (Fill r colour rop) = out
outside_joined s k mode wide out (Copy from r rop) = out
outside_joined s k mode wide out (Define shape) = tt
outside_joined s k mode wide out (Fence number) = tt
outside_joined s k mode wide out Nothing = tt

-- ---- for readers

-- "UPDATE and pictures keep to the mode": an executed update leaves every screen place from width·height on
pub update_keeps_to_mode : (s : Scene) (r : Rect) (screen : List ℕ) (k : ℕ) → 0 < s.width → s.width * s.height ≤ k
    → get_or (screen_after s (Update r) screen) k 0 ≡ get_or screen k 0
update_keeps_to_mode s r screen k wide h = screen_outside s screen k (Update r) (beyond_rows s.width s.height k wide h)

-- so does every command but a fill or a copy
pub others_keep_to_mode : (s : Scene) (a : Action) (screen : List ℕ) (k : ℕ) → 0 < s.width → (Paints a → ⊥) → s.width * s.height ≤ k
    → get_or (screen_after s a screen) k 0 ≡ get_or screen k 0
others_keep_to_mode s a screen k wide other h = screen_outside s screen k a (outside_mode s k a other (beyond_rows s.width s.height k wide h))

-- "cut to the mode joined with P4's rectangle, in the lent screen": no command changes a place whose pixel is neither in the mode nor offscreen
pub reach_ends : (s : Scene) (a : Action) (screen : List ℕ) (k : ℕ) → ModeJoined s → 0 < s.width → joined_at s k ≡ false
    → get_or (screen_after s a screen) k 0 ≡ get_or screen k 0
reach_ends s a screen k mode wide out = screen_outside s screen k a (outside_joined s k mode wide out a)

-- "Demand 2's copy rule reads 'in the mode or offscreen' for both pixels": a copy leaves at place k the operation of source and old destination exactly if
-- its pixel is one of the rectangle's and both pixels are in the mode or offscreen, and the old pixel else.
pub copy_moves : (s : Scene) (from : Point) (r : Rect) (rop : ℕ) (screen : List ℕ) (k : ℕ) → rows_in s screen ≡ true → k < length screen
    → (let x = source_column s.width from.x r.x k in
    let y = source_row s.width from.y r.y k in
    get_or (screen_after s (Copy from r rop) screen) k 0
    ≡ cond (in_rect s.width r.x r.y r.w r.h k && joined_at s k && s.joined x y)
    (raster_op rop (get_or screen (place_of s.width x y) 0) (get_or screen k 0)) (get_or screen k 0))
unfolding screen_after copied_in copies reached
copy_moves s from r rop screen k fits there = rw (painted_if_lem _ (copies s from r) _ screen fits) (get_or-painted _ _ screen k there)
