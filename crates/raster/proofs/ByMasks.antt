-- Fills and copies by their masks, and raster operation 3 on words: a plain fill and a plain copy.
-- Assumes nothing.
use mathlib.Core.Path.{◌≡◌, sym, ◌∙◌}
use mathlib.Core.List.{List}
use Prim.Native.Nat.{ℕ, ◌^◌, ◌<◌}
use lib.ListN.{get_or}
use Rattle.geometry.specs.declared.Rect.{Rect}
use Rattle.geometry.proofs.Painted.{painted_same}
use Rattle.pixel.specs.declared.Masks.{Masks}
use Rattle.pixel.specs.Masks.{Reduces, reduce_pixel, merge_pixel, Merges}
use Rattle.pixel.proofs.ByMasks.{nothing_kept}
use Rattle.pixel.proofs.Laws.{copy_stores_source}
use Rattle.raster.specs.CutPainters.{filled_by, filled_cut, copied_by, copied_cut}

module _ (width : ℕ) (r : Rect) (old : List ℕ) where
  -- two fills that make the same of each word
  same_fill : (f g : ℕ → ℕ) → ((d : ℕ) → d < 2 ^ 32 → f d ≡ g d) → ((k : ℕ) → get_or old k 0 < 2 ^ 32) → filled_by width r f old ≡ filled_by width r g old
  unfolding filled_by
  same_fill f g each words = painted_same _ _ _ old (λ k _ _. each (get_or old k 0) (words k))

  pub plain_filled : (colour : ℕ) → colour < 2 ^ 32 → ((k : ℕ) → get_or old k 0 < 2 ^ 32)
      → filled_by width r (λ d. colour) old ≡ filled_cut width r colour 3 old
  plain_filled colour fits words = same_fill _ _ (λ d h. sym (copy_stores_source colour d fits h)) words

  -- the masks of an operation and a colour give the operation
  pub masked_filled : {colour rop keep flip : ℕ} → Reduces rop colour keep flip → ((k : ℕ) → get_or old k 0 < 2 ^ 32)
      → filled_by width r (reduce_pixel keep flip) old ≡ filled_cut width r colour rop old
  masked_filled masks words = same_fill _ _ masks.agrees words

  -- and where they keep nothing, the flip is stored
  pub stored_filled : {colour rop keep flip : ℕ} → Reduces rop colour keep flip → keep ≡ 0 → ((k : ℕ) → get_or old k 0 < 2 ^ 32)
      → filled_by width r (λ d. flip) old ≡ filled_cut width r colour rop old
  stored_filled {flip = flip} masks none words = same_fill _ _ (λ d h. sym (nothing_kept flip d) ∙ (rw none at (masks.agrees d h))) words

  module _ (sx sy : ℕ) where
    -- two copies that make the same of each word
    same_copy : (f g : ℕ → ℕ → ℕ) → ((s d : ℕ) → s < 2 ^ 32 → d < 2 ^ 32 → f s d ≡ g s d) → ((k : ℕ) → get_or old k 0 < 2 ^ 32)
        → copied_by width sx sy r f old ≡ copied_by width sx sy r g old
    unfolding copied_by
    same_copy f g each words = painted_same _ _ _ old (λ k _ _. each _ (get_or old k 0) (words _) (words k))

    pub plain_copied : ((k : ℕ) → get_or old k 0 < 2 ^ 32) → copied_by width sx sy r (λ s d. s) old ≡ copied_cut width sx sy r 3 old
    plain_copied words = same_copy _ _ (λ s d h k. sym (copy_stores_source s d h k)) words

    -- the masks of an operation give the operation
    pub masked_copied : {rop : ℕ} {m : Masks} → Merges rop m → ((k : ℕ) → get_or old k 0 < 2 ^ 32)
        → copied_by width sx sy r (merge_pixel m) old ≡ copied_cut width sx sy r rop old
    masked_copied masks words = same_copy _ _ masks.agrees words
