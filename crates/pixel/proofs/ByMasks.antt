-- What the row loops compute by masks is the raster operation, for every number, 16 and above too, and at the number of a named operation that operation: there
-- is no second list of operations.
-- Assumes nothing.
use mathlib.Core.Path.{◌≡◌, refl, sym, ◌∙◌}
use mathlib.Core.Bool.{Bool, ◌&&◌, cond}
use Prim.Native.Nat.{ℕ, ◌^◌, ◌<◌, min}
use native.Mathlib.Omega.{arith}
use lib.Bits.{bit_xor, differ, and_zero_r, xor_zero_l}
use lib.Dec.{T, eqb, eqb→eq}
use mir.Facts.{and_yes}
use borrow.Author.Tests.{eqb-true, eqb-false, eq-eqb, ne_eqb}
use borrow.Table.Steps.{cases}
use Rattle.pixel.specs.RasterOperation.{raster_op}
use Rattle.pixel.specs.Named.{Operation, entry}
use Rattle.pixel.specs.declared.Masks.{Masks}
use Rattle.pixel.specs.Masks.{reduce_pixel, Reduces, merge_pixel, Merges}
use Rattle.pixel.proofs.Bitwise.{by_bit, by_bits, source, dest, zeros, inverse, both_and, both_xor, ruled, agree, raster_bit, raster}
use Rattle.pixel.proofs.Named.{named_is}

-- a function of one bit, by a mask to keep and a mask to flip
picked : (P : ℕ → ℕ) → P 1 < 2 → P 0 < 2 → (y : ℕ) → y < 2 → differ (min y (differ (P 1) (P 0))) (P 0) ≡ P y
picked P h k =
    by_bit (λ y. differ (min y (differ (P 1) (P 0))) (P 0) ≡ P y)
    (by_bits (λ a b. differ (min 0 (differ a b)) b ≡ b) refl refl refl refl (P 1) (P 0) h k)
    (by_bits (λ a b. differ (min 1 (differ a b)) b ≡ a) refl refl refl refl (P 1) (P 0) h k)

-- the results at a destination of all ones and of 0 give the masks
pub reduced : (rop s : ℕ) → s < 2 ^ 32 → Reduces rop s (bit_xor (raster_op rop s 0xFFFF_FFFF) (raster_op rop s 0)) (raster_op rop s 0)
unfolding raster_op reduce_pixel
reduced rop s fits =
    let r = raster rop in
    let flip = ruled source zeros r in
    record {
      agrees = λ d. agree (both_xor (both_and dest (both_xor (ruled source (inverse zeros) r) flip)) flip) r
          (λ x y h k. picked (raster_bit rop x) (r.bit x 1 h (omega arith)) (r.bit x 0 h (omega arith)) y k) 32 s d fits;
    }

-- masks of an operation's number, as `Reduced::of` returns them, make of each destination what the named operation makes of it
pub reduced_is : (o : Operation) {s keep flip : ℕ} → Reduces (entry o).number s keep flip → (d : ℕ) → s < 2 ^ 32 → d < 2 ^ 32
    → reduce_pixel keep flip d ≡ (entry o).words s d
reduced_is o {s} masks d h k = masks.agrees d k ∙ named_is o s d h k

pub nothing_kept : (flip d : ℕ) → reduce_pixel 0 flip d ≡ flip
unfolding reduce_pixel
nothing_kept flip d = rw (and_zero_r d, xor_zero_l flip)

-- what holds by computing at 0 and 1 holds at each bit
abbrev all : (ℕ → Bool) → Bool
all p = p 0 && p 1

at_bit : (p : ℕ → Bool) → T (all p) → (x : ℕ) → x < 2 → T (p x)
at_bit p t = let each = and_yes (p 0) (p 1) t in by_bit (λ x. T (p x)) each.0 each.1

-- the masks at one bit, for an operation that makes a of (1, 1), b of (1, 0), c of (0, 1) and e of (0, 0)
abbrev product_bit : ℕ → ℕ → ℕ → ℕ → ℕ
product_bit a b c e = differ (differ (differ a (differ b e)) (differ c e)) e

abbrev merged_bit : ℕ → ℕ → ℕ → ℕ → ℕ → ℕ → ℕ
merged_bit a b c e x y =
    cond (eqb (product_bit a b c e) 0)
    (differ (min y (differ c e)) (differ (min x (differ b e)) e))
    (differ (min (differ x (differ c e)) (differ y (differ b e))) (differ (min (differ c e) (differ b e)) e))

abbrev right₆ : ℕ → ℕ → ℕ → ℕ → ℕ → ℕ → Bool
right₆ a b c e x y = eqb (merged_bit a b c e x y) (cond (eqb x 0) (cond (eqb y 0) e c) (cond (eqb y 0) b a))

abbrev right₅ : ℕ → ℕ → ℕ → ℕ → ℕ → Bool
right₅ a b c e x = all (right₆ a b c e x)

abbrev right₄ : ℕ → ℕ → ℕ → ℕ → Bool
right₄ a b c e = all (right₅ a b c e)

abbrev right₃ : ℕ → ℕ → ℕ → Bool
right₃ a b c = all (right₄ a b c)

abbrev right₂ : ℕ → ℕ → Bool
right₂ a b = all (right₃ a b)

merged_bit_lem : (f : ℕ → ℕ → ℕ) → ((x y : ℕ) → x < 2 → y < 2 → f x y < 2) → (x y : ℕ) → x < 2 → y < 2
    → merged_bit (f 1 1) (f 1 0) (f 0 1) (f 0 0) x y ≡ f x y
merged_bit_lem f bit x y h k =
    let a = f 1 1 in
    let b = f 1 0 in
    let c = f 0 1 in
    let e = f 0 0 in
    let i : 0 < 2 = omega arith in
    let j : 1 < 2 = omega arith in
    let all_right : T (all (λ a. all (right₂ a))) = tt in
    let at-four = at_bit (right₄ a b c) (at_bit (right₃ a b) (at_bit (right₂ a) (at_bit (λ a. all (right₂ a)) all_right a (bit 1 1 j j)) b (bit 1 0 j i)) c (bit 0 1 i j)) e (bit 0 0 i i) in
    eqb→eq _ _ (at_bit (right₆ a b c e x) (at_bit (right₅ a b c e) at-four x h) y k)
    ∙ by_bits (λ x y. cond (eqb x 0) (cond (eqb y 0) e c) (cond (eqb y 0) b a) ≡ f x y) refl refl refl refl x y h k

-- the masks, from the results at sources and destinations of all ones and of 0
unfoldable pub masks_of : ℕ → Masks
masks_of rop =
    let constant = raster_op rop 0 0 in
    let source = bit_xor (raster_op rop 0xFFFF_FFFF 0) constant in
    let dest = bit_xor (raster_op rop 0 0xFFFF_FFFF) constant in
    record {
      product = bit_xor (bit_xor (bit_xor (raster_op rop 0xFFFF_FFFF 0xFFFF_FFFF) source) dest) constant;
      source = source;
      dest = dest;
      constant = constant;
    }

merged_words : (rop s d : ℕ) → s < 2 ^ 32 → d < 2 ^ 32 → merge_pixel (masks_of rop) s d ≡ raster_op rop s d
unfolding raster_op merge_pixel masks_of
merged_words rop s d h k =
    let r = raster rop in
    let ones = inverse zeros in
    let constant = ruled zeros zeros r in
    let of-source = both_xor (ruled ones zeros r) constant in
    let of-dest = both_xor (ruled zeros ones r) constant in
    let product = both_xor (both_xor (both_xor (ruled ones ones r) of-source) of-dest) constant in
    let f = raster_bit rop in
    let bit = product_bit (f 1 1) (f 1 0) (f 0 1) (f 0 0) in
    cases (eqb bit 0)
    (λ t.
    let z = agree product zeros (λ x y _ _. eqb-true bit 0 t) 32 s d h k in
    rw (eq-eqb _ 0 z)
    (agree (both_xor (both_and dest of-dest) (both_xor (both_and source of-source) constant)) r (λ x y i j. rw t at (merged_bit_lem f r.bit x y i j)) 32 s d h k))
    (λ n.
    let one : bit ≡ 1 = let b = product.bit 0 0 (omega arith) (omega arith) in let u = eqb-false bit 0 n in omega arith in
    let z = agree product ones (λ x y _ _. one) 32 s d h k in
    rw (ne_eqb _ 0 (λ e. let w : 4294967295 ≡ 0 = sym z ∙ e in omega arith))
    (agree (both_xor (both_and (both_xor source of-dest) (both_xor dest of-source)) (both_xor (both_and of-dest of-source) constant)) r
    (λ x y i j. rw n at (merged_bit_lem f r.bit x y i j)) 32 s d h k))

pub merged : (rop : ℕ) → Merges rop (masks_of rop)
merged rop = record { agrees = merged_words rop }

-- as above, for masks as `Masks::of` returns them
pub merged_is : (o : Operation) {m : Masks} → Merges (entry o).number m → (s d : ℕ) → s < 2 ^ 32 → d < 2 ^ 32 → merge_pixel m s d ≡ (entry o).words s d
merged_is o masks s d h k = masks.agrees s d h k ∙ named_is o s d h k
