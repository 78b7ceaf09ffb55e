-- Operations on words that work bit by bit. `op n s d` is the operation on words of n bits; two operations that agree on
-- single bits agree on words (`agree`), so each named raster operation is one line (`named`).
-- Assumes nothing.
use mathlib.Core.Path.{◌≡◌, refl, sym, ◌∙◌}
use mathlib.Core.Bool.{Bool, true, false, cond}
use Prim.Native.Nat.{ℕ, zero, suc, ◌+◌, ◌-◌, ◌*◌, ◌/◌, ◌%◌, ◌^◌, ◌<◌, min, max}
use native.Mathlib.Omega.{arith}
use lib.Bits.{bit_and, bit_or, bit_xor, differ, and_step, or_step, xor_step}
use lib.Dec.{ltb}
use Rattle.pixel.specs.RasterOperation.{rule_bit, rule_bits, raster_op}

-- `op` is `f` at each bit
pub record ByBits (op : ℕ → ℕ → ℕ → ℕ) (f : ℕ → ℕ → ℕ) : Type 0 where
  pub bit : (x y : ℕ) → x < 2 → y < 2 → f x y < 2
  pub none : (s d : ℕ) → s < 2 ^ 0 → d < 2 ^ 0 → op 0 s d ≡ 0
  pub step : (n s d : ℕ) → s < 2 ^ suc n → d < 2 ^ suc n → op (suc n) s d ≡ op n (s / 2) (d / 2) * 2 + f (s % 2) (d % 2)

-- what holds at 0 and 1 holds at each bit, and at two bits
pub by_bit : (P : ℕ → Type 0) → P 0 → P 1 → (x : ℕ) → x < 2 → P x
by_bit P a b zero h = a
by_bit P a b (suc zero) h = b
by_bit P a b (suc (suc x)) h = absurd (omega arith)

pub by_bits : (P : ℕ → ℕ → Type 0) → P 1 1 → P 1 0 → P 0 1 → P 0 0 → (x y : ℕ) → x < 2 → y < 2 → P x y
by_bits P p₁₁ p₁₀ p₀₁ p₀₀ x y h k = by_bit (λ i. P i y) (by_bit (P 0) p₀₀ p₀₁ y k) (by_bit (P 1) p₁₀ p₁₁ y k) x h

pub differ_bit : (x y : ℕ) → x < 2 → y < 2 → differ x y < 2
differ_bit = by_bits (λ x y. differ x y < 2) (omega arith) (omega arith) (omega arith) (omega arith)

half : (n s : ℕ) → s < 2 ^ suc n → s / 2 < 2 ^ n
half n s h = omega arith

module _ {op : ℕ → ℕ → ℕ → ℕ} {f : ℕ → ℕ → ℕ} (b : ByBits op f) where
  low_bit : (s d : ℕ) → f (s % 2) (d % 2) < 2
  low_bit s d = b.bit (s % 2) (d % 2) (omega arith) (omega arith)

  pub under : (n s d : ℕ) → s < 2 ^ n → d < 2 ^ n → op n s d < 2 ^ n
  under zero s d h k = rw (b.none s d h k) (omega arith)
  under (suc n) s d h k = rw (b.step n s d h k) (omega (arith, under n (s / 2) (d / 2) (half n s h) (half n d k), low_bit s d))

  -- the result's upper bits and its lowest
  split : (n s d : ℕ) → s < 2 ^ suc n → d < 2 ^ suc n → (op (suc n) s d / 2 ≡ op n (s / 2) (d / 2)) × (op (suc n) s d % 2 ≡ f (s % 2) (d % 2))
  split n s d h k = let e = b.step n s d h k in let t = low_bit s d in (omega arith, omega arith)

  pub inverse : ByBits (λ n s d. 2 ^ n - 1 - op n s d) (λ x y. 1 - f x y)
  inverse = record {
    bit = λ x y h k. omega arith;
    none = λ s d h k. omega arith;
    step = λ n s d h k. rw (b.step n s d h k) (omega (arith, under n (s / 2) (d / 2) (half n s h) (half n d k), low_bit s d));
  }

pub source : ByBits (λ n s d. s) (λ x y. x)
source = record { bit = λ x y h k. h; none = λ s d h k. omega arith; step = λ n s d h k. omega arith }

pub dest : ByBits (λ n s d. d) (λ x y. y)
dest = record { bit = λ x y h k. k; none = λ s d h k. omega arith; step = λ n s d h k. omega arith }

pub zeros : ByBits (λ n s d. 0) (λ x y. 0)
zeros = record { bit = λ x y h k. omega arith; none = λ s d h k. refl; step = λ n s d h k. refl }

-- a bit operation on numbers, by the law of its lowest bit
word : (g f : ℕ → ℕ → ℕ) → ((x y : ℕ) → x < 2 → y < 2 → f x y < 2) → g 0 0 ≡ 0
    → ((s d : ℕ) → g s d ≡ g (s / 2) (d / 2) * 2 + f (s % 2) (d % 2)) → ByBits (λ n s d. g s d) f
word g f bit z step =
    record { bit = bit; none = λ s d h k. let p : s ≡ 0 = omega arith in let q : d ≡ 0 = omega arith in rw (p, q) z; step = λ n s d h k. step s d }

module _ {op₁ op₂ : ℕ → ℕ → ℕ → ℕ} {f₁ f₂ : ℕ → ℕ → ℕ} (a : ByBits op₁ f₁) (b : ByBits op₂ f₂) where
  -- an operation at operands that are made bit by bit
  pub ruled : {op : ℕ → ℕ → ℕ → ℕ} {f : ℕ → ℕ → ℕ} → ByBits op f → ByBits (λ n s d. op n (op₁ n s d) (op₂ n s d)) (λ x y. f (f₁ x y) (f₂ x y))
  ruled r = record {
    bit = λ x y h k. r.bit (f₁ x y) (f₂ x y) (a.bit x y h k) (b.bit x y h k);
    none = λ s d h k. r.none (op₁ 0 s d) (op₂ 0 s d) (under a 0 s d h k) (under b 0 s d h k);
    step = λ n s d h k.
        let p = split a n s d h k in
        let q = split b n s d h k in
        rw (r.step n (op₁ (suc n) s d) (op₂ (suc n) s d) (under a (suc n) s d h k) (under b (suc n) s d h k), p.0, p.1, q.0, q.1);
  }

  pub both_and : ByBits (λ n s d. bit_and (op₁ n s d) (op₂ n s d)) (λ x y. min (f₁ x y) (f₂ x y))
  both_and = ruled (word bit_and min (λ x y h k. omega arith) refl and_step)

  pub both_or : ByBits (λ n s d. bit_or (op₁ n s d) (op₂ n s d)) (λ x y. max (f₁ x y) (f₂ x y))
  both_or = ruled (word bit_or max (λ x y h k. omega arith) refl or_step)

  pub both_xor : ByBits (λ n s d. bit_xor (op₁ n s d) (op₂ n s d)) (λ x y. differ (f₁ x y) (f₂ x y))
  both_xor = ruled (word bit_xor differ differ_bit refl xor_step)

  pub agree : ((x y : ℕ) → x < 2 → y < 2 → f₁ x y ≡ f₂ x y) → (n s d : ℕ) → s < 2 ^ n → d < 2 ^ n → op₁ n s d ≡ op₂ n s d
  agree e zero s d h k = a.none s d h k ∙ sym (b.none s d h k)
  agree e (suc n) s d h k =
      a.step n s d h k
      ∙ rw (agree e n (s / 2) (d / 2) (half n s h) (half n d k), e (s % 2) (d % 2) (omega arith) (omega arith)) (sym (b.step n s d h k))

-- a raster operation at one bit; 16 and above leave the destination's
abbrev pub raster_bit : ℕ → ℕ → ℕ → ℕ
raster_bit rop x y = cond (ltb rop 16) (rule_bit rop x y) y

pub rule : (rop : ℕ) → ByBits (rule_bits rop) (rule_bit rop)
rule rop = record {
  bit = by_bits (λ x y. rule_bit rop x y < 2) (omega arith) (omega arith) (omega arith) (omega arith);
  none = λ s d h k. refl;
  step = λ n s d h k. refl;
}

chosen : {op : ℕ → ℕ → ℕ → ℕ} {f : ℕ → ℕ → ℕ} (t : Bool) → ByBits op f → ByBits (λ n s d. cond t (op n s d) d) (λ x y. cond t (f x y) y)
chosen true b = b
chosen false b = dest

pub raster : (rop : ℕ) → ByBits (λ n s d. cond (ltb rop 16) (rule_bits rop n s d) d) (raster_bit rop)
raster rop = chosen (ltb rop 16) (rule rop)

-- a raster operation, from its four bits
pub named : {op : ℕ → ℕ → ℕ → ℕ} {f : ℕ → ℕ → ℕ} → ByBits op f → (rop : ℕ)
    → f 1 1 ≡ raster_bit rop 1 1 → f 1 0 ≡ raster_bit rop 1 0 → f 0 1 ≡ raster_bit rop 0 1 → f 0 0 ≡ raster_bit rop 0 0
    → (s d : ℕ) → s < 2 ^ 32 → d < 2 ^ 32 → op 32 s d ≡ raster_op rop s d
unfolding raster_op
named {op} {f} b rop e₁₁ e₁₀ e₀₁ e₀₀ s d = agree b (raster rop) (by_bits (λ x y. f x y ≡ raster_bit rop x y) e₁₁ e₁₀ e₀₁ e₀₀) 32 s d
