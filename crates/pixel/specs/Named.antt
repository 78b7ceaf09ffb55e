-- The raster operations by name: beside document 01's bit rule, a table of the names that the X protocol gives to its numbers, and what each makes of words.
use Rattle.std.specs.Prelude.{◌≡◌, ℕ, ◌-◌, ◌^◌, ◌<◌}
use Rattle.std.specs.Int.Bits.{bit_and, bit_or, bit_xor}
use Rattle.pixel.specs.RasterOperation.{raster_op}

pub data Operation : Type 0 where
  clear and and_reverse copy and_inverted noop xor or nor equiv invert or_reverse copy_inverted or_inverted nand set : Operation

-- A number, and what it makes of a source word and a destination word.
pub record Entry : Type 0 where
  pub number : ℕ
  pub words : ℕ → ℕ → ℕ

infix 6 ◌makes◌
abbrev pub ◌makes◌ : ℕ → (ℕ → ℕ → ℕ) → Entry
number makes words = record { number = number; words = words }

-- A word with each of its 32 bits turned over.
abbrev pub turned : ℕ → ℕ
turned x = 2 ^ 32 - 1 - x

abbrev pub entry : Operation → Entry
entry clear = 0 makes (λ s d. 0)
entry and = 1 makes (λ s d. bit_and s d)
entry and_reverse = 2 makes (λ s d. bit_and s (turned d))
entry copy = 3 makes (λ s d. s)
entry and_inverted = 4 makes (λ s d. bit_and (turned s) d)
entry noop = 5 makes (λ s d. d)
entry xor = 6 makes (λ s d. bit_xor s d)
entry or = 7 makes (λ s d. bit_or s d)
entry nor = 8 makes (λ s d. turned (bit_or s d))
entry equiv = 9 makes (λ s d. turned (bit_xor s d))
entry invert = 10 makes (λ s d. turned d)
entry or_reverse = 11 makes (λ s d. bit_or s (turned d))
entry copy_inverted = 12 makes (λ s d. turned s)
entry or_inverted = 13 makes (λ s d. bit_or (turned s) d)
entry nand = 14 makes (λ s d. turned (bit_and s d))
entry set = 15 makes (λ s d. 2 ^ 32 - 1)

-- The claim on an entry: document 01's bit rule makes the same of every source word and every destination word.
abbrev pub ByRule : Entry → Type 0
ByRule e = (s d : ℕ) → s < 2 ^ 32 → d < 2 ^ 32 → raster_op e.number s d ≡ e.words s d
