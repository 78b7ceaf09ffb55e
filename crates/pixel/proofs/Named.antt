-- The sixteen named operations are document 01's bit rule, for every source and destination word. They are entries of one table, each by the same lemma,
-- `pixel/Bitwise.named`: an entry works bit by bit and has the rule's four bits.
-- Assumes nothing.
use mathlib.Core.Path.{◌≡◌, refl, sym}
use mathlib.Core.List.{[], ◌∷◌, map}
use Prim.Native.Nat.{ℕ, ◌-◌, ◌^◌, ◌<◌}
use lib.Bits.{bit_and, bit_or, bit_xor}
use Rattle.pixel.specs.RasterOperation.{raster_op}
use Rattle.pixel.specs.Named.{Operation, entry, ByRule}
use Rattle.pixel.specs.Named.{clear, and, and_reverse, copy, and_inverted, noop, xor, or, nor, equiv, invert, or_reverse, copy_inverted, or_inverted, nand, set}
use Rattle.pixel.proofs.Bitwise.{named, source, dest, zeros, inverse, both_and, both_or, both_xor}

in_words : (o : Operation) (s d : ℕ) → s < 2 ^ 32 → d < 2 ^ 32 → (entry o).words s d ≡ raster_op (entry o).number s d
in_words clear = named zeros 0 refl refl refl refl
in_words and = named (both_and source dest) 1 refl refl refl refl
in_words and_reverse = named (both_and source (inverse dest)) 2 refl refl refl refl
in_words copy = named source 3 refl refl refl refl
in_words and_inverted = named (both_and (inverse source) dest) 4 refl refl refl refl
in_words noop = named dest 5 refl refl refl refl
in_words xor = named (both_xor source dest) 6 refl refl refl refl
in_words or = named (both_or source dest) 7 refl refl refl refl
in_words nor = named (inverse (both_or source dest)) 8 refl refl refl refl
in_words equiv = named (inverse (both_xor source dest)) 9 refl refl refl refl
in_words invert = named (inverse dest) 10 refl refl refl refl
in_words or_reverse = named (both_or source (inverse dest)) 11 refl refl refl refl
in_words copy_inverted = named (inverse source) 12 refl refl refl refl
in_words or_inverted = named (both_or (inverse source) dest) 13 refl refl refl refl
in_words nand = named (inverse (both_and source dest)) 14 refl refl refl refl
in_words set = named (inverse zeros) 15 refl refl refl refl

-- every entry of the table is the bit rule at its number
pub named_is : (o : Operation) → ByRule (entry o)
named_is o s d h k = sym (in_words o s d h k)

-- the numbers, of which none is left out
pub numbered : map (λ o. (entry o).number)
    (clear ∷ and ∷ and_reverse ∷ copy ∷ and_inverted ∷ noop ∷ xor ∷ or ∷ nor ∷ equiv ∷ invert ∷ or_reverse ∷ copy_inverted ∷ or_inverted ∷ nand ∷ set ∷ [])
    ≡ 0 ∷ 1 ∷ 2 ∷ 3 ∷ 4 ∷ 5 ∷ 6 ∷ 7 ∷ 8 ∷ 9 ∷ 10 ∷ 11 ∷ 12 ∷ 13 ∷ 14 ∷ 15 ∷ []
numbered = refl

-- the sixteen facts, spelled out
pub clear_is : (s d : ℕ) → s < 2 ^ 32 → d < 2 ^ 32 → raster_op 0 s d ≡ 0
clear_is = named_is clear

pub and_is : (s d : ℕ) → s < 2 ^ 32 → d < 2 ^ 32 → raster_op 1 s d ≡ bit_and s d
and_is = named_is and

pub and_reverse_is : (s d : ℕ) → s < 2 ^ 32 → d < 2 ^ 32 → raster_op 2 s d ≡ bit_and s (2 ^ 32 - 1 - d)
and_reverse_is = named_is and_reverse

pub copy_is : (s d : ℕ) → s < 2 ^ 32 → d < 2 ^ 32 → raster_op 3 s d ≡ s
copy_is = named_is copy

pub and_inverted_is : (s d : ℕ) → s < 2 ^ 32 → d < 2 ^ 32 → raster_op 4 s d ≡ bit_and (2 ^ 32 - 1 - s) d
and_inverted_is = named_is and_inverted

pub noop_is : (s d : ℕ) → s < 2 ^ 32 → d < 2 ^ 32 → raster_op 5 s d ≡ d
noop_is = named_is noop

pub xor_is : (s d : ℕ) → s < 2 ^ 32 → d < 2 ^ 32 → raster_op 6 s d ≡ bit_xor s d
xor_is = named_is xor

pub or_is : (s d : ℕ) → s < 2 ^ 32 → d < 2 ^ 32 → raster_op 7 s d ≡ bit_or s d
or_is = named_is or

pub nor_is : (s d : ℕ) → s < 2 ^ 32 → d < 2 ^ 32 → raster_op 8 s d ≡ 2 ^ 32 - 1 - bit_or s d
nor_is = named_is nor

pub equiv_is : (s d : ℕ) → s < 2 ^ 32 → d < 2 ^ 32 → raster_op 9 s d ≡ 2 ^ 32 - 1 - bit_xor s d
equiv_is = named_is equiv

pub invert_is : (s d : ℕ) → s < 2 ^ 32 → d < 2 ^ 32 → raster_op 10 s d ≡ 2 ^ 32 - 1 - d
invert_is = named_is invert

pub or_reverse_is : (s d : ℕ) → s < 2 ^ 32 → d < 2 ^ 32 → raster_op 11 s d ≡ bit_or s (2 ^ 32 - 1 - d)
or_reverse_is = named_is or_reverse

pub copy_inverted_is : (s d : ℕ) → s < 2 ^ 32 → d < 2 ^ 32 → raster_op 12 s d ≡ 2 ^ 32 - 1 - s
copy_inverted_is = named_is copy_inverted

pub or_inverted_is : (s d : ℕ) → s < 2 ^ 32 → d < 2 ^ 32 → raster_op 13 s d ≡ bit_or (2 ^ 32 - 1 - s) d
or_inverted_is = named_is or_inverted

pub nand_is : (s d : ℕ) → s < 2 ^ 32 → d < 2 ^ 32 → raster_op 14 s d ≡ 2 ^ 32 - 1 - bit_and s d
nand_is = named_is nand

pub set_is : (s d : ℕ) → s < 2 ^ 32 → d < 2 ^ 32 → raster_op 15 s d ≡ 2 ^ 32 - 1
set_is = named_is set

pub ruleset spelled_out = (clear_is, and_is, and_reverse_is, copy_is, and_inverted_is, noop_is, xor_is, or_is, nor_is, equiv_is, invert_is, or_reverse_is, copy_inverted_is, or_inverted_is, nand_is, set_is)
