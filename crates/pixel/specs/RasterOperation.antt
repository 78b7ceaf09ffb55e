-- The raster operations: document 01, "One command out of the ring".
use Rattle.std.specs.Prelude.{ℕ, zero, suc, ◌+◌, ◌*◌, ◌/◌, ◌%◌, cond, ltb}

-- "Raster operations have the X protocol's numbers: result bit is bit 0 of the number for source 1, destination 1;
-- bit 1 for 1, 0; bit 2 for 0, 1; bit 3 for 0, 0."
abbrev pub rule_bit : ℕ → ℕ → ℕ → ℕ
rule_bit rop (suc s) (suc d) = rop % 2
rule_bit rop (suc s) zero = rop / 2 % 2
rule_bit rop zero (suc d) = rop / 4 % 2
rule_bit rop zero zero = rop / 8 % 2

-- The rule at each of the n lowest bits.
abbrev pub rule_bits : ℕ → ℕ → ℕ → ℕ → ℕ
rule_bits rop zero s d = 0
rule_bits rop (suc n) s d = rule_bits rop n (s / 2) (d / 2) * 2 + rule_bit rop (s % 2) (d % 2)

-- The operation on words. A number above 15 is no operation (a command that has one is refused): it leaves the destination.
unfoldable pub raster_op : ℕ → ℕ → ℕ → ℕ
raster_op rop s d = cond (ltb rop 16) (rule_bits rop 32 s d) d
