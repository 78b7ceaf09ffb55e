-- Fences: document 01, "One command out of the ring".
use Rattle.std.specs.Prelude.{ℕ, ◌+◌, ◌-◌, ◌%◌, ◌^◌, Bool, nat_lt}
use Rattle.device.specs.declared.Device.{Device}

-- "Fence: the last number executed."
abbrev pub fence_of : Device → ℕ
fence_of d = d.marks.fence

-- "Fence f has passed if the last fence minus f, taken modulo 2^32, is below 2^31 (house)."
abbrev pub fence_passed : ℕ → ℕ → Bool
fence_passed last f = nat_lt ((last + 2 ^ 32 - f) % 2 ^ 32) (2 ^ 31)
