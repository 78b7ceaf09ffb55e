-- The pixels before i are blended, and those from i on are as they were.
use Rattle.std.proofs.Common.{◌≡◌, ℕ, ◌<◌, ◌≤◌, get_or}
use Rattle.pixel.specs.Blend.{blend_pixel}
use Rattle.cursor.proofs.blend_row.Given as goal

abbrev pub invariant-loop-i : goal.invariant-loop-i
invariant-loop-i l = record {
  done : (k : ℕ) → k < l.i → get_or l.row k 0 ≡ blend_pixel (get_or l.pixels k 0) (get_or l.fn.row k 0);
  left : (k : ℕ) → l.i ≤ k → get_or l.row k 0 ≡ get_or l.fn.row k 0;
}
