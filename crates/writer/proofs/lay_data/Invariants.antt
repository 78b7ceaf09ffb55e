-- The first i words are stored, and `at` is the place behind them.
use Rattle.std.proofs.Common.{◌≡◌, ◌+◌, ◌/◌, ◌≤◌, length, take}
use Rattle.ring.specs.Waiting.{ahead}
use Rattle.writer.specs.Writing.{data_words}
use Rattle.writer.specs.Laying.{laid}
use Rattle.writer.proofs.lay_data.Given as goal

abbrev pub invariant-loop-i : goal.invariant-loop-i
invariant-loop-i l =
    (l.i ≤ (length l.bytes + 3) / 4) × (l.at ≡ ahead l.place.lo l.place.hi l.place.at l.i) × (l.ring ≡ laid l.place.lo l.place.hi l.place.at (take l.i (data_words l.bytes)) l.initial.ring)
    × (length l.ring ≡ length l.initial.ring)
