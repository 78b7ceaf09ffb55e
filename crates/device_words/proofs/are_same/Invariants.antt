-- The count is 0 exactly while the words looked at agree.
use Rattle.std.proofs.Common.{◌≡◌, ◌≤◌, eqb, take}
use Rattle.device_words.specs.Words.{same}
use Rattle.device_words.proofs.are_same.Given as goal

abbrev pub invariant-loop-i : goal.invariant-loop-i
invariant-loop-i l = (l.n ≤ l.i) × (eqb l.n 0 ≡ same (take l.i l.own) (take l.i l.lent))
