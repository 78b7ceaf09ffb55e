-- Straight execution: document 01, "Straight execution", over any command set. What a command set's turn is: Table.
use Rattle.std.specs.Prelude.{List, ◌++◌, ℕ, zero, suc, length, drop}
use Rattle.execution.specs.declared.Cause.{Cause}
use Rattle.execution.specs.declared.Cause.TheVariants.{NotOffered, BadOperand, TooLong, BadNext}
use Rattle.execution.specs.declared.End.{End}
use Rattle.execution.specs.declared.End.TheVariants.{Drained, Waiting, Fault}

-- Document 01, "Answer numbers", of a fault: 10 command not offered, 11 bad operand, 12 command longer than the ring can hold, 13 NEXT_CMD unusable.
-- No step of straight execution gives 13.
abbrev pub cause_number : Cause → ℕ
cause_number NotOffered = 10
cause_number BadOperand = 11
cause_number TooLong = 12
cause_number BadNext = 13

-- Of a run: 0 drained, 1 waiting for the rest of a command.
abbrev pub end_number : End → ℕ
end_number Drained = 0
end_number Waiting = 1
end_number (Fault c) = cause_number c

-- "An answer 0, 1, 10, 11 or 12 ends it with nothing changed; otherwise the command is executed and its words dropped."
-- `exec n s` executes a command of n words, which leaves the machine s.
pub data Turn (S : Type 0) : Type 0 where
  ends : End → Turn S
  exec : ℕ → S → Turn S

-- "Its state: the words left, screen, cursor image, defined cursor (none, or id, hotspot and size), fence."
-- The machine is all but the words; a command set says what it holds.
pub record Line (S : Type 0) : Type 0 where
  pub words : List ℕ
  pub machine : S

module _ {S : Type 0} where
  -- "the command is executed and its words dropped"
  abbrev pub beyond : Line S → ℕ → S → Line S
  beyond a n s = record { words = drop n a.words; machine = s }

  -- with more words at its end
  abbrev pub more : Line S → List ℕ → Line S
  more a v = record { words = a.words ++ v; machine = a.machine }

  -- the answer of a turn that ends; of one that executes, which `ending` never meets, 0
  unfoldable pub end_of : Turn S → End
  end_of (ends e) = e
  end_of (exec n s) = Drained

module _ {S : Type 0} (turn : S → List ℕ → Turn S) where
  -- "A step is the turn above without budget and 13, with the words left in place of those from STOP to NEXT_CMD."
  abbrev pub next : Line S → Turn S
  next a = turn a.machine a.words

  -- how many of the first k steps execute, up to the first that ends
  unfoldable pub steps : ℕ → Line S → ℕ
  steps zero a = 0
  steps (suc k) a = elim (next a) [ ends e ↦ 0 | exec n s ↦ suc (steps k (beyond a n s)) ]

  -- what the first k steps leave
  unfoldable pub straight : ℕ → Line S → Line S
  straight zero a = a
  straight (suc k) a = elim (next a) [ ends e ↦ a | exec n s ↦ straight k (beyond a n s) ]

  -- "whole commands waiting are the steps that still execute": each drops a word at least, so they are no more than the words
  unfoldable pub whole : Line S → ℕ
  whole a = steps (length a.words) a

  -- "the answer that ends straight execution there"
  unfoldable pub ending : Line S → End
  ending a = end_of (next (straight (whole a) a))
