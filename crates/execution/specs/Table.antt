-- A command set as a table, document 01's turn over it ("One command out of the ring"), and what both owe for the order of work not to show.
use Rattle.std.specs.Prelude.{Bool, true, false, List, [], ◌∷◌, ◌++◌, ◌≡◌, ℕ, ◌<◌, ◌≤◌, length, take, leb}
use Rattle.execution.specs.declared.Cause.TheVariants.{NotOffered, BadOperand, TooLong, BadNext}
use Rattle.execution.specs.declared.End.TheVariants.{Drained, Waiting, Fault}
use Rattle.execution.specs.Straight.{Turn, ends, exec}
use Rattle.execution.specs.declared.Cause.{Cause}

-- A check on a head sees the head's words alone, one on a command its own words alone: what they say stands, whatever is appended.
pub record Table (S : Type 0) : Type 0 where
  -- is this number a command's
  pub offered : ℕ → Bool
  -- words of its head, the number included; a command of fixed length is all head
  pub head : ℕ → ℕ
  -- of the head's words: are they good; how many words has the whole command
  pub head_good : List ℕ → Bool
  pub size : List ℕ → ℕ
  -- of all its words, on the machine there: may it be executed; what does it leave
  pub good : S → List ℕ → Bool
  pub effect : S → List ℕ → S

module _ {S : Type 0} where
  -- where the test fails the turn ends so; else what follows
  unfoldable pub unless : Bool → Turn S → Turn S → Turn S
  unless true e t = t
  unless false e t = e

module _ {S : Type 0} (T : Table S) where
  -- of a command with number x at the front of w: its head's words, its length, its words
  abbrev pub head_of : ℕ → List ℕ → List ℕ
  head_of x w = take (T.head x) w

  abbrev pub size_of : ℕ → List ℕ → ℕ
  size_of x w = T.size (head_of x w)

  abbrev pub all_of : ℕ → List ℕ → List ℕ
  all_of x w = take (size_of x w) w

module _ {S : Type 0} (cap : ℕ) (T : Table S) where
  -- "Number not offered: 10. Head incomplete: 1. Cursor head bad: 11. Length above what the ring carries: 12. Words missing: 1. Raster operation
  -- above 15: 11. Then it is executed". The words w begin with the number x; the ring carries cap words.
  abbrev pub turn_at : S → ℕ → List ℕ → Turn S
  turn_at s x w =
      unless (T.offered x) (ends (Fault NotOffered))
      (unless (leb (T.head x) (length w)) (ends Waiting)
      (unless (T.head_good (head_of T x w)) (ends (Fault BadOperand))
      (unless (leb (size_of T x w) cap) (ends (Fault TooLong))
      (unless (leb (size_of T x w) (length w)) (ends Waiting)
      (unless (T.good s (all_of T x w)) (ends (Fault BadOperand))
      (exec (size_of T x w) (T.effect s (all_of T x w))))))))

  -- "NEXT_CMD = STOP: 0": no words are left
  unfoldable pub turn_of : S → List ℕ → Turn S
  turn_of s [] = ends Drained
  turn_of s (x ∷ w) = turn_at s x (x ∷ w)

-- What a command set owes for demand 3, of a ring that carries cap words.
pub record Laws {S : Type 0} (cap : ℕ) (turn : S → List ℕ → Turn S) : Type 0 where
  -- it is drained where there are no words, and nowhere else
  pub empty : (s : S) → turn s [] ≡ ends Drained
  pub some_word : (s : S) (x : ℕ) (w : List ℕ) → turn s (x ∷ w) ≡ ends Drained → ⊥
  -- a command has a word, and all its words are there
  pub takes_one : (s s' : S) (w : List ℕ) (n : ℕ) → turn s w ≡ exec n s' → 1 ≤ n
  pub takes_whole : (s s' : S) (w : List ℕ) (n : ℕ) → turn s w ≡ exec n s' → n ≤ length w
  -- words appended change neither a command that executes nor a fault: this is why the order of work does not show
  pub exec_stays : (s s' : S) (w v : List ℕ) (n : ℕ) → turn s w ≡ exec n s' → turn s (w ++ v) ≡ exec n s'
  pub fault_stays : (s : S) (w v : List ℕ) (c : Cause) → turn s w ≡ ends (Fault c) → turn s (w ++ v) ≡ ends (Fault c)
  -- no turn of straight execution gives 13
  pub not_13 : (s : S) (w : List ℕ) → turn s w ≡ ends (Fault BadNext) → ⊥
  -- it waits only where an append is taken
  pub wait_has_room : (s : S) (w : List ℕ) → turn s w ≡ ends Waiting → length w < cap

-- What a table owes for its turn to keep these laws: the ring carries the head of each command, and a command has a word.
pub record TableLaws {S : Type 0} (cap : ℕ) (T : Table S) : Type 0 where
  pub head_fits : (x : ℕ) → T.offered x ≡ true → T.head x ≤ cap
  pub size_some : (h : List ℕ) → 1 ≤ T.size h
