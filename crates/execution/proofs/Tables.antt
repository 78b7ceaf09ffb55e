-- Every turn over a table keeps the laws that the queue theorem asks. A new command, check or effect changes the table alone.
-- Assumes nothing.
use mathlib.Core.Path.{◌≡◌, refl, ap, ◌∙◌, subst₂}
use mathlib.Core.Bool.{Bool, true, false, true≢false}
use mathlib.Core.List.{List, [], ◌∷◌, ◌++◌}
use Prim.Native.Nat.{ℕ, ◌≤◌, ◌<◌}
use native.Mathlib.Omega.{arith}
use lib.ListN.{length, take, length-append}
use lib.Seq.{take-append-le}
use lib.Dec.{leb}
use borrow.Author.Tests.{leb-true, leb-false, le-leb, lt-leb}
use Rattle.execution.specs.declared.Cause.{Cause}
use Rattle.execution.specs.declared.Cause.TheVariants.{NotOffered, BadOperand, TooLong, BadNext}
use Rattle.execution.specs.declared.End.TheVariants.{Drained, Waiting, Fault}
use Rattle.execution.specs.Straight.{Turn, ends, exec}
use Rattle.execution.specs.Table.{Table, unless, head_of, size_of, all_of, turn_at, turn_of, Laws, TableLaws}

module _ {S : Type 0} where
  -- what holds of both ways of a test holds of the turn
  by_test : (P : Turn S → Type 0) (b : Bool) {e t : Turn S} → (b ≡ false → P e) → (b ≡ true → P t) → P (unless b e t)
  unfolding unless
  by_test P true f g = g refl
  by_test P false f g = f refl

-- A turn waits only where fewer words wait than the ring carries.

module _ {S : Type 0} (cap : ℕ) (w : List ℕ) where
  RoomIf : Turn S → Type 0
  RoomIf (exec n s) = Unit {0}
  RoomIf (ends Drained) = Unit {0}
  RoomIf (ends Waiting) = length w < cap
  RoomIf (ends (Fault c)) = Unit {0}

module _ {S : Type 0} (cap : ℕ) (T : Table S) where
  room_if : TableLaws cap T → (s : S) (x : ℕ) (w : List ℕ) → RoomIf cap w (turn_at cap T s x w)
  unfolding RoomIf
  room_if laws s x w =
      let P : Turn S → Type 0 = RoomIf cap w in
      let l = length w in
      let z = size_of T x w in
      by_test P (T.offered x) (λ a. tt) (λ a.
      by_test P (leb (T.head x) l) (λ b. omega (arith, leb-false (T.head x) l b, laws.head_fits x a)) (λ b.
      by_test P (T.head_good (head_of T x w)) (λ c. tt) (λ c.
      by_test P (leb z cap) (λ d. tt) (λ d.
      by_test P (leb z l) (λ e. omega (arith, leb-false z l e, leb-true z cap d)) (λ e.
      by_test P (T.good s (all_of T x w)) (λ f. tt) (λ f. tt))))))

  -- which way a turn went, and why
  pub data Way (s : S) (x : ℕ) (w : List ℕ) : Turn S → Type 0 where
    foreign : T.offered x ≡ false → Way s x w (ends (Fault NotOffered))
    no_head : T.offered x ≡ true → length w < T.head x → Way s x w (ends Waiting)
    bad_head : T.offered x ≡ true → T.head x ≤ length w → T.head_good (head_of T x w) ≡ false → Way s x w (ends (Fault BadOperand))
    long : T.offered x ≡ true → T.head x ≤ length w → T.head_good (head_of T x w) ≡ true → cap < size_of T x w → Way s x w (ends (Fault TooLong))
    no_rest : T.offered x ≡ true → T.head x ≤ length w → T.head_good (head_of T x w) ≡ true → size_of T x w ≤ cap
        → length w < size_of T x w → Way s x w (ends Waiting)
    bad : T.offered x ≡ true → T.head x ≤ length w → T.head_good (head_of T x w) ≡ true → size_of T x w ≤ cap
        → size_of T x w ≤ length w → T.good s (all_of T x w) ≡ false → Way s x w (ends (Fault BadOperand))
    well : T.offered x ≡ true → T.head x ≤ length w → T.head_good (head_of T x w) ≡ true → size_of T x w ≤ cap
        → size_of T x w ≤ length w → T.good s (all_of T x w) ≡ true → Way s x w (exec (size_of T x w) (T.effect s (all_of T x w)))

  -- every turn goes one of them
  pub way : (s : S) (x : ℕ) (w : List ℕ) → Way s x w (turn_at cap T s x w)
  way s x w =
      let P : Turn S → Type 0 = Way s x w in
      let l = length w in
      let z = size_of T x w in
      by_test P (T.offered x) (λ a. foreign a) (λ a.
      by_test P (leb (T.head x) l) (λ b. no_head a (leb-false (T.head x) l b)) (λ b'.
      let b = leb-true (T.head x) l b' in
      by_test P (T.head_good (head_of T x w)) (λ c. bad_head a b c) (λ c.
      by_test P (leb z cap) (λ d. long a b c (leb-false z cap d)) (λ d'.
      let d = leb-true z cap d' in
      by_test P (leb z l) (λ e. no_rest a b c d (leb-false z l e)) (λ e.
      by_test P (T.good s (all_of T x w)) (λ f. bad a b c d (leb-true z l e) f) (λ f. well a b c d (leb-true z l e) f))))))

  -- the way determines the turn: what code that found out the way cites
  pub turn_by : (s : S) (x : ℕ) (w : List ℕ) (t : Turn S) → Way s x w t → turn_at cap T s x w ≡ t
  unfolding unless
  turn_by s x w t (foreign a) = rw a
  turn_by s x w t (no_head a b) = rw (a, lt-leb (T.head x) (length w) b)
  turn_by s x w t (bad_head a b c) = rw (a, le-leb (T.head x) (length w) b, c)
  turn_by s x w t (long a b c d) = rw (a, le-leb (T.head x) (length w) b, c, lt-leb (size_of T x w) cap d)
  turn_by s x w t (no_rest a b c d e) = rw (a, le-leb (T.head x) (length w) b, c, le-leb (size_of T x w) cap d, lt-leb (size_of T x w) (length w) e)
  turn_by s x w t (bad a b c d e f) = rw (a, le-leb (T.head x) (length w) b, c, le-leb (size_of T x w) cap d, le-leb (size_of T x w) (length w) e, f)
  turn_by s x w t (well a b c d e f) = rw (a, le-leb (T.head x) (length w) b, c, le-leb (size_of T x w) cap d, le-leb (size_of T x w) (length w) e, f)

  module _ (v : List ℕ) where
    longer : (w : List ℕ) {n : ℕ} → n ≤ length w → n ≤ length (w ++ v)
    longer w h = rw length-append (omega arith)

    same_size : (x : ℕ) (w : List ℕ) → T.head x ≤ length w → size_of T x (w ++ v) ≡ size_of T x w
    same_size x w b = ap T.size (take-append-le (T.head x) w v b)

    same_all : (x : ℕ) (w : List ℕ) → T.head x ≤ length w → size_of T x w ≤ length w → all_of T x (w ++ v) ≡ all_of T x w
    same_all x w b e = ap (λ z. take z (w ++ v)) (same_size x w b) ∙ take-append-le (size_of T x w) w v e

    well_stays : (s : S) (x : ℕ) (w : List ℕ) (s' : S) (n : ℕ) → Way s x w (exec n s') → Way s x (w ++ v) (exec n s')
    well_stays s x w s' n (well a b c d e f) =
        let h = take-append-le (T.head x) w v b in
        let z : Way s x (w ++ v) (exec (size_of T x (w ++ v)) (T.effect s (all_of T x (w ++ v)))) =
        well a (longer w b) (rw h c) (omega (arith, same_size x w b)) (omega (arith, same_size x w b, longer w e)) (rw (same_all x w b e) f) in
        subst₂ (λ (k : ℕ) (l : List ℕ). Way s x (w ++ v) (exec k (T.effect s l))) (same_size x w b) (same_all x w b e) z

    fault_stays : (s : S) (x : ℕ) (w : List ℕ) (k : Cause) → Way s x w (ends (Fault k)) → Way s x (w ++ v) (ends (Fault k))
    fault_stays s x w k (foreign a) = foreign a
    fault_stays s x w k (bad_head a b c) = bad_head a (longer w b) (rw (take-append-le (T.head x) w v b) c)
    fault_stays s x w k (long a b c d) =
        long a (longer w b) (rw (take-append-le (T.head x) w v b) c) (omega (arith, same_size x w b))
    fault_stays s x w k (bad a b c d e f) =
        bad a (longer w b) (rw (take-append-le (T.head x) w v b) c)
        (omega (arith, same_size x w b)) (omega (arith, same_size x w b, longer w e)) (rw (same_all x w b e) f)

  module _ (laws : TableLaws cap T) where
    well_one : (s : S) (x : ℕ) (w : List ℕ) (s' : S) (n : ℕ) → Way s x w (exec n s') → 1 ≤ n
    well_one s x w s' n (well a b c d e f) = laws.size_some (head_of T x w)

    well_whole : (s : S) (x : ℕ) (w : List ℕ) (s' : S) (n : ℕ) → Way s x w (exec n s') → n ≤ length w
    well_whole s x w s' n (well a b c d e f) = e

    never_drained : (s : S) (x : ℕ) (w : List ℕ) → Way s x w (ends Drained) → ⊥
    never_drained s x w = elim [ ]

    never_13 : (s : S) (x : ℕ) (w : List ℕ) → Way s x w (ends (Fault BadNext)) → ⊥
    never_13 s x w = elim [ ]

    -- where a turn executes, faults or waits, the words begin with a number and it went one of the ways
    takes_one : (s s' : S) (w : List ℕ) (n : ℕ) → turn_of cap T s w ≡ exec n s' → 1 ≤ n
    unfolding turn_of
    takes_one s s' [] n q = absurd (true≢false cc)
    takes_one s s' (x ∷ w) n q = well_one s x (x ∷ w) s' n (rw q at (way s x (x ∷ w)))

    takes_whole : (s s' : S) (w : List ℕ) (n : ℕ) → turn_of cap T s w ≡ exec n s' → n ≤ length w
    unfolding turn_of
    takes_whole s s' [] n q = absurd (true≢false cc)
    takes_whole s s' (x ∷ w) n q = well_whole s x (x ∷ w) s' n (rw q at (way s x (x ∷ w)))

    exec_stays : (s s' : S) (w v : List ℕ) (n : ℕ) → turn_of cap T s w ≡ exec n s' → turn_of cap T s (w ++ v) ≡ exec n s'
    unfolding turn_of
    exec_stays s s' [] v n q = cc
    exec_stays s s' (x ∷ w) v n q = turn_by s x (x ∷ w ++ v) (exec n s') (well_stays v s x (x ∷ w) s' n (rw q at (way s x (x ∷ w))))

    faults_stay : (s : S) (w v : List ℕ) (c : Cause) → turn_of cap T s w ≡ ends (Fault c) → turn_of cap T s (w ++ v) ≡ ends (Fault c)
    unfolding turn_of
    faults_stay s [] v c q = cc
    faults_stay s (x ∷ w) v c q = turn_by s x (x ∷ w ++ v) (ends (Fault c)) (fault_stays v s x (x ∷ w) c (rw q at (way s x (x ∷ w))))

    wait_has_room : (s : S) (w : List ℕ) → turn_of cap T s w ≡ ends Waiting → length w < cap
    unfolding turn_of RoomIf
    wait_has_room s [] q = absurd (true≢false cc)
    wait_has_room s (x ∷ w) q = rw q at (room_if laws s x (x ∷ w))

    not_13 : (s : S) (w : List ℕ) → turn_of cap T s w ≡ ends (Fault BadNext) → ⊥
    unfolding turn_of
    not_13 s [] q = true≢false cc
    not_13 s (x ∷ w) q = never_13 s x (x ∷ w) (rw q at (way s x (x ∷ w)))

    -- every turn over a table keeps the laws
    pub laws_of : Laws cap (turn_of cap T)
    unfolding turn_of
    laws_of = record {
      empty = λ s. refl;
      some_word = λ s x w q. never_drained s x (x ∷ w) (rw q at (way s x (x ∷ w)));
      takes_one = takes_one;
      takes_whole = takes_whole;
      exec_stays = exec_stays;
      fault_stays = faults_stay;
      not_13 = not_13;
      wait_has_room = wait_has_room;
    }
