-- A turn of document 01's table by the rows, on all the words that wait.
-- Assumes nothing.
use mathlib.Core.Path.{◌≡◌, refl, sym, ◌∙◌, subst₂}
use mathlib.Core.Bool.{true, false}
use mathlib.Core.Option.{Option, none, some}
use mathlib.Core.List.{List, [], ◌∷◌}
use Prim.Native.Nat.{ℕ, ◌≤◌, ◌<◌}
use native.Mathlib.Omega.{arith}
use lib.ListN.{length, take, get_or}
use Rattle.execution.specs.declared.Cause.TheVariants.{NotOffered, BadOperand, TooLong}
use Rattle.execution.specs.declared.End.TheVariants.{Drained, Waiting, Fault}
use Rattle.execution.specs.Straight.{Turn, ends, exec}
use Rattle.execution.specs.Table.{Table, turn_at, turn_of}
use Rattle.execution.proofs.Tables.{way, turn_by}
use Rattle.execution.proofs.Tables as W
use Rattle.command.specs.declared.Action.{Action}
use Rattle.command.specs.Commands.{Known, entry, size_by, kind_in, commands}
use Rattle.command.specs.Findings.{finds_in, on_machine}
use Rattle.command.proofs.Laws.{by_head, by_size, by_good, by_effect}

-- where there are words, a turn goes by the first of them
pub turn_some : {S : Type 0} (cap : ℕ) (T : Table S) (s : S) (w : List ℕ) → 1 ≤ length w → turn_of cap T s w ≡ turn_at cap T s (get_or w 0 0) w
unfolding turn_of
turn_some cap T s [] h = absurd (omega arith)
turn_some cap T s (x ∷ w) h = refl

pub turn_none : {S : Type 0} (cap : ℕ) (T : Table S) (s : S) (w : List ℕ) → length w ≡ 0 → turn_of cap T s w ≡ ends Drained
unfolding turn_of
turn_none cap T s [] h = refl
turn_none cap T s (x ∷ w) h = absurd (omega arith)

module _ {S : Type 0} (known_of : S → Known) (does : Action → List ℕ → S → S) (cap : ℕ) (s : S) (w : List ℕ) where
  -- which rule a turn went by
  pub data Ruled : Turn S → Type 0 where
    foreign : (entry (kind_in w)).offered ≡ false → Ruled (ends (Fault NotOffered))
    no_head : (entry (kind_in w)).offered ≡ true → length w < (entry (kind_in w)).head → Ruled (ends Waiting)
    bad_head : (entry (kind_in w)).offered ≡ true → (entry (kind_in w)).head ≤ length w → (entry (kind_in w)).head_good w ≡ false → Ruled (ends (Fault BadOperand))
    long : (entry (kind_in w)).offered ≡ true → (entry (kind_in w)).head ≤ length w → (entry (kind_in w)).head_good w ≡ true → cap < size_by (kind_in w) w
        → Ruled (ends (Fault TooLong))
    no_rest : (entry (kind_in w)).offered ≡ true → (entry (kind_in w)).head ≤ length w → (entry (kind_in w)).head_good w ≡ true → size_by (kind_in w) w ≤ cap
        → length w < size_by (kind_in w) w → Ruled (ends Waiting)
    bad : (entry (kind_in w)).offered ≡ true → (entry (kind_in w)).head ≤ length w → (entry (kind_in w)).head_good w ≡ true → size_by (kind_in w) w ≤ cap
        → size_by (kind_in w) w ≤ length w → (entry (kind_in w)).good (known_of s) w ≡ false → Ruled (ends (Fault BadOperand))
    well : (entry (kind_in w)).offered ≡ true → (entry (kind_in w)).head ≤ length w → (entry (kind_in w)).head_good w ≡ true → size_by (kind_in w) w ≤ cap
        → size_by (kind_in w) w ≤ length w → (entry (kind_in w)).good (known_of s) w ≡ true
        → Ruled (exec (size_by (kind_in w) w) (does ((entry (kind_in w)).action w) (take (size_by (kind_in w) w) w) s))

  abbrev T : Table S
  T = commands known_of does

  -- the rules are the table's ways
  to_way : (t : Turn S) → Ruled t → W.Way cap T s (get_or w 0 0) w t
  unfolding commands
  to_way t (foreign a) = W.foreign a
  to_way t (no_head a b) = W.no_head a b
  to_way t (bad_head a b c) = W.bad_head a b (by_head known_of does (get_or w 0 0) w refl ∙ c)
  to_way t (long a b c d) = W.long a b (by_head known_of does (get_or w 0 0) w refl ∙ c) (rw (by_size known_of does (get_or w 0 0) w refl) d)
  to_way t (no_rest a b c d e) =
      let z = by_size known_of does (get_or w 0 0) w refl in W.no_rest a b (by_head known_of does (get_or w 0 0) w refl ∙ c) (rw z d) (rw z e)
  to_way t (bad a b c d e f) =
      let z = by_size known_of does (get_or w 0 0) w refl in
      W.bad a b (by_head known_of does (get_or w 0 0) w refl ∙ c) (rw z d) (rw z e) (by_good known_of does (get_or w 0 0) w refl s ∙ f)
  to_way t (well a b c d e f) =
      let z = by_size known_of does (get_or w 0 0) w refl in
      subst₂ (λ (n : ℕ) (u : S). W.Way cap T s (get_or w 0 0) w (exec n u)) z (by_effect known_of does (get_or w 0 0) w refl s)
      (W.well a b (by_head known_of does (get_or w 0 0) w refl ∙ c) (rw z d) (rw z e) (by_good known_of does (get_or w 0 0) w refl s ∙ f))

  from_way : (t : Turn S) → W.Way cap T s (get_or w 0 0) w t → Ruled t
  unfolding commands
  from_way t (W.foreign a) = foreign a
  from_way t (W.no_head a b) = no_head a b
  from_way t (W.bad_head a b c) = bad_head a b (sym (by_head known_of does (get_or w 0 0) w refl) ∙ c)
  from_way t (W.long a b c d) = long a b (sym (by_head known_of does (get_or w 0 0) w refl) ∙ c) (rw (by_size known_of does (get_or w 0 0) w refl) at d)
  from_way t (W.no_rest a b c d e) =
      let z = by_size known_of does (get_or w 0 0) w refl in no_rest a b (sym (by_head known_of does (get_or w 0 0) w refl) ∙ c) (rw z at d) (rw z at e)
  from_way t (W.bad a b c d e f) =
      let z = by_size known_of does (get_or w 0 0) w refl in
      bad a b (sym (by_head known_of does (get_or w 0 0) w refl) ∙ c) (rw z at d) (rw z at e) (sym (by_good known_of does (get_or w 0 0) w refl s) ∙ f)
  from_way t (W.well a b c d e f) =
      let z = by_size known_of does (get_or w 0 0) w refl in
      subst₂ (λ (n : ℕ) (u : S). Ruled (exec n u)) (sym z) (sym (by_effect known_of does (get_or w 0 0) w refl s))
      (well a b (sym (by_head known_of does (get_or w 0 0) w refl) ∙ c) (rw z at d) (rw z at e) (sym (by_good known_of does (get_or w 0 0) w refl s) ∙ f))

  -- every turn goes by one of them, and the rule determines the turn
  pub ruled : 1 ≤ length w → Ruled (turn_of cap T s w)
  ruled h = rw (turn_some cap T s w h) (from_way _ (way cap T s (get_or w 0 0) w))

  pub by_rule : 1 ≤ length w → (t : Turn S) → Ruled t → turn_of cap T s w ≡ t
  by_rule h t r = turn_some cap T s w h ∙ turn_by cap T s (get_or w 0 0) w t (to_way t r)

-- ---- a turn by what it finds

module _ {S : Type 0} (known_of : S → Known) (does : Action → List ℕ → S → S) (cap : ℕ) (s : S) where
  carried_on : (w : List ℕ) (t : Turn (Option Action)) → Ruled (λ m. known_of s) (λ a v m. some a) cap none w t → Ruled known_of does cap s w (on_machine does s w t)
  carried_on w t (foreign a) = foreign a
  carried_on w t (no_head a b) = no_head a b
  carried_on w t (bad_head a b c) = bad_head a b c
  carried_on w t (long a b c d) = long a b c d
  carried_on w t (no_rest a b c d e) = no_rest a b c d e
  carried_on w t (bad a b c d e f) = bad a b c d e f
  carried_on w t (well a b c d e f) = well a b c d e f

  pub turn_found : (w : List ℕ) → turn_of cap (commands known_of does) s w ≡ on_machine does s w (finds_in (known_of s) cap w)
  unfolding turn_of
  turn_found [] = refl
  turn_found (x ∷ w) =
      by_rule known_of does cap s (x ∷ w) (omega arith) _
      (carried_on (x ∷ w) _ (ruled (λ m. known_of s) (λ a v m. some a) cap none (x ∷ w) (omega arith)))
