-- Laws of words stored into a ring one behind the other: which words they leave alone, those of a copy in a row, and the appends that they are.
-- Assumes nothing.
use mathlib.Core.Path.{◌≡◌, refl, sym, ap, ap₂, ◌∙◌}
use mathlib.Core.Bool.{true}
use mathlib.Core.List.{List, [], ◌∷◌, ◌++◌, append-nil}
use Prim.Native.Nat.{ℕ, suc, ◌+◌, ◌-◌, ◌*◌, ◌/◌, ◌≤◌, ◌<◌}
use native.Mathlib.Omega.{arith}
use lib.ListN.{length, get_or, set, take, drop, length-set, length-append}
use lib.Seq.{sets, sets-eq, paste, take_all, take-length, take-suc, length-take-le, get_or-set_other, set-get_or, set-set, set_comm}
use borrow.Author.Tests.{lt-ltb, le-ltb}
use Rattle.geometry.proofs.Tabulate.{length-tabulate, get_or-tabulate}
use Rattle.ring.specs.Acceptance.{min_of, max_of, next_of, stop_of, Usable}
use Rattle.ring.specs.Append.{moved_on, can_append, append_to}
use Rattle.ring.specs.Waiting.{after, ahead}
use Rattle.ring.proofs.Laws.{usable_when, when_usable}
use Rattle.ring.proofs.WaitingLaws.{InRing, after_in, next_in, ahead_in, ahead_zero, ahead_after, ahead_ahead}
use Rattle.ring.proofs.AppendLaws.{append_keeps, next_append, moved}
use Rattle.writer.specs.Writing.{Command, word_from, data_words, command_words, free_words, append_all}
use Rattle.writer.specs.Laying.{laid}
use Rattle.writer.proofs.RoomLaws.{room, free_append, free_waiting}

-- the place behind the one k words on
pub after_ahead : (lo hi p k : ℕ) → InRing lo hi p (k + 1) → after lo hi (ahead lo hi p k) ≡ ahead lo hi p (k + 1)
after_ahead lo hi p k h =
    let q = ahead lo hi p k in
    let b = ahead_in lo hi p k (record { from = h.from; below = h.below; held = omega arith }) in
    let i = after_in lo hi q b.0 b.1 in
    sym (ahead_zero lo hi (after lo hi q) i.1)
    ∙ ahead_after lo hi q 0 (record { from = b.0; below = b.1; held = omega arith })
    ∙ ahead_ahead lo hi p k 1 h.from h.below h.held

-- ---- what they leave

module _ (lo hi : ℕ) where
  -- the ring memory is as long as before
  pub length-laid : (p : ℕ) (w ring : List ℕ) → length (laid lo hi p w ring) ≡ length ring
  unfolding laid
  length-laid p [] ring = refl
  length-laid p (x ∷ w) ring = length-laid (after lo hi p) w (set ring p x) ∙ length-set ring p x

  -- words and then others, the others from the place behind them on
  pub laid_append : (p : ℕ) (u v ring : List ℕ) → InRing lo hi p (length u)
      → laid lo hi p (u ++ v) ring ≡ laid lo hi (ahead lo hi p (length u)) v (laid lo hi p u ring)
  unfolding laid
  laid_append p [] v ring h = ap (λ q. laid lo hi q v ring) (sym (ahead_zero lo hi p h.below))
  laid_append p (x ∷ u) v ring h =
      laid_append (after lo hi p) u v (set ring p x) (next_in lo hi p (length u) h)
      ∙ ap (λ q. laid lo hi q v (laid lo hi (after lo hi p) u (set ring p x))) (ahead_after lo hi p (length u) h)

  -- a word below the ring stays
  pub laid_below : (p : ℕ) (w ring : List ℕ) (i : ℕ) → i < lo → lo ≤ p → p < hi → get_or (laid lo hi p w ring) i 0 ≡ get_or ring i 0
  unfolding laid
  laid_below p [] ring i l a b = refl
  laid_below p (x ∷ w) ring i l a b =
      let q = after_in lo hi p a b in
      laid_below (after lo hi p) w (set ring p x) i l q.0 q.1 ∙ get_or-set_other ring p i x 0 (λ e. let same : i ≡ p = e in omega arith)

  -- and a store there may come before or after them
  pub laid_set : (p : ℕ) (w ring : List ℕ) (i y : ℕ) → i < lo → lo ≤ p → p < hi → laid lo hi p w (set ring i y) ≡ set (laid lo hi p w ring) i y
  unfolding laid
  laid_set p [] ring i y l a b = refl
  laid_set p (x ∷ w) ring i y l a b =
      let q = after_in lo hi p a b in
      ap (laid lo hi (after lo hi p) w) (set_comm ring i p y x (λ e. let same : i ≡ p = e in omega arith))
      ∙ laid_set (after lo hi p) w (set ring p x) i y l q.0 q.1

  -- ---- one word more

  -- the next word goes to the place behind the first j
  pub laid_suc : (p : ℕ) (w ring : List ℕ) (j : ℕ) → InRing lo hi p j → j < length w
      → set (laid lo hi p (take j w) ring) (ahead lo hi p j) (get_or w j 0) ≡ laid lo hi p (take (suc j) w) ring
  unfolding laid
  laid_suc p w ring j h l =
      let n : length (take j w) ≡ j = length-take-le j w (omega arith) in
      sym (ap (λ u. laid lo hi p u ring) (take-suc w j 0 l)
      ∙ laid_append p (take j w) (get_or w j 0 ∷ []) ring (record { from = h.from; below = h.below; held = omega arith })
      ∙ ap (λ k. set (laid lo hi p (take j w) ring) (ahead lo hi p k) (get_or w j 0)) n)

  -- ---- in a row

  -- those that do not wrap are stored in a row
  laid_sets : (p : ℕ) (w ring : List ℕ) → p + length w ≤ hi → laid lo hi p w ring ≡ sets ring p w
  unfolding laid after
  laid_sets p [] ring l = refl
  laid_sets p (x ∷ []) ring l = refl
  laid_sets p (x ∷ y ∷ w) ring l = rw (lt-ltb (suc p) hi (omega arith)) (laid_sets (suc p) (y ∷ w) (set ring p x) (omega arith))

  -- as a copy
  pub laid_row : (p : ℕ) (w ring : List ℕ) → p + length w ≤ hi → hi ≤ length ring → laid lo hi p w ring ≡ paste ring p w (length w)
  laid_row p w ring l f =
      laid_sets p w ring l
      ∙ sets-eq w ring p (omega arith)
      ∙ ap (λ (u : List ℕ). take p ring ++ u ++ drop (p + length w) ring) (sym (take-length w))

  -- the words up to the ring's end, and the others from its begin on
  pub laid_wrapped : (p : ℕ) (u v ring : List ℕ) → InRing lo hi p (length (u ++ v)) → hi ≤ length ring → length u ≡ hi - p
      → paste (paste ring p u (length u)) lo v (length v) ≡ laid lo hi p (u ++ v) ring
  unfolding ahead
  laid_wrapped p u v ring h there some =
      let n = length-append u v in
      let begin : ahead lo hi p (length u) ≡ lo = rw (le-ltb (p + length u) hi (omega arith)) (omega arith) in
      sym (laid_append p u v ring (record { from = h.from; below = h.below; held = omega arith })
      ∙ ap (λ q. laid lo hi q v (laid lo hi p u ring)) begin
      ∙ laid_row lo v (laid lo hi p u ring) (omega arith) (rw length-laid there)
      ∙ ap (λ r. paste r lo v (length v)) (laid_row p u ring (omega arith) there))

-- ---- data

-- "ceil(size/4)"
pub length_data : (bytes : List ℕ) → length (data_words bytes) ≡ (length bytes + 3) / 4
unfolding data_words
length_data bytes = length-tabulate ((length bytes + 3) / 4) (λ i. word_from bytes (4 * i))

-- each is of four bytes
pub data_word : (bytes : List ℕ) (j : ℕ) → j < (length bytes + 3) / 4 → get_or (data_words bytes) j 0 ≡ word_from bytes (4 * j)
unfolding data_words
data_word bytes j h = get_or-tabulate ((length bytes + 3) / 4) (λ i. word_from bytes (4 * i)) j h

-- ---- a command's words

-- from place p on, some of them and then, from q on, the others
module _ (lo hi p : ℕ) (u v : List ℕ) (q : ℕ) (h : InRing lo hi p (length (u ++ v))) (is : q ≡ ahead lo hi p (length u)) where
  first_in : InRing lo hi p (length u)
  first_in = let n = length-append u v in record { from = h.from; below = h.below; held = omega arith }

  -- the others are in the ring
  pub others_in : InRing lo hi q (length v)
  others_in =
      let n = length-append u v in
      let i = ahead_in lo hi p (length u) first_in in
      record { from = omega arith; below = omega arith; held = omega arith }

  -- these are all
  pub laid_both : (ring : List ℕ) → laid lo hi q v (laid lo hi p u ring) ≡ laid lo hi p (u ++ v) ring
  laid_both ring = rw is (sym (laid_append lo hi p u v ring first_in))

  -- and the place behind the others is that behind all
  pub behind_both : ahead lo hi q (length v) ≡ ahead lo hi p (length (u ++ v))
  behind_both =
      let n = length-append u v in
      rw is (ahead_ahead lo hi p (length u) (length v) h.from h.below (omega arith) ∙ ap (ahead lo hi p) (sym n))

none_left : (w : List ℕ) → length w ≤ 0 → w ≡ []
none_left w none = sym (take_all 0 w none)

-- no words change nothing
pub laid_none : (lo hi p : ℕ) (w ring : List ℕ) → length w ≤ 0 → ring ≡ laid lo hi p w ring
unfolding laid
laid_none lo hi p w ring n = rw (none_left w n) refl

-- with no pixels and no data, those of its head
pub command_bare : (c : Command) → length c.pixels ≤ 0 → length c.bytes ≤ 0 → command_words c ≡ c.head
unfolding command_words
command_bare c bare none =
    let few : length (data_words c.bytes) ≤ 0 = rw length_data (omega arith) in
    ap₂ (λ (x : List ℕ) (y : List ℕ). c.head ++ (x ++ y)) (none_left c.pixels bare) (none_left (data_words c.bytes) few) ∙ append-nil c.head

-- ---- by appends

appended_word : (ring : List ℕ) (x : ℕ) → can_append ring ≡ true
    → append_to ring x ≡ set (set ring (next_of ring / 4) x) 2 (moved_on (min_of ring) (max_of ring) (next_of ring))
unfolding append_to
appended_word ring x can = rw can

-- "by the published rule": words appended one by one, as many as are free at most, are stored one behind the other, "NEXT_CMD once at the end"; MIN, MAX
-- and NEXT_CMD in words
pub all_laid : (w ring : List ℕ) (lo hi next : ℕ) → lo ≡ min_of ring / 4 → hi ≡ max_of ring / 4 → next ≡ next_of ring / 4
    → Usable ring → length w ≤ free_words ring
    → append_all ring w ≡ set (laid lo hi next w ring) 2 (ahead lo hi next (length w) * 4)
unfolding append_all laid
all_laid [] ring lo hi next low high at u some =
    let here = ahead_zero lo hi next (omega arith) in
    let same : ahead lo hi next 0 * 4 ≡ next_of ring = omega arith in
    sym (ap (set ring 2) same ∙ set-get_or ring 2 0)
all_laid (x ∷ w) ring lo hi next low high at u some =
    let can = (room ring u).0 (omega arith) in
    let behind = moved_on (min_of ring) (max_of ring) (next_of ring) in
    let kept = append_keeps ring x in
    let fewer = free_append ring x can in
    let all = free_waiting ring u in
    let on = next_append ring x can ∙ moved ring lo hi (stop_of ring / 4) low high refl u in
    let q = after_in lo hi next (omega arith) (omega arith) in
    let held : InRing lo hi next (suc (length w)) = record { from = omega arith; below = omega arith; held = omega arith } in
    let good = usable_when (append_to ring x) (kept.3 ∙ when_usable ring u) in
    all_laid w (append_to ring x) lo hi (after lo hi next) (omega arith) (omega arith) (rw at (omega arith)) good (omega arith)
    ∙ ap₂ (λ r k. set (laid lo hi (after lo hi next) w r) 2 (k * 4)) (rw at (appended_word ring x can)) (ahead_after lo hi next (length w) held)
    ∙ ap (λ r. set r 2 (ahead lo hi next (suc (length w)) * 4)) (laid_set lo hi (after lo hi next) w (set ring next x) 2 behind (omega arith) q.0 q.1)
    ∙ set-set (laid lo hi (after lo hi next) w (set ring next x)) 2 behind (ahead lo hi next (suc (length w)) * 4)
