-- A list of words walked over pair by pair.
-- Assumes nothing.
use Rattle.std.proofs.Common.{◌≡◌, refl, sym, ap, ap₂, subst, ◌∙◌, List, [], ◌∷◌, ◌++◌, append_assoc, ℕ, suc, ◌+◌, ◌*◌, ◌/◌, ◌≤◌, ◌<◌, arith, add-one, length, get_or, set, take, drop, length-set, length-drop, take-append-drop, drop-cons, drop-drop, take-suc-set, drop-set-lt}
use native.Mathlib.Numerals.{add-two}
use Rattle.history.specs.Calls.{World, perform_all}
use Rattle.history.specs.Replay.{ops_of, answers_in, Walk, walk, walk_of}
use Rattle.history.specs.Pairs.{Pair, pair_of}

-- words before a walk
abbrev before : List ℕ → Walk → Walk
before p r = walk (p ++ r.list) r.world

before_before : (p q : List ℕ) (r : Walk) → before p (before q r) ≡ before (p ++ q) r
before_before p q r = λ i. walk (sym (append_assoc p q r.list) i) r.world

walk_short : (l : List ℕ) (w : World) → length l ≤ 1 → walk_of l w ≡ walk l w
unfolding walk_of answers_in ops_of perform_all
walk_short [] w h = refl
walk_short (k ∷ []) w h = refl
walk_short (k ∷ x ∷ l) w h = absurd (omega arith)

walk_pair : (k x : ℕ) (l : List ℕ) (w : World) (p : Pair) → p ≡ pair_of k x w
    → walk_of (k ∷ x ∷ l) w ≡ before (p.answer ∷ p.count ∷ []) (walk_of l p.world)
unfolding walk_of answers_in ops_of perform_all pair_of
walk_pair k x l w p q = rw q

-- So many words of a list have been walked over: the list has their answers, the rest of it is as it was, and the walk still to do is the whole walk.
pub record Walked (list₀ : List ℕ) (w₀ : World) (list : List ℕ) (w : World) (i : ℕ) : Type 0 where
  pub part : i ≤ length list₀
  pub same_length : length list ≡ length list₀
  pub rest : drop i list ≡ drop i list₀
  pub done : walk_of list₀ w₀ ≡ before (take i list) (walk_of (drop i list₀) w)

-- two words written
module _ (list : List ℕ) (i a c : ℕ) (there : i + 2 ≤ length list) where
  abbrev wrote : List ℕ
  wrote = set (set list i a) (i + 1) c

  wrote_front : take (i + 2) wrote ≡ take i list ++ (a ∷ c ∷ [])
  wrote_front =
      rw (add-two i, add-one i)
      (take-suc-set (set list i a) (suc i) c (rw length-set (omega arith))
      ∙ ap (λ (l : List ℕ). l ++ (c ∷ [])) (take-suc-set list i a (omega arith))
      ∙ append_assoc (take i list) (a ∷ []) (c ∷ []))

  wrote_rest : drop (i + 2) wrote ≡ drop (i + 2) list
  wrote_rest = drop-set-lt (i + 2) (set list i a) (i + 1) c (omega arith) ∙ drop-set-lt (i + 2) list i a (omega arith)

  two_words : drop i list ≡ get_or list i 0 ∷ get_or list (i + 1) 0 ∷ drop (i + 2) list
  two_words =
      rw (add-two i, add-one i)
      (drop-cons list i 0 (omega arith) ∙ ap (λ (l : List ℕ). get_or list i 0 ∷ l) (drop-cons list (suc i) 0 (omega arith)))

module _ (list₀ : List ℕ) (w₀ : World) (list : List ℕ) (w : World) (i : ℕ) (h : Walked list₀ w₀ list w i) where
  pub walked_two : (p : Pair) → i + 2 ≤ length list → p ≡ pair_of (get_or list i 0) (get_or list (i + 1) 0) w
      → Walked list₀ w₀ (set (set list i p.answer) (i + 1) p.count) p.world (i + 2)
  walked_two p there q =
      let on : drop (i + 2) list ≡ drop (i + 2) list₀ = sym (drop-drop 2 i list) ∙ ap (drop 2) h.rest ∙ drop-drop 2 i list₀ in
      let found = two_words list i p.answer p.count there in
      record {
        part = omega (arith, h.same_length);
        same_length = length-set (set list i p.answer) (i + 1) p.count ∙ length-set list i p.answer ∙ h.same_length;
        rest = wrote_rest list i p.answer p.count there ∙ on;
        done = h.done
            ∙ ap (before (take i list))
            (ap (λ l. walk_of l w) (sym h.rest ∙ found) ∙ walk_pair (get_or list i 0) (get_or list (i + 1) 0) (drop (i + 2) list) w p q)
            ∙ before_before (take i list) (p.answer ∷ p.count ∷ []) (walk_of (drop (i + 2) list) p.world)
            ∙ ap₂ before (sym (wrote_front list i p.answer p.count there)) (ap (λ l. walk_of l p.world) on);
      }

  pub walked_all : length list ≤ i + 1 → walk list w ≡ walk_of list₀ w₀
  walked_all e =
      let short : length (drop i list₀) ≤ 1 = rw length-drop (omega (arith, h.same_length)) in
      sym
      (h.done
      ∙ ap (before (take i list)) (walk_short (drop i list₀) w short)
      ∙ ap (λ l. walk l w) (ap (λ l. take i list ++ l) (sym h.rest) ∙ take-append-drop i list))

-- the same by pairs: k of them have been walked over, and one more, or all
module _ (list₀ : List ℕ) (w₀ : World) (list : List ℕ) (w : World) (k : ℕ) (h : Walked list₀ w₀ list w (2 * k)) where
  pub walked_more : (p : Pair) → k < length list₀ / 2 → p ≡ pair_of (get_or list (2 * k) 0) (get_or list (2 * k + 1) 0) w
      → Walked list₀ w₀ (set (set list (2 * k) p.answer) (2 * k + 1) p.count) p.world (2 * (k + 1))
  walked_more p there q =
      let on : 2 * k + 2 ≡ 2 * (k + 1) = omega arith in
      subst (Walked list₀ w₀ (set (set list (2 * k) p.answer) (2 * k + 1) p.count) p.world) on
      (walked_two list₀ w₀ list w (2 * k) h p (omega (arith, h.same_length)) q)

  pub walked_end : length list₀ / 2 ≤ k → walk list w ≡ walk_of list₀ w₀
  walked_end e = walked_all list₀ w₀ list w (2 * k) h (omega (arith, h.same_length))
