-- What follows of straight execution from the laws of a command set.
-- Assumes nothing.
use mathlib.Core.Path.{◌≡◌, refl, sym, ap, ◌∙◌}
use mathlib.Core.List.{List, [], ◌∷◌}
use Prim.Native.Nat.{ℕ, zero, suc, ◌+◌, ◌≤◌, min}
use native.Mathlib.Omega.{arith}
use native.Mathlib.Nat.{zero-add, suc-add, zero-min, min-zero, suc-min-suc}
use lib.ListN.{length, drop, length-drop}
use lib.Seq.{drop-append-le}
use Rattle.execution.specs.declared.End.{End}
use Rattle.execution.specs.declared.End.TheVariants.{Drained}
use Rattle.execution.specs.Straight.{Turn, ends, exec, Line, beyond, more, end_of, next, steps, straight, whole, ending}
use Rattle.execution.specs.Table.{Laws}

module _ {S : Type 0} (turn : S → List ℕ → Turn S) where
  pub steps_ends : (k : ℕ) (a : Line S) (e : End) → next turn a ≡ ends e → steps turn k a ≡ 0
  unfolding steps
  steps_ends zero a e q = refl
  steps_ends (suc k) a e q = rw (q, steps)

  pub steps_exec : (k : ℕ) (a : Line S) (n : ℕ) (s : S) → next turn a ≡ exec n s → steps turn (suc k) a ≡ suc (steps turn k (beyond a n s))
  unfolding steps
  steps_exec k a n s q = rw (q, steps)

  pub straight_ends : (k : ℕ) (a : Line S) (e : End) → next turn a ≡ ends e → straight turn k a ≡ a
  unfolding straight
  straight_ends zero a e q = refl
  straight_ends (suc k) a e q = rw (q, straight)

  pub straight_exec : (k : ℕ) (a : Line S) (n : ℕ) (s : S) → next turn a ≡ exec n s → straight turn (suc k) a ≡ straight turn k (beyond a n s)
  unfolding straight
  straight_exec k a n s q = rw (q, straight)

  -- k steps execute from a and leave b: the form in which the proofs carry it
  pub data Goes : ℕ → Line S → Line S → Type 0 where
    here : {a : Line S} → Goes 0 a a
    on : {k n : ℕ} {a b : Line S} {s : S} → next turn a ≡ exec n s → Goes k (beyond a n s) b → Goes (suc k) a b

  pub goes_steps : {k : ℕ} {a b : Line S} → Goes k a b → steps turn k a ≡ k
  unfolding steps
  goes_steps here = refl
  goes_steps (on {k} {n} {a} {b} {s} q g) = steps_exec k a n s q ∙ ap suc (goes_steps g)

  pub goes_straight : {k : ℕ} {a b : Line S} → Goes k a b → straight turn k a ≡ b
  unfolding straight
  goes_straight here = refl
  goes_straight (on {k} {n} {a} {b} {s} q g) = straight_exec k a n s q ∙ goes_straight g

  pub goes_on : {k m : ℕ} {a b c : Line S} → Goes k a b → Goes m b c → Goes (k + m) a c
  goes_on {m} here h = rw zero-add h
  goes_on (on q g) h = rw suc-add (on q (goes_on g h))

  pub goes_shorter : {k : ℕ} {a b : Line S} → Goes k a b → length b.words ≤ length a.words
  goes_shorter here = omega arith
  goes_shorter (on {n} {a} q g) = omega (arith, goes_shorter g, length-drop n a.words)

  pub steps_le : (k : ℕ) (a : Line S) → steps turn k a ≤ k
  unfolding steps
  steps_le zero a = omega arith
  steps_le (suc k) a = go (next turn a) refl (λ b. steps_le k b)
    where
      go : (t : Turn S) → next turn a ≡ t → ((b : Line S) → steps turn k b ≤ k) → steps turn (suc k) a ≤ suc k
      go (ends e) q ih = rw (steps_ends (suc k) a e q) (omega arith)
      go (exec n s) q ih = rw (steps_exec k a n s q) (omega (arith, ih (beyond a n s)))

  module _ {cap : ℕ} (laws : Laws cap turn) where
    pub goes_more : {k : ℕ} {a b : Line S} (v : List ℕ) → Goes k a b → Goes k (more a v) (more b v)
    goes_more v here = here
    goes_more v (on {k} {n} {a} {b} {s} q g) =
        let l = laws.takes_whole a.machine s a.words n q in
        on {k = k} {b = more b v} (laws.exec_stays a.machine s a.words v n q) (rw (drop-append-le n a.words v l) (goes_more v g))

    shorter : (f : ℕ) (a : Line S) (n : ℕ) (s : S) → next turn a ≡ exec n s → length a.words ≤ suc f → length (drop n a.words) ≤ f
    shorter f a n s q h = rw length-drop (omega (arith, laws.takes_one a.machine s a.words n q))

    no_words : (s : S) (w : List ℕ) → length w ≤ 0 → turn s w ≡ ends Drained
    no_words s [] h = laws.empty s
    no_words s (x ∷ w) h = absurd (omega arith)

    -- with as many steps as words allowed, or more, only the budget cuts
    pub steps_min : (b f : ℕ) (a : Line S) → length a.words ≤ f → steps turn b a ≡ min b (steps turn f a)
    unfolding steps
    steps_min zero f a h = sym (zero-min (steps turn f a))
    steps_min (suc b) zero a h = simp (steps_ends (suc b) a Drained (no_words a.machine a.words h), min-zero)
    steps_min (suc b) (suc f) a h = go (next turn a) refl (λ n s q. steps_min b f (beyond a n s) (shorter f a n s q h))
      where
        go : (t : Turn S) → next turn a ≡ t → ((n : ℕ) (s : S) → next turn a ≡ exec n s → steps turn b (beyond a n s) ≡ min b (steps turn f (beyond a n s)))
            → steps turn (suc b) a ≡ min (suc b) (steps turn (suc f) a)
        go (ends e) q ih = simp (steps_ends (suc b) a e q, steps_ends (suc f) a e q, min-zero)
        go (exec n s) q ih = simp (steps_exec b a n s q, steps_exec f a n s q, suc-min-suc, ih n s q)

    pub steps_enough : (f : ℕ) (a : Line S) → length a.words ≤ f → steps turn f a ≡ whole turn a
    unfolding whole
    steps_enough f a h = omega (arith, steps_min f (length a.words) a (omega arith), steps_le (length a.words) a)

    pub whole_exec : (a : Line S) (n : ℕ) (s : S) → next turn a ≡ exec n s → whole turn a ≡ suc (whole turn (beyond a n s))
    whole_exec a n s q =
        let l = length a.words in
        sym (steps_enough (suc l) a (omega arith)) ∙ steps_exec l a n s q
        ∙ ap suc (steps_enough l (beyond a n s) (shorter l a n s q (omega arith)))

    pub whole_ends : (a : Line S) (e : End) → next turn a ≡ ends e → whole turn a ≡ 0
    unfolding whole
    whole_ends a e q = steps_ends (length a.words) a e q

    pub ending_exec : (a : Line S) (n : ℕ) (s : S) → next turn a ≡ exec n s → ending turn a ≡ ending turn (beyond a n s)
    unfolding ending
    ending_exec a n s q = rw (whole_exec a n s q, straight_exec (whole turn (beyond a n s)) a n s q)

    pub ending_ends : (a : Line S) (e : End) → next turn a ≡ ends e → ending turn a ≡ e
    unfolding ending end_of
    ending_ends a e q = rw (whole_ends a e q, straight_ends 0 a e q, q)

    -- straight execution does end, with that answer
    pub ending_is : (f : ℕ) (a : Line S) → length a.words ≤ f → next turn (straight turn (whole turn a) a) ≡ ends (ending turn a)
    unfolding straight
    ending_is zero a h =
        let q = no_words a.machine a.words h in
        rw (whole_ends a Drained q, ending_ends a Drained q) q
    ending_is (suc f) a h = go (next turn a) refl (λ n s q. ending_is f (beyond a n s) (shorter f a n s q h))
      where
        go : (t : Turn S) → next turn a ≡ t
            → ((n : ℕ) (s : S) → next turn a ≡ exec n s → next turn (straight turn (whole turn (beyond a n s)) (beyond a n s)) ≡ ends (ending turn (beyond a n s)))
            → next turn (straight turn (whole turn a) a) ≡ ends (ending turn a)
        go (ends e) q ih = rw (whole_ends a e q, ending_ends a e q) q
        go (exec n s) q ih =
            rw (whole_exec a n s q, straight_exec (whole turn (beyond a n s)) a n s q, ending_exec a n s q) (ih n s q)

    -- of every line: as many steps as are said to execute do, and then the answer that is said to end it does
    pub straight_total : (a : Line S) → (steps turn (whole turn a) a ≡ whole turn a) × (next turn (straight turn (whole turn a) a) ≡ ends (ending turn a))
    unfolding whole
    straight_total a = (
      omega (arith, steps_min (whole turn a) (length a.words) a (omega arith), steps_le (length a.words) a),
      ending_is (length a.words) a (omega arith),
    )
