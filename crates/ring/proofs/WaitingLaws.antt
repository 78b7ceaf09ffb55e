-- Laws of a ring's waiting words: each of them, their number, what is left after some, and what a store does to them.
-- Assumes nothing.
use mathlib.Core.Path.{◌≡◌, refl, sym, ap, ap₂, ◌∙◌}
use mathlib.Core.List.{List, [], ◌∷◌, ◌++◌}
use mathlib.Core.Logic.{◌↔◌}
use Prim.Native.Nat.{ℕ, zero, suc, ◌+◌, ◌-◌, ◌≤◌, ◌<◌}
use native.Mathlib.Omega.{arith}
use lib.ListN.{length, get_or, set, take, drop}
use lib.Seq.{get_or-set_other, get_or-set_same}
use Rattle.std.proofs.lemmas.Bool.Decides.{nat_tests}
use borrow.Author.Tests.{lt-ltb}
use Rattle.ring.specs.Waiting.{after, ahead, between, words, waiting, carried}

-- p is a place of the ring, and the ring holds n words
pub record InRing (lo hi p n : ℕ) : Type 0 where
  pub from : lo ≤ p
  pub below : p < hi
  pub held : n + lo ≤ hi

-- the places of the ring
pub after_in : (lo hi p : ℕ) → lo ≤ p → p < hi → (lo ≤ after lo hi p) × (after lo hi p < hi)
unfolding after
after_in lo hi p a b = grind (arith, nat_tests)

pub ahead_in : (lo hi p k : ℕ) → InRing lo hi p k → (lo ≤ ahead lo hi p k) × (ahead lo hi p k < hi)
unfolding ahead
ahead_in lo hi p k h = grind (arith, nat_tests)

pub ahead_zero : (lo hi p : ℕ) → p < hi → ahead lo hi p 0 ≡ p
unfolding ahead
ahead_zero lo hi p b = grind (arith, nat_tests)

pub ahead_after : (lo hi p k : ℕ) → InRing lo hi p (suc k) → ahead lo hi (after lo hi p) k ≡ ahead lo hi p (suc k)
unfolding after ahead
ahead_after lo hi p k h = grind (arith, nat_tests)

-- k words on, and n more
pub ahead_ahead : (lo hi p k n : ℕ) → lo ≤ p → p < hi → k + n + lo ≤ hi → ahead lo hi (ahead lo hi p k) n ≡ ahead lo hi p (k + n)
unfolding ahead
ahead_ahead lo hi p k n from below held = grind (arith, nat_tests)

-- one place on, with one word fewer
pub next_in : (lo hi p n : ℕ) → InRing lo hi p (suc n) → InRing lo hi (after lo hi p) n
next_in lo hi p n h = let q = after_in lo hi p h.from h.below in record { from = q.0; below = q.1; held = omega arith }

pub length-words : (ring : List ℕ) (lo hi p n : ℕ) → length (words ring lo hi p n) ≡ n
unfolding words
length-words ring lo hi p zero = refl
length-words ring lo hi p (suc n) = ap suc (length-words ring lo hi (after lo hi p) n)

-- word i is at the place i words on
pub get_or-words : (ring : List ℕ) (lo hi p n i : ℕ) → InRing lo hi p n → i < n → get_or (words ring lo hi p n) i 0 ≡ get_or ring (ahead lo hi p i) 0
unfolding words
get_or-words ring lo hi p zero i h l = let z : ⊥ = omega arith in absurd z
get_or-words ring lo hi p (suc n) zero h l = rw (ahead_zero lo hi p h.below)
get_or-words ring lo hi p (suc n) (suc i) h l =
    get_or-words ring lo hi (after lo hi p) n i (next_in lo hi p n h) (omega arith)
    ∙ ap (λ k. get_or ring k 0) (ahead_after lo hi p i (record { from = h.from; below = h.below; held = omega arith }))

-- where the ring does not end before it, word i is at the place i further on
pub get_or_straight : (ring : List ℕ) (lo hi p n i : ℕ) → InRing lo hi p n → i < n → p + i < hi → get_or (words ring lo hi p n) i 0 ≡ get_or ring (p + i) 0
unfolding ahead
get_or_straight ring lo hi p n i h l d = get_or-words ring lo hi p n i h l ∙ rw (lt-ltb (p + i) hi d)

pub take_words : (ring : List ℕ) (lo hi p n k : ℕ) → k ≤ n → take k (words ring lo hi p n) ≡ words ring lo hi p k
unfolding words
take_words ring lo hi p n zero l = refl
take_words ring lo hi p zero (suc k) l = let z : ⊥ = omega arith in absurd z
take_words ring lo hi p (suc n) (suc k) l = ap (λ t. get_or ring p 0 ∷ t) (take_words ring lo hi (after lo hi p) n k (omega arith))

-- the words after the first k are those from the place k words on
pub drop-words : (ring : List ℕ) (lo hi p n k : ℕ) → InRing lo hi p n → k ≤ n → drop k (words ring lo hi p n) ≡ words ring lo hi (ahead lo hi p k) (n - k)
unfolding words
drop-words ring lo hi p n zero h l = let e : n ≡ n - 0 = omega arith in ap₂ (λ q m. words ring lo hi q m) (sym (ahead_zero lo hi p h.below)) e
drop-words ring lo hi p zero (suc k) h l = let z : ⊥ = omega arith in absurd z
drop-words ring lo hi p (suc n) (suc k) h l =
    drop-words ring lo hi (after lo hi p) n k (next_in lo hi p n h) (omega arith)
    ∙ (let e : n - k ≡ suc n - suc k = omega arith in
    ap₂ (λ q m. words ring lo hi q m) (ahead_after lo hi p k (record { from = h.from; below = h.below; held = omega arith })) e)

-- a store below the ring changes none of them
pub words_outside : (ring : List ℕ) (lo hi p n q x : ℕ) → lo ≤ p → p < hi → q < lo → words (set ring q x) lo hi p n ≡ words ring lo hi p n
unfolding words
words_outside ring lo hi p zero q x a b c = refl
words_outside ring lo hi p (suc n) q x a b c =
    let h = after_in lo hi p a b in
    ap₂ ◌∷◌ (get_or-set_other ring q p x 0 (λ e. let u : p ≡ q = e in omega arith)) (words_outside ring lo hi (after lo hi p) n q x h.0 h.1 c)

-- fewer words on than the ring holds is another place
ahead_other : (lo hi p k : ℕ) → InRing lo hi p (suc (suc k)) → ahead lo hi p (suc k) ≡ p → ⊥
unfolding ahead
ahead_other lo hi p k h = grind (arith, nat_tests)

-- a store at the place after the n words is one word more
pub words_snoc : (ring : List ℕ) (lo hi p n x : ℕ) → InRing lo hi p (suc n) → hi ≤ length ring → words (set ring (ahead lo hi p n) x) lo hi p (suc n) ≡ words ring lo hi p n ++ (x ∷ [])
unfolding words
words_snoc ring lo hi p zero x h f = ap (λ y. y ∷ []) (rw (ahead_zero lo hi p h.below) (get_or-set_same ring p x 0 (omega arith)))
words_snoc ring lo hi p (suc n) x h f =
    ap₂ ◌∷◌ (get_or-set_other ring (ahead lo hi p (suc n)) p x 0 (λ e. ahead_other lo hi p n h (sym e)))
    (ap (λ k. words (set ring k x) lo hi (after lo hi p) (suc n)) (sym (ahead_after lo hi p n (record { from = h.from; below = h.below; held = omega arith })))
    ∙ words_snoc ring lo hi (after lo hi p) n x (next_in lo hi p (suc n) h) f)

-- k words on from a place are k words from it
pub between_on : (lo hi p k : ℕ) → lo ≤ p → p < hi → k + lo < hi → between lo hi p (ahead lo hi p k) ≡ k
unfolding between ahead
between_on lo hi p k a b h = grind (arith, nat_tests)

-- the number of words from one place up to another
module _ (lo hi p q : ℕ) (a : lo ≤ p) (b : p < hi) (c : lo ≤ q) (d : q < hi) where
  -- never more than the ring carries
  pub between_carried : between lo hi p q ≤ carried lo hi
  unfolding between
  between_carried = grind (arith, nat_tests)

  pub between_in : InRing lo hi p (suc (between lo hi p q))
  between_in = let u = between_carried in record { from = a; below = b; held = omega arith }

  pub between_ahead : (k : ℕ) → k ≤ between lo hi p q → between lo hi (ahead lo hi p k) q ≡ between lo hi p q - k
  unfolding between ahead
  between_ahead k = grind (arith, nat_tests)

  pub ahead_between : ahead lo hi p (between lo hi p q) ≡ q
  unfolding between ahead
  ahead_between = grind (arith, nat_tests)

  -- one place on is one word more, unless it comes round to p
  pub between_after : (after lo hi q ≡ p → ⊥) → between lo hi p (after lo hi q) ≡ suc (between lo hi p q)
  unfolding between after
  between_after = grind (arith, nat_tests)

  -- and it comes round to p exactly at as many words as the ring carries
  pub between_full : (after lo hi q ≡ p) ↔ (between lo hi p q ≡ carried lo hi)
  unfolding between after
  between_full = (λ e. grind (arith, nat_tests), λ e. grind (arith, nat_tests))

-- what waits from STOP up to NEXT_CMD
pub length-waiting : (ring : List ℕ) (lo hi stop next : ℕ) → length (waiting ring lo hi stop next) ≡ between lo hi stop next
unfolding waiting
length-waiting ring lo hi stop next = length-words ring lo hi stop (between lo hi stop next)

pub waiting_outside : (ring : List ℕ) (lo hi stop next q x : ℕ) → lo ≤ stop → stop < hi → q < lo → waiting (set ring q x) lo hi stop next ≡ waiting ring lo hi stop next
unfolding waiting
waiting_outside ring lo hi stop next q x a b c = words_outside ring lo hi stop (between lo hi stop next) q x a b c

-- what waits once STOP has passed k of the words
pub words_left : (ring : List ℕ) (lo hi stop next k : ℕ) → lo ≤ stop → stop < hi → lo ≤ next → next < hi → k ≤ between lo hi stop next
    → waiting ring lo hi (ahead lo hi stop k) next ≡ drop k (waiting ring lo hi stop next)
unfolding waiting
words_left ring lo hi stop next k a b c d l =
    let u = between_carried lo hi stop next a b c d in
    ap (λ n. words ring lo hi (ahead lo hi stop k) n) (between_ahead lo hi stop next a b c d k l)
    ∙ sym (drop-words ring lo hi stop (between lo hi stop next) k (record { from = a; below = b; held = omega arith }) l)

-- the same where ring word 3 has been written
pub words_left_written : (ring : List ℕ) (lo hi stop next k x : ℕ) → 4 ≤ lo → lo ≤ stop → stop < hi → lo ≤ next → next < hi → k ≤ between lo hi stop next
    → waiting (set ring 3 x) lo hi (ahead lo hi stop k) next ≡ drop k (waiting ring lo hi stop next)
words_left_written ring lo hi stop next k x f a b c d l =
    let u = between_carried lo hi stop next a b c d in
    let i = ahead_in lo hi stop k (record { from = a; below = b; held = omega arith }) in
    waiting_outside ring lo hi (ahead lo hi stop k) next 3 x i.0 i.1 (omega arith) ∙ words_left ring lo hi stop next k a b c d l
