-- Laws of `tabulate`, and of a loop that stores over a list from the front.
-- Assumes nothing.
use mathlib.Core.Path.{◌≡◌, refl, sym, ap, ◌∙◌}
use mathlib.Core.List.{List, [], ◌∷◌, ◌++◌, append-nil}
use Prim.Native.Nat.{ℕ, zero, suc, ◌+◌, ◌≤◌, ◌<◌}
use native.Mathlib.Nat.{not-suc-le-zero, le_of_suc-le-suc}
use native.Mathlib.Numerals.{add-one}
use native.Mathlib.Omega.{arith}
use lib.ListN.{length, get_or, set, drop, length-set}
use lib.Seq.{ext_get_or, drop-length}
use Rattle.geometry.specs.Pixels.{tabulate}

pub length-tabulate : (n : ℕ) (f : ℕ → ℕ) → length (tabulate n f) ≡ n
unfolding tabulate
length-tabulate zero f = refl
length-tabulate (suc n) f = ap suc (length-tabulate n (λ k. f (suc k)))

pub get_or-tabulate : (n : ℕ) (f : ℕ → ℕ) (k : ℕ) → k < n → get_or (tabulate n f) k 0 ≡ f k
unfolding tabulate
get_or-tabulate zero f k h = absurd (not-suc-le-zero h)
get_or-tabulate (suc n) f zero h = refl
get_or-tabulate (suc n) f (suc k) h = get_or-tabulate n (λ j. f (suc j)) k (le_of_suc-le-suc h)

-- a list is the table of its length and its elements
pub is_tabulate : (l : List ℕ) (n : ℕ) (f : ℕ → ℕ) → length l ≡ n → ((k : ℕ) → k < n → get_or l k 0 ≡ f k) → l ≡ tabulate n f
is_tabulate l n f e h =
    ext_get_or 0 l (tabulate n f) (e ∙ sym (length-tabulate n f))
    (λ k lt. let b : k < n = omega arith in h k b ∙ sym (get_or-tabulate n f k b))

pub table_of : (l : List ℕ) → l ≡ tabulate (length l) (λ k. get_or l k 0)
table_of l = is_tabulate l (length l) (λ k. get_or l k 0) refl (λ k h. refl)

-- ---- a loop that stores f 0, f 1, .. over d from the front: its invariant, and what a turn and the end ask

pub record Front (f : ℕ → ℕ) (d row : List ℕ) (i : ℕ) : Type 0 where
  pub below : i ≤ length d
  pub same : length row ≡ length d
  pub is : row ≡ tabulate i f ++ drop i d

front_suc : (i : ℕ) (f : ℕ → ℕ) (d : List ℕ) → i < length d → set (tabulate i f ++ drop i d) i (f i) ≡ tabulate (suc i) f ++ drop (suc i) d
unfolding tabulate
front_suc i f [] h = absurd (not-suc-le-zero h)
front_suc zero f (x ∷ d) h = refl
front_suc (suc i) f (x ∷ d) h = ap (λ (t : List ℕ). f 0 ∷ t) (front_suc i (λ k. f (suc k)) d (le_of_suc-le-suc h))

front_at : (i : ℕ) (f : ℕ → ℕ) (d : List ℕ) → i < length d → get_or (tabulate i f ++ drop i d) i 0 ≡ get_or d i 0
unfolding tabulate
front_at i f [] h = absurd (not-suc-le-zero h)
front_at zero f (x ∷ d) h = refl
front_at (suc i) f (x ∷ d) h = front_at i (λ k. f (suc k)) d (le_of_suc-le-suc h)

pub front_start : (f : ℕ → ℕ) (d : List ℕ) → Front f d d 0
unfolding tabulate
front_start f d = record { below = omega arith; same = refl; is = refl }

module _ {f : ℕ → ℕ} {d row : List ℕ} {i : ℕ} (now : Front f d row i) where
  -- what is still to be stored over is as it was
  pub front_read : i < length row → get_or row i 0 ≡ get_or d i 0
  front_read h = rw now.is (front_at i f d (rw now.same at h))

  pub front_step : (v : ℕ) → i < length row → v ≡ f i → Front f d (set row i v) (i + 1)
  front_step v h e = record {
    below = omega (arith, now.same);
    same = length-set row i v ∙ now.same;
    is = rw (now.is, e, add-one) (front_suc i f d (rw now.same at h));
  }

  pub front_end : length row ≤ i → row ≡ tabulate (length d) f
  front_end h =
      let e : i ≡ length d = omega (arith, now.same, now.below) in
      rw (now.is, e, drop-length, append-nil)

pub ruleset front_loop = (front_start, front_read, front_step, front_end)
