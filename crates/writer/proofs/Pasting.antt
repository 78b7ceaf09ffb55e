-- Laws of copies into a ring: of one by single stores, and of two that overlap.
-- Assumes nothing.
use mathlib.Core.Path.{◌≡◌, sym, ap, ap₂, ◌∙◌}
use mathlib.Core.List.{List, ◌++◌, append_assoc}
use Prim.Native.Nat.{ℕ, zero, suc, ◌+◌, ◌≤◌, ◌<◌}
use native.Mathlib.Omega.{arith}
use native.Mathlib.Nat.{add-zero}
use native.Mathlib.Numerals.{add-one}
use lib.ListN.{length, get_or, take, drop, set}
use lib.Seq.{paste, paste-zero, take-paste, drop-paste, length-take-le, take-take, take-add, take-append-add, drop-drop}
use Rattle.run.proofs.Copying.{copy_more}

-- one by one, the first k + 1 words from word from of a row on
module _ (ring : List ℕ) (at : ℕ) (row : List ℕ) (from : ℕ) where
  abbrev pub stored : ℕ → List ℕ
  stored zero = set ring at (get_or row from 0)
  stored (suc k) = set (stored k) (at + suc k) (get_or row (from + suc k) 0)

  -- they are a copy
  pub stored_paste : (k : ℕ) → at + k < length ring → from + k < length row → stored k ≡ paste ring at (drop from row) (k + 1)
  stored_paste zero there some =
      ap (λ r. set r at (get_or row from 0)) (paste-zero ring at (drop from row))
      ∙ ap₂ (λ p q. set (paste ring at (drop from row) 0) p (get_or row q 0)) (sym (add-zero at)) (sym (add-zero from))
      ∙ copy_more ring at row from 0 (omega arith) (omega arith)
  stored_paste (suc k) there some =
      ap (λ r. set r (at + suc k) (get_or row (from + suc k) 0))
      (stored_paste k (omega arith) (omega arith) ∙ ap (paste ring at (drop from row)) (add-one k))
      ∙ copy_more ring at row from (suc k) (omega arith) (omega arith)

-- the first k words and then the k words from word a on, which begin among the first or behind them
pub paste_paste : (ring : List ℕ) (at : ℕ) (w : List ℕ) (k a : ℕ) → a ≤ k → k ≤ length w → at ≤ length ring
    → paste (paste ring at w k) (at + a) (drop a w) k ≡ paste ring at w (a + k)
paste_paste ring at w k a near some there =
    let first : length (take at ring) ≡ at = length-take-le at ring there in
    let front : take (at + a) (paste ring at w k) ≡ take at ring ++ take a w =
    sym (take-take (at + a) (at + k) (paste ring at w k) (omega arith))
    ∙ ap (take (at + a)) (take-paste ring at w k there some)
    ∙ ap (λ m. take (m + a) (take at ring ++ take k w)) (sym first)
    ∙ take-append-add (take at ring) (take k w) a
    ∙ ap (λ (u : List ℕ). take at ring ++ u) (take-take a k w near) in
    let sum : at + a + k ≡ at + k + a = omega arith in
    let total : at + k + a ≡ at + (a + k) = omega arith in
    let last : drop (at + a + k) (paste ring at w k) ≡ drop (at + (a + k)) ring =
    ap (λ m. drop m (paste ring at w k)) sum
    ∙ sym (drop-drop a (at + k) (paste ring at w k))
    ∙ ap (drop a) (drop-paste ring at w k there some)
    ∙ drop-drop a (at + k) ring
    ∙ ap (λ m. drop m ring) total in
    ap₂ (λ (x : List ℕ) (y : List ℕ). x ++ y)
    (ap (λ (u : List ℕ). u ++ take k (drop a w)) front
    ∙ append_assoc (take at ring) (take a w) (take k (drop a w))
    ∙ ap (λ (u : List ℕ). take at ring ++ u) (sym (take-add a k w)))
    last
