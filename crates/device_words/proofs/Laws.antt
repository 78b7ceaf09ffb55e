-- Laws of a device's words.
use Rattle.std.proofs.Common.{◌≡◌, refl, ap, sym, ◌∙◌, Bool, true, false, cond, ◌&&◌, List, [], ◌∷◌, ℕ, ◌+◌, ◌≤◌, ◌<◌, eqb, eq-eqb, length, get_or, take, Some, None, arith}
use mathlib.Core.Bool.{and-true, and_assoc}
use Prim.Native.Nat.{zero, suc}
use lib.Seq.{take_all}
use borrow.Author.Tests.{ne_eqb}
use native.Mathlib.Nat.{not-suc-le-zero, le_of_suc-le-suc}
use Rattle.std.specs.Bool.{then_some}
use Rattle.std.specs.Str.{bytes_eq}
use Rattle.device.specs.declared.Device.{Device}
use Rattle.device_words.specs.Words.{words_of, device_from, same, spelled_in}

-- Words agree exactly where the library's comparison says so.
pub same_is : (a w : List ℕ) → same a w ≡ bytes_eq a w
same_is [] [] = refl
same_is [] (y ∷ w) = refl
same_is (x ∷ a) [] = refl
same_is (x ∷ a) (y ∷ w) = ap (λ b. eqb x y && b) (same_is a w)

-- One word more agrees exactly if all before it do and it does.
same_snoc : (a w : List ℕ) (i : ℕ) → i < length a → i < length w
    → same (take (suc i) a) (take (suc i) w) ≡ same (take i a) (take i w) && eqb (get_or a i 0) (get_or w i 0)
same_snoc [] w i ha hw = absurd (not-suc-le-zero ha)
same_snoc (x ∷ a) [] i ha hw = absurd (not-suc-le-zero hw)
same_snoc (x ∷ a) (y ∷ w) zero ha hw = and-true (eqb x y)
same_snoc (x ∷ a) (y ∷ w) (suc i) ha hw =
    ap (λ b. eqb x y && b) (same_snoc a w i (le_of_suc-le-suc ha) (le_of_suc-le-suc hw))
    ∙ sym (and_assoc (eqb x y) (same (take i a) (take i w)) (eqb (get_or a i 0) (get_or w i 0)))

none_more : (n : ℕ) (b : Bool) → eqb (n + cond b 0 1) 0 ≡ eqb n 0 && b
none_more zero true = refl
none_more zero false = refl
none_more (suc n) true = rw (ne_eqb (suc n + 0) 0 (λ e. omega (arith, e)), ne_eqb (suc n) 0 (λ e. omega (arith, e)))
none_more (suc n) false = rw (ne_eqb (suc n + 1) 0 (λ e. omega (arith, e)), ne_eqb (suc n) 0 (λ e. omega (arith, e)))

pub at_most_one : (d : ℕ) (b : Bool) → d ≡ cond b 0 1 → d ≤ 1
at_most_one d true h = omega (arith, h)
at_most_one d false h = omega (arith, h)

-- A step of the count of words that differ.
pub same_more : (a w : List ℕ) (i n d : ℕ) → i < length a → i < length w → eqb n 0 ≡ same (take i a) (take i w)
    → d ≡ cond (eqb (get_or a i 0) (get_or w i 0)) 0 1 → eqb (n + d) 0 ≡ same (take (i + 1) a) (take (i + 1) w)
same_more a w i n d ha hw h e =
    ap (λ k. eqb (n + k) 0) e ∙ none_more n (eqb (get_or a i 0) (get_or w i 0))
    ∙ ap (λ b. b && eqb (get_or a i 0) (get_or w i 0)) h ∙ sym (same_snoc a w i ha hw)
    ∙ ap (λ k. same (take k a) (take k w)) {x = suc i} {y = i + 1} (omega arith)

pub same_whole : (a w : List ℕ) (n : ℕ) → length a ≤ n → length w ≤ n → same (take n a) (take n w) ≡ same a w
same_whole a w n ha hw = rw (take_all n a ha, take_all n w hw)

then_some_is : {A : Type 0} (b : Bool) (x : A) → then_some b x ≡ cond b (Some x) None
then_some_is true x = refl
then_some_is false x = refl

-- Words are their device's where they are its own.
pub spelled_by : (w : List ℕ) (d : Device) (own : List ℕ) → length w ≡ 64 → d ≡ device_from w → own ≡ words_of d
    → then_some (bytes_eq own w) d ≡ spelled_in w
unfolding spelled_in
spelled_by w d own n e f = rw (eq-eqb (length w) 64 n, ← e, ← f, same_is own w) (then_some_is _ _)

-- The same where a test tells whether they are.
pub spelled_if : (w : List ℕ) (d : Device) (own : List ℕ) → length w ≡ 64 → d ≡ device_from w → own ≡ words_of d
    → (b : Bool) → b ≡ same own w → cond b (Some d) None ≡ spelled_in w
spelled_if w d own n e f b g =
    ap (λ (x : Bool). cond x (Some d) None) (g ∙ same_is own w) ∙ sym (then_some_is (bytes_eq own w) d) ∙ spelled_by w d own n e f
