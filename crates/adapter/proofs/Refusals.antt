-- Answer numbers of pictures: each comes exactly when document 01's rule says so, and a refusal changes nothing.
-- Assumes nothing.
use Rattle.std.proofs.Common.{◌≡◌, ℕ, ◌*◌, ◌<◌, Bool, true, false, cond, ◌↔◌, List, length, refl, true≢false, arith, leb-false}
use borrow.Author.Tests.{lt-leb}
use borrow.Table.Steps.{cases}
use Rattle.device.specs.declared.Device.{Device}
use Rattle.device.specs.Device.{pixels_of, width_of, height_of, mode_fits, well_formed}
use Rattle.adapter.specs.Picture.{lengths_good, picture_of}

-- screen, image and output have their lengths
abbrev pub lent : Device → List ℕ → List ℕ → List ℕ → Bool
lent d screen image output = lengths_good (pixels_of d) (length screen) (length image) (length output)

-- ---- "Answers 20 to 34 change nothing"

pub refused_picture : (d : Device) (screen image output : List ℕ) → ((picture_of d screen image output).answer ≡ 0 → ⊥)
    → (picture_of d screen image output).output ≡ output
unfolding picture_of
refused_picture d screen image output =
    cases (well_formed d)
    (λ m.
    cases (lent d screen image output)
    (λ l. cases (mode_fits d) (λ t. simp (m, l, t) (λ n. absurd (n refl))) (λ f. simp (m, l, f) (λ n. refl)))
    (λ u. cases (mode_fits d) (λ t. simp (m, u, t) (λ n. refl)) (λ f. simp (m, u, f) (λ n. refl))))
    (λ f. rw f (λ n. refl))

-- ---- the answers of a picture

abbrev picture_answer : Bool → Bool → ℕ
picture_answer l f = cond l (cond f 0 24) 20

is_20 : (l f : Bool) → (picture_answer l f ≡ 20) ↔ (l ≡ false)
is_20 true true = (λ e. absurd (omega arith), λ e. absurd (true≢false cc))
is_20 true false = (λ e. absurd (omega arith), λ e. absurd (true≢false cc))
is_20 false f = (λ e. refl, λ e. refl)

is_24 : (l f : Bool) → (picture_answer l f ≡ 24) ↔ ((l ≡ true) × (f ≡ false))
is_24 true true = (λ e. absurd (omega arith), λ e. absurd (true≢false cc))
is_24 true false = (λ e. (refl, refl), λ e. refl)
is_24 false f = (λ e. absurd (omega arith), λ e. absurd (true≢false cc))

module _ (d : Device) (screen image output : List ℕ) (m : well_formed d ≡ true) where
  picture_number_lem : (picture_of d screen image output).answer ≡ picture_answer (lent d screen image output) (mode_fits d)
  unfolding picture_of
  picture_number_lem =
      cases (lent d screen image output)
      (λ l. cases (mode_fits d) (λ t. rw (m, l, t)) (λ f. rw (m, l, f)))
      (λ f. rw (m, f))

  -- a lent length
  pub picture_20 : ((picture_of d screen image output).answer ≡ 20) ↔ (lent d screen image output ≡ false)
  picture_20 = rw picture_number_lem (is_20 (lent d screen image output) (mode_fits d))

  -- "width·height above P"
  pub picture_24 : ((picture_of d screen image output).answer ≡ 24)
      ↔ ((lent d screen image output ≡ true) × (pixels_of d < width_of d * height_of d))
  picture_24 =
      rw picture_number_lem
      (λ e. let x = (is_24 _ _).0 e in (x.0, leb-false _ _ x.1), λ x. (is_24 _ _).1 (x.0, lt-leb _ _ x.1))
