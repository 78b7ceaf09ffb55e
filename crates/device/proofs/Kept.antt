-- What is made is well-formed.
-- Assumes nothing.
use mathlib.Core.Path.{◌≡◌}
use mathlib.Core.Bool.{true, false, true≢false}
use Rattle.std.specs.Prelude.{Option, None, Some}
use mathlib.Core.Logic.{◌↔◌}
use Prim.Native.Nat.{ℕ}
use native.Mathlib.Omega.{arith}
use borrow.Author.Tests.{eq-eqb, le-leb}
use borrow.Table.Steps.{cases}
use Rattle.geometry.proofs.Tests.{both}
use Rattle.device.specs.declared.Device.{Device}
use Rattle.device.specs.Making.{made_of}
use Rattle.device.specs.Device.{memory_of, pixels_of, width_of, height_of, defined_of, sizes_good, fresh, mode_good, condition_good, defined_good, well_formed}
use Rattle.device.proofs.Laws.{WellFormed}

-- the converse of `well_formed_lem`
pub well_formed_of : (d : Device) → WellFormed d → well_formed d ≡ true
unfolding well_formed sizes_good mode_good
well_formed_of d w =
    rw (
      eq-eqb _ _ w.memory_words,
      le-leb _ _ w.memory_low,
      le-leb _ _ w.memory_high,
      le-leb _ _ w.pixels_low,
      le-leb _ _ w.pixels_high,
      le-leb _ _ w.width_low,
      le-leb _ _ w.width_high,
      le-leb _ _ w.height_low,
      le-leb _ _ w.height_high,
      w.condition,
    )
    w.defined

-- the four tests
pub parts : (d : Device) → well_formed d ≡ true
    → (sizes_good (memory_of d) (pixels_of d) ≡ true)
    × (mode_good (width_of d) (height_of d) ≡ true)
    × (condition_good (memory_of d) d.registers.config d.condition ≡ true)
    × (defined_good (defined_of d) ≡ true)
unfolding well_formed
parts d m = let x = both _ _ m in let y = both _ _ x.1 in let z = both _ _ y.1 in (x.0, y.0, z.0, z.1)

-- ---- making

pub fresh_well_formed : (memory pixels : ℕ) → sizes_good memory pixels ≡ true → well_formed (fresh memory pixels) ≡ true
unfolding well_formed mode_good condition_good defined_good
fresh_well_formed memory pixels e = rw e

-- what is made is the fresh device, and well-formed
pub make_well_formed : (memory pixels : ℕ) (d : Device) → (made_of memory pixels).device ≡ Some d → (well_formed d ≡ true) × (d ≡ fresh memory pixels)
unfolding made_of
make_well_formed memory pixels d e =
    cases (sizes_good memory pixels)
    (λ t.
    let m : Some (fresh memory pixels) ≡ Some d = rw t at e in
    let eq : fresh memory pixels ≡ d = cc in (rw eq at (fresh_well_formed memory pixels t), cc))
    (λ f. let m : ◌≡◌ {A = Option Device} None (Some d) = rw f at e in absurd (true≢false cc))

-- 34 exactly when M or P is none of those allowed
pub make_refused : (memory pixels : ℕ) → ((made_of memory pixels).answer ≡ 34) ↔ (sizes_good memory pixels ≡ false)
unfolding made_of
make_refused memory pixels =
    (λ e. cases (sizes_good memory pixels) (λ t. let m : 0 ≡ 34 = rw t at e in absurd (omega arith)) (λ f. f), λ f. rw f)
