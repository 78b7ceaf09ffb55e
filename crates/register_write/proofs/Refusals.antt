-- Answer numbers of writes: each comes exactly when document 01's rule says so, and a refusal changes nothing.
-- Assumes nothing.
use mathlib.Core.Path.{◌≡◌, refl}
use mathlib.Core.Bool.{true, false}
use mathlib.Core.List.{List}
use Prim.Native.Nat.{ℕ, ◌/◌}
use lib.ListN.{length}
use borrow.Author.Tests.{eq-eqb, ne_eqb}
use Rattle.geometry.proofs.Tests.{not_both}
use Rattle.ring.specs.Acceptance.{usable}
use Rattle.ring.proofs.Laws.{refused_when}
use Rattle.register.specs.declared.Register.{Register}
use Rattle.register.specs.declared.Register.TheVariants.{Writes, Reads, Absent}
use Rattle.register.specs.declared.Writable.{Writable}
use Rattle.register.specs.declared.Writable.TheVariants.{ConfigDone}
use Rattle.register.specs.Numbers.{register_of}
use Rattle.device.specs.declared.Device.{Device}
use Rattle.device.specs.Device.{memory_of, well_formed}
use Rattle.register_write.specs.Answers.{WriteOutcome}
use Rattle.register_write.specs.Registers.{refused, in_range, ring_asked, accepted_written, ring_written, writable_written, written_by, written}
use Rattle.register_write.specs.Rules.{Why, no_register, read_only, bad_value, wrong_length, ring_refused, is_taken}
use Rattle.register_write.proofs.Kept.{Went, outside, effected, other_length, unusable, accepts, went, by_written, Left, same, changed, written_left}

-- ---- "Answers 20 to 34 change nothing"

-- A device that no call can have made has no registers.
pub ill_formed_write : (d : Device) (ring : List ℕ) (index v : ℕ) → well_formed d ≡ false → written d ring index v ≡ refused 30 d
unfolding written
ill_formed_write d ring index v f = rw f

left_refused : (d : Device) (w : Writable) {o : WriteOutcome} → Left d w o → (o.answer ≡ 0 → ⊥) → o.device ≡ d
left_refused d w (same a n) z = refl
left_refused d w (changed e q) z = absurd (z refl)

pub refused_changes_nothing : (d : Device) (ring : List ℕ) (index v : ℕ) → ((written d ring index v).answer ≡ 0 → ⊥)
    → (written d ring index v).device ≡ d
refused_changes_nothing d ring index v =
    by_written (λ (o : WriteOutcome). (o.answer ≡ 0 → ⊥) → o.device ≡ d) d ring v (λ a n z. refl) index (λ w q. left_refused d w (written_left d ring v w))

-- ---- the answers of a write

module _ (d : Device) (ring : List ℕ) (v : ℕ) (index : ℕ) where
  -- CONFIG_DONE 1 is in its range, and asks for the ring
  one_in_range : (w : Writable) → w ≡ ConfigDone → v ≡ 1 → in_range w v ≡ true
  unfolding in_range
  one_in_range w c o = rw (c, o)

  one_asks : (w : Writable) → w ≡ ConfigDone → v ≡ 1 → ring_asked w v ≡ true
  unfolding ring_asked
  one_asks w c o = rw (c, o)

  why_writes : (w : Writable) → register_of index ≡ Writes w → {o : WriteOutcome} → Went d ring v w o → Why d ring index v o.answer
  why_writes w e (outside f) = bad_value w e f
  why_writes w e (effected t n) = is_taken w e t (λ c o. not_both _ (one_asks w c o) n)
  why_writes w e (other_length c o n) = wrong_length (rw c at e) o n
  why_writes w e (unusable c o n u) = ring_refused (rw c at e) o n u
  why_writes w e (accepts c o n u) = is_taken w e (one_in_range w c o) (λ c o. (n, u))

  why_by : (r : Register) → register_of index ≡ r → Why d ring index v (written_by d ring v r).answer
  unfolding written_by
  why_by (Writes w) e = why_writes w e (went d ring v w)
  why_by (Reads r) e = read_only r e
  why_by Absent e = no_register e

  takes_value : (w : Writable) → in_range w v ≡ true
      → (w ≡ ConfigDone → v ≡ 1 → (length ring ≡ memory_of d / 4) × (usable ring ≡ true))
      → {o : WriteOutcome} → Went d ring v w o → o.answer ≡ 0
  takes_value w t r (outside f) = not_both _ t f
  takes_value w t r (effected k n) = refl
  takes_value w t r (other_length c o n) = absurd (n (r c o).0)
  takes_value w t r (unusable c o n u) = not_both _ (r c o).1 u
  takes_value w t r (accepts c o n u) = refl

-- A number comes only where its rule holds,
pub why : (d : Device) (ring : List ℕ) (index v : ℕ) → well_formed d ≡ true → Why d ring index v (written d ring index v).answer
unfolding written
why d ring index v m = rw m (why_by d ring v index (register_of index) refl)

-- and it comes wherever its rule holds.
pub only : (d : Device) (ring : List ℕ) (index v : ℕ) → well_formed d ≡ true → (a : ℕ) → Why d ring index v a
    → (written d ring index v).answer ≡ a
unfolding written written_by writable_written in_range ring_asked ring_written accepted_written
only d ring index v m a (no_register e) = rw (m, e)
only d ring index v m a (read_only r e) = rw (m, e)
only d ring index v m a (bad_value w e f) = rw (m, e, f)
only d ring index v m a (wrong_length e o n) = rw (m, e, o, ne_eqb _ _ n)
only d ring index v m a (ring_refused e o n u) = rw (m, e, o, eq-eqb _ _ n, refused_when ring u)
only d ring index v m a (is_taken w e t r) = rw (m, e) (takes_value d ring v index w t r (went d ring v w))
