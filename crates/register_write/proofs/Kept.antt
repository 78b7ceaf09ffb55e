-- How a register write goes, whichever the register, and what it keeps: a well-formed device stays so, no write changes its sizes, its fence or its
-- defined cursor, and only three can change BUSY.
-- Assumes nothing.
use mathlib.Core.Path.{◌≡◌, refl, ap, ◌∙◌}
use mathlib.Core.Bool.{true, false, false≢true}
use mathlib.Core.List.{List}
use Prim.Native.Nat.{ℕ, ◌/◌}
use native.Mathlib.Omega.{arith}
use lib.Dec.{eqb}
use lib.ListN.{length}
use borrow.Author.Tests.{eqb-true, eqb-false, eq-eqb}
use borrow.Table.Steps.{cases}
use Rattle.ring.specs.declared.Ring.{Ring}
use Rattle.ring.specs.Acceptance.{min_of, max_of, stop_of, usable}
use Rattle.ring.proofs.Laws.{accepted_when, refused_when, accepted_placed}
use Rattle.register.specs.declared.Register.{Register}
use Rattle.register.specs.declared.Register.TheVariants.{Writes, Reads, Absent}
use Rattle.register.specs.declared.Writable.{Writable}
use Rattle.register.specs.declared.Writable.TheVariants.{Id, Enable, Width, Height, ConfigDone, Sync, GuestId, CursorId, CursorX, CursorY, CursorOn}
use Rattle.register.specs.Numbers.{register_of, number_of}
use Rattle.register.proofs.ByNumber.{numbered}
use Rattle.device.specs.declared.Device.{Device}
use Rattle.device.specs.Device.{memory_of, condition_good, well_formed}
use Rattle.device.proofs.Kept.{parts}
use Rattle.register_write.specs.Answers.{WriteOutcome}
use Rattle.register_write.specs.Registers.{taken, refused, in_range, effect_of, ring_asked, remembering, accepted_written, ring_written, writable_written, written_by, written}
use Rattle.register_write.proofs.Effects.{changed_by, only_own, effect_well_formed, effect_busy}

-- ---- how a write goes

-- what acceptance remembers of ring words
abbrev pub remembered : List ℕ → Ring
remembered ring = record { min = min_of ring / 4; max = max_of ring / 4; stop = stop_of ring / 4 }

-- A value outside its range is refused. One in its range is taken with its effect; CONFIG_DONE 1 by the ring.
pub data Went (d : Device) (ring : List ℕ) (v : ℕ) (w : Writable) : WriteOutcome → Type 0 where
  outside : in_range w v ≡ false → Went d ring v w (refused 32 d)
  effected : in_range w v ≡ true → ring_asked w v ≡ false → Went d ring v w (taken (effect_of d v w))
  other_length : w ≡ ConfigDone → v ≡ 1 → (length ring ≡ memory_of d / 4 → ⊥) → Went d ring v w (refused 20 d)
  unusable : w ≡ ConfigDone → v ≡ 1 → length ring ≡ memory_of d / 4 → usable ring ≡ false → Went d ring v w (refused 33 d)
  accepts : w ≡ ConfigDone → v ≡ 1 → length ring ≡ memory_of d / 4 → usable ring ≡ true → Went d ring v w (taken (remembering d (remembered ring)))

-- CONFIG_DONE 1 alone asks for the ring
asked : (w : Writable) (v : ℕ) → ring_asked w v ≡ true → (w ≡ ConfigDone) × (v ≡ 1)
unfolding ring_asked
asked Id v e = absurd (false≢true e)
asked Enable v e = absurd (false≢true e)
asked Width v e = absurd (false≢true e)
asked Height v e = absurd (false≢true e)
asked ConfigDone v e = (refl, eqb-true v 1 e)
asked Sync v e = absurd (false≢true e)
asked GuestId v e = absurd (false≢true e)
asked CursorId v e = absurd (false≢true e)
asked CursorX v e = absurd (false≢true e)
asked CursorY v e = absurd (false≢true e)
asked CursorOn v e = absurd (false≢true e)

module _ (d : Device) (ring : List ℕ) (v : ℕ) (w : Writable) where
  went_ring : w ≡ ConfigDone → v ≡ 1 → Went d ring v w (ring_written d ring)
  unfolding ring_written accepted_written
  went_ring c o =
      cases (eqb (length ring) (memory_of d / 4))
      (λ n.
      cases (usable ring) (λ u. rw (n, accepted_when ring u) (accepts c o (eqb-true _ _ n) u))
      (λ u. rw (n, refused_when ring u) (unusable c o (eqb-true _ _ n) u)))
      (λ n. rw n (other_length c o (eqb-false _ _ n)))

  pub went : Went d ring v w (writable_written d ring v w)
  unfolding writable_written
  went =
      cases (in_range w v)
      (λ r.
      cases (ring_asked w v) (λ a. let c = asked w v a in rw (r, a) (went_ring c.0 c.1))
      (λ n. rw (r, n) (effected r n)))
      (λ f. rw f (outside f))

  pub taken_effect : in_range w v ≡ true → ring_asked w v ≡ false → writable_written d ring v w ≡ taken (effect_of d v w)
  unfolding writable_written
  taken_effect r n = rw (r, n)

-- What holds of every writable register's write, and of a device left as it is, holds of every write.
module _ (P : WriteOutcome → Type 0) (d : Device) (ring : List ℕ) (v : ℕ) (stays : (a : ℕ) → (a ≡ 0 → ⊥) → P (refused a d)) where
  by_register : (r : Register) → ((w : Writable) → r ≡ Writes w → P (writable_written d ring v w)) → P (written_by d ring v r)
  unfolding written_by
  by_register (Writes w) p = p w refl
  by_register (Reads r) p = stays 31 (λ z. omega arith)
  by_register Absent p = stays 30 (λ z. omega arith)

  pub by_written : (index : ℕ) → ((w : Writable) → register_of index ≡ Writes w → P (writable_written d ring v w)) → P (written d ring index v)
  unfolding written
  by_written index p = cases (well_formed d) (λ m. rw m (by_register (register_of index) p)) (λ f. rw f (stays 30 (λ z. omega arith)))

-- a write of a well-formed device, by its number: taken with its effect, CONFIG_DONE 1 with the ring remembered
module _ (d : Device) (ring : List ℕ) (m : well_formed d ≡ true) where
  pub effect_taken : (w : Writable) (v : ℕ) → in_range w v ≡ true → ring_asked w v ≡ false → written d ring (number_of (Writes w)) v ≡ taken (effect_of d v w)
  unfolding written written_by
  effect_taken w v r n = rw (m, numbered (Writes w)) (taken_effect d ring v w r n)

  pub ring_taken : length ring ≡ memory_of d / 4 → usable ring ≡ true → written d ring (number_of (Writes ConfigDone)) 1 ≡ taken (remembering d (remembered ring))
  unfolding written written_by writable_written in_range ring_asked ring_written accepted_written
  ring_taken n u = rw (m, numbered (Writes ConfigDone), eq-eqb _ _ n, accepted_when ring u)

-- ---- what a write leaves

-- A refusal leaves the device. What is taken changes the register's own parts.
pub data Left (d : Device) (w : Writable) : WriteOutcome → Type 0 where
  same : (a : ℕ) → (a ≡ 0 → ⊥) → Left d w (refused a d)
  changed : (e : Device) → e ≡ changed_by w d e → Left d w (taken e)

went_left : (d : Device) (ring : List ℕ) (v : ℕ) (w : Writable) {o : WriteOutcome} → Went d ring v w o → Left d w o
went_left d ring v w (outside f) = same 32 (λ z. omega arith)
went_left d ring v w (effected r n) = changed (effect_of d v w) (only_own d v w)
went_left d ring v w (other_length c o n) = same 20 (λ z. omega arith)
went_left d ring v w (unusable c o n u) = same 33 (λ z. omega arith)
went_left d ring v w (accepts c o n u) = changed (remembering d (remembered ring)) (rw c)

pub written_left : (d : Device) (ring : List ℕ) (v : ℕ) (w : Writable) → Left d w (writable_written d ring v w)
written_left d ring v w = went_left d ring v w (went d ring v w)

-- ---- a well-formed device stays so

went_well_formed : (d : Device) (ring : List ℕ) (v : ℕ) (w : Writable) {o : WriteOutcome} → well_formed d ≡ true → Went d ring v w o → well_formed o.device ≡ true
unfolding well_formed condition_good
went_well_formed d ring v w m (outside f) = m
went_well_formed d ring v w m (effected r n) = effect_well_formed d v m w r
went_well_formed d ring v w m (other_length c o n) = m
went_well_formed d ring v w m (unusable c o n u) = m
went_well_formed d ring v w m (accepts c o n u) =
    let x = parts d m in
    rw (x.0, x.1, rw n at (accepted_placed ring (remembered ring) (accepted_when ring u))) x.3

pub written_well_formed : (d : Device) (ring : List ℕ) (index v : ℕ) → well_formed d ≡ true → well_formed (written d ring index v).device ≡ true
written_well_formed d ring index v m =
    by_written (λ (o : WriteOutcome). well_formed o.device ≡ true) d ring v (λ a n. m) index (λ w q. went_well_formed d ring v w m (went d ring v w))

-- ---- parts that a write keeps

part_left : {A : Type 0} (part : Device → A) (d : Device) (w : Writable) {o : WriteOutcome} → ((e : Device) → part (changed_by w d e) ≡ part d) → Left d w o
    → part o.device ≡ part d
part_left part d w k (same a n) = refl
part_left part d w k (changed e q) = ap part q ∙ k e

-- a part of the device that the written register does not change
pub part_kept : {A : Type 0} (part : Device → A) (d : Device) (ring : List ℕ) (index v : ℕ)
    → ((w : Writable) → register_of index ≡ Writes w → (e : Device) → part (changed_by w d e) ≡ part d)
    → part (written d ring index v).device ≡ part d
part_kept part d ring index v k =
    by_written (λ (o : WriteOutcome). part o.device ≡ part d) d ring v (λ a n. refl) index (λ w q. part_left part d w (k w q) (written_left d ring v w))

pub sizes_kept : (d : Device) (ring : List ℕ) (index v : ℕ) → (written d ring index v).device.sizes ≡ d.sizes
sizes_kept d ring index v = part_kept (λ (e : Device). e.sizes) d ring index v (λ w q e. refl)

pub marks_kept : (d : Device) (ring : List ℕ) (index v : ℕ) → (written d ring index v).device.marks ≡ d.marks
marks_kept d ring index v = part_kept (λ (e : Device). e.marks) d ring index v (λ w q e. refl)

-- "SYNC sets BUSY to 1", "Writing 0 to ENABLE or CONFIG_DONE clears BUSY": no other write changes it

went_busy : (d : Device) (ring : List ℕ) (v : ℕ) (w : Writable) {o : WriteOutcome} → Went d ring v w o
    → (w ≡ Sync → ⊥) → (w ≡ Enable → v ≡ 0 → ⊥) → (w ≡ ConfigDone → v ≡ 0 → ⊥) → o.device.busy ≡ d.busy
went_busy d ring v w (outside f) s e c = refl
went_busy d ring v w (effected r n) s e c = effect_busy d v w r n s e c
went_busy d ring v w (other_length k o n) s e c = refl
went_busy d ring v w (unusable k o n u) s e c = refl
went_busy d ring v w (accepts k o n u) s e c = refl

pub busy_kept : (d : Device) (ring : List ℕ) (index v : ℕ) → (register_of index ≡ Writes Sync → ⊥) → (register_of index ≡ Writes Enable → v ≡ 0 → ⊥)
    → (register_of index ≡ Writes ConfigDone → v ≡ 0 → ⊥) → (written d ring index v).device.busy ≡ d.busy
busy_kept d ring index v s e c =
    by_written (λ (o : WriteOutcome). o.device.busy ≡ d.busy) d ring v (λ a n. refl) index
    (λ w q. went_busy d ring v w (went d ring v w) (λ r. s (q ∙ ap Writes r)) (λ r. e (q ∙ ap Writes r)) (λ r. c (q ∙ ap Writes r)))
