-- What registers read after a write, by index and value, on the public read and write.
-- Assumes nothing.
use mathlib.Core.Path.{◌≡◌, refl}
use mathlib.Core.Bool.{Bool, true, false, cond, not, ◌&&◌, false≢true}
use mathlib.Core.Logic.{◌≢◌}
use mathlib.Core.List.{List}
use Prim.Native.Nat.{ℕ, ◌*◌}
use native.Mathlib.Omega.{arith}
use lib.Dec.{eqb}
use borrow.Author.Tests.{eqb-true, eqb-false, leb-true}
use borrow.Table.Steps.{cases}
use Rattle.geometry.proofs.Tests.{not_both}
use Rattle.register.specs.declared.Register.TheVariants.{Writes}
use Rattle.register.specs.declared.Writable.{Writable}
use Rattle.register.specs.declared.Writable.TheVariants.{Id, Enable, Width, Height, ConfigDone, Sync, GuestId, CursorId, CursorX, CursorY, CursorOn}
use Rattle.register.specs.Numbers.{numbers, register_of, number_of}
use Rattle.register.proofs.ByNumber.{numbered, writable_number}
use Rattle.device.specs.declared.Condition.{Condition}
use Rattle.device.specs.declared.Condition.TheVariants.{Idle, Running, Faulted}
use Rattle.device.specs.declared.Device.{Device}
use Rattle.device.specs.Device.{memory_of, enabled_of, configured_of, condition_of, condition_good, well_formed}
use Rattle.device.proofs.Kept.{parts}
use Rattle.register_write.specs.Answers.{WriteOutcome}
use Rattle.register_write.specs.Registers.{in_range, is_id, enable_written, running, synced, effect_of, ring_asked, writable_written, written_by, written}
use Rattle.register_write.proofs.Effects.{is_other}
use Rattle.register_write.proofs.Kept.{Went, outside, effected, other_length, unusable, accepts, went, by_written, written_well_formed, part_kept}
use Rattle.register_write.proofs.Refusals.{ill_formed_write}
use Rattle.register_read.specs.Registers.{bit, writable_value, read_only_value, read_by, read_of}
use Rattle.register_read.specs.AfterWrites.{read_back, fault_stands, busy_after_write}
use Rattle.register_read.proofs.Readings.{reads_back, foreign_id_stays}

-- ---- "Each reads back the value last taken, ID and SYNC as said."

back : (d : Device) (ring : List ℕ) (v : ℕ) (w : Writable) → (writable_written d ring v w).answer ≡ 0
    → writable_value (writable_written d ring v w).device.registers w ≡ read_back (number_of (Writes w)) v (writable_value d.registers w)
unfolding writable_value read_back
back d ring v Id z = cases (is_id v) (λ t. rw t (reads_back d ring v Id z t)) (λ f. rw (f, foreign_id_stays d ring v f))
back d ring v Enable z = reads_back d ring v Enable z refl
back d ring v Width z = reads_back d ring v Width z refl
back d ring v Height z = reads_back d ring v Height z refl
back d ring v ConfigDone z = reads_back d ring v ConfigDone z refl
back d ring v Sync z = refl
back d ring v GuestId z = reads_back d ring v GuestId z refl
back d ring v CursorId z = reads_back d ring v CursorId z refl
back d ring v CursorX z = reads_back d ring v CursorX z refl
back d ring v CursorY z = reads_back d ring v CursorY z refl
back d ring v CursorOn z = reads_back d ring v CursorOn z refl

-- only a well-formed device takes a write
taken_well_formed : (d : Device) (ring : List ℕ) (i v : ℕ) → (written d ring i v).answer ≡ 0 → well_formed d ≡ true
taken_well_formed d ring i v z =
    cases (well_formed d) (λ m. m) (λ f. let n : 30 ≡ 0 = rw (ill_formed_write d ring i v f) at z in absurd (omega arith))

-- what the index i reads once v is taken there
abbrev ReadsBack : Device → ℕ → ℕ → Device → Type 0
ReadsBack d i v after = read_by after (register_of i) ≡ record { answer = 0; value = read_back i v (read_by d (register_of i)).value }

reads_own : (d : Device) (ring : List ℕ) (i v : ℕ) (w : Writable) → register_of i ≡ Writes w → (writable_written d ring v w).answer ≡ 0
    → ReadsBack d i v (writable_written d ring v w).device
unfolding read_by
reads_own d ring i v w q z =
    let own : writable_value (writable_written d ring v w).device.registers w ≡ read_back i v (writable_value d.registers w) =
    rw (writable_number i w q) (back d ring v w z) in
    rw (q, own)

-- for every device, ring memory, index and value: an index that takes one is a writable register
pub reads_back_written : (d : Device) (ring : List ℕ) (i v : ℕ) → (written d ring i v).answer ≡ 0
    → read_of (written d ring i v).device i ≡ record { answer = 0; value = read_back i v (read_of d i).value }
unfolding read_of
reads_back_written d ring i v z =
    let m = taken_well_formed d ring i v z in
    rw (written_well_formed d ring i v m, m)
    (by_written (λ (o : WriteOutcome). o.answer ≡ 0 → ReadsBack d i v o.device) d ring v (λ a n e. absurd (n e)) i (λ w q. reads_own d ring i v w q) z)

-- ---- BUSY

-- of a well-formed device: configured and without fault is with a remembered ring
syncs : (memory : ℕ) (config enable : Bool) (c : Condition) → condition_good memory config c ≡ true
    → running c && enable ≡ config && (enable && not (fault_stands c))
unfolding condition_good
syncs memory true enable Idle e = absurd (false≢true e)
syncs memory false enable Idle e = refl
syncs memory true true (Running g) e = refl
syncs memory true false (Running g) e = refl
syncs memory false enable (Running g) e = absurd (false≢true e)
syncs memory true true (Faulted c) e = refl
syncs memory true false (Faulted c) e = refl
syncs memory false enable (Faulted c) e = refl

module _ (d : Device) (ring : List ℕ) (v : ℕ) where
  -- a register that takes 0, and whose 0 alone changes BUSY
  off_went : (w : Writable) → in_range w 0 ≡ true → (in_range w v ≡ true → ring_asked w v ≡ false → (effect_of d v w).busy ≡ cond (eqb v 0) false d.busy)
      → {o : WriteOutcome} → Went d ring v w o → o.device.busy ≡ cond (eqb v 0) false d.busy
  off_went w t k (outside f) = cases (eqb v 0) (λ z. not_both _ t (rw (eqb-true v 0 z) at f)) (λ n. rw n)
  off_went w t k (effected r n) = k r n
  off_went w t k (other_length c o n) = rw o
  off_went w t k (unusable c o n u) = rw o
  off_went w t k (accepts c o n u) = rw o

  busy_enable : (writable_written d ring v Enable).device.busy ≡ busy_after_write d 1 v
  unfolding in_range effect_of enable_written busy_after_write
  busy_enable = off_went Enable refl (λ r n. refl) (went d ring v Enable)

  config_off : in_range ConfigDone v ≡ true → ring_asked ConfigDone v ≡ false → (effect_of d v ConfigDone).busy ≡ cond (eqb v 0) false d.busy
  unfolding in_range ring_asked effect_of
  config_off r n = let o : v ≢ 1 = eqb-false v 1 n in let z : v ≡ 0 = omega (arith, leb-true v 1 r) in rw z

  busy_config : (writable_written d ring v ConfigDone).device.busy ≡ busy_after_write d 20 v
  unfolding in_range busy_after_write
  busy_config = off_went ConfigDone refl config_off (went d ring v ConfigDone)

  module _ (m : well_formed d ≡ true) where
    busy_sync : (writable_written d ring v Sync).device.busy ≡ busy_after_write d 21 v
    unfolding writable_written in_range ring_asked effect_of synced busy_after_write
    busy_sync = rw (syncs (memory_of d) (configured_of d) (enabled_of d) (condition_of d) (parts d m).2)

    by_register : (w : Writable) → written d ring (number_of (Writes w)) v ≡ writable_written d ring v w
    unfolding written written_by
    by_register w = rw (m, numbered (Writes w))

    busy_after_lem : (i : ℕ) → (written d ring i v).device.busy ≡ busy_after_write d i v
    unfolding busy_after_write
    busy_after_lem i =
        cases (eqb i 21) (λ t. rw (eqb-true i 21 t, by_register Sync) busy_sync)
        (λ a. cases (eqb i 1) (λ t. rw (eqb-true i 1 t, by_register Enable) busy_enable)
        (λ b. cases (eqb i 20) (λ t. rw (eqb-true i 20 t, by_register ConfigDone) busy_config)
        (λ c.
        rw (a, b, c)
        (part_kept (λ (x : Device). x.busy) d ring i v
        (λ w q e.
        rw (is_other i w Enable q (eqb-false i 1 b), is_other i w ConfigDone q (eqb-false i 20 c), is_other i w Sync q (eqb-false i 21 a)))))))

-- for every well-formed device and ring memory, and every index and value, taken or refused
pub busy_after_write_lem : (d : Device) (ring : List ℕ) (i v : ℕ) → well_formed d ≡ true
    → read_of (written d ring i v).device 22 ≡ record { answer = 0; value = bit (busy_after_write d i v) }
unfolding read_of read_by read_only_value register_of numbers
busy_after_write_lem d ring i v m = rw (written_well_formed d ring i v m, busy_after_lem d ring v m i)

-- ---- what follows the mode: "12 BYTES_PER_LINE 4·width", "16 FB_SIZE 4·width·height", whatever was written

pub line_follows : (d : Device) → well_formed d ≡ true → (read_of d 12).value ≡ 4 * (read_of d 2).value
unfolding read_of read_by writable_value read_only_value register_of numbers
line_follows d m = rw m

pub size_follows : (d : Device) → well_formed d ≡ true → (read_of d 16).value ≡ 4 * (read_of d 2).value * (read_of d 3).value
unfolding read_of read_by writable_value read_only_value register_of numbers
size_follows d m = rw m
