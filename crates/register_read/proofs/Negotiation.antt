-- The device id's negotiation ends, with the highest id that both sides have.
-- Assumes nothing.
use mathlib.Core.Path.{◌≡◌, refl, ap, ◌∙◌}
use mathlib.Core.Bool.{true, false}
use mathlib.Core.List.{List}
use mathlib.Core.Option.{some}
use Prim.Native.Nat.{ℕ, zero, suc, ◌+◌, ◌-◌, ◌≤◌, min}
use native.Mathlib.Omega.{arith}
use lib.Dec.{leb}
use borrow.Author.Tests.{eqb-true, leb-true, leb-false, le-leb, eq-eqb, ne_eqb}
use borrow.Table.Steps.{cases}
use Rattle.geometry.proofs.Tests.{both, and_yes}
use Rattle.register.specs.declared.Writable.{Writable}
use Rattle.register.specs.declared.Writable.TheVariants.{Id}
use Rattle.register.specs.Numbers.{numbers, register_of}
use Rattle.register.proofs.ByNumber.{same_number}
use Rattle.device.specs.declared.Device.{Device}
use Rattle.device.specs.Device.{fresh, well_formed}
use Rattle.register_write.specs.Answers.{WriteOutcome}
use Rattle.register_write.specs.Registers.{in_range, is_id, effect_of, ring_asked, written}
use Rattle.register_write.proofs.Effects.{is, only_own, effect_well_formed, id_stored, id_foreign}
use Rattle.register_write.proofs.Kept.{Went, outside, effected, other_length, unusable, accepts, went, by_written, effect_taken}
use Rattle.register_read.specs.Registers.{writable_value, read_by, read_of}
use Rattle.register_read.specs.Negotiation.{id_of, negotiated}

-- ---- the stored id

effect_id_kept : (d : Device) (v : ℕ) (w : Writable) → is_id (id_of d) ≡ true → is_id (id_of (effect_of d v w)) ≡ true
effect_id_kept d v w i =
    cases (is w Id)
    (λ t.
    rw (same_number w Id (eqb-true _ _ t)) (cases (is_id v) (λ y. rw (id_stored d v y) y) (λ f. rw (id_foreign d v f) i)))
    (λ f. let k : id_of (effect_of d v w) ≡ id_of d = ap id_of (only_own d v w) ∙ rw f in rw k i)

went_id_kept : (d : Device) (ring : List ℕ) (v : ℕ) (w : Writable) {o : WriteOutcome} → is_id (id_of d) ≡ true → Went d ring v w o → is_id (id_of o.device) ≡ true
went_id_kept d ring v w i (outside f) = i
went_id_kept d ring v w i (effected r n) = effect_id_kept d v w i
went_id_kept d ring v w i (other_length c o n) = i
went_id_kept d ring v w i (unusable c o n u) = i
went_id_kept d ring v w i (accepts c o n u) = i

-- every write keeps the stored id one of the three, and a fresh device has one of them
pub id_kept : (d : Device) (ring : List ℕ) (i v : ℕ) → is_id (id_of d) ≡ true → is_id (id_of (written d ring i v).device) ≡ true
id_kept d ring i v e = by_written (λ (o : WriteOutcome). is_id (id_of o.device) ≡ true) d ring v (λ a n. e) i (λ w q. went_id_kept d ring v w e (went d ring v w))

pub fresh_id : (memory pixels : ℕ) → is_id (id_of (fresh memory pixels)) ≡ true
fresh_id memory pixels = refl

-- ---- one offer: a write of register 0 and a read of it

well_formed_id_written : (d : Device) (v : ℕ) → well_formed d ≡ true → well_formed (effect_of d v Id) ≡ true
unfolding in_range
well_formed_id_written d v m = effect_well_formed d v m Id refl

offer_writes : (d : Device) (ring : List ℕ) (v : ℕ) → well_formed d ≡ true → (written d ring 0 v).device ≡ effect_of d v Id
unfolding in_range ring_asked
offer_writes d ring v m = ap (λ (o : WriteOutcome). o.device) (effect_taken d ring m Id v refl refl)

id_reads : (d : Device) → well_formed d ≡ true → read_of d 0 ≡ record { answer = 0; value = id_of d }
unfolding read_of read_by writable_value register_of numbers
id_reads d m = rw m

-- ---- the loop

offer_taken : (n : ℕ) (d : Device) (ring : List ℕ) (v : ℕ) → well_formed d ≡ true → is_id v ≡ true → negotiated (suc n) d ring v ≡ record { agreed = some v; device = effect_of d v Id }
unfolding negotiated
offer_taken n d ring v m t =
    rw (offer_writes d ring v m, id_reads (effect_of d v Id) (well_formed_id_written d v m), id_stored d v t, eq-eqb v v refl)

offer_passed : (n : ℕ) (d : Device) (ring : List ℕ) (v : ℕ) → well_formed d ≡ true → is_id v ≡ false → (id_of d ≡ v → ⊥) → negotiated (suc n) d ring v ≡ negotiated n d ring (v - 1)
unfolding negotiated
offer_passed n d ring v m f e = rw (offer_writes d ring v m, id_foreign d v f, id_reads d m, ne_eqb (id_of d) v e)

-- "This algorithm converges": from any offer that is not below all ids, in as many steps as the offer lies above them, and one more
pub converges : (n : ℕ) (d : Device) (ring : List ℕ) (v : ℕ) → well_formed d ≡ true → is_id (id_of d) ≡ true → 0x90000000 ≤ v → v - 0x90000002 + 1 ≤ n → negotiated n d ring v ≡ record { agreed = some (min v 0x90000002); device = effect_of d (min v 0x90000002) Id }
converges zero d ring v m i l h = absurd (omega arith)
converges (suc n) d ring v m i l h =
    cases (leb v 0x90000002)
    (λ t. let e : min v 0x90000002 ≡ v = omega (arith, leb-true v 0x90000002 t) in
    rw e (offer_taken n d ring v m (and_yes (leb 0x90000000 v) (leb v 0x90000002) (le-leb 0x90000000 v l) t)))
    (λ f. let g = leb-false v 0x90000002 f in
    let id = leb-true (id_of d) 0x90000002 (both (leb 0x90000000 (id_of d)) (leb (id_of d) 0x90000002) i).1 in
    let e : min v 0x90000002 ≡ min (v - 1) 0x90000002 = omega arith in
    rw e (offer_passed n d ring v m (rw (le-leb 0x90000000 v l) f) (λ z. omega arith) ∙ converges n d ring (v - 1) m i (omega arith) (omega arith)))

pub agreed_reads : (n : ℕ) (d : Device) (ring : List ℕ) (v : ℕ) → well_formed d ≡ true → is_id (id_of d) ≡ true → 0x90000000 ≤ v → v - 0x90000002 + 1 ≤ n → read_of (negotiated n d ring v).device 0 ≡ record { answer = 0; value = min v 0x90000002 }
agreed_reads n d ring v m i l h =
    let best = min v 0x90000002 in
    let t : is_id best ≡ true = and_yes (leb 0x90000000 best) (leb best 0x90000002) (le-leb 0x90000000 best (omega arith)) (le-leb best 0x90000002 (omega arith)) in
    rw (converges n d ring v m i l h, id_reads (effect_of d best Id) (well_formed_id_written d best m), id_stored d best t)
