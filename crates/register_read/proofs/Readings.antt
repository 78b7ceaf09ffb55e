-- What every register reads after a write of every other one, what the written one reads, and what a write does to the cursor plane.
-- Assumes nothing.
use mathlib.Core.Path.{◌≡◌, refl, sym, ap, ◌∙◌}
use mathlib.Core.Bool.{Bool, true, false, ◌&&◌}
use mathlib.Core.List.{List, [], ◌∷◌, map}
use Prim.Native.Nat.{ℕ}
use native.Mathlib.Omega.{arith}
use lib.Dec.{eqb}
use lib.ListN.{get_or, set, get_or-map}
use lib.Seq.{get_or-set_other}
use borrow.Author.Tests.{eqb-true, eqb-false, ne_eqb}
use borrow.Table.Steps.{cases}
use Rattle.geometry.proofs.Tests.{neither}
use Rattle.register.specs.declared.Register.{Register}
use Rattle.register.specs.declared.Register.TheVariants.{Writes, Reads, Absent}
use Rattle.register.specs.declared.Writable.{Writable}
use Rattle.register.specs.declared.Writable.TheVariants.{Id, Enable, Width, Height, ConfigDone, Sync, GuestId, CursorId, CursorX, CursorY, CursorOn}
use Rattle.register.specs.declared.ReadOnly.TheVariants.{Busy}
use Rattle.register.specs.Numbers.{numbers, register_of, number_of}
use Rattle.register.proofs.ByNumber.{table, by_number, same_number}
use Rattle.device.specs.declared.Device.{Device}
use Rattle.device.specs.Device.{well_formed}
use Rattle.register_write.specs.Answers.{WriteOutcome}
use Rattle.register_write.specs.Registers.{in_range, is_id, running, effect_of, ring_asked, writable_written, written}
use Rattle.register_write.proofs.Effects.{is, changed_by, only_own, id_stored, id_foreign, enable_stored, enable_clears, width_stored, height_stored, config_stored, config_clears, sync_sets, sync_else, guest_id_stored, cursor_id_stored, cursor_x_stored, cursor_y_stored, cursor_on_stored, cursor_on_0, cursor_on_1, moves_plane, cursor_on_else}
use Rattle.register_write.proofs.Kept.{Went, outside, effected, other_length, unusable, accepts, went, taken_effect, Left, same, changed, written_left, written_well_formed, part_kept}
use Rattle.register_read.specs.Answers.{Reading}
use Rattle.register_read.specs.Registers.{writable_value, read_only_value, read_by, read_of}
use Rattle.register_read.specs.AfterWrites.{affected, has, affects}

-- what the whole table reads
abbrev readings : Device → List Reading
readings d = map (read_by d) table

abbrev none : Reading
none = record { answer = 30; value = 0 }

read_at : (d : Device) (r : Register) → read_by d r ≡ get_or (readings d) (number_of r) none
unfolding read_by
read_at d r = ap (read_by d) (sym (by_number r).1) ∙ sym (get_or-map (read_by d) table (number_of r) Absent)

-- ---- what a write changes

-- l with the elements at ns taken from m
abbrev stores : List ℕ → List Reading → List Reading → List Reading
stores [] l m = l
stores (n ∷ ns) l m = set (stores ns l m) n (get_or m n none)

stores_other : (ns : List ℕ) (l m : List Reading) (j : ℕ) → has j ns ≡ false → get_or (stores ns l m) j none ≡ get_or l j none
stores_other [] l m j e = refl
stores_other (n ∷ ns) l m j e =
    let off = neither (eqb j n) (has j ns) e in
    get_or-set_other (stores ns l m) n j (get_or m n none) none (eqb-false j n off.0) ∙ stores_other ns l m j off.1

-- what a write can change, whatever it makes of it, is read by the affected registers alone
others : (w : Writable) (d e : Device) → readings (changed_by w d e) ≡ stores (affected w) (readings d) (readings (changed_by w d e))
unfolding table numbers read_by writable_value read_only_value
others Id d e = refl
others Enable d e = refl
others Width d e = refl
others Height d e = refl
others ConfigDone d e = refl
others Sync d e = refl
others GuestId d e = refl
others CursorId d e = refl
others CursorX d e = refl
others CursorY d e = refl
others CursorOn d e = refl

-- ---- readings

pub reads_changed : (d e : Device) (w : Writable) (r : Register) → affects w r ≡ false → read_by (changed_by w d e) r ≡ read_by d r
reads_changed d e w r f =
    let after = changed_by w d e in
    read_at after r
    ∙ (ap (λ (l : List Reading). get_or l (number_of r) none) (others w d e)
    ∙ (stores_other (affected w) (readings d) (readings after) (number_of r) f
    ∙ sym (read_at d r)))

reads_left : (d : Device) (w : Writable) (r : Register) → affects w r ≡ false → {o : WriteOutcome} → Left d w o → read_by o.device r ≡ read_by d r
reads_left d w r f (same a n) = refl
reads_left d w r f (changed e q) = ap (λ (x : Device). read_by x r) q ∙ reads_changed d e w r f

-- every other register reads as before
pub leaves : (d : Device) (ring : List ℕ) (v : ℕ) (w : Writable) (r : Register) → affects w r ≡ false → read_by (writable_written d ring v w).device r ≡ read_by d r
leaves d ring v w r f = reads_left d w r f (written_left d ring v w)

-- a write to i leaves what j reads, unless i is a register that affects j
pub reads_stay : (d : Device) (ring : List ℕ) (i v j : ℕ) → well_formed d ≡ true → ((w : Writable) → register_of i ≡ Writes w → affects w (register_of j) ≡ false)
    → read_of (written d ring i v).device j ≡ read_of d j
unfolding read_of
reads_stay d ring i v j m apart =
    rw (written_well_formed d ring i v m, m)
    (part_kept (λ (x : Device). read_by x (register_of j)) d ring i v (λ w q e. reads_changed d e w (register_of j) (apart w q)))

-- the value of a register is changed by a write to it alone

value_changed : (d e : Device) (w r : Writable) → is w r ≡ false → writable_value (changed_by w d e).registers r ≡ writable_value d.registers r
unfolding writable_value
value_changed d e w Id f = rw f
value_changed d e w Enable f = rw f
value_changed d e w Width f = rw f
value_changed d e w Height f = rw f
value_changed d e w ConfigDone f = rw f
value_changed d e w Sync f = refl
value_changed d e w GuestId f = rw f
value_changed d e w CursorId f = rw f
value_changed d e w CursorX f = rw f
value_changed d e w CursorY f = rw f
value_changed d e w CursorOn f = rw f

pub value_kept : (d : Device) (ring : List ℕ) (i v : ℕ) (r : Writable) → (register_of i ≡ Writes r → ⊥)
    → writable_value (written d ring i v).device.registers r ≡ writable_value d.registers r
value_kept d ring i v r n =
    part_kept (λ (x : Device). writable_value x.registers r) d ring i v
    (λ w q e. value_changed d e w r (ne_eqb _ _ (λ s. n (q ∙ ap Writes (same_number w r s)))))

-- "Each reads back the value last taken, ID and SYNC as said": whether a value that is taken is read back. "0 ID (0x90000000, ..01, ..02 are stored; any other
-- value is taken and changes nothing ..)". "SYNC reads 0."
abbrev pub stored : Writable → ℕ → Bool
stored Id v = is_id v
stored Sync v = false
stored Enable v = true
stored Width v = true
stored Height v = true
stored ConfigDone v = true
stored GuestId v = true
stored CursorId v = true
stored CursorX v = true
stored CursorY v = true
stored CursorOn v = true

effect_back : (d : Device) (v : ℕ) (w : Writable) → in_range w v ≡ true → ring_asked w v ≡ false → stored w v ≡ true → writable_value (effect_of d v w).registers w ≡ v
unfolding writable_value
effect_back d v Id r a s = id_stored d v s
effect_back d v Enable r a s = enable_stored d v r
effect_back d v Width r a s = width_stored d v
effect_back d v Height r a s = height_stored d v
effect_back d v ConfigDone r a s = config_stored d v r a
effect_back d v Sync r a s = cc
effect_back d v GuestId r a s = guest_id_stored d v
effect_back d v CursorId r a s = cursor_id_stored d v
effect_back d v CursorX r a s = cursor_x_stored d v
effect_back d v CursorY r a s = cursor_y_stored d v
effect_back d v CursorOn r a s = cursor_on_stored d v

went_back : (d : Device) (ring : List ℕ) (v : ℕ) (w : Writable) {o : WriteOutcome} → Went d ring v w o → o.answer ≡ 0 → stored w v ≡ true → writable_value o.device.registers w ≡ v
unfolding writable_value
went_back d ring v w (outside f) z s = absurd (omega arith)
went_back d ring v w (effected r n) z s = effect_back d v w r n s
went_back d ring v w (other_length c o n) z s = absurd (omega arith)
went_back d ring v w (unusable c o n u) z s = absurd (omega arith)
went_back d ring v w (accepts c o n u) z s = rw c (sym o)

-- a taken value is read back
pub reads_back : (d : Device) (ring : List ℕ) (v : ℕ) (w : Writable) → (writable_written d ring v w).answer ≡ 0 → stored w v ≡ true → writable_value (writable_written d ring v w).device.registers w ≡ v
reads_back d ring v w = went_back d ring v w (went d ring v w)

pub sync_reads_zero : (d : Device) → read_by d (Writes Sync) ≡ record { answer = 0; value = 0 }
unfolding read_by writable_value
sync_reads_zero d = refl

pub foreign_id_stays : (d : Device) (ring : List ℕ) (v : ℕ) → is_id v ≡ false → (writable_written d ring v Id).device ≡ d
unfolding in_range ring_asked
foreign_id_stays d ring v f = rw (taken_effect d ring v Id refl refl) (id_foreign d v f)

-- ---- BUSY

pub enable_off_not_busy : (d : Device) (ring : List ℕ) → read_by (writable_written d ring 0 Enable).device (Reads Busy) ≡ record { answer = 0; value = 0 }
unfolding in_range ring_asked read_by read_only_value
enable_off_not_busy d ring = rw (taken_effect d ring 0 Enable refl refl, enable_clears d)

pub config_off_not_busy : (d : Device) (ring : List ℕ) → read_by (writable_written d ring 0 ConfigDone).device (Reads Busy) ≡ record { answer = 0; value = 0 }
unfolding in_range ring_asked read_by read_only_value
config_off_not_busy d ring = rw (taken_effect d ring 0 ConfigDone refl refl, config_clears d 0)

pub sync_busy : (d : Device) (ring : List ℕ) (v : ℕ) → running d.condition && d.registers.enable ≡ true → read_by (writable_written d ring v Sync).device (Reads Busy) ≡ record { answer = 0; value = 1 }
unfolding in_range ring_asked read_by read_only_value
sync_busy d ring v e = rw (taken_effect d ring v Sync refl refl, sync_sets d v e)

pub sync_else_nothing : (d : Device) (ring : List ℕ) (v : ℕ) → running d.condition && d.registers.enable ≡ false → (writable_written d ring v Sync).device ≡ d
unfolding in_range ring_asked
sync_else_nothing d ring v e = rw (taken_effect d ring v Sync refl refl) (sync_else d v e)

-- ---- the cursor plane

pub on_remembers : (d : Device) (ring : List ℕ) → (writable_written d ring 1 CursorOn).device.plane ≡ record { shown = true; id = d.registers.cursorid; x = d.registers.cursorx; y = d.registers.cursory }
unfolding in_range ring_asked
on_remembers d ring = rw (taken_effect d ring 1 CursorOn refl refl) (cursor_on_1 d)

pub off_hides : (d : Device) (ring : List ℕ) → (writable_written d ring 0 CursorOn).device.plane ≡ record { shown = false; id = d.plane.id; x = d.plane.x; y = d.plane.y }
unfolding in_range ring_asked
off_hides d ring = rw (taken_effect d ring 0 CursorOn refl refl) (cursor_on_0 d)

-- CURSOR_ON alone changes the plane, and 0 and 1 alone of its values
abbrev pub changes_plane : Writable → ℕ → Bool
changes_plane w v = is w CursorOn && moves_plane v

effect_plane : (d : Device) (v : ℕ) (w : Writable) → changes_plane w v ≡ false → (effect_of d v w).plane ≡ d.plane
effect_plane d v w m =
    cases (is w CursorOn)
    (λ t. rw (same_number w CursorOn (eqb-true _ _ t)) (cursor_on_else d v (rw t at m)))
    (λ f. ap (λ (x : Device). x.plane) (only_own d v w) ∙ rw f)

went_plane : (d : Device) (ring : List ℕ) (v : ℕ) (w : Writable) {o : WriteOutcome} → Went d ring v w o → changes_plane w v ≡ false → o.device.plane ≡ d.plane
went_plane d ring v w (outside f) m = refl
went_plane d ring v w (effected r n) m = effect_plane d v w m
went_plane d ring v w (other_length c o n) m = refl
went_plane d ring v w (unusable c o n u) m = refl
went_plane d ring v w (accepts c o n u) m = refl

pub others_keep_plane : (d : Device) (ring : List ℕ) (v : ℕ) (w : Writable) → changes_plane w v ≡ false → (writable_written d ring v w).device.plane ≡ d.plane
others_keep_plane d ring v w = went_plane d ring v w (went d ring v w)
