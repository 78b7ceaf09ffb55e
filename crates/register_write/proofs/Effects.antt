-- Each register's effect: which parts of a device it can change, that a well-formed device stays so, and the register's own law.
-- No other law looks into what a register's effect is.
-- Assumes nothing.
use mathlib.Core.Path.{◌≡◌, refl, sym, ◌∙◌}
use mathlib.Core.Logic.{◌≢◌}
use mathlib.Core.Bool.{Bool, true, false, cond, ◌&&◌, ◌||◌, and_assoc}
use Prim.Native.Nat.{ℕ}
use native.Mathlib.Omega.{arith}
use lib.Dec.{eqb, leb}
use borrow.Author.Tests.{eqb-true, eqb-false, leb-true, leb-false, ne_eqb}
use borrow.Table.Steps.{cases}
use Rattle.geometry.proofs.Tests.{both}
use Rattle.register.specs.declared.Register.TheVariants.{Writes}
use Rattle.register.specs.declared.Writable.{Writable}
use Rattle.register.specs.declared.Writable.TheVariants.{Id, Enable, Width, Height, ConfigDone, Sync, GuestId, CursorId, CursorX, CursorY, CursorOn}
use Rattle.register.specs.Numbers.{register_of, number_of}
use Rattle.register.proofs.ByNumber.{writable_number}
use Rattle.device.specs.declared.Condition.{Condition}
use Rattle.device.specs.declared.Condition.TheVariants.{Idle, Running, Faulted}
use Rattle.device.specs.declared.Device.{Device}
use Rattle.device.specs.Device.{memory_of, width_of, height_of, enabled_of, max_width, max_height, mode_good, condition_good, well_formed}
use Rattle.device.proofs.Kept.{parts}
use Rattle.register_write.specs.Registers.{in_range, is_id, id_written, enable_written, idled, running, synced, plane_on, effect_of, ring_asked}

-- ---- what an effect can change

-- w is the register r
abbrev pub is : Writable → Writable → Bool
is w r = eqb (number_of (Writes w)) (number_of (Writes r))

-- a register whose number is not that of r is not r
pub is_other : (index : ℕ) (w r : Writable) → register_of index ≡ Writes w → (index ≡ number_of (Writes r) → ⊥) → is w r ≡ false
is_other index w r q n = ne_eqb _ _ (λ e. n (writable_number index w q ∙ e))

-- d with the parts from e that a write of w can change: the register's own value; ENABLE, CONFIG_DONE and SYNC: BUSY; CONFIG_DONE: the
-- condition; CURSOR_ON: the plane.
abbrev pub changed_by : Writable → Device → Device → Device
changed_by w d e = record {
  sizes = d.sizes;
  registers = record {
    id = cond (is w Id) e.registers.id d.registers.id;
    enable = cond (is w Enable) e.registers.enable d.registers.enable;
    width = cond (is w Width) e.registers.width d.registers.width;
    height = cond (is w Height) e.registers.height d.registers.height;
    config = cond (is w ConfigDone) e.registers.config d.registers.config;
    guest = cond (is w GuestId) e.registers.guest d.registers.guest;
    cursorid = cond (is w CursorId) e.registers.cursorid d.registers.cursorid;
    cursorx = cond (is w CursorX) e.registers.cursorx d.registers.cursorx;
    cursory = cond (is w CursorY) e.registers.cursory d.registers.cursory;
    cursoron = cond (is w CursorOn) e.registers.cursoron d.registers.cursoron;
  };
  plane = cond (is w CursorOn) e.plane d.plane;
  marks = d.marks;
  busy = cond (is w Enable || (is w ConfigDone || is w Sync)) e.busy d.busy;
  condition = cond (is w ConfigDone) e.condition d.condition;
}

pub only_own : (d : Device) (v : ℕ) (w : Writable) → effect_of d v w ≡ changed_by w d (effect_of d v w)
unfolding effect_of id_written enable_written synced
only_own d v Id = refl
only_own d v Enable = refl
only_own d v Width = refl
only_own d v Height = refl
only_own d v ConfigDone = refl
only_own d v Sync = refl
only_own d v GuestId = refl
only_own d v CursorId = refl
only_own d v CursorX = refl
only_own d v CursorY = refl
only_own d v CursorOn = refl

-- ---- a well-formed device stays so

mode_halves : (width height : ℕ) → mode_good width height ≡ (leb 1 width && leb width max_width) && (leb 1 height && leb height max_height)
unfolding mode_good
mode_halves width height = rw and_assoc

idled_good : (memory : ℕ) (c : Condition) → condition_good memory false (idled c) ≡ true
unfolding condition_good
idled_good memory Idle = refl
idled_good memory (Running g) = refl
idled_good memory (Faulted c) = refl

module _ (d : Device) (v : ℕ) (m : well_formed d ≡ true) where
  halves : (leb 1 (width_of d) && leb (width_of d) max_width ≡ true) × (leb 1 (height_of d) && leb (height_of d) max_height ≡ true)
  halves = both _ _ (rw mode_halves at (parts d m).1)

  pub effect_well_formed : (w : Writable) → in_range w v ≡ true → well_formed (effect_of d v w) ≡ true
  unfolding well_formed in_range effect_of id_written enable_written synced
  effect_well_formed Id r = m
  effect_well_formed Enable r = m
  effect_well_formed Width r =
      let good : mode_good v (height_of d) ≡ true = rw (mode_halves, r) halves.1 in
      rw ((parts d m).0, good, (parts d m).2) (parts d m).3
  effect_well_formed Height r =
      let good : mode_good (width_of d) v ≡ true = rw (mode_halves, halves.0) r in
      rw ((parts d m).0, good, (parts d m).2) (parts d m).3
  effect_well_formed ConfigDone r = rw ((parts d m).0, (parts d m).1, idled_good (memory_of d) d.condition) (parts d m).3
  effect_well_formed Sync r = m
  effect_well_formed GuestId r = m
  effect_well_formed CursorId r = m
  effect_well_formed CursorX r = m
  effect_well_formed CursorY r = m
  effect_well_formed CursorOn r = m

-- ---- each register's own law

-- "0x90000000, ..01, ..02 are stored; any other value is taken and changes nothing"
pub id_stored : (d : Device) (v : ℕ) → is_id v ≡ true → (effect_of d v Id).registers.id ≡ v
unfolding effect_of id_written
id_stored d v t = rw t

pub id_foreign : (d : Device) (v : ℕ) → is_id v ≡ false → effect_of d v Id ≡ d
unfolding effect_of id_written
id_foreign d v f = rw f

-- "Writing 0 to ENABLE or CONFIG_DONE clears BUSY."
pub enable_stored : (d : Device) (v : ℕ) → in_range Enable v ≡ true → cond (enabled_of (effect_of d v Enable)) 1 0 ≡ v
unfolding in_range effect_of enable_written
enable_stored d v r =
    cases (eqb v 0) (λ z. rw z (sym (eqb-true v 0 z)))
    (λ f. rw f (let n : v ≢ 0 = eqb-false v 0 f in omega (arith, leb-true v 1 r)))

pub enable_sets : (d : Device) → enabled_of (effect_of d 1 Enable) ≡ true
unfolding effect_of enable_written
enable_sets d = refl

pub enable_clears : (d : Device) → (effect_of d 0 Enable).busy ≡ false
unfolding effect_of enable_written
enable_clears d = refl

pub width_stored : (d : Device) (v : ℕ) → width_of (effect_of d v Width) ≡ v
unfolding effect_of
width_stored d v = refl

pub height_stored : (d : Device) (v : ℕ) → height_of (effect_of d v Height) ≡ v
unfolding effect_of
height_stored d v = refl

-- of CONFIG_DONE the effect is that of 0
pub config_stored : (d : Device) (v : ℕ) → in_range ConfigDone v ≡ true → ring_asked ConfigDone v ≡ false
    → cond (effect_of d v ConfigDone).registers.config 1 0 ≡ v
unfolding in_range ring_asked effect_of
config_stored d v r a = let n : v ≢ 1 = eqb-false v 1 a in omega (arith, leb-true v 1 r)

pub config_clears : (d : Device) (v : ℕ) → (effect_of d v ConfigDone).busy ≡ false
unfolding effect_of
config_clears d v = refl

-- "SYNC sets BUSY to 1 if the device is configured, enabled and without fault; otherwise nothing."
pub sync_sets : (d : Device) (v : ℕ) → running d.condition && d.registers.enable ≡ true → (effect_of d v Sync).busy ≡ true
unfolding effect_of synced
sync_sets d v e = rw e

pub sync_else : (d : Device) (v : ℕ) → running d.condition && d.registers.enable ≡ false → effect_of d v Sync ≡ d
unfolding effect_of synced
sync_else d v e = rw e

-- BUSY stays but for SYNC, and for 0 to ENABLE or CONFIG_DONE
pub effect_busy : (d : Device) (v : ℕ) (w : Writable) → in_range w v ≡ true → ring_asked w v ≡ false
    → (w ≡ Sync → ⊥) → (w ≡ Enable → v ≡ 0 → ⊥) → (w ≡ ConfigDone → v ≡ 0 → ⊥) → (effect_of d v w).busy ≡ d.busy
unfolding in_range ring_asked effect_of id_written enable_written
effect_busy d v Id r a s e c = refl
effect_busy d v Enable r a s e c = rw (ne_eqb v 0 (e refl))
effect_busy d v Width r a s e c = refl
effect_busy d v Height r a s e c = refl
effect_busy d v ConfigDone r a s e c = absurd (c refl (let n : v ≢ 1 = eqb-false v 1 a in omega (arith, leb-true v 1 r)))
effect_busy d v Sync r a s e c = absurd (s refl)
effect_busy d v GuestId r a s e c = refl
effect_busy d v CursorId r a s e c = refl
effect_busy d v CursorX r a s e c = refl
effect_busy d v CursorY r a s e c = refl
effect_busy d v CursorOn r a s e c = refl

pub guest_id_stored : (d : Device) (v : ℕ) → (effect_of d v GuestId).registers.guest ≡ v
unfolding effect_of
guest_id_stored d v = refl

pub cursor_id_stored : (d : Device) (v : ℕ) → (effect_of d v CursorId).registers.cursorid ≡ v
unfolding effect_of
cursor_id_stored d v = refl

pub cursor_x_stored : (d : Device) (v : ℕ) → (effect_of d v CursorX).registers.cursorx ≡ v
unfolding effect_of
cursor_x_stored d v = refl

pub cursor_y_stored : (d : Device) (v : ℕ) → (effect_of d v CursorY).registers.cursory ≡ v
unfolding effect_of
cursor_y_stored d v = refl

pub cursor_on_stored : (d : Device) (v : ℕ) → (effect_of d v CursorOn).registers.cursoron ≡ v
unfolding effect_of
cursor_on_stored d v = refl

-- "CURSOR_ON 1 remembers id, X and Y and shows; 0 hides; 2 and 3 leave the plane as it is"
pub cursor_on_0 : (d : Device) → (effect_of d 0 CursorOn).plane ≡ record { shown = false; id = d.plane.id; x = d.plane.x; y = d.plane.y }
unfolding effect_of plane_on
cursor_on_0 d = refl

pub cursor_on_1 : (d : Device)
    → (effect_of d 1 CursorOn).plane ≡ record { shown = true; id = d.registers.cursorid; x = d.registers.cursorx; y = d.registers.cursory }
unfolding effect_of plane_on
cursor_on_1 d = refl

-- the values that change the plane
abbrev pub moves_plane : ℕ → Bool
moves_plane v = leb v 1

pub cursor_on_else : (d : Device) (v : ℕ) → moves_plane v ≡ false → (effect_of d v CursorOn).plane ≡ d.plane
unfolding effect_of plane_on
cursor_on_else d v f =
    let h = leb-false v 1 f in
    rw (ne_eqb v 0 (λ z. omega arith), ne_eqb v 1 (λ z. omega arith))
