-- The id gates nothing but what register 0 reads: on worlds that differ in it alone every other call answers, paints and leaves the same.
-- Assumes nothing.
use Rattle.std.proofs.Common.{Option, None, Some, ◌≡◌, refl, sym, ap, ap₂, subst, ◌∙◌, Bool, true, false, cond, ◌&&◌, ◌||◌, List, [], ◌∷◌, ℕ, ◌/◌, eqb, leb, ltb, length, ne_eqb}
use Rattle.cursor.specs.declared.Shape.{Shape}
use borrow.Table.Steps.{cases}
use Rattle.ring.specs.declared.Ring.{Ring}
use Rattle.ring.specs.Acceptance.{accepted}
use Rattle.register.specs.declared.Register.{Register}
use Rattle.register.specs.declared.Register.TheVariants.{Writes, Reads, Absent}
use Rattle.register.specs.declared.Writable.{Writable}
use Rattle.register.specs.declared.Writable.TheVariants.{Id, Enable, Width, Height, ConfigDone, Sync, GuestId, CursorId, CursorX, CursorY, CursorOn}
use Rattle.register.specs.Numbers.{numbers, register_of, number_of}
use Rattle.register.proofs.ByNumber.{numbered, writable_number}
use Rattle.device.specs.declared.Condition.{Condition}
use Rattle.device.specs.declared.Condition.TheVariants.{Idle, Running, Faulted}
use Rattle.device.specs.declared.Device.{Device}
use Rattle.device.specs.Device.{memory_of, enabled_of, configured_of, condition_of, defined_of, sizes_good, mode_fits, well_formed}
use Rattle.device.specs.Making.{made_of}
use Rattle.register_write.specs.Answers.{WriteOutcome}
use Rattle.register_write.specs.Registers.{refused, in_range, id_written, enable_written, synced, plane_on, effect_of, ring_asked, accepted_written, ring_written, writable_written, written_by, written}
use Rattle.register_read.specs.Answers.{Reading}
use Rattle.register_read.specs.Registers.{writable_value, read_by, read_of}
use Rattle.register_read.specs.AfterWrites.{affects}
use Rattle.register_read.proofs.Readings.{reads_changed}
use Rattle.device_run.specs.Run.{Lent, RunOutcome, lent_good, refused_run, run_by, run_of}
use Rattle.offscreen.specs.declared.Edges.{Edges}
use Rattle.adapter.specs.Picture.{Pictured, cursor_over, picture_of}
use Rattle.offscreen.specs.Offscreen.{offscreen_of, in_mode, in_offscreen, joined}
use Rattle.history.specs.Calls.{World, Call, make, write, read, run, append, submit, picture, offscreen, fence, passed, lend}
use Rattle.history.specs.Calls.{with_device, perform, perform_all}
use Rattle.history.specs.OtherId.{with_id, SameButId, SameOutcome, NotTheId, NeverTheId, SameHistory}

-- what holds of the choices of a test on both sides holds of what is chosen
both_sides : {A : Type 0} (P : A → A → Type 0) (b : Bool) {x y u v : A} → P x u → P y v → P (cond b x y) (cond b u v)
both_sides P true p q = p
both_sides P false p q = q

-- the same but for the id, of a register write and of a run
record SameWrite (o p : WriteOutcome) : Type 0 where
  answer : p.answer ≡ o.answer
  device : p.device ≡ with_id o.device p.device.registers.id

record SameRun (o p : RunOutcome) : Type 0 where
  answer : p.answer ≡ o.answer
  count : p.count ≡ o.count
  device : p.device ≡ with_id o.device p.device.registers.id
  lent : p.lent ≡ o.lent

-- a device, and the same with another id
module _ (d : Device) (id : ℕ) where
  abbrev other : Device
  other = with_id d id

  well_formed_other : well_formed other ≡ well_formed d
  unfolding well_formed
  well_formed_other = refl

  -- ---- register writes

  effect_other : (v : ℕ) (w : Writable) → effect_of other v w ≡ with_id (effect_of d v w) (effect_of other v w).registers.id
  unfolding effect_of id_written enable_written synced plane_on
  effect_other v Id = refl
  effect_other v Enable = refl
  effect_other v Width = refl
  effect_other v Height = refl
  effect_other v ConfigDone = refl
  effect_other v Sync = refl
  effect_other v GuestId = refl
  effect_other v CursorId = refl
  effect_other v CursorX = refl
  effect_other v CursorY = refl
  effect_other v CursorOn = refl

  refused_write_other : (a : ℕ) → SameWrite (refused a d) (refused a other)
  refused_write_other a = record { answer = refl; device = refl }

  accepted_other : (a : Option Ring) → SameWrite (accepted_written d a) (accepted_written other a)
  unfolding accepted_written
  accepted_other (Some g) = record { answer = refl; device = refl }
  accepted_other None = refused_write_other 33

  module _ (ring : List ℕ) (v : ℕ) where
    ring_other : SameWrite (ring_written d ring) (ring_written other ring)
    unfolding ring_written
    ring_other = both_sides SameWrite (eqb (length ring) (memory_of d / 4)) (accepted_other (accepted ring)) (refused_write_other 20)

    register_other : (r : Register) → SameWrite (written_by d ring v r) (written_by other ring v r)
    unfolding written_by writable_written
    register_other (Writes w) =
        both_sides SameWrite (in_range w v)
        (both_sides SameWrite (ring_asked w v) ring_other (record { answer = refl; device = effect_other v w }))
        (refused_write_other 32)
    register_other (Reads r) = refused_write_other 31
    register_other Absent = refused_write_other 30

    written_other : (index : ℕ) → SameWrite (written d ring index v) (written other ring index v)
    unfolding written
    written_other index = rw well_formed_other (both_sides SameWrite (well_formed d) (register_other (register_of index)) (refused_write_other 30))

  -- ---- register reads

  -- an index other than 0 is not the register ID
  not_id : (index : ℕ) → (index ≡ 0 → ⊥) → affects Id (register_of index) ≡ false
  unfolding register_of numbers
  not_id index n =
      let r = register_of index in
      let not-0 : eqb (number_of r) 0 ≡ false = ne_eqb (number_of r) 0 (λ e. n (writable_number index Id (sym (numbered r) ∙ ap register_of e))) in
      rw not-0

  read_other : (index : ℕ) → (index ≡ 0 → ⊥) → read_of other index ≡ read_of d index
  unfolding read_of
  read_other index n = rw (well_formed_other, reads_changed d other Id (register_of index) (not_id index n))

  -- ---- runs

  offscreen_other : offscreen_of other ≡ offscreen_of d
  unfolding offscreen_of
  offscreen_other = rw well_formed_other

  joined_other : joined other ≡ joined d
  unfolding joined in_mode in_offscreen
  joined_other = λ i x y. in_mode d x y || (let e = offscreen_other i in leb e.left x && (ltb x e.right && (leb e.top y && ltb y e.bottom)))

  module _ (l : Lent) (budget : ℕ) where
    refused_run_other : (a : ℕ) → SameRun (refused_run d l a) (refused_run other l a)
    refused_run_other a = record { answer = refl; count = refl; device = refl; lent = refl }

    condition_other : (c : Condition) → SameRun (run_by d l budget c) (run_by other l budget c)
    unfolding run_by
    condition_other Idle = refused_run_other 22
    condition_other (Running g) = rw joined_other (record { answer = refl; count = refl; device = refl; lent = refl })
    condition_other (Faulted c) = refused_run_other 23

    lent_other : lent_good other l ≡ lent_good d l
    unfolding lent_good
    lent_other = refl

    run_other : SameRun (run_of d l budget) (run_of other l budget)
    unfolding run_of
    run_other =
        rw (well_formed_other, lent_other)
        (both_sides SameRun (well_formed d)
        (both_sides SameRun (lent_good d l)
        (both_sides SameRun (configured_of d)
        (both_sides SameRun (enabled_of d)
        (both_sides SameRun (mode_fits d) (condition_other (condition_of d)) (refused_run_other 24))
        (refused_run_other 21))
        (refused_run_other 22))
        (refused_run_other 20))
        (refused_run_other 22))

  -- ---- pictures

  over_other : (c : Option Shape) → cursor_over other c ≡ cursor_over d c
  unfolding cursor_over
  over_other None = refl
  over_other (Some s) = refl

  picture_other : (screen image output : List ℕ) → picture_of other screen image output ≡ picture_of d screen image output
  unfolding picture_of
  picture_other screen image output = rw (well_formed_other, over_other (defined_of d))

-- ---- every call

-- what holds of a world and the same with any other id holds of worlds that are equal but for it
by_id : (P : World → Type 0) (w z : World) → ((id : ℕ) → P (with_device w (with_id w.device id))) → SameButId w z → P z
by_id P w z p s =
    let id = z.device.registers.id in
    let same : with_device w (with_id w.device id) ≡ z = λ i. record { device = sym s.device i; lent = sym s.lent i; output = sym s.output i } in
    subst P same (p id)

-- every world has one for each id
pub still_same : (w : World) (id : ℕ) → SameButId w (with_device w (with_id w.device id))
still_same w id = record { device = refl; lent = refl; output = refl }

call_other : (c : Call) (w : World) (id : ℕ) → NotTheId c → SameOutcome (perform c w) (perform c (with_device w (with_id w.device id)))
unfolding perform made_of
call_other (make memory pixels) w id t =
    cases (sizes_good memory pixels)
    (λ y. rw y (record { answer = refl; values = refl; world = record { device = refl; lent = refl; output = refl } }))
    (λ f. rw f (record { answer = refl; values = refl; world = still_same w id }))
call_other (write index value) w id t =
    let s = written_other w.device id w.lent.ring value index in
    record { answer = s.answer; values = refl; world = record { device = s.device; lent = refl; output = refl } }
call_other (read index) w id t =
    let e = read_other w.device id index t in
    record { answer = ap (λ (r : Reading). r.answer) e; values = ap (λ (r : Reading). r.value ∷ []) e; world = still_same w id }
call_other (run budget) w id t =
    let s = run_other w.device id w.lent budget in
    record { answer = s.answer; values = ap (λ (n : ℕ). n ∷ []) s.count; world = record { device = s.device; lent = s.lent; output = refl } }
call_other (append word) w id t = record { answer = refl; values = refl; world = record { device = refl; lent = refl; output = refl } }
call_other (submit c) w id t = record { answer = refl; values = refl; world = record { device = refl; lent = refl; output = refl } }
call_other picture w id t =
    let e = picture_other w.device id w.lent.screen w.lent.cursor w.output in
    record {
      answer = ap (λ (p : Pictured). p.answer) e;
      values = refl;
      world = record { device = refl; lent = refl; output = ap (λ (p : Pictured). p.output) e };
    }
call_other offscreen w id t =
    let e = offscreen_other w.device id in
    record {
      answer = refl;
      values = ap (λ (e : Edges). e.left ∷ e.top ∷ e.right ∷ e.bottom ∷ []) e;
      world = still_same w id;
    }
call_other fence w id t = record { answer = refl; values = refl; world = still_same w id }
call_other (passed number) w id t = record { answer = refl; values = refl; world = still_same w id }
call_other (lend l output) w id t = record { answer = refl; values = refl; world = record { device = refl; lent = refl; output = refl } }

-- A call that does not read register 0 answers the same on both, with the same values, and leaves worlds that are again equal but for the id: every lent
-- memory and the output are painted alike. A write of the id is such a call too.
pub same_call : (c : Call) (w z : World) → SameButId w z → NotTheId c → SameOutcome (perform c w) (perform c z)
same_call c w z s t = by_id (λ (z : World). SameOutcome (perform c w) (perform c z)) w z (λ id. call_other c w id t) s

-- And so does every list of them, throughout.
pub same_history : (cs : List Call) (w z : World) → SameButId w z → NeverTheId cs → SameHistory (perform_all cs w) (perform_all cs z)
unfolding perform_all
same_history [] w z s t = record { answers = refl; world = s }
same_history (c ∷ cs) w z s t =
    let o = same_call c w z s t.0 in
    let h = same_history cs (perform c w).world (perform c z).world o.world t.1 in
    record { answers = ap₂ ◌∷◌ (ap₂ ◌∷◌ o.answer o.values) h.answers; world = h.world }

-- The read that is left out tells them apart.
pub id_reads : (w : World) (id : ℕ) → well_formed w.device ≡ true → (perform (read 0) (with_device w (with_id w.device id))).values ≡ id ∷ []
unfolding perform read_of read_by writable_value register_of numbers
id_reads w id m = rw (well_formed_other w.device id, m)
