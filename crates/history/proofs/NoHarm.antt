-- Demand 1: no call does harm, whatever the device, the lent memories and the calls before; and every history keeps a device well-formed.
-- Assumes nothing.
use Rattle.std.proofs.Common.{Option, Err, Ok, Result, ◌≡◌, refl, sym, ap, subst, ◌∙◌, Bool, true, false, List, [], ◌∷◌, ◌↔◌, ◌⊎◌, inl, inr, ⊎_elim, ℕ, zero, suc, ◌*◌, ◌≤◌, ◌<◌, arith, eqb, ltb, length, get_or, ltb-true, ltb-false, leb-true, eq-eqb}
use lib.ListN.{get_or-eq_default}
use borrow.Table.Steps.{cases}
use Rattle.execution.specs.declared.End.TheVariants.{Drained, Waiting, Fault}
use Rattle.execution.specs.declared.Cause.TheVariants.{NotOffered, BadOperand, TooLong, BadNext}
use Rattle.execution.specs.Claim.{Answer, spent, standing, ended, answer_number}
use Rattle.ring.specs.declared.Ring.{Ring}
use Rattle.ring.specs.Acceptance.{Usable}
use Rattle.ring.specs.Append.{can_append, append_to, append_of}
use Rattle.ring.proofs.AppendLaws.{append-refused, append-usable}
use Rattle.writer.specs.declared.WriterError.{WriterError}
use Rattle.writer.specs.declared.WriterError.TheVariants.{LentLength, RingRefused, NoRoom, NotACommand}
use Rattle.writer.specs.Writing.{Command, command_words, free_words, append_all, Written, writer_number, write_of}
use Rattle.writer.proofs.RoomLaws.{room}
use Rattle.writer.proofs.Appending.{length-append_all, append_all_elsewhere, by_write, write_answers as writer-answers}
use Rattle.register.specs.declared.Register.{Register}
use Rattle.register.specs.declared.Register.TheVariants.{Writes, Reads, Absent}
use Rattle.register.specs.declared.Writable.TheVariants.{Enable, ConfigDone, Sync, CursorOn}
use Rattle.register.specs.Numbers.{register_of}
use Rattle.picture.specs.declared.VisibleCursor.{VisibleCursor}
use Rattle.picture.specs.Picture.{composed}
use Rattle.picture.proofs.Laws.{length-composed, beyond_stays}
use Rattle.effect.specs.Effects.{Machine}
use Rattle.effect.proofs.Reach.{beyond_rows}
use Rattle.run.specs.Run.{NoFence, NoPainting}
use Rattle.device.specs.declared.Condition.{Condition}
use Rattle.device.specs.declared.Condition.TheVariants.{Idle, Running, Faulted}
use Rattle.device.specs.declared.Device.{Device}
use Rattle.device.specs.Device.{pixels_of, width_of, height_of, rows_of, defined_of, sizes_good, mode_fits, well_formed}
use Rattle.device.specs.Making.{made_of}
use Rattle.register_read.specs.Registers.{read_by, read_of}
use Rattle.register_write.specs.Registers.{written}
use Rattle.adapter.specs.Picture.{cursor_over, lengths_good, picture_of}
use Rattle.device_run.specs.Run.{Lent, RunOutcome, condition_after, busy_after, machine_of, scene_for, line_of, turn_for, refused_run, ran, run_of}
use Rattle.device.proofs.Laws.{well_formed_lem}
use Rattle.offscreen.proofs.Joined.{joined_places}
use Rattle.register.proofs.ByNumber.{writable_number}
use Rattle.register_write.proofs.Effects.{is_other}
use Rattle.register_write.proofs.Kept.{part_kept, sizes_kept, marks_kept, busy_kept}
use Rattle.register_read.proofs.Readings.{value_kept}
use Rattle.register_write.specs.Rules.{Why, no_register, read_only, bad_value, wrong_length, ring_refused, is_taken}
use Rattle.register_write.proofs.Refusals.{why, ill_formed_write}
use Rattle.history.proofs.KeptByRun.{NotStanding, Refusal, lent_length_lem, disabled, not_configured_lem, fault_stands, too_large_lem, Open, ran_in, by_run}
use Rattle.history.proofs.KeptByRun.{left_sound, left_stays, open_sound, refused_run_lem, run_count, run_nothing, run_filled, run_unpainted, run_tells}
use Rattle.history.specs.Calls.{World, Call, make, write, read, run, append, submit, picture, offscreen, fence, passed, lend, perform, perform_all}
use Rattle.history.specs.Harm.{row, among, SameBut, InMode, InReach, cursor_filled, Posts}
use Rattle.history.specs.Harm.{WriteChanges, ConditionChanges, RunChanges, FromNext, AppendChanges, PictureChanges, OnlyNamed, Safe, Harmless}
use Rattle.history.proofs.Starts.{condition_kept, refused_stays}

-- ---- answers

make_answers : (memory pixels : ℕ) (w : World) → among (perform (make memory pixels) w).answer (row (make memory pixels)) ≡ true
unfolding perform made_of
make_answers memory pixels w = cases (sizes_good memory pixels) (λ t. rw t) (λ f. rw f)

why_row : (d : Device) (ring : List ℕ) (index value a : ℕ) → Why d ring index value a → among a (row (write index value)) ≡ true
why_row d ring index value a (no_register e) = cases (eqb index 20) (λ t. rw t) (λ f. rw f)
why_row d ring index value a (read_only r e) = cases (eqb index 20) (λ t. rw t) (λ f. rw f)
why_row d ring index value a (bad_value w e f) = cases (eqb index 20) (λ t. rw t) (λ f. rw f)
why_row d ring index value a (wrong_length e o n) = rw (eq-eqb index 20 (writable_number index ConfigDone e))
why_row d ring index value a (ring_refused e o n u) = cases (eqb index 20) (λ t. rw t) (λ f. rw f)
why_row d ring index value a (is_taken w e t r) = cases (eqb index 20) (λ t. rw t) (λ f. rw f)

write_answers : (index value : ℕ) (w : World) → among (perform (write index value) w).answer (row (write index value)) ≡ true
unfolding perform
write_answers index value w =
    let d = w.device in
    let ring = w.lent.ring in
    cases (well_formed d)
    (λ m. why_row d ring index value (written d ring index value).answer (why d ring index value m))
    (λ f. rw (ill_formed_write d ring index value f) (cases (eqb index 20) (λ t. rw t) (λ f. rw f)))

read_row : (d : Device) (r : Register) → among (read_by d r).answer (0 ∷ 30 ∷ []) ≡ true
unfolding read_by
read_row d (Writes w) = refl
read_row d (Reads r) = refl
read_row d Absent = refl

read_answers : (index : ℕ) (w : World) → among (perform (read index) w).answer (row (read index)) ≡ true
unfolding perform read_of
read_answers index w = cases (well_formed w.device) (λ t. rw t (read_row w.device (register_of index))) (λ f. rw f)

not_standing_row : (budget : ℕ) (a : Answer) → NotStanding a → among (answer_number a) (row (run budget)) ≡ true
not_standing_row budget spent t = refl
not_standing_row budget standing t = refl
not_standing_row budget (ended Drained) t = refl
not_standing_row budget (ended Waiting) t = refl
not_standing_row budget (ended (Fault NotOffered)) t = refl
not_standing_row budget (ended (Fault BadOperand)) t = refl
not_standing_row budget (ended (Fault TooLong)) t = refl
not_standing_row budget (ended (Fault BadNext)) t = refl

refusal_row : (budget a : ℕ) → Refusal a → among a (row (run budget)) ≡ true
refusal_row budget a lent_length_lem = refl
refusal_row budget a disabled = refl
refusal_row budget a not_configured_lem = refl
refusal_row budget a fault_stands = refl
refusal_row budget a too_large_lem = refl

run_answers : (budget : ℕ) (w : World) → among (perform (run budget) w).answer (row (run budget)) ≡ true
unfolding perform
run_answers budget w =
    let d = w.device in
    let m = w.lent in
    by_run d m (λ (o : RunOutcome). among o.answer (row (run budget)) ≡ true) budget
    (refusal_row budget)
    (λ g o.
    not_standing_row budget (ran_in d m budget g).answer
    (left_stays d m g o budget).not_standing)

append-answers : (word : ℕ) (w : World) → among (perform (append word) w).answer (row (append word)) ≡ true
unfolding perform append_of
append-answers word w = cases (can_append w.lent.ring) (λ t. rw t) (λ f. rw f)

writer_row : (c : Command) (a : Result (Unit {0}) WriterError) → among (writer_number a) (row (submit c)) ≡ true
writer_row c (Ok tt) = refl
writer_row c (Err LentLength) = refl
writer_row c (Err RingRefused) = refl
writer_row c (Err NoRoom) = refl
writer_row c (Err NotACommand) = refl

submit_answers : (c : Command) (w : World) → among (perform (submit c) w).answer (row (submit c)) ≡ true
unfolding perform
submit_answers c w = let a = writer-answers w.lent.ring c in rw a.1 (writer_row c a.0)

picture_answers : (w : World) → among (perform picture w).answer (row picture) ≡ true
unfolding perform picture_of
picture_answers w =
    let d = w.device in
    cases (well_formed d)
    (λ m. cases (lengths_good (pixels_of d) (length w.lent.screen) (length w.lent.cursor) (length w.output))
    (λ l. cases (mode_fits d) (λ t. rw (m, l, t)) (λ f. rw (m, l, f)))
    (λ l. rw (m, l)))
    (λ f. rw f)

-- ---- what changes

pub all_same : {changes : ℕ → Type 0} (l : List ℕ) → SameBut changes l l
all_same l = record { same_length = refl; elsewhere = λ i h. refl }

write_changes : (index value : ℕ) (w : World) → WriteChanges index value w (perform (write index value) w).world
unfolding perform
write_changes index value w =
    let d = w.device in
    let ring = w.lent.ring in
    record {
      registers = value_kept d ring index value;
      plane = λ n. part_kept (λ (e : Device). e.plane) d ring index value (λ x q e. rw (is_other index x CursorOn q n));
      condition = condition_kept d ring value index;
      busy = λ s e c.
          busy_kept d ring index value
          (λ q. s (writable_number index Sync q)) (λ q. e (writable_number index Enable q)) (λ q. c (writable_number index ConfigDone q));
      sizes = sizes_kept d ring index value;
      marks = marks_kept d ring index value;
      lent = refl;
      output = refl;
    }

-- a run that is refused leaves the condition
condition_same : (c : Condition) (a : ℕ) → ConditionChanges c a c
condition_same Idle a = refl
condition_same (Running g) a = inl (g, refl, refl, refl)
condition_same (Faulted c) a = refl

-- one that is not remembers MIN and MAX, or its fault stands
condition_moves : (a : Answer) (g h : Ring) → h.min ≡ g.min → h.max ≡ g.max → ConditionChanges (Running g) (answer_number a) (condition_after a h)
unfolding condition_after
condition_moves spent g h e f = inl (h, refl, e, f)
condition_moves standing g h e f = inl (h, refl, e, f)
condition_moves (ended Drained) g h e f = inl (h, refl, e, f)
condition_moves (ended Waiting) g h e f = inl (h, refl, e, f)
condition_moves (ended (Fault c)) g h e f = inr (c, refl, refl)

-- one ring is remembered
same_ring : (g h : Ring) → Running g ≡ Running h → g ≡ h
same_ring g h e = cc

busy_moves : (a : Answer) (b : Bool) → (busy_after a b ≡ b) ⊎ (busy_after a b ≡ false)
unfolding busy_after
busy_moves spent b = inl refl
busy_moves standing b = inl refl
busy_moves (ended e) b = inr refl

-- words that are appended where there is room for them: ring word 2, and as many from NEXT_CMD on
appended : (ring words : List ℕ) → Usable ring → length words ≤ free_words ring
    → SameBut (λ i. (i ≡ 2) ⊎ FromNext ring (length words) i) ring (append_all ring words)
appended ring words u l = record {
  same_length = length-append_all ring words;
  elsewhere = λ i h. append_all_elsewhere ring words u l i (λ e. h (inl e)) (λ k b e. h (inr (k, b, e)));
}

append-ring : (ring : List ℕ) (word : ℕ) → SameBut (λ i. (i ≡ 2) ⊎ FromNext ring 1 i) ring (append_to ring word)
unfolding append_all
append-ring ring word =
    cases (can_append ring)
    (λ t. let u = append-usable ring t in appended ring (word ∷ []) u ((room ring u).1 t))
    (λ f. rw (append-refused ring word f) (all_same ring))

submit_ring : (ring : List ℕ) (c : Command) → SameBut (λ i. (i ≡ 2) ⊎ FromNext ring (length (command_words c)) i) ring (write_of ring c).ring
submit_ring ring c =
    by_write ring c (λ (o : Written). SameBut (λ i. (i ≡ 2) ⊎ FromNext ring (length (command_words c)) i) ring o.ring)
    (λ a high. all_same ring)
    (λ f. appended ring (command_words c) f.usable f.room)

-- a test that does not hold fails
not_yes : (b : Bool) → (b ≡ true → ⊥) → b ≡ false
not_yes true h = absurd (h refl)
not_yes false h = refl

-- not below is at least
not_below : (i n : ℕ) → (i < n → ⊥) → n ≤ i
not_below i n h = cases (ltb i n) (λ t. absurd (h (ltb-true i n t))) (λ f. ltb-false i n f)

-- the world that a run's outcome leaves
abbrev ran_world : World → RunOutcome → World
ran_world w o = record { device = o.device; lent = o.lent; output = w.output }

module _ (w : World) where
  abbrev d : Device
  d = w.device

  abbrev m : Lent
  m = w.lent

  refused_run_changes : (a : ℕ) → RunChanges a 0 w (ran_world w (refused_run d m a))
  refused_run_changes a = record {
    sizes = refl;
    registers = refl;
    plane = refl;
    busy = inl refl;
    condition = condition_same d.condition a;
    ring = all_same m.ring;
    word_6 = λ g e h. refl;
    screen = all_same m.screen;
    offscreen = λ g e h. all_same m.screen;
    cursor = all_same m.cursor;
    framebuffer = refl;
    output = refl;
    nothing_consumed = λ z. (refl, refl);
  }

  ran_changes : (budget : ℕ) (g : Ring) → Open d m g
      → RunChanges (answer_number (ran_in d m budget g).answer) (ran_in d m budget g).count w (ran_world w (ran d m (ran_in d m budget g)))
  ran_changes budget g o =
      let r = ran_in d m budget g in
      let s = left_stays d m g o budget in
      let running = sym o.running in
      let before = open_sound d m g o in
      let after = left_sound d m g o budget in
      let filled = run_filled (scene_for d m g) g budget m.ring (machine_of d m g) in
      let wide = (well_formed_lem d o.is_well_formed).width_low in
      let unpainted = run_unpainted (scene_for d m g) g budget m.ring (machine_of d m g) in
      let same = run_nothing (scene_for d m g) g budget m.ring (machine_of d m g) in
      record {
        sizes = refl;
        registers = refl;
        plane = refl;
        busy = busy_moves r.answer d.busy;
        condition = subst (λ (c : Condition). ConditionChanges c (answer_number r.answer) (condition_after r.answer r.place)) running
            (condition_moves r.answer g r.place s.min s.max);
        ring = subst (λ (c : Condition). SameBut (λ i. (i ≡ 3) ⊎ ((i ≡ 6) × Posts c)) m.ring r.ring) running (record {
          same_length = s.ring_length;
          elsewhere = λ i h. s.other_words i (λ e. h (inl e)) (λ t e. h (inr (e, leb-true 7 g.min t)));
        });
        word_6 = λ h e.
            subst (λ (x : Ring). NoFence (turn_for d m x) r.count (line_of d m x) → get_or r.ring 6 0 ≡ get_or m.ring 6 0)
            (same_ring g h (sym o.running ∙ e)) (λ without. ((run_tells (scene_for d m g) g budget m.ring (machine_of d m g) refl refl).0 without).0);
        screen = record { same_length = after.same_length; elsewhere = λ i h. after.beyond_reach i (not_yes _ h) };
        offscreen = λ h e.
            subst (λ (x : Ring). NoPainting (turn_for d m x) r.count (line_of d m x) → SameBut (InMode w) m.screen r.machine.screen)
            (same_ring g h (sym o.running ∙ e))
            (λ without. record { same_length = after.same_length; elsewhere = λ i n. unpainted i wide (not_below i (width_of d * height_of d) n) without });
        cursor = subst (λ (c : Condition). SameBut (λ i. i < cursor_filled w c r.count) m.cursor r.machine.cursor) running
            (record { same_length = after.cursor ∙ sym before.cursor; elsewhere = λ i h. filled i (not_below i _ h) });
        framebuffer = refl;
        output = refl;
        nothing_consumed = λ z. (rw (s.untouched z, same z), ap (λ (x : Machine). x.marks) (same z));
      }

  run_changes : (budget : ℕ) → OnlyNamed (run budget) w (perform (run budget) w)
  unfolding perform
  run_changes budget =
      by_run d m (λ (o : RunOutcome). RunChanges o.answer o.count w (ran_world w o)) budget
      (λ a r. refused_run_changes a)
      (ran_changes budget)

  append_changes : (word : ℕ) → AppendChanges 1 w (perform (append word) w).world
  unfolding perform append_of
  append_changes word = record { ring = append-ring m.ring word; device = refl; others = refl; output = refl }

  submit_changes : (c : Command) → AppendChanges (length (command_words c)) w (perform (submit c) w).world
  unfolding perform
  submit_changes c = record { ring = submit_ring m.ring c; device = refl; others = refl; output = refl }

  composed_changes : (over : Option VisibleCursor) → well_formed d ≡ true → SameBut (InMode w) w.output (composed (width_of d) (height_of d) over m.screen m.cursor w.output)
  composed_changes over y =
      let width = width_of d in
      let height = height_of d in
      let l = length-composed width height m.screen m.cursor w.output over in
      record {
        same_length = l;
        elsewhere = λ i h.
            let far = not_below i (width * height) h in
            cases (ltb i (length w.output))
            (λ t. beyond_stays width height m.screen m.cursor w.output over i (ltb-true i (length w.output) t) (beyond_rows width height i (well_formed_lem d y).width_low far))
            (λ f.
            let k : length w.output ≤ i = ltb-false i (length w.output) f in
            get_or-eq_default (composed width height over m.screen m.cursor w.output) 0 (rw l k) ∙ sym (get_or-eq_default w.output 0 k));
      }

  output_changes : SameBut (InMode w) w.output (picture_of d m.screen m.cursor w.output).output
  unfolding picture_of
  output_changes =
      cases (well_formed d)
      (λ y. cases (lengths_good (pixels_of d) (length m.screen) (length m.cursor) (length w.output))
      (λ l. cases (mode_fits d) (λ t. rw (y, l, t) (composed_changes (cursor_over d (defined_of d)) y)) (λ f. rw (y, l, f) (all_same w.output)))
      (λ l. rw (y, l) (all_same w.output)))
      (λ f. rw f (all_same w.output))

  picture_changes : PictureChanges w (perform picture w).world
  unfolding perform
  picture_changes = record { output = output_changes; device = refl; lent = refl }

-- ---- demand 1

call_answers : (c : Call) (w : World) → among (perform c w).answer (row c) ≡ true
unfolding perform
call_answers (make memory pixels) w = make_answers memory pixels w
call_answers (write index value) w = write_answers index value w
call_answers (read index) w = read_answers index w
call_answers (run budget) w = run_answers budget w
call_answers (append word) w = append-answers word w
call_answers (submit c) w = submit_answers c w
call_answers picture w = picture_answers w
call_answers offscreen w = refl
call_answers fence w = refl
call_answers (passed number) w = refl
call_answers (lend l output) w = refl

make_changes : (memory pixels : ℕ) (w : World) → OnlyNamed (make memory pixels) w (perform (make memory pixels) w)
unfolding perform made_of
make_changes memory pixels w = (cases (sizes_good memory pixels) (λ t. rw t (inl refl)) (λ f. rw f (inr refl)), refl, refl)

call_changes : (c : Call) (w : World) → OnlyNamed c w (perform c w)
unfolding perform
call_changes (make memory pixels) w = make_changes memory pixels w
call_changes (write index value) w = write_changes index value w
call_changes (read index) w = refl
call_changes (run budget) w = run_changes w budget
call_changes (append word) w = append_changes w word
call_changes (submit c) w = submit_changes w c
call_changes picture w = picture_changes w
call_changes offscreen w = refl
call_changes fence w = refl
call_changes (passed number) w = refl
call_changes (lend l output) w = (refl, refl, refl)

one_zero : (v i : ℕ) → v ≡ 0 → get_or (v ∷ []) i 0 ≡ 0
one_zero v zero e = e
one_zero v (suc i) e = refl

read_silent : (d : Device) (r : Register) → 20 ≤ (read_by d r).answer → (read_by d r).value ≡ 0
unfolding read_by
read_silent d (Writes w) h = absurd (omega arith)
read_silent d (Reads r) h = absurd (omega arith)
read_silent d Absent h = refl

read_value : (d : Device) (index : ℕ) → 20 ≤ (read_of d index).answer → (read_of d index).value ≡ 0
unfolding read_of
read_value d index = cases (well_formed d) (λ t. rw t (read_silent d (register_of index))) (λ f. rw f (λ h. refl))

call_silent : (c : Call) (w : World) → 20 ≤ (perform c w).answer → (i : ℕ) → get_or (perform c w).values i 0 ≡ 0
unfolding perform
call_silent (make memory pixels) w h i = refl
call_silent (write index value) w h i = refl
call_silent (read index) w h i = one_zero (read_of w.device index).value i (read_value w.device index h)
call_silent (run budget) w h i =
    let m = w.lent in
    let q = refused_run_lem w.device m budget h in
    one_zero (run_of w.device m budget).count i (ap (λ (o : RunOutcome). o.count) q)
call_silent (append word) w h i = refl
call_silent (submit c) w h i = refl
call_silent picture w h i = refl
call_silent offscreen w h i = absurd (omega arith)
call_silent fence w h i = absurd (omega arith)
call_silent (passed number) w h i = absurd (omega arith)
call_silent (lend l output) w h i = refl

-- every call, of every device, well-formed or not, with every lent memory
pub safe : (c : Call) (w : World) → Safe c w
safe c w = record { answered = call_answers c w; only_named = call_changes c w; refused = refused_stays c w; refused_values = call_silent c w }

-- and every list of calls
pub no_harm : (cs : List Call) (w : World) → Harmless cs w
no_harm [] w = tt
no_harm (c ∷ cs) w = (safe c w, no_harm cs (perform c w).world)

-- the same of a call after any others
pub no_harm_after : (before : List Call) (c : Call) (w : World) → Safe c (perform_all before w).world
no_harm_after before c w = safe c (perform_all before w).world

-- What a run may paint, by rows: where the mode fits, the places in reach are those below width·rows, with as many rows as lie whole in P pixels.
pub places_in_reach : (w : World) (i : ℕ) → well_formed w.device ≡ true → mode_fits w.device ≡ true
    → InReach w i ↔ (i < width_of w.device * rows_of w.device)
places_in_reach w i good fits = joined_places w.device good fits i

-- So no run, of no device, paints the P mod width words behind them.
pub behind_rows_stay : (budget : ℕ) (w : World) (i : ℕ) → width_of w.device * rows_of w.device ≤ i
    → get_or (perform (run budget) w).world.lent.screen i 0 ≡ get_or w.lent.screen i 0
unfolding perform
behind_rows_stay budget w i behind =
    let d = w.device in
    let m = w.lent in
    by_run d m (λ (o : RunOutcome). get_or o.lent.screen i 0 ≡ get_or m.screen i 0) budget
    (λ a r. refl)
    (λ g o.
    (left_sound d m g o budget).beyond_reach i
    (not_yes _ (λ t. let l = (joined_places d o.is_well_formed o.mode i).0 t in omega arith)))

-- "The run stops after a number of commands never above its budget"
pub run_bounded : (budget : ℕ) (w : World) → get_or (perform (run budget) w).values 0 0 ≤ budget
unfolding perform
run_bounded budget w =
    let d = w.device in
    let m = w.lent in
    by_run d m (λ (o : RunOutcome). o.count ≤ budget) budget
    (λ a r. omega arith)
    (λ g o. run_count (scene_for d m g) g budget m.ring (machine_of d m g))

-- "A run then changes words 3 and 6 only", "and none if it consumed nothing".
pub run_untouched : (budget : ℕ) (w : World) → get_or (perform (run budget) w).values 0 0 ≡ 0 → (perform (run budget) w).world.lent.ring ≡ w.lent.ring
run_untouched budget w z = ap (λ (l : Lent). l.ring) ((run_changes w budget).nothing_consumed z).0

-- "When MIN is 28 or more, an executed FENCE also writes its number to word 6; below that, as today": where the remembered MIN is below 28, or the run
-- executes no FENCE, ring word 6 is as before.
pub word_6_stays : (budget : ℕ) (w : World) (g : Ring) → w.device.condition ≡ Running g
    → (g.min < 7) ⊎ NoFence (turn_for w.device w.lent g) (get_or (perform (run budget) w).values 0 0) (line_of w.device w.lent g)
    → get_or (perform (run budget) w).world.lent.ring 6 0 ≡ get_or w.lent.ring 6 0
word_6_stays budget w g e =
    let c = run_changes w budget in
    ⊎_elim
    (λ low. c.ring.elsewhere 6 (⊎_elim (λ z. omega arith) (λ z. let n : 7 ≤ g.min = rw e at z.1 in omega arith)))
    (c.word_6 g e)

-- what a run posts, by the commands that it counted
abbrev Told : World → Ring → RunOutcome → Type 0
Told w g r =
    let Without = NoFence (turn_for w.device w.lent g) r.count (line_of w.device w.lent g) in
    (Without → (get_or r.lent.ring 6 0 ≡ get_or w.lent.ring 6 0) × (r.device.marks.fence ≡ w.device.marks.fence))
    × (7 ≤ g.min → (¬ Without) → get_or r.lent.ring 6 0 ≡ r.device.marks.fence)

-- "Boards poll ring word 6 for the last fence instead of asking us": if no FENCE is among the commands that a run counted, word 6 and the fence that the
-- device tells are as before; if one is, and the remembered MIN is 28 or more, word 6 is that fence.
pub word_6_tells : (budget : ℕ) (w : World) (g : Ring) → w.device.condition ≡ Running g
    → (let z = perform (run budget) w in
    let Without = NoFence (turn_for w.device w.lent g) (get_or z.values 0 0) (line_of w.device w.lent g) in
    (Without → (get_or z.world.lent.ring 6 0 ≡ get_or w.lent.ring 6 0) × (z.world.device.marks.fence ≡ w.device.marks.fence))
    × (7 ≤ g.min → (¬ Without) → get_or z.world.lent.ring 6 0 ≡ z.world.device.marks.fence))
unfolding perform
word_6_tells budget w g e =
    let d = w.device in
    let m = w.lent in
    by_run d m (Told w g) budget
    (λ a r. (λ without. (refl, refl), λ low with-one. absurd (with-one (λ j l. absurd (omega arith)))))
    (λ h o.
    subst (λ (x : Ring). Told w x (ran d m (ran_in d m budget h))) (same_ring h g (sym o.running ∙ e))
    (run_tells (scene_for d m h) h budget m.ring (machine_of d m h) refl refl))
