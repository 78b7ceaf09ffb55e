-- A device with its memories shows a queue: an append and a run of the one are those of the other.
-- Assumes nothing.
use mathlib.Core.Path.{◌≡◌, refl, sym, ap, subst, ◌∙◌}
use mathlib.Core.Bool.{true, false, cond, true≢false}
use mathlib.Core.List.{List, [], ◌∷◌, ◌++◌}
use mathlib.Core.Option.{Option, none, some}
use Prim.Native.Nat.{ℕ, ◌+◌, ◌-◌, ◌*◌, ◌/◌, ◌%◌, ◌≤◌}
use native.Mathlib.Omega.{arith}
use native.Mathlib.Nat.{add-zero}
use lib.Dec.{eqb}
use lib.ListN.{length, drop, length-drop, length-append}
use borrow.Author.Tests.{eqb-true, eqb-false, eq-eqb, le-leb, lt-ltb}
use borrow.Table.Steps.{cases}
use Rattle.geometry.proofs.Tests.{both}
use Rattle.execution.specs.declared.Cause.{Cause}
use Rattle.execution.specs.declared.End.TheVariants.{Drained, Waiting, Fault}
use Rattle.execution.specs.Straight.{Turn, Line, more}
use Rattle.execution.specs.Table.{turn_of, Laws}
use Rattle.execution.specs.Claim.{Op, Answer, spent, standing, ended, taken, counted, met_end, met}
use Rattle.execution.specs.Claim as C
use Rattle.execution.specs.Turns.{LineRun, runs}
use Rattle.execution.specs.Queue.{Queue, Acted, fresh, offer, settle, try, act}
use Rattle.ring.specs.declared.Ring.{Ring}
use Rattle.ring.specs.Acceptance.{min_of, max_of, next_of, stop_of, usable}
use Rattle.ring.specs.Append.{can_append, append_to, append_of}
use Rattle.ring.specs.Waiting.{ahead, between, words, waiting, carried, placed, next_good}
use Rattle.ring.proofs.Laws.{usable_when, when_placed}
use Rattle.ring.proofs.WaitingLaws.{length-waiting}
use Rattle.ring.proofs.AppendLaws.{append-refused, length-append_to, append_elsewhere, append_keeps, append_waits, append_full}
use Rattle.command.proofs.Laws.{command_laws}
use Rattle.effect.specs.Effects.{Scene, scene, Machine, done}
use Rattle.effect.proofs.Reach.{joined_at}
use Rattle.run.specs.Run as R
use Rattle.run.specs.Run.{known_of, table, stamped, posts_in, posting, posted_in, left, run_words, fitting, run_in}
use Rattle.device.specs.declared.Device.{Device}
use Rattle.device.specs.declared.Condition.{Condition}
use Rattle.device.specs.declared.Condition.TheVariants.{Running, Faulted}
use Rattle.device.specs.Device.{memory_of, pixels_of, width_of, height_of, enabled_of, configured_of, condition_of}
use Rattle.device.specs.Device.{sizes_good, mode_good, condition_good, mode_fits, well_formed}
use Rattle.device_run.specs.Run.{Lent, with_ring, RunOutcome, lent_good, condition_after, scene_for, ran, run_by, run_of}
use Rattle.device_run.proofs.ByRows.{scene_by_rows}
use Rattle.offscreen.proofs.Joined.{mode_joined}
use Rattle.device.proofs.Laws.{well_formed_lem}
use Rattle.history.specs.Calls.{World, CallOutcome, append, run, perform}
use Rattle.history.specs.Demand.{ring_at_start, is_start, world_turn, world_words, world_machine, world_line, stands_in, words_on, numbers_of}
use Rattle.run.proofs.Fences.{left_posted}
use Rattle.run.proofs.Posting.{clear_min}
use Rattle.run.proofs.RunLaws.{turn_kept}
use Rattle.history.proofs.Runs.{Leaves, run_leaves}
use Rattle.history.proofs.KeptByRun.{Sound, sound_exec}
use Rattle.history.proofs.Places.{on_add, on_ahead, Holds, InWords, in_words, held_in_lem, passed_by_lem}

-- ---- the definitions of a run, where nothing is refused

run_in_lem : (s : Scene) (g : Ring) (b : ℕ) (ring : List ℕ) (m : Machine) → fitting g (length ring) (length m.cursor) ≡ true → next_good g (next_of ring) ≡ true
    → run_in s g b ring m
    ≡ (let words = waiting ring g.min g.max g.stop (next_of ring / 4) in
    left g ring words (runs (turn_of (carried g.min g.max) (table s)) b (record { words = words; machine = m })))
unfolding run_in run_words
run_in_lem s g b ring m f n = rw (f, turn_kept s g (next_of ring) n)

run_passes : (d : Device) (l : Lent) (b : ℕ)
    → well_formed d ≡ true
    → lent_good d l ≡ true
    → configured_of d ≡ true
    → enabled_of d ≡ true
    → mode_fits d ≡ true
    → run_of d l b ≡ run_by d l b (condition_of d)
unfolding run_of
run_passes d l b m n c e f = rw (m, n, c, e, f)

-- ---- the relation

-- the condition of a device with this standing fault, if any, and a remembered ring
abbrev condition_for : Option Cause → Ring → Condition
condition_for none g = Running g
condition_for (some c) g = Faulted c

condition_after_lem : (a : Answer) (g : Ring) → condition_after a g ≡ condition_for (met a) g
unfolding condition_after met met_end
condition_after_lem spent g = refl
condition_after_lem standing g = refl
condition_after_lem (ended Drained) g = refl
condition_after_lem (ended Waiting) g = refl
condition_after_lem (ended (Fault c)) g = refl

-- the remembered ring with STOP at another place
abbrev stop_at : Ring → ℕ → Ring
stop_at g p = record { min = g.min; max = g.max; stop = p }

stands_for : (f : Option Cause) (g : Ring) → stands_in (condition_for f g) ≡ f
stands_for none g = refl
stands_for (some c) g = refl

ring_for : (f : Option Cause) (g h : Ring) → condition_for f g ≡ Running h → h ≡ g
ring_for none g h e = cc
ring_for (some c) g h e = absurd (true≢false cc)

-- what the start has shown of the device and the framebuffer
pub record Started (w₀ : World) : Type 0 where
  pub there : well_formed w₀.device ≡ true
  pub sizes : sizes_good (memory_of w₀.device) (pixels_of w₀.device) ≡ true
  pub mode : mode_good (width_of w₀.device) (height_of w₀.device) ≡ true
  pub config : configured_of w₀.device ≡ true
  pub enable : enabled_of w₀.device ≡ true
  pub fits_screen : mode_fits w₀.device ≡ true
  pub framebuffer : length w₀.lent.framebuffer ≡ pixels_of w₀.device
  pub screen : length w₀.lent.screen ≡ pixels_of w₀.device
  pub wide : 1 ≤ width_of w₀.device
  pub small : memory_of w₀.device ≤ 2097152

module _ (g : Ring) (w₀ : World) where
  abbrev cap : ℕ
  cap = carried g.min g.max

  abbrev turn : Machine → List ℕ → Turn Machine
  turn = world_turn w₀ g

  -- what every executed command keeps of the machine
  abbrev Right : Machine → Type 0
  Right = Sound (joined_at (scene_for w₀.device w₀.lent g)) w₀.lent.screen

  -- After k words were taken in all, the world w shows the queue q.
  pub record Shows (k : ℕ) (w : World) (q : Queue Machine) : Type 0 where
    pub sizes : w.device.sizes ≡ w₀.device.sizes
    pub registers : w.device.registers ≡ w₀.device.registers
    pub framebuffer : w.lent.framebuffer ≡ w₀.lent.framebuffer
    pub ring_length : length w.lent.ring ≡ memory_of w₀.device / 4
    pub sound : Right (world_machine g w)
    pub holds : Holds g.min g.max w.lent.ring
    pub line : world_line g w ≡ q.line
    pub condition : condition_of w.device ≡ condition_for q.stands (stop_at g (stop_of w.lent.ring / 4))
    -- the words dropped so far
    pub gone : ℕ
    pub all : gone + length q.line.words ≡ k
    pub word_3 : stop_of w.lent.ring ≡ 4 * words_on g.min g.max g.stop gone

  pub shows_stands : {k : ℕ} {w : World} {q : Queue Machine} → Shows k w q → stands_in (condition_of w.device) ≡ q.stands
  shows_stands {q} s = ap stands_in s.condition ∙ stands_for q.stands _

  -- the remembered ring
  pub shows_ring : {k : ℕ} {w : World} {q : Queue Machine} → Shows k w q → (h : Ring) → condition_of w.device ≡ Running h
      → (h.min ≡ g.min) × (h.max ≡ g.max) × (4 * h.stop ≡ stop_of w.lent.ring)
  shows_ring {w} {q} s h e =
      let same = ring_for q.stands _ h (sym s.condition ∙ e) in
      let i = in_words g.min g.max w.lent.ring s.holds in
      (ap (λ (r : Ring). r.min) same, ap (λ (r : Ring). r.max) same, ap (λ (r : Ring). 4 * r.stop) same ∙ sym i.stop_is)

  -- "ring word 3 has moved on by 4 for each word dropped": for all that were taken but those that wait
  pub shows_stop : {k : ℕ} {w : World} {q : Queue Machine} → Shows k w q
      → stop_of w.lent.ring ≡ 4 * words_on g.min g.max g.stop (k - length (world_words g w))
  shows_stop {k} {w} {q} s =
      let same = ap (λ (l : Line Machine). length l.words) s.line in
      let dropped : s.gone ≡ k - length (world_words g w) = omega (arith, s.all, same) in
      s.word_3 ∙ ap (λ n. 4 * words_on g.min g.max g.stop n) dropped

  -- an operation of the one is that of the other
  pub record Step (k : ℕ) (o : Op) (out : CallOutcome) (a : Acted Machine) : Type 0 where
    pub same_answers : out.answer ∷ out.values ≡ numbers_of (record { op = o; reply = a.reply })
    pub shows : Shows (k + length (taken o a.reply)) out.world a.queue

  -- ---- the append

  module _ (k : ℕ) (w : World) (q : Queue Machine) (s : Shows k w q) where
    abbrev ring : List ℕ
    ring = w.lent.ring

    low : g.min ≡ min_of ring / 4
    low = omega (arith, s.holds.low)

    high : g.max ≡ max_of ring / 4
    high = omega (arith, s.holds.high)

    same_words : world_words g w ≡ q.line.words
    same_words = ap (λ (l : Line Machine). l.words) s.line

    full : eqb (length q.line.words) cap ≡ true → can_append ring ≡ false
    full e =
        (append_full ring g.min g.max (stop_of ring / 4) low high refl s.holds.good).1 (ap length same_words ∙ eqb-true _ _ e)

    room : eqb (length q.line.words) cap ≡ false → can_append ring ≡ true
    room e =
        cases (can_append ring) (λ t. t)
        (λ f. absurd (eqb-false _ _ e (sym (ap length same_words) ∙ (append_full ring g.min g.max (stop_of ring / 4) low high refl s.holds.good).0 f)))

    -- an append leaves what is posted: NEXT_CMD is behind word 6 where fences are
    append_posted : (x : ℕ) → posted_in (posts_in g) (append_to ring x) ≡ posted_in (posts_in g) ring
    unfolding posted_in
    append_posted x =
        let i = in_words g.min g.max ring s.holds in
        cases (posts_in g)
        (λ t. let c = clear_min g refl t in rw t (append_elsewhere ring x 6 (λ e. omega arith) (λ e. omega arith)))
        (λ t. rw t)

    appended_shows : (x : ℕ) → can_append ring ≡ true
        → Shows (k + 1) (record { device = w.device; lent = with_ring w.lent (append_to ring x); output = w.output }) (record { line = more q.line (x ∷ []); stands = q.stands })
    appended_shows x e =
        let a = append_keeps ring x in
        let same = a.2 in
        let words : world_words g (record { device = w.device; lent = with_ring w.lent (append_to ring x); output = w.output }) ≡ q.line.words ++ (x ∷ []) =
        rw same (append_waits ring g.min g.max (stop_of ring / 4) low high refl x e ∙ ap (λ (l : List ℕ). l ++ (x ∷ [])) same_words) in
        let machine : world_machine g (record { device = w.device; lent = with_ring w.lent (append_to ring x); output = w.output }) ≡ world_machine g w =
        λ i. R.machine w.device.marks w.lent.screen w.lent.cursor (append_posted x i) in
        record {
          sizes = s.sizes;
          registers = s.registers;
          framebuffer = s.framebuffer;
          ring_length = length-append_to ring x ∙ s.ring_length;
          sound = subst Right (sym machine) s.sound;
          holds = record { good = a.3 ∙ s.holds.good; low = a.0 ∙ s.holds.low; high = a.1 ∙ s.holds.high };
          line = λ i. record { words = words i; machine = (machine ∙ ap (λ (l : Line Machine). l.machine) s.line) i };
          condition = rw same s.condition;
          gone = s.gone;
          all = rw length-append (omega (arith, s.all));
          word_3 = same ∙ s.word_3;
        }

    pub append_step : (x : ℕ) → Step k (C.append x) (perform (append x) w) (act cap turn (C.append x) q)
    unfolding perform append_of act offer taken counted
    append_step x =
        cases (eqb (length q.line.words) cap)
        (λ e. rw (e, full e, append-refused ring x (full e)) (record { same_answers = refl; shows = rw add-zero s }))
        (λ e. rw (e, room e) (record { same_answers = refl; shows = appended_shows x (room e) }))

  -- ---- the run

  module _ (st : Started w₀) (k : ℕ) (w : World) (q : Queue Machine) (s : Shows k w q) where
    abbrev memory : List ℕ
    memory = w.lent.ring

    abbrev now : Ring
    now = stop_at g (stop_of memory / 4)

    places : InWords g.min g.max memory
    places = in_words g.min g.max memory s.holds

    placed_now : placed now (length memory) ≡ true
    placed_now =
        let i = places in
        when_placed now (length memory) (record { past_head = i.head; fits = i.long; size = i.wide; from = i.stop_from; below = i.stop_below })

    condition_good_lem : (f : Option Cause) → condition_good (memory_of w₀.device) true (condition_for f now) ≡ true
    unfolding condition_good
    condition_good_lem none = rw (← s.ring_length) placed_now
    condition_good_lem (some c) = refl

    well_formed_now : well_formed w.device ≡ true
    unfolding well_formed
    well_formed_now =
        rw (s.sizes, s.registers, s.condition, st.sizes, st.mode, st.config, condition_good_lem q.stands) s.sound.defined

    mode_now : mode_fits w.device ≡ true
    mode_now = rw (s.registers, s.sizes) st.fits_screen

    lent_now : lent_good w.device w.lent ≡ true
    unfolding lent_good
    lent_now =
        rw (
          s.sizes,
          s.framebuffer,
          eq-eqb _ _ s.ring_length,
          eq-eqb _ _ st.framebuffer,
          eq-eqb _ _ (s.sound.same_length ∙ st.screen),
          eq-eqb _ _ s.sound.cursor,
        )

    passes : (b : ℕ) → run_of w.device w.lent b
        ≡ run_by w.device w.lent b (condition_for q.stands now)
    passes b =
        run_passes w.device w.lent b well_formed_now lent_now
        (rw s.registers st.config) (rw s.registers st.enable) mode_now
        ∙ ap (run_by w.device w.lent b) s.condition

    fits_now : fitting now (length memory) (length (world_machine g w).cursor) ≡ true
    unfolding fitting
    fits_now =
        let i = places in
        let l = s.ring_length in
        rw (placed_now, le-leb g.max 524288 (omega (arith, st.small)), eq-eqb _ _ s.sound.cursor)

    next_now : next_good now (next_of memory) ≡ true
    unfolding next_good
    next_now =
        let i = places in
        rw (
          eq-eqb (next_of memory % 4) 0 i.next_word,
          le-leb g.min (next_of memory / 4) i.next_from,
          lt-ltb (next_of memory / 4) g.max i.next_below,
        )

    same_scene : scene_for w.device w.lent g ≡ scene_for w₀.device w₀.lent g
    same_scene =
        scene_by_rows w.device w.lent g well_formed_now mode_now
        ∙ (λ i. scene (record { width = (s.registers i).width; height = (s.registers i).height; rows = (s.sizes i).pixels / (s.registers i).width })
        (s.framebuffer i) (posts_in g))
        ∙ sym (scene_by_rows w₀.device w₀.lent g st.there st.fits_screen)

    -- the device's run is the queue's
    runs_so : (b : ℕ) → run_in (scene_for w.device w.lent g) now b memory (world_machine g w) ≡ left now memory q.line.words (runs turn b q.line)
    runs_so b =
        ap (λ c. run_in c now b memory (world_machine g w)) same_scene
        ∙ run_in_lem (scene_for w₀.device w₀.lent g) now b memory (world_machine g w) fits_now next_now
        ∙ ap (λ (l : Line Machine). left now memory l.words (runs turn b l)) s.line

    abbrev after : RunOutcome → World
    after o = record {
      device = o.device;
      lent = o.lent;
      output = w.output;
    }

    left_shows : (r : LineRun Machine) → Leaves Right q.line r
        → posted_in (posts_in g) (left now memory q.line.words r).ring ≡ r.line.machine.posted
        → Shows k (after (ran w.device w.lent (left now memory q.line.words r))) (settle r).queue
    unfolding left
    left_shows r l posted =
        let lo = g.min in
        let hi = g.max in
        let stop = stop_of memory / 4 in
        let waits = same_words k w q s in
        let long : length q.line.words ≡ between lo hi stop (next_of memory / 4) =
        sym (ap length waits) ∙ length-waiting memory lo hi stop (next_of memory / 4) in
        let short : length r.line.words ≡ length q.line.words - l.gone = ap length l.words ∙ length-drop l.gone q.line.words in
        let many : length q.line.words - length r.line.words ≡ l.gone = omega (arith, l.part) in
        let part : l.gone ≤ between lo hi stop (next_of memory / 4) = omega (arith, l.part) in
        let p = passed_by_lem lo hi memory r.count l.gone (posts_in g) r.line.machine.posted s.holds part l.nothing (clear_min g refl) in
        let at : stop ≡ words_on lo hi g.stop s.gone = omega (arith, s.word_3) in
        let m = r.line.machine in
        let to = cond (eqb r.count 0) memory (stamped (ahead lo hi stop l.gone) (posting (posts_in g) m.posted memory)) in
        let there : posted_in (posts_in g) to ≡ m.posted = rw many at posted in
        let same : R.machine m.marks m.screen m.cursor (posted_in (posts_in g) to) ≡ m =
        λ i. R.machine m.marks m.screen m.cursor (there i) in
        rw many (record {
          sizes = s.sizes;
          registers = s.registers;
          framebuffer = s.framebuffer;
          ring_length = p.same_length ∙ s.ring_length;
          sound = subst Right (sym same) l.kept;
          holds = p.holds;
          line = λ i. record { words = (p.waits ∙ ap (drop l.gone) waits ∙ sym l.words) i; machine = same i };
          condition = condition_after_lem r.answer (stop_at g (ahead lo hi stop l.gone))
              ∙ ap (λ x. condition_for (met r.answer) (stop_at g x)) (omega (arith, p.stop));
          gone = s.gone + l.gone;
          all = omega (arith, s.all, l.part);
          word_3 = p.stop
              ∙ ap (λ x. 4 * x)
              (sym (on_ahead lo hi stop l.gone (held_in_lem lo hi memory s.holds l.gone part))
              ∙ ap (λ x. words_on lo hi x l.gone) at
              ∙ sym (on_add lo hi g.stop s.gone l.gone));
        })

    -- a run answers its number and its count
    abbrev outcome : RunOutcome → CallOutcome
    outcome o = record { answer = o.answer; values = o.count ∷ []; world = after o }

    laws : Laws cap turn
    laws = command_laws known_of (done (scene_for w₀.device w₀.lent g)) cap (omega (arith, places))

    sound_line : Right q.line.machine
    sound_line = subst (λ (l : Line Machine). Right l.machine) s.line s.sound

    -- the ring memory has what it posted
    posted_now : (b : ℕ) → posted_in (posts_in g) (left now memory q.line.words (runs turn b q.line)).ring ≡ (runs turn b q.line).line.machine.posted
    posted_now b =
        left_posted (scene_for w₀.device w₀.lent g) cap now memory b q.line refl (sym (ap (λ (l : Line Machine). l.machine.posted) s.line))
        (λ t. let c = clear_min g refl t in omega (arith, places))

    run_by_lem : (b : ℕ) (f : Option Cause) → q.stands ≡ f
        → Step k (C.run b) (outcome (run_by w.device w.lent b (condition_for f now))) (try turn f b q)
    unfolding run_by left try taken counted
    run_by_lem b (some c) e = record { same_answers = refl; shows = rw add-zero s }
    run_by_lem b none e =
        subst (λ (o : R.RingOutcome). Step k (C.run b) (outcome (ran w.device w.lent o)) (settle (runs turn b q.line))) (sym (runs_so b))
        (record {
          same_answers = refl;
          shows = rw add-zero
              (left_shows (runs turn b q.line)
              (run_leaves laws Right
              (sound_exec (scene_for w₀.device w₀.lent g) w₀.lent.screen st.wide (mode_joined w₀.device) cap) b q.line sound_line)
              (posted_now b));
        })

    pub run_step : (b : ℕ) → Step k (C.run b) (perform (run b) w) (act cap turn (C.run b) q)
    unfolding perform act
    run_step b = rw (passes b) (run_by_lem b q.stands refl)

-- ---- the start

-- the tests of the start, one by one
record Tests (w₀ : World) : Type 0 where
  there : well_formed w₀.device ≡ true
  lent : lent_good w₀.device w₀.lent ≡ true
  config : configured_of w₀.device ≡ true
  enable : enabled_of w₀.device ≡ true
  fits_screen : mode_fits w₀.device ≡ true
  at_start : ring_at_start w₀.lent.ring (condition_of w₀.device) ≡ true

tests : (w₀ : World) → is_start w₀ ≡ true → Tests w₀
unfolding is_start
tests w₀ e =
    let d = w₀.device in
    let a = both (well_formed d) _ e in
    let b = both (lent_good d w₀.lent) _ a.1 in
    let c = both (configured_of d) _ b.1 in
    let f = both (enabled_of d) _ c.1 in
    let h = both (mode_fits d) _ f.1 in
    record { there = a.0; lent = b.0; config = c.0; enable = f.0; fits_screen = h.0; at_start = h.1 }

lent_lengths : (d : Device) (l : Lent) → lent_good d l ≡ true
    → (length l.ring ≡ memory_of d / 4)
    × (length l.framebuffer ≡ pixels_of d)
    × (length l.screen ≡ pixels_of d)
    × (length l.cursor ≡ 4096)
unfolding lent_good
lent_lengths d l e =
    let a = both (eqb (length l.ring) (memory_of d / 4)) _ e in
    let b = both (eqb (length l.framebuffer) (pixels_of d)) _ a.1 in
    let c = both (eqb (length l.screen) (pixels_of d)) (eqb (length l.cursor) 4096) b.1 in
    (eqb-true _ _ a.0, eqb-true _ _ b.0, eqb-true _ _ c.0, eqb-true _ _ c.1)

start_ring : (ring : List ℕ) (g : Ring) → ring_at_start ring (Running g) ≡ true
    → Holds g.min g.max ring × (stop_of ring ≡ 4 * g.stop) × (next_of ring ≡ stop_of ring)
unfolding ring_at_start
start_ring ring g e =
    let a = both (usable ring) _ e in
    let b = both (eqb (min_of ring / 4) g.min) _ a.1 in
    let c = both (eqb (max_of ring / 4) g.max) _ b.1 in
    let d = both (eqb (stop_of ring / 4) g.stop) (eqb (next_of ring) (stop_of ring)) c.1 in
    let u = usable_when ring a.0 in
    let low : min_of ring / 4 ≡ g.min = eqb-true _ _ b.0 in
    let high : max_of ring / 4 ≡ g.max = eqb-true _ _ c.0 in
    let stop : stop_of ring / 4 ≡ g.stop = eqb-true _ _ d.0 in
    (record { good = a.0; low = omega arith; high = omega arith }, omega arith, eqb-true _ _ d.1)

pub started : (w₀ : World) → is_start w₀ ≡ true → Started w₀
unfolding well_formed
started w₀ e =
    let t = tests w₀ e in
    let d = w₀.device in
    let sizes = both (sizes_good (memory_of d) (pixels_of d)) _ t.there in
    let mode = both (mode_good (width_of d) (height_of d)) _ sizes.1 in
    record {
      there = t.there;
      sizes = sizes.0;
      mode = mode.0;
      config = t.config;
      enable = t.enable;
      fits_screen = t.fits_screen;
      framebuffer = (lent_lengths d w₀.lent t.lent).1;
      screen = (lent_lengths d w₀.lent t.lent).2;
      wide = (well_formed_lem d t.there).width_low;
      small = (well_formed_lem d t.there).memory_high;
    }

-- nothing waits from a place up to itself
waits_none : (ring : List ℕ) (lo hi p q : ℕ) → p ≡ q → waiting ring lo hi p q ≡ []
unfolding waiting between words
waits_none ring lo hi p q e =
    let z : q - p ≡ 0 = omega arith in
    rw (le-leb p q (omega arith), z)

pub start_shows : (g : Ring) (w₀ : World) → is_start w₀ ≡ true → condition_of w₀.device ≡ Running g → Shows g w₀ 0 w₀ (fresh (world_machine g w₀))
unfolding fresh words_on
start_shows g w₀ e q =
    let t = tests w₀ e in
    let d = w₀.device in
    let lengths = lent_lengths d w₀.lent t.lent in
    let r = start_ring w₀.lent.ring g (rw q at t.at_start) in
    let stop : g.stop ≡ stop_of w₀.lent.ring / 4 = omega (arith, r.1) in
    record {
      sizes = refl;
      registers = refl;
      framebuffer = refl;
      ring_length = lengths.0;
      sound = record { same_length = refl; beyond_reach = λ k l. refl; cursor = lengths.3; defined = (well_formed_lem d t.there).defined };
      holds = r.0;
      line = λ i. record { words = waits_none w₀.lent.ring g.min g.max _ _ (ap (λ x. x / 4) (sym r.2)) i; machine = world_machine g w₀ };
      condition = q ∙ (λ i. Running (stop_at g (stop i)));
      gone = 0;
      all = refl;
      word_3 = r.1;
    }
