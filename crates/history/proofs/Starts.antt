-- The start of demand 3: it is reached, from any sizes, mode and empty ring; which calls keep it; and document 01's own words for it give it.
-- Assumes nothing.
use Rattle.std.proofs.Common.{◌≡◌, refl, sym, ap, ◌∙◌, Bool, true, false, true≢false, List, [], ◌∷◌, ⊎_elim, ℕ, ◌*◌, ◌/◌, ◌≤◌, arith, eqb, length, eqb-true, eq-eqb, le-leb}
use borrow.Author.Tests.{eqb-false}
use borrow.Table.Steps.{cases}
use Rattle.geometry.proofs.Tests.{both}
use Rattle.ring.specs.Acceptance.{min_of, max_of, next_of, stop_of, usable}
use Rattle.ring.specs.Append.{can_append, append_of}
use Rattle.ring.proofs.AppendLaws.{append-refused}
use Rattle.writer.proofs.Appending.{write_refused}
use Rattle.register.specs.declared.Register.TheVariants.{Writes}
use Rattle.register.specs.declared.Writable.TheVariants.{Enable, Width, Height, ConfigDone}
use Rattle.register.specs.Numbers.{numbers, register_of}
use Rattle.effect.specs.declared.Marks.{Marks}
use Rattle.device.specs.declared.Device.{Device}
use Rattle.device.specs.declared.Sizes.{Sizes}
use Rattle.device.specs.declared.Condition.{Condition}
use Rattle.device.specs.declared.Condition.TheVariants.{Idle, Running, Faulted}
use Rattle.device.specs.Device.{memory_of, width_of, height_of, enabled_of, configured_of, condition_of, defined_of, max_width, max_height, sizes_good, fresh, condition_good, mode_fits, well_formed}
use Rattle.device.specs.Making.{made_of}
use Rattle.register_write.specs.Answers as A
use Rattle.register_write.specs.Registers.{taken, in_range, effect_of, ring_asked, remembering, written}
use Rattle.register_write.specs.Rules.{wrong_length, ring_refused}
use Rattle.device_run.specs.Run as R
use Rattle.device_run.specs.Run.{RunOutcome, lent_good}
use Rattle.device.proofs.Laws.{well_formed_lem}
use Rattle.device.proofs.Kept.{fresh_well_formed}
use Rattle.register_write.proofs.Effects.{is_other, only_own, width_stored, height_stored, enable_sets}
use Rattle.register_write.proofs.Kept.{remembered, effect_taken, ring_taken, written_well_formed, part_kept, sizes_kept, marks_kept}
use Rattle.register_write.proofs.Refusals.{refused_changes_nothing, ill_formed_write, only}
use Rattle.adapter.proofs.Refusals.{refused_picture}
use Rattle.history.proofs.KeptByRun.{refused_run_lem, run_well_formed}
use Rattle.history.specs.Calls.{World, Call, make, write, read, run, append, submit, picture, offscreen, fence, passed, lend}
use Rattle.history.specs.Calls.{CallOutcome, with_device, perform, perform_all}
use Rattle.history.specs.Demand.{ring_at_start, is_start}
use Rattle.history.specs.Keeping.{starting, answers, Leaves, NoRun}
use Rattle.history.specs.Keeping.{Keeping, reads, shows, edges, last_fence, has_passed, refusal, elsewhere, enabled, accepted}

-- ---- what a start is, test by test

abbrev sizes_of : Device → Sizes
sizes_of d = d.sizes

pub record Start (w : World) : Type 0 where
  pub is_well_formed : well_formed w.device ≡ true
  pub lengths : lent_good w.device w.lent ≡ true
  pub is_configured : configured_of w.device ≡ true
  pub is_enabled : enabled_of w.device ≡ true
  pub mode : mode_fits w.device ≡ true
  pub ring : ring_at_start w.lent.ring (condition_of w.device) ≡ true

pub start_says : (w : World) → is_start w ≡ true → Start w
unfolding is_start
start_says w e =
    let a = both (well_formed w.device) _ e in
    let b = both (lent_good w.device w.lent) _ a.1 in
    let c = both (configured_of w.device) _ b.1 in
    let d = both (enabled_of w.device) _ c.1 in
    let f = both (mode_fits w.device) _ d.1 in
    record { is_well_formed = a.0; lengths = b.0; is_configured = c.0; is_enabled = d.0; mode = f.0; ring = f.1 }

pub says_start : (w : World) → Start w → is_start w ≡ true
unfolding is_start
says_start w s = rw (s.is_well_formed, s.lengths, s.is_configured, s.is_enabled, s.mode) s.ring

-- the ring words of a start are usable, and NEXT_CMD = STOP
pub ring_empty : (ring : List ℕ) (c : Condition) → ring_at_start ring c ≡ true → (usable ring ≡ true) × (next_of ring ≡ stop_of ring)
unfolding ring_at_start
ring_empty ring Idle e = absurd (true≢false cc)
ring_empty ring (Faulted c) e = absurd (true≢false cc)
ring_empty ring (Running g) e =
    let a = both (usable ring) _ e in
    let b = both (eqb (min_of ring / 4) g.min) _ a.1 in
    let c = both (eqb (max_of ring / 4) g.max) _ b.1 in
    let d = both (eqb (stop_of ring / 4) g.stop) _ c.1 in
    (a.0, eqb-true _ _ d.1)

-- ---- the start is reached

-- taken, with this device afterwards and the memories as they were
abbrev pub took : World → Device → CallOutcome
took w d = record { answer = 0; values = []; world = with_device w d }

make_taken : (w : World) (memory pixels : ℕ) → sizes_good memory pixels ≡ true → perform (make memory pixels) w ≡ took w (fresh memory pixels)
unfolding perform made_of
make_taken w memory pixels e = rw e

abbrev pub with_ring : Device → List ℕ → Device
with_ring d ring = remembering d (remembered ring)

module _ (d : Device) (ring : List ℕ) (m : well_formed d ≡ true) where
  width_taken : (v : ℕ) → 1 ≤ v → v ≤ max_width → written d ring 2 v ≡ taken (effect_of d v Width)
  unfolding in_range ring_asked
  width_taken v a b = effect_taken d ring m Width v (rw (le-leb 1 v a) (le-leb v max_width b)) refl

  height_taken : (v : ℕ) → 1 ≤ v → v ≤ max_height → written d ring 3 v ≡ taken (effect_of d v Height)
  unfolding in_range ring_asked
  height_taken v a b = effect_taken d ring m Height v (rw (le-leb 1 v a) (le-leb v max_height b)) refl

  enable_taken : written d ring 1 1 ≡ taken (effect_of d 1 Enable)
  unfolding in_range ring_asked
  enable_taken = effect_taken d ring m Enable 1 refl refl

write_taken : (w : World) (index value : ℕ) (d : Device) → written w.device w.lent.ring index value ≡ taken d → perform (write index value) w ≡ took w d
unfolding perform
write_taken w index value d e = rw e

well_formed_after : (d e : Device) (ring : List ℕ) (index value : ℕ) → well_formed d ≡ true → written d ring index value ≡ taken e → well_formed e ≡ true
well_formed_after d e ring index value m q = ap (λ (o : A.WriteOutcome). well_formed o.device) (sym q) ∙ written_well_formed d ring index value m

-- what was remembered of empty ring words is a start's
remembered_start : (ring : List ℕ) → usable ring ≡ true → next_of ring ≡ stop_of ring → ring_at_start ring (Running (remembered ring)) ≡ true
unfolding ring_at_start
remembered_start ring u n =
    rw (u, eq-eqb (min_of ring / 4) (min_of ring / 4) refl, eq-eqb (max_of ring / 4) (max_of ring / 4) refl, eq-eqb (stop_of ring / 4) (stop_of ring / 4) refl)
    (eq-eqb (next_of ring) (stop_of ring) n)

-- "CONFIG_DONE 1 .. Accepted": of a well-formed and enabled device whose mode fits, with every lent length right, at ring words that are usable and empty, it
-- is taken and gives a start.
pub accepted_starts : (w : World) → well_formed w.device ≡ true → lent_good w.device w.lent ≡ true → enabled_of w.device ≡ true → mode_fits w.device ≡ true
    → usable w.lent.ring ≡ true → next_of w.lent.ring ≡ stop_of w.lent.ring
    → (perform (write 20 1) w ≡ took w (with_ring w.device w.lent.ring)) × (is_start (perform (write 20 1) w).world ≡ true)
unfolding lent_good
accepted_starts w m l e f u n =
    let ring = w.lent.ring in
    let long = eqb-true (length ring) (memory_of w.device / 4) (both (eqb (length ring) (memory_of w.device / 4)) _ l).0 in
    let q = ring_taken w.device ring m long u in
    let p = write_taken w 20 1 (with_ring w.device ring) q in
    let start : Start (took w (with_ring w.device ring)).world = record {
      is_well_formed = well_formed_after w.device (with_ring w.device ring) ring 20 1 m q;
      lengths = l;
      is_configured = refl;
      is_enabled = e;
      mode = f;
      ring = remembered_start ring u n;
    } in
    (p, rw p (says_start _ start))

-- From any world whose lent memories have the right lengths for M and P, at ring words that are usable and empty: for every M and P that a device can be
-- made for and every mode that a device can have and that fits P.
pub start_reached : (w : World) (memory pixels width height : ℕ) → sizes_good memory pixels ≡ true
    → 1 ≤ width → width ≤ max_width → 1 ≤ height → height ≤ max_height → width * height ≤ pixels
    → length w.lent.ring ≡ memory / 4 → length w.lent.framebuffer ≡ pixels → length w.lent.screen ≡ pixels → length w.lent.cursor ≡ 4096
    → usable w.lent.ring ≡ true → next_of w.lent.ring ≡ stop_of w.lent.ring
    → (answers (perform_all (starting memory pixels width height) w) ≡ 0 ∷ 0 ∷ 0 ∷ 0 ∷ 0 ∷ [])
    × (is_start (perform_all (starting memory pixels width height) w).world ≡ true)
    × ((perform_all (starting memory pixels width height) w).world.lent ≡ w.lent)
    × ((perform_all (starting memory pixels width height) w).world.output ≡ w.output)
unfolding perform_all lent_good
start_reached w memory pixels width height good a b c d fits r f s k u n =
    let ring = w.lent.ring in
    let at : Device → World = with_device w in
    let d₁ = fresh memory pixels in
    let d₂ = effect_of d₁ width Width in
    let d₃ = effect_of d₂ height Height in
    let d₄ = effect_of d₃ 1 Enable in
    let m₁ = fresh_well_formed memory pixels good in
    let q₂ = width_taken d₁ ring m₁ width a b in
    let m₂ = well_formed_after d₁ d₂ ring 2 width m₁ q₂ in
    let q₃ = height_taken d₂ ring m₂ height c d in
    let m₃ = well_formed_after d₂ d₃ ring 3 height m₂ q₃ in
    let q₄ = enable_taken d₃ ring m₃ in
    let m₄ = well_formed_after d₃ d₄ ring 1 1 m₃ q₄ in
    let o₂ = only_own d₁ width Width in
    let o₃ = only_own d₂ height Height in
    let o₄ = only_own d₃ 1 Enable in
    let sizes : d₄.sizes ≡ d₁.sizes = ap sizes_of o₄ ∙ ap sizes_of o₃ ∙ ap sizes_of o₂ in
    let wide : width_of d₄ ≡ width = ap width_of o₄ ∙ ap width_of o₃ ∙ width_stored d₁ width in
    let high : height_of d₄ ≡ height = ap height_of o₄ ∙ height_stored d₂ height in
    let l : lent_good d₄ w.lent ≡ true = rw (sizes, eq-eqb _ _ r, eq-eqb _ _ f, eq-eqb _ _ s) (eq-eqb _ _ k) in
    let fit : mode_fits d₄ ≡ true = rw (sizes, wide, high) (le-leb (width * height) pixels fits) in
    let z = accepted_starts (at d₄) m₄ l (enable_sets d₃) fit u n in
    let first = make_taken w memory pixels good in
    let second = write_taken (at d₁) 2 width d₂ q₂ in
    let third = write_taken (at d₂) 3 height d₃ q₃ in
    let fourth = write_taken (at d₃) 1 1 d₄ q₄ in
    rw (first, second, third, fourth) (rw z.0, z.1, rw z.0, rw z.0)

-- ---- the start is kept

-- What a start asks of a device: two that agree in it are both at a start, or neither.
pub record Alike (d e : Device) : Type 0 where
  pub sizes : e.sizes ≡ d.sizes
  pub width : width_of e ≡ width_of d
  pub height : height_of e ≡ height_of d
  pub enable : enabled_of e ≡ enabled_of d
  pub config : configured_of e ≡ configured_of d
  pub condition : condition_of e ≡ condition_of d
  pub defined : defined_of e ≡ defined_of d

alike_start : (w : World) (e : Device) → Alike w.device e → is_start (with_device w e) ≡ is_start w
unfolding is_start well_formed lent_good
alike_start w e s = rw (s.sizes, s.width, s.height, s.enable, s.config, s.condition, s.defined)

alike_written : (d : Device) (ring : List ℕ) (index v : ℕ) → (index ≡ 1 → ⊥) → (index ≡ 2 → ⊥) → (index ≡ 3 → ⊥) → (index ≡ 20 → ⊥) → Alike d (written d ring index v).device
alike_written d ring index v a b c e = record {
  sizes = sizes_kept d ring index v;
  width = part_kept width_of d ring index v (λ w q x. rw (is_other index w Width q b));
  height = part_kept height_of d ring index v (λ w q x. rw (is_other index w Height q c));
  enable = part_kept enabled_of d ring index v (λ w q x. rw (is_other index w Enable q a));
  config = part_kept configured_of d ring index v (λ w q x. rw (is_other index w ConfigDone q e));
  condition = part_kept condition_of d ring index v (λ w q x. rw (is_other index w ConfigDone q e));
  defined = ap (λ (m : Marks). m.defined) (marks_kept d ring index v);
}

-- a write to any register but ENABLE, WIDTH, HEIGHT and CONFIG_DONE
pub write_keeps : (w : World) (index value : ℕ) → (index ≡ 1 → ⊥) → (index ≡ 2 → ⊥) → (index ≡ 3 → ⊥) → (index ≡ 20 → ⊥)
    → is_start w ≡ true → is_start (perform (write index value) w).world ≡ true
unfolding perform
write_keeps w index value a b c e s =
    alike_start w (written w.device w.lent.ring index value).device (alike_written w.device w.lent.ring index value a b c e) ∙ s

-- CONFIG_DONE 1 again
pub configured_again : (w : World) → is_start w ≡ true → is_start (perform (write 20 1) w).world ≡ true
configured_again w s =
    let z = start_says w s in
    let r = ring_empty w.lent.ring (condition_of w.device) z.ring in
    (accepted_starts w z.is_well_formed z.lengths z.is_enabled z.mode r.0 r.1).1

-- ENABLE 1 again
pub enabled_again : (w : World) → is_start w ≡ true → is_start (perform (write 1 1) w).world ≡ true
enabled_again w s =
    let z = start_says w s in
    let d = w.device in
    let e = effect_of d 1 Enable in
    let o = only_own d 1 Enable in
    let q = write_taken w 1 1 e (enable_taken d w.lent.ring z.is_well_formed) in
    let alike : Alike d e = record {
      sizes = ap sizes_of o;
      width = ap width_of o;
      height = ap height_of o;
      enable = enable_sets d ∙ sym z.is_enabled;
      config = ap configured_of o;
      condition = ap condition_of o;
      defined = ap defined_of o;
    } in
    rw q (alike_start w e alike ∙ s)

-- ---- "Answers 20 to 34 change nothing"

-- the world with another ring memory
abbrev pub ringed : World → List ℕ → World
ringed w ring = record { device = w.device; lent = R.with_ring w.lent ring; output = w.output }

-- a refused call, whichever it is, leaves every world as it was
pub refused_stays : (c : Call) (w : World) → 20 ≤ (perform c w).answer → (perform c w).world ≡ w
unfolding perform made_of append_of
refused_stays (make memory pixels) w h =
    cases (sizes_good memory pixels)
    (λ t. let z : 20 ≤ 0 = rw t at h in absurd (omega arith))
    (λ f. rw f)
refused_stays (write index value) w h =
    ap (with_device w)
    (refused_changes_nothing w.device w.lent.ring index value (λ z. absurd (omega arith)))
refused_stays (read index) w h = refl
refused_stays (run budget) w h =
    ap {B = World} (λ (o : RunOutcome). record { device = o.device; lent = o.lent; output = w.output })
    (refused_run_lem w.device w.lent budget h)
refused_stays (append word) w h =
    cases (can_append w.lent.ring)
    (λ t. let z : 20 ≤ 0 = rw t at h in absurd (omega arith))
    (λ f. let z : 20 ≤ 1 = rw f at h in absurd (omega arith))
refused_stays (submit c) w h = ap (ringed w) (write_refused w.lent.ring c (λ z. absurd (omega arith)))
refused_stays picture w h =
    ap {B = World} (λ (output : List ℕ). record { device = w.device; lent = w.lent; output = output })
    (refused_picture w.device w.lent.screen w.lent.cursor w.output (λ z. absurd (omega arith)))
refused_stays offscreen w h = refl
refused_stays fence w h = refl
refused_stays (passed number) w h = refl
refused_stays (lend l output) w h = absurd (omega arith)

-- and so does an append whose word is not taken
pub untaken_stays : (word : ℕ) (w : World) → (perform (append word) w).answer ≡ 1 → (perform (append word) w).world ≡ w
unfolding perform append_of
untaken_stays word w h =
    cases (can_append w.lent.ring)
    (λ t. let z : 0 ≡ 1 = rw t at h in absurd (omega arith))
    (λ f. ap (ringed w) (append-refused w.lent.ring word f))

-- ---- the calls that leave a start a start

pub start_kept : (w : World) (c : Call) → Keeping w c → is_start w ≡ true → is_start (perform c w).world ≡ true
unfolding perform is_start
start_kept w c (reads index) s = s
start_kept w c shows s = s
start_kept w c edges s = s
start_kept w c last_fence s = s
start_kept w c (has_passed number) s = s
start_kept w c (refusal k h) s = rw (refused_stays k w h) s
start_kept w c (elsewhere index value a b d e) s = write_keeps w index value a b d e s
start_kept w c enabled s = enabled_again w s
start_kept w c accepted s = configured_again w s

-- ---- a device stays well-formed

perform_well_formed : (c : Call) (w : World) → well_formed w.device ≡ true → well_formed (perform c w).world.device ≡ true
unfolding perform made_of
perform_well_formed (make memory pixels) w y = cases (sizes_good memory pixels) (λ t. rw t (fresh_well_formed memory pixels t)) (λ f. rw f y)
perform_well_formed (write index value) w y = written_well_formed w.device w.lent.ring index value y
perform_well_formed (read index) w y = y
perform_well_formed (run budget) w y = run_well_formed w.device w.lent budget y
perform_well_formed (append word) w y = y
perform_well_formed (submit c) w y = y
perform_well_formed picture w y = y
perform_well_formed offscreen w y = y
perform_well_formed fence w y = y
perform_well_formed (passed number) w y = y
perform_well_formed (lend l output) w y = y

pub all_well_formed : (cs : List Call) (w : World) → well_formed w.device ≡ true → well_formed (perform_all cs w).world.device ≡ true
unfolding perform_all
all_well_formed [] w y = y
all_well_formed (c ∷ cs) w y = all_well_formed cs (perform c w).world (perform_well_formed c w y)

-- ---- document 01's own words for the start

-- only CONFIG_DONE touches the remembered ring
pub condition_kept : (d : Device) (ring : List ℕ) (v index : ℕ) → (index ≡ 20 → ⊥) → condition_of (written d ring index v).device ≡ condition_of d
condition_kept d ring v index h = part_kept condition_of d ring index v (λ w q x. rw (is_other index w ConfigDone q h))

leaves_condition : (c : Call) (w : World) → Leaves c → condition_of (perform c w).world.device ≡ condition_of w.device
unfolding perform
leaves_condition (make memory pixels) w h = absurd h
leaves_condition (write index value) w h = condition_kept w.device w.lent.ring value index h
leaves_condition (read index) w h = refl
leaves_condition (run budget) w h = absurd h
leaves_condition (append word) w h = refl
leaves_condition (submit c) w h = refl
leaves_condition picture w h = refl
leaves_condition offscreen w h = refl
leaves_condition fence w h = refl
leaves_condition (passed number) w h = refl
leaves_condition (lend l output) w h = refl

no_run_condition : (cs : List Call) (w : World) → NoRun cs w → condition_of (perform_all cs w).world.device ≡ condition_of w.device
unfolding perform_all
no_run_condition [] w q = refl
no_run_condition (c ∷ cs) w q =
    no_run_condition cs (perform c w).world q.1
    ∙ ⊎_elim (λ h. leaves_condition c w h) (λ h. ap (λ (z : World). condition_of z.device) (refused_stays c w h)) q.0

-- a well-formed device with a remembered ring is configured
running_configured : (ring : List ℕ) (memory : ℕ) (config : Bool) (c : Condition) → ring_at_start ring c ≡ true → condition_good memory config c ≡ true → config ≡ true
unfolding ring_at_start condition_good
running_configured ring memory true c s e = refl
running_configured ring memory false Idle s e = s
running_configured ring memory false (Running g) s e = e
running_configured ring memory false (Faulted k) s e = s

-- what CONFIG_DONE 1 has shown where it is taken
module _ (w : World) (taken-it : (perform (write 20 1) w).answer ≡ 0) where
  was_well_formed : well_formed w.device ≡ true
  unfolding perform
  was_well_formed =
      cases (well_formed w.device) (λ m. m)
      (λ f. let z : 30 ≡ 0 = rw (ill_formed_write w.device w.lent.ring 20 1 f) at taken-it in absurd (omega arith))

  config_number : register_of 20 ≡ Writes ConfigDone
  unfolding register_of numbers
  config_number = refl

  ring_long : length w.lent.ring ≡ memory_of w.device / 4
  unfolding perform
  ring_long =
      cases (eqb (length w.lent.ring) (memory_of w.device / 4)) (λ t. eqb-true _ _ t)
      (λ f.
      let a = only w.device w.lent.ring 20 1 was_well_formed 20 (wrong_length config_number refl (eqb-false _ _ f)) in
      absurd (omega arith))

  ring_usable : usable w.lent.ring ≡ true
  unfolding perform
  ring_usable =
      cases (usable w.lent.ring) (λ t. t)
      (λ f. let a = only w.device w.lent.ring 20 1 was_well_formed 33 (ring_refused config_number refl ring_long f) in absurd (omega arith))

-- "Demand 3 starts from a made device, enabled and configured, whose mode fits. Its ring was last accepted with NEXT_CMD = STOP and since then nothing was
-- written to it and no run made, refusals aside. .. every lent length is right." Whatever world the acceptance found, and whatever else was called and
-- lent since, that is a start.
pub start_whenever : (cs : List Call) (w z : World)
    → (perform (write 20 1) w).answer ≡ 0 → next_of w.lent.ring ≡ stop_of w.lent.ring
    → NoRun cs (perform (write 20 1) w).world → (perform_all (write 20 1 ∷ cs) w).world ≡ z → z.lent.ring ≡ w.lent.ring
    → enabled_of z.device ≡ true → mode_fits z.device ≡ true → lent_good z.device z.lent ≡ true
    → is_start z ≡ true
unfolding perform_all
start_whenever cs w z t n q e same on fits long =
    let ring = w.lent.ring in
    let m = was_well_formed w t in
    let u = ring_usable w t in
    let p = write_taken w 20 1 (with_ring w.device ring) (ring_taken w.device ring m (ring_long w t) u) in
    let first : condition_of (perform (write 20 1) w).world.device ≡ Running (remembered ring) = rw p in
    let kept : condition_of z.device ≡ Running (remembered ring) = rw e at (no_run_condition cs (perform (write 20 1) w).world q) ∙ first in
    let last : ring_at_start z.lent.ring (condition_of z.device) ≡ true = rw (same, kept) (remembered_start ring u n) in
    let good : well_formed z.device ≡ true = rw e at (all_well_formed (write 20 1 ∷ cs) w m) in
    says_start z (record {
      is_well_formed = good;
      lengths = long;
      is_configured = running_configured z.lent.ring (memory_of z.device) (configured_of z.device) (condition_of z.device) last (well_formed_lem z.device good).condition;
      is_enabled = on;
      mode = fits;
      ring = last;
    })
