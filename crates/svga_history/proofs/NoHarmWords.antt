-- Demand 1 for hosts that keep words: no list of calls does harm, from any words and with any words put between the calls.
-- Assumes nothing.
use mathlib.Core.Path.{◌≡◌, refl, sym, ap, subst, ◌∙◌}
use mathlib.Core.Bool.{Bool, true, ◌&&◌, true≢false}
use mathlib.Core.List.{List, [], ◌∷◌}
use mathlib.Core.Logic.{⊎_elim}
use Prim.Native.Nat.{ℕ, ◌≤◌}
use native.Mathlib.Omega.{arith}
use lib.Dec.{eqb}
use lib.ListN.{length, get_or}
use borrow.Author.Tests.{eqb-true, eq-eqb}
use borrow.Table.Steps.{cases}
use Rattle.geometry.proofs.Tests.{both}
use Rattle.device.specs.Device.{sizes_good}
use Rattle.device.specs.Making.{made_of}
use Rattle.device_words.specs.Words.{words_of}
use Rattle.device_words.proofs.RoundTrip.{words_count}
use Rattle.svga.specs.Calls.{svga_make, write_held, svga_write, run_held, svga_run, edges_held, svga_offscreen}
use Rattle.history.specs.Calls.{World, Call, make, write, read, run, append, submit, picture, offscreen, fence, passed, lend, CallOutcome, perform}
use Rattle.history.specs.Harm.{row, among, OnlyNamed}
use Rattle.history.proofs.NoHarm.{safe}
use Rattle.svga_history.specs.WordCalls.{Host, host, world_in, HoldsDevice, perform_words, HostStep, call, put, stepped}
use Rattle.svga_history.specs.WordCalls.{WordHost, WordCall, WordStep, WordSteps}
use Rattle.svga_history.specs.WordHarm.{word_row, Lends, DeviceStays, EdgesStay, SafeWords, SafeStep, HarmlessWords}
use Rattle.svga_history.proofs.AsAdapter.{by_words, held_by, whole, as_adapter, lends_or_away, still_held}
use Rattle.svga_history.proofs.WordsStay.{words_stay}

-- ---- answers

-- every number of the one list is in the other
abbrev within : List ℕ → List ℕ → Bool
within [] m = true
within (x ∷ l) m = among x m && within l m

among_within : (n : ℕ) (l m : List ℕ) → within l m ≡ true → among n l ≡ true → among n m ≡ true
among_within n [] m w e = absurd (true≢false (sym e))
among_within n (x ∷ l) m w e =
    let b = both (among x m) (within l m) w in
    cases (eqb n x)
    (λ t. rw (eqb-true n x t) b.0)
    (λ f. among_within n l m b.1 (rw f at e))

-- the device's own answers are in the row
rows : (c : Call) → within (row c) (word_row c) ≡ true
rows (make memory pixels) = refl
rows (write index value) = cases (eqb index 20) (λ t. rw t) (λ f. rw f)
rows (read index) = refl
rows (run budget) = refl
rows (append word) = refl
rows (submit c) = refl
rows picture = refl
rows offscreen = refl
rows fence = refl
rows (passed number) = refl
rows (lend l output) = refl

-- ---- refused calls

-- two hosts whose words hold the same device are the same
same_host : (h z : Host) → HoldsDevice h → HoldsDevice z → world_in z ≡ world_in h → z.edges ≡ h.edges → z ≡ h
same_host h z there here e k =
    let p : z.device ≡ h.device =
    sym (held_by z here).its_words ∙ ap (λ (w : World). words_of w.device) e ∙ (held_by h there).its_words in
    let q : z.lent ≡ h.lent = ap (λ (w : World). w.lent) e in
    let r : z.output ≡ h.output = ap (λ (w : World). w.output) e in
    let s : host z.device z.lent z.output z.edges ≡ h = rw (p, q, r, k) in
    s

module _ (c : Call) (h : Host) (b : WordCall c) (a : WordHost h) (l : Lends c h) where
  same_answer : (perform_words c h).answer ≡ (perform c (world_in h)).answer
  same_answer = ap (λ (o : CallOutcome). o.answer) (as_adapter c h b a l)

  -- a refusal by the device's own rules leaves it as it was
  refused_world : 20 ≤ (perform_words c h).answer → world_in (perform_words c h).host ≡ world_in h
  refused_world n =
      let k = same_answer in
      ap (λ (o : CallOutcome). o.world) (as_adapter c h b a l) ∙ (safe c (world_in h)).refused (omega arith)

  refused_silent : 20 ≤ (perform_words c h).answer → (i : ℕ) → get_or (perform_words c h).values i 0 ≡ 0
  refused_silent n i =
      let k = same_answer in
      ap (λ (o : CallOutcome). get_or o.values i 0) (as_adapter c h b a l) ∙ (safe c (world_in h)).refused_values (omega arith) i

refused_held : (c : Call) (h : Host) → HoldsDevice h → (perform_words c h).host.edges ≡ h.edges
    → WordCall c → WordHost h → Lends c h → 20 ≤ (perform_words c h).answer → (perform_words c h).host ≡ h
refused_held c h there e b a l n = same_host h (perform_words c h).host there (still_held c h there) (refused_world c h b a l n) e

-- the host with the memories of a world
abbrev lent_by : Host → World → Host
lent_by h w = host h.device w.lent h.output h.edges

refused_stays : (c : Call) (h : Host) → WordCall c → WordHost h → Lends c h → 20 ≤ (perform_words c h).answer → (perform_words c h).host ≡ h
unfolding perform_words perform svga_make made_of
refused_stays (make memory pixels) h b a l n =
    let long = eq-eqb _ _ l in
    cases (sizes_good memory pixels)
    (λ t. let z : 20 ≤ 0 = rw (long, t) at n in absurd (omega arith))
    (λ f. rw (long, f))
refused_stays (write index value) h b a l n = refused_held (write index value) h l refl b a l n
refused_stays (read index) h b a l n = refl
refused_stays (run budget) h b a l n = refused_held (run budget) h l refl b a l n
refused_stays (append word) h b a l n = ap (lent_by h) ((safe (append word) (world_in h)).refused n)
refused_stays (submit c) h b a l n = ap (lent_by h) ((safe (submit c) (world_in h)).refused n)
refused_stays picture h b a l n = refused_held picture h l refl b a l n
refused_stays offscreen h b a l n = absurd (omega (arith, same_answer offscreen h b a l))
refused_stays fence h b a l n = refl
refused_stays (passed number) h b a l n = refl
refused_stays (lend l output) h b a u n = absurd (omega arith)

-- ---- the device's words and the edges

device_stays : (c : Call) (h : Host) → DeviceStays c h.device (perform_words c h).host.device
unfolding perform_words svga_make made_of svga_write write_held svga_run run_held
device_stays (make memory pixels) h =
    cases (eqb (length h.device) 64)
    (λ n. cases (sizes_good memory pixels) (λ t. rw (n, t) (words_count _ ∙ sym (eqb-true _ _ n))) (λ f. rw (n, f)))
    (λ f. rw f)
device_stays (write index value) h =
    by_words h.device (λ f. rw f) (λ n e. rw (n, e)) (λ there. rw (whole h there, there) (words_count _ ∙ sym (held_by h there).count))
device_stays (read index) h = refl
device_stays (run budget) h =
    by_words h.device (λ f. rw f) (λ n e. rw (n, e)) (λ there. rw (whole h there, there) (words_count _ ∙ sym (held_by h there).count))
device_stays (append word) h = refl
device_stays (submit c) h = refl
device_stays picture h = refl
device_stays offscreen h = refl
device_stays fence h = refl
device_stays (passed number) h = refl
device_stays (lend l output) h = refl

pub edges_stay : (c : Call) (h : Host) → EdgesStay c h.edges (perform_words c h).host.edges
unfolding perform_words svga_offscreen edges_held
edges_stay (make memory pixels) h = refl
edges_stay (write index value) h = refl
edges_stay (read index) h = refl
edges_stay (run budget) h = refl
edges_stay (append word) h = refl
edges_stay (submit c) h = refl
edges_stay picture h = refl
edges_stay offscreen h =
    cases (eqb (length h.edges) 4)
    (λ four. by_words h.device (λ f. rw f) (λ n e. rw (n, four, e)) (λ there. rw (whole h there, four, there) (sym (eqb-true _ _ four))))
    (λ other. cases (eqb (length h.device) 64) (λ n. rw (n, other)) (λ f. rw f))
edges_stay fence h = refl
edges_stay (passed number) h = refl
edges_stay (lend l output) h = refl

-- ---- demand 1

-- every call, of every host
pub safe_words : (c : Call) (h : Host) → WordCall c → WordHost h → SafeWords c h (perform_words c h)
safe_words c h b a =
    let which = lends_or_away c h in
    let own = safe c (world_in h) in
    record {
      answered =
          ⊎_elim
          (λ l. rw (same_answer c h b a l) (among_within (perform c (world_in h)).answer (row c) (word_row c) (rows c) own.answered))
          (λ z. z.in_row) which;
      refused = λ n. ⊎_elim (λ l. refused_stays c h b a l n) (λ z. z.same) which;
      refused_values = λ n i. ⊎_elim (λ l. refused_silent c h b a l n i) (λ z. z.silent i) which;
      lent = λ l. subst (OnlyNamed c (world_in h)) (sym (as_adapter c h b a l)) own.only_named;
      not_lent = λ no. ⊎_elim (λ l. absurd (no l)) (λ z. z.high) which;
      held = still_held c h;
      device = device_stays c h;
      edges = edges_stay c h;
      words = words_stay c h b a;
    }

stepped_words : (s : HostStep) (h : Host) → WordStep s → WordHost h → WordHost (stepped s h)
stepped_words (call c) h b a = words_stay c h b a
stepped_words (put device edges) h b a = record { device = b; ring = a.ring }

safe_step : (s : HostStep) (h : Host) → WordStep s → WordHost h → SafeStep s h
safe_step (call c) h b a = safe_words c h b a
safe_step (put device edges) h b a = tt

-- DEMAND 1 for hosts: every list of calls, with any words put between them where the device and the edges stand
pub no_harm_words : (steps : List HostStep) (h : Host) → WordSteps steps → WordHost h → HarmlessWords steps h
no_harm_words [] h b a = tt
no_harm_words (s ∷ steps) h b a = (safe_step s h b.0 a, no_harm_words steps (stepped s h) b.1 (stepped_words s h b.0 a))
