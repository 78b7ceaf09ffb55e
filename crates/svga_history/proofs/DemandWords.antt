-- Lists of calls on lent words are lists of the device's own calls. Demand 3 for hosts that keep words, and its start.
-- Assumes nothing.
use mathlib.Core.Path.{◌≡◌, refl, ap, ◌∙◌}
use mathlib.Core.Bool.{true}
use mathlib.Core.List.{List, [], ◌∷◌, map}
use Prim.Native.Nat.{ℕ, ◌*◌, ◌/◌, ◌≤◌}
use native.Mathlib.Omega.{arith}
use lib.ListN.{length}
use borrow.Author.Tests.{eq-eqb}
use Rattle.execution.specs.Claim.{Op}
use Rattle.execution.specs.Claim as C
use Rattle.ring.specs.declared.Ring.{Ring}
use Rattle.ring.specs.Acceptance.{next_of, stop_of, usable}
use Rattle.device.specs.declared.Condition.TheVariants.{Running}
use Rattle.device.specs.Device.{condition_of, max_width, max_height, sizes_good, fresh}
use Rattle.device.specs.Making.{made_of}
use Rattle.device.proofs.Kept.{fresh_well_formed}
use Rattle.svga.specs.Calls.{svga_make}
use Rattle.history.specs.Calls.{Call, make, write, read, run, append, submit, picture, offscreen, fence, passed, lend, History, perform_all}
use Rattle.history.specs.Demand.{is_start, call_of, Shown}
use Rattle.history.proofs.Laws.{demand_3}
use Rattle.history.specs.Keeping.{starting, answers}
use Rattle.history.proofs.Starts.{start_reached}
use Rattle.svga_history.specs.WordCalls.{Host, world_in, HoldsDevice, perform_words, perform_words_all, as_history, WordHost, WordCalls}
use Rattle.svga_history.specs.WordHarm.{Lends, EdgesStay}
use Rattle.svga_history.proofs.AsAdapter.{held_by, words_hold, as_adapter, still_held}
use Rattle.svga_history.proofs.WordsStay.{words_stay}
use Rattle.svga_history.proofs.NoHarmWords.{edges_stay}

-- ---- lists of calls

-- Each call of a list is lent what it asks, on what the last one left.
abbrev LendsAll : List Call → Host → Type 0
LendsAll [] h = Unit {0}
LendsAll (c ∷ cs) h = Lends c h × LendsAll cs (perform_words c h).host

-- A list of calls, each lent what it asks, is the list of the device's own calls on the device in the words.
pub as_history_lem : (cs : List Call) (h : Host) → WordCalls cs → WordHost h → LendsAll cs h → as_history (perform_words_all cs h) ≡ perform_all cs (world_in h)
unfolding perform_words_all perform_all
as_history_lem [] h b a l = refl
as_history_lem (c ∷ cs) h b a l =
    rw (← (as_adapter c h b.0 a l.0), ← (as_history_lem cs (perform_words c h).host b.1 (words_stay c h b.0 a) l.1))

pub all_held : (cs : List Call) (h : Host) → HoldsDevice h → HoldsDevice (perform_words_all cs h).host
unfolding perform_words_all
all_held [] h there = there
all_held (c ∷ cs) h there = all_held cs (perform_words c h).host (still_held c h there)

pub all_words : (cs : List Call) (h : Host) → WordCalls cs → WordHost h → WordHost (perform_words_all cs h).host
unfolding perform_words_all
all_words [] h b a = a
all_words (c ∷ cs) h b a = all_words cs (perform_words c h).host b.1 (words_stay c h b.0 a)

-- no edge is added or lost
edges_count : (c : Call) (before after : List ℕ) → EdgesStay c before after → length after ≡ length before
edges_count (make memory pixels) before after e = rw e
edges_count (write index value) before after e = rw e
edges_count (read index) before after e = rw e
edges_count (run budget) before after e = rw e
edges_count (append word) before after e = rw e
edges_count (submit c) before after e = rw e
edges_count picture before after e = rw e
edges_count offscreen before after e = e
edges_count fence before after e = rw e
edges_count (passed number) before after e = rw e
edges_count (lend l output) before after e = rw e

-- words that hold a device, with four edges, are what any call asks
pub held_lends : (c : Call) (h : Host) → HoldsDevice h → length h.edges ≡ 4 → Lends c h
held_lends (make memory pixels) h there four = (held_by h there).count
held_lends (write index value) h there four = there
held_lends (read index) h there four = there
held_lends (run budget) h there four = there
held_lends (append word) h there four = tt
held_lends (submit c) h there four = tt
held_lends picture h there four = there
held_lends offscreen h there four = (there, four)
held_lends fence h there four = there
held_lends (passed number) h there four = there
held_lends (lend l output) h there four = tt

-- and any list of calls
pub held_lends_all : (cs : List Call) (h : Host) → HoldsDevice h → length h.edges ≡ 4 → LendsAll cs h
held_lends_all [] h there four = tt
held_lends_all (c ∷ cs) h there four =
    let z = (perform_words c h).host in
    let same = edges_count c h.edges z.edges (edges_stay c h) in
    (held_lends c h there four, held_lends_all cs z (still_held c h there) (same ∙ four))

-- So a host whose words hold a device sees the device's own history, whatever it calls.
pub held_history : (cs : List Call) (h : Host) → WordCalls cs → WordHost h → HoldsDevice h → length h.edges ≡ 4
    → (as_history (perform_words_all cs h) ≡ perform_all cs (world_in h)) × HoldsDevice (perform_words_all cs h).host
held_history cs h b a there four = (as_history_lem cs h b a (held_lends_all cs h there four), all_held cs h there)

-- appends and runs ask for no edges
ops_lend : (os : List Op) (h : Host) → HoldsDevice h → LendsAll (map call_of os) h
ops_lend [] h there = tt
ops_lend (C.append x ∷ os) h there = (tt, ops_lend os (perform_words (append x) h).host (still_held (append x) h there))
ops_lend (C.run b ∷ os) h there = (there, ops_lend os (perform_words (run b) h).host (still_held (run b) h there))

-- ---- demand 3

-- DEMAND 3 for hosts: from words that hold a device at a start, every list of appends and runs.
pub demand_3_words : (g : Ring) (h₀ : Host) (os : List Op) → WordHost h₀ → WordCalls (map call_of os)
    → HoldsDevice h₀ → is_start (world_in h₀) ≡ true → condition_of (world_in h₀).device ≡ Running g
    → Shown g (world_in h₀) os (as_history (perform_words_all (map call_of os) h₀))
demand_3_words g h₀ os a b there start q =
    rw (as_history_lem (map call_of os) h₀ b a (ops_lend os h₀ there)) (demand_3 g (world_in h₀) start q os)

-- ---- the start

-- "the making and register writes that lead to the start", on 64 words that may be any
made_held : (memory pixels : ℕ) (h : Host) → sizes_good memory pixels ≡ true → length h.device ≡ 64 → HoldsDevice (perform_words (make memory pixels) h).host
unfolding perform_words svga_make made_of
made_held memory pixels h t n = rw (eq-eqb _ _ n, t) (words_hold (fresh memory pixels) (fresh_well_formed memory pixels t))

module _ (h : Host) (memory pixels width height : ℕ) where
  starting_lends : sizes_good memory pixels ≡ true → length h.device ≡ 64 → LendsAll (starting memory pixels width height) h
  starting_lends t n =
      let h₁ = (perform_words (make memory pixels) h).host in
      let h₂ = (perform_words (write 2 width) h₁).host in
      let h₃ = (perform_words (write 3 height) h₂).host in
      let h₄ = (perform_words (write 1 1) h₃).host in
      let k₁ = made_held memory pixels h t n in
      let k₂ = still_held (write 2 width) h₁ k₁ in
      let k₃ = still_held (write 3 height) h₂ k₂ in
      let k₄ = still_held (write 1 1) h₃ k₃ in
      (n, (k₁, (k₂, (k₃, (k₄, tt)))))

  -- svga_make and four svga_write reach a start, with the memories as they were, from any 64 words.
  pub start_reached_words : WordHost h → length h.device ≡ 64 → sizes_good memory pixels ≡ true
      → 1 ≤ width → width ≤ max_width → 1 ≤ height → height ≤ max_height → width * height ≤ pixels
      → length h.lent.ring ≡ memory / 4 → length h.lent.framebuffer ≡ pixels → length h.lent.screen ≡ pixels → length h.lent.cursor ≡ 4096
      → usable h.lent.ring ≡ true → next_of h.lent.ring ≡ stop_of h.lent.ring
      → (answers (as_history (perform_words_all (starting memory pixels width height) h)) ≡ 0 ∷ 0 ∷ 0 ∷ 0 ∷ 0 ∷ [])
      × HoldsDevice (perform_words_all (starting memory pixels width height) h).host
      × (is_start (world_in (perform_words_all (starting memory pixels width height) h).host) ≡ true)
      × ((perform_words_all (starting memory pixels width height) h).host.lent ≡ h.lent)
      × WordHost (perform_words_all (starting memory pixels width height) h).host
  unfolding perform_words_all
  start_reached_words a n t w₁ w₂ h₁ h₂ fits r f s k u e =
      let cs = starting memory pixels width height in
      let b : WordCalls cs = (tt, (omega arith, (omega arith, (omega arith, (omega arith, tt))))) in
      let q = as_history_lem cs h b a (starting_lends t n) in
      let z = start_reached (world_in h) memory pixels width height t w₁ w₂ h₁ h₂ fits r f s k u e in (
        ap answers q ∙ z.0,
        all_held (write 2 width ∷ write 3 height ∷ write 1 1 ∷ write 20 1 ∷ []) (perform_words (make memory pixels) h).host (made_held memory pixels h t n),
        ap (λ (y : History). is_start y.world) q ∙ z.1,
        ap (λ (y : History). y.world.lent) q ∙ z.2,
        all_words cs h b a,
      )
