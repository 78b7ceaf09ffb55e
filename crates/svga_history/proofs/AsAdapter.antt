-- A call on lent words is the device's own call on the device that they hold, or it is refused. Words that hold a device go on holding one.
-- Assumes nothing.
use Rattle.std.proofs.Common.{None, Some, ◌≡◌, refl, true, false, List, [], ◌∷◌, ◌⊎◌, inl, inr, ℕ, zero, suc, ◌≤◌, ◌<◌, arith, eqb, length, get_or, eq-eqb, eqb-true}
use borrow.Table.Steps.{cases}
use Rattle.device.specs.declared.Device.{Device}
use Rattle.device.specs.Device.{sizes_good, fresh, well_formed}
use Rattle.device.specs.Making.{made_of}
use Rattle.device.proofs.Kept.{fresh_well_formed}
use Rattle.register_read.specs.Registers.{read_of}
use Rattle.register_write.specs.Registers.{written}
use Rattle.register_write.proofs.Kept.{written_well_formed}
use Rattle.device_run.specs.Run.{run_of}
use Rattle.adapter.specs.Fence.{fence_of, fence_passed}
use Rattle.device_words.specs.Words.{words_of, device_from, same, spelled_in, held_in, HeldBy}
use Rattle.device_words.proofs.RoundTrip.{device_back, read_back_lem, held_words}
use Rattle.svga.specs.Calls.{svga_make, write_held, svga_write, read_held, svga_read, run_held, svga_run, picture_held, svga_picture}
use Rattle.svga.specs.Calls.{edges_held, svga_offscreen, fence_held, svga_fence, passed_held, svga_passed}
use Rattle.history.specs.Calls.{Call, make, write, read, run, append, submit, picture, offscreen, fence, passed, lend, perform}
use Rattle.history.specs.Harm.{among}
use Rattle.history.proofs.KeptByRun.{run_well_formed}
use Rattle.history.proofs.NoHarm.{run_bounded}
use Rattle.svga_history.specs.WordCalls.{Host, world_in, HoldsDevice, outcome, perform_words, as_call, WordHost, WordCall}
use Rattle.svga_history.specs.WordHarm.{word_row, Lends, Away}
use Rattle.svga_history.proofs.Fitting.{answer_unpacked, value_unpacked, words_fit, words_marks, bit_word, read_word}

-- ---- the words of a host

-- other words than 64; 64 that hold no device; the words of one
pub by_words : {P : Type 0} (w : List ℕ) → (eqb (length w) 64 ≡ false → P) → (eqb (length w) 64 ≡ true → held_in w ≡ None → P)
    → (held_in w ≡ Some (device_from w) → P) → P
unfolding held_in spelled_in
by_words w other none holds =
    cases (eqb (length w) 64)
    (λ n. cases (same (words_of (device_from w)) w)
    (λ k. cases (well_formed (device_from w)) (λ m. holds (rw (n, k, m))) (λ m. none n (rw (n, k, m))))
    (λ k. none n (rw (n, k))))
    other

pub held_by : (h : Host) → HoldsDevice h → HeldBy h.device (device_from h.device)
held_by h there = held_words h.device (device_from h.device) there

-- there are 64 of them
pub whole : (h : Host) → HoldsDevice h → eqb (length h.device) 64 ≡ true
whole h there = eq-eqb _ _ (held_by h there).count

-- a well-formed device's words hold it
pub words_hold : (d : Device) → well_formed d ≡ true → held_in (words_of d) ≡ Some (device_from (words_of d))
words_hold d m = rw (device_back d) (read_back_lem d m)

-- ---- a call that is lent what it asks is the device's own

module _ (h : Host) (a : WordHost h) (there : HoldsDevice h) where
  abbrev d : Device
  d = device_from h.device

  good : well_formed d ≡ true
  good = (held_by h there).is_well_formed

  value_word : (index : ℕ) → (read_of d index).value < 4294967296
  value_word = read_word d good (words_fit h.device a.device)

  count_word : (budget : ℕ) → budget < 4294967296 → (run_of d h.lent budget).count < 4294967296
  unfolding perform
  count_word budget b = omega (arith, run_bounded budget (world_in h))

  fence_word : fence_of d < 4294967296
  fence_word = (words_marks h.device a.device).fence

pub as_adapter : (c : Call) (h : Host) → WordCall c → WordHost h → Lends c h → as_call (perform_words c h) ≡ perform c (world_in h)
unfolding perform_words perform svga_make made_of svga_write write_held svga_read read_held svga_run run_held svga_picture picture_held
    svga_offscreen edges_held svga_fence fence_held svga_passed passed_held
as_adapter (make memory pixels) h b a n =
    let long = eq-eqb _ _ n in
    cases (sizes_good memory pixels) (λ t. rw (long, t, device_back (fresh memory pixels))) (λ f. rw (long, f))
as_adapter (write index value) h b a there = rw (whole h there, there, device_back (written (device_from h.device) h.lent.ring index value).device)
as_adapter (read index) h b a there =
    let v = value_word h a there index in
    rw (whole h there, there, answer_unpacked _ _ v, value_unpacked (read_of (device_from h.device) index).answer _ v)
as_adapter (run budget) h b a there =
    let v = count_word h a there budget b in
    let o = run_of (device_from h.device) h.lent budget in
    rw (whole h there, there, answer_unpacked _ _ v, value_unpacked o.answer _ v, device_back o.device)
as_adapter (append word) h b a l = refl
as_adapter (submit c) h b a l = refl
as_adapter picture h b a there = rw (whole h there, there)
as_adapter offscreen h b a l = rw (whole h l.0, l.0, eq-eqb _ _ l.1)
as_adapter fence h b a there =
    let v = fence_word h a there in rw (whole h there, there, answer_unpacked 0 _ v, value_unpacked 0 _ v)
as_adapter (passed number) h b a there =
    let v = bit_word (fence_passed (fence_of (device_from h.device)) number) in rw (whole h there, there, answer_unpacked 0 _ v, value_unpacked 0 _ v)
as_adapter (lend l output) h b a u = refl

-- ---- any other call is refused

-- without a value, and with one
no_value : (c : Call) (h : Host) (a : ℕ) → 20 ≤ a → among a (word_row c) ≡ true → Away c h (outcome a [] h)
no_value c h a p q = record { high = p; in_row = q; same = refl; silent = λ i. refl }

value_0 : (c : Call) (h : Host) (a : ℕ) → 20 ≤ a → among a (word_row c) ≡ true → Away c h (outcome a (0 ∷ []) h)
value_0 c h a p q = record { high = p; in_row = q; same = refl; silent = at }
  where
    at : (i : ℕ) → ◌≡◌ {A = ℕ} (get_or (0 ∷ []) i 0) 0
    at zero = refl
    at (suc i) = refl

pub lends_or_away : (c : Call) (h : Host) → Lends c h ⊎ Away c h (perform_words c h)
unfolding perform_words svga_make svga_write write_held svga_read read_held svga_run run_held svga_picture picture_held
    svga_offscreen edges_held svga_fence fence_held svga_passed passed_held
lends_or_away (make memory pixels) h =
    cases (eqb (length h.device) 64)
    (λ n. inl (eqb-true _ _ n))
    (λ f. inr (rw f (no_value (make memory pixels) h 20 (omega arith) refl)))
lends_or_away (write index value) h =
    by_words h.device
    (λ f. inr (rw f (no_value (write index value) h 20 (omega arith) refl)))
    (λ n e. inr (rw (n, e) (no_value (write index value) h 30 (omega arith) refl)))
    inl
lends_or_away (read index) h =
    by_words h.device
    (λ f. inr (rw f (value_0 (read index) h 20 (omega arith) refl)))
    (λ n e. inr (rw (n, e) (value_0 (read index) h 30 (omega arith) refl)))
    inl
lends_or_away (run budget) h =
    by_words h.device
    (λ f. inr (rw f (value_0 (run budget) h 20 (omega arith) refl)))
    (λ n e. inr (rw (n, e) (value_0 (run budget) h 22 (omega arith) refl)))
    inl
lends_or_away (append word) h = inl tt
lends_or_away (submit c) h = inl tt
lends_or_away picture h =
    by_words h.device
    (λ f. inr (rw f (no_value picture h 20 (omega arith) refl)))
    (λ n e. inr (rw (n, e) (no_value picture h 24 (omega arith) refl)))
    inl
lends_or_away offscreen h =
    cases (eqb (length h.edges) 4)
    (λ four.
    by_words h.device
    (λ f. inr (rw f (no_value offscreen h 20 (omega arith) refl)))
    (λ n e. inr (rw (n, four, e) (no_value offscreen h 30 (omega arith) refl)))
    (λ there. inl (there, eqb-true _ _ four)))
    (λ other. inr
    (cases (eqb (length h.device) 64)
    (λ n. rw (n, other) (no_value offscreen h 20 (omega arith) refl))
    (λ f. rw f (no_value offscreen h 20 (omega arith) refl))))
lends_or_away fence h =
    by_words h.device
    (λ f. inr (rw f (value_0 fence h 20 (omega arith) refl)))
    (λ n e. inr (rw (n, e) (value_0 fence h 30 (omega arith) refl)))
    inl
lends_or_away (passed number) h =
    by_words h.device
    (λ f. inr (rw f (value_0 (passed number) h 20 (omega arith) refl)))
    (λ n e. inr (rw (n, e) (value_0 (passed number) h 30 (omega arith) refl)))
    inl
lends_or_away (lend l output) h = inl tt

-- ---- words that hold a device go on holding one

pub still_held : (c : Call) (h : Host) → HoldsDevice h → HoldsDevice (perform_words c h).host
unfolding perform_words svga_make made_of svga_write write_held svga_run run_held
still_held (make memory pixels) h there =
    let long = whole h there in
    cases (sizes_good memory pixels) (λ t. rw (long, t) (words_hold (fresh memory pixels) (fresh_well_formed memory pixels t))) (λ f. rw (long, f) there)
still_held (write index value) h there =
    let m = (held_by h there).is_well_formed in
    rw (whole h there, there) (words_hold _ (written_well_formed (device_from h.device) h.lent.ring index value m))
still_held (read index) h there = there
still_held (run budget) h there =
    let m = (held_by h there).is_well_formed in
    rw (whole h there, there) (words_hold _ (run_well_formed (device_from h.device) h.lent budget m))
still_held (append word) h there = there
still_held (submit c) h there = there
still_held picture h there = there
still_held offscreen h there = there
still_held fence h there = there
still_held (passed number) h there = there
still_held (lend l output) h there = there

-- words that svga_make wrote with answer 0 hold the fresh device
pub made_holds : (memory pixels : ℕ) (h : Host) → (perform_words (make memory pixels) h).answer ≡ 0
    → held_in (perform_words (make memory pixels) h).host.device ≡ Some (fresh memory pixels)
unfolding perform_words svga_make made_of
made_holds memory pixels h e =
    cases (eqb (length h.device) 64)
    (λ n. cases (sizes_good memory pixels)
    (λ t. rw (n, t) (read_back_lem (fresh memory pixels) (fresh_well_formed memory pixels t)))
    (λ f. let z : 34 ≡ 0 = rw (n, f) at e in absurd (omega arith)))
    (λ f. let z : 20 ≡ 0 = rw f at e in absurd (omega arith))
