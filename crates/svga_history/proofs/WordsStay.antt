-- 32-bit words stay 32-bit words, whatever is called.
-- Assumes nothing.
use mathlib.Core.Path.{◌≡◌}
use mathlib.Core.Bool.{true}
use mathlib.Core.List.{List, [], ◌∷◌}
use Prim.Native.Nat.{ℕ, ◌+◌, ◌*◌, ◌/◌, ◌<◌}
use native.Mathlib.Omega.{arith}
use lib.Dec.{eqb}
use lib.ListN.{length, get_or}
use borrow.Table.Steps.{cases}
use Rattle.geometry.proofs.Tests.{both}
use Rattle.ring.specs.Acceptance.{min_of, max_of, next_of, usable}
use Rattle.ring.specs.Append.{moved_on, can_append, append_to, append_of}
use Rattle.ring.proofs.Laws.{usable_when}
use Rattle.writer.specs.Writing.{Command, data_words, command_words, append_all, Written, write_of}
use Rattle.writer.proofs.Appending.{by_write}
use Rattle.register.specs.declared.Writable.{Writable}
use Rattle.register.specs.declared.Writable.TheVariants.{Id, Enable, Width, Height, ConfigDone, Sync, GuestId, CursorId, CursorX, CursorY, CursorOn}
use Rattle.device.specs.declared.Device.{Device}
use Rattle.device.specs.Device.{sizes_good, fresh, well_formed}
use Rattle.device.specs.Making.{made_of}
use Rattle.device.proofs.Kept.{fresh_well_formed}
use Rattle.register_write.specs.Answers.{WriteOutcome}
use Rattle.register_write.specs.Registers.{is_id, id_written, enable_written, synced, plane_on, effect_of, written}
use Rattle.register_write.proofs.Kept.{Went, outside, effected, other_length, unusable, accepts, went, by_written, written_well_formed, marks_kept}
use Rattle.device_words.specs.Words.{words_of, device_from}
use Rattle.svga.specs.Calls.{svga_make, write_held, svga_write, run_held, svga_run}
use Rattle.history.specs.Calls.{Call, make, write, read, run, append, submit, picture, offscreen, fence, passed, lend}
use Rattle.svga_history.specs.WordCalls.{Host, perform_words, AreWords, WordHost, WordCall}
use Rattle.svga_history.proofs.Fitting.{behind, set_words, join_words, tabulate_words, Fits, words_fit, words_marks, fits_words}
use Rattle.svga_history.proofs.FittingRun.{run_words_lem}
use Rattle.svga_history.proofs.AsAdapter.{by_words, held_by, whole}

-- ---- making and register writes

fresh_words : (memory pixels : ℕ) → sizes_good memory pixels ≡ true → AreWords (words_of (fresh memory pixels))
fresh_words memory pixels t =
    fits_words (fresh memory pixels) (fresh_well_formed memory pixels t) (omega arith) (record { fence = omega arith; defined = tt })

-- a device of 32-bit parts
abbrev Parts : Device → Type 0
Parts d = Fits d.registers d.plane

module _ (d : Device) (v : ℕ) (low : v < 4294967296) (f : Parts d) where
  effect_parts : (w : Writable) → Parts (effect_of d v w)
  unfolding effect_of id_written enable_written synced plane_on
  effect_parts Id = cases (is_id v) (λ t. rw t (omega arith)) (λ z. rw z (omega arith))
  effect_parts Enable = omega arith
  effect_parts Width = omega arith
  effect_parts Height = omega arith
  effect_parts ConfigDone = omega arith
  effect_parts Sync = omega arith
  effect_parts GuestId = omega arith
  effect_parts CursorId = omega arith
  effect_parts CursorX = omega arith
  effect_parts CursorY = omega arith
  effect_parts CursorOn =
      cases (eqb v 0)
      (λ t. rw t (omega arith))
      (λ z. cases (eqb v 1) (λ t. rw (z, t) (omega arith)) (λ y. rw (z, y) (omega arith)))

  by_went : (ring : List ℕ) (w : Writable) (o : WriteOutcome) → Went d ring v w o → Parts o.device
  by_went ring w o (outside e) = f
  by_went ring w o (effected e r) = effect_parts w
  by_went ring w o (other_length e r l) = f
  by_went ring w o (unusable e r l u) = f
  by_went ring w o (accepts e r l u) = omega arith

  written_parts : (ring : List ℕ) (index : ℕ) → Parts (written d ring index v).device
  written_parts ring index =
      by_written (λ (o : WriteOutcome). Parts o.device) d ring v (λ a n. f) index (λ w e. by_went ring w _ (went d ring v w))

written_words : (w : List ℕ) (ring : List ℕ) (index v : ℕ) → AreWords w → v < 4294967296 → well_formed (device_from w) ≡ true
    → AreWords (words_of (written (device_from w) ring index v).device)
written_words w ring index v a low m =
    let d = device_from w in
    fits_words _ (written_well_formed d ring index v m) (written_parts d v low (words_fit w a) ring index) (rw (marks_kept d ring index v) (words_marks w a))

-- ---- appends and writes of commands

moved_word : (ring : List ℕ) → AreWords ring → usable ring ≡ true → moved_on (min_of ring) (max_of ring) (next_of ring) < 4294967296
unfolding moved_on
moved_word ring a u =
    let s = usable_when ring u in
    let low = a.below 0 in
    let high = a.below 1 in
    cases (eqb (next_of ring + 4) (max_of ring)) (λ t. rw t low) (λ f. rw f (omega arith))

appended_words : (ring : List ℕ) (word : ℕ) → AreWords ring → word < 4294967296 → AreWords (append_to ring word)
unfolding append_to can_append
appended_words ring word a low =
    cases (can_append ring)
    (λ t. let u = (both (usable ring) _ t).0 in rw t (set_words _ 2 _ (moved_word ring a u) (set_words ring (next_of ring / 4) word low a)))
    (λ f. rw f a)

appended_all_words : (ring words : List ℕ) → AreWords ring → AreWords words → AreWords (append_all ring words)
unfolding append_all
appended_all_words ring [] a b = a
appended_all_words ring (x ∷ words) a b = appended_all_words (append_to ring x) words (appended_words ring x a (b.below 0)) (behind b)

-- four bytes are a word
data_words_lem : (bytes : List ℕ) → ((i : ℕ) → get_or bytes i 0 < 256) → AreWords (data_words bytes)
unfolding data_words
data_words_lem bytes low =
    tabulate_words _ _ (λ i. omega (arith, low (4 * i), low (4 * i + 1), low (4 * i + 2), low (4 * i + 3)))

-- a write leaves them where its command is words and bytes
submitted_words : (ring : List ℕ) (c : Command) → AreWords ring → WordCall (submit c) → AreWords (write_of ring c).ring
unfolding command_words
submitted_words ring c a b =
    by_write ring c (λ (o : Written). AreWords o.ring)
    (λ answer high. a)
    (λ f.
    appended_all_words ring _ a
    (join_words c.head _ b.0 (join_words c.pixels _ b.1 (data_words_lem c.bytes b.2))))

-- ---- every call

pub words_stay : (c : Call) (h : Host) → WordCall c → WordHost h → WordHost (perform_words c h).host
unfolding perform_words svga_make made_of svga_write write_held svga_run run_held append_of
words_stay (make memory pixels) h b a = record {
  device =
      cases (eqb (length h.device) 64)
      (λ n. cases (sizes_good memory pixels) (λ t. rw (n, t) (fresh_words memory pixels t)) (λ f. rw (n, f) a.device))
      (λ f. rw f a.device);
  ring = a.ring;
}
words_stay (write index value) h b a = record {
  device =
      by_words h.device
      (λ f. rw f a.device)
      (λ n e. rw (n, e) a.device)
      (λ there. rw (whole h there, there) (written_words h.device h.lent.ring index value a.device b (held_by h there).is_well_formed));
  ring = a.ring;
}
words_stay (read index) h b a = a
words_stay (run budget) h b a =
    by_words h.device
    (λ f. rw f a)
    (λ n e. rw (n, e) a)
    (λ there.
    let fits = words_fit h.device a.device in
    let marks = words_marks h.device a.device in
    let l = run_words_lem (device_from h.device) h.lent budget fits marks a.ring (held_by h there).is_well_formed in
    rw (whole h there, there) (record { device = l.0; ring = l.1 }))
words_stay (append word) h b a = record { device = a.device; ring = appended_words h.lent.ring word a.ring b }
words_stay (submit c) h b a = record { device = a.device; ring = submitted_words h.lent.ring c a.ring b }
words_stay picture h b a = record { device = a.device; ring = a.ring }
words_stay offscreen h b a = record { device = a.device; ring = a.ring }
words_stay fence h b a = a
words_stay (passed number) h b a = a
words_stay (lend l output) h b a = record { device = a.device; ring = b }
