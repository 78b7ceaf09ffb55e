-- What the writer appended, a device reads back as that command: document 02, P2, for readers.
-- Assumes nothing.
use mathlib.Core.Path.{◌≡◌, refl, sym, ap, ◌∙◌}
use mathlib.Core.Bool.{true}
use mathlib.Core.List.{List, [], ◌++◌, append-nil}
use mathlib.Core.Logic.{◌≢◌}
use Prim.Native.Nat.{ℕ, ◌+◌, ◌*◌, ◌/◌, ◌%◌, ◌<◌}
use native.Mathlib.Omega.{arith}
use lib.ListN.{length, get_or, take, drop, take-append-drop, length-append}
use lib.Seq.{length-take-le, drop_at}
use borrow.Author.Tests.{eq-eqb, le-leb, lt-ltb}
use Rattle.execution.specs.Straight.{exec}
use Rattle.command.specs.Commands.{entry, kind_in}
use Rattle.effect.specs.Effects.{Scene, Machine, done}
use Rattle.ring.specs.declared.Ring.{Ring}
use Rattle.ring.specs.Acceptance.{min_of, max_of, next_of, stop_of, Usable}
use Rattle.ring.specs.Append.{can_append}
use Rattle.ring.specs.Waiting.{between, words, waiting, next_good}
use Rattle.ring.proofs.WaitingLaws.{ahead_between, length-waiting, take_words, words_left}
use Rattle.run.specs.Run.{turn_in}
use Rattle.run.proofs.RunLaws.{turn_kept}
use Rattle.writer.specs.Writing.{Command, data_words, command_words, carried_in, free_words, append_all, write_of}
use Rattle.writer.specs.Reading.{byte_of, read_in, InBytes, Waits, Proper}
use Rattle.writer.proofs.RoomLaws.{free_most, empty_free, room}
use Rattle.writer.proofs.Appending.{AllTaken, all_taken, append_all_waits, Fits, taken_fits, taken_all}
use Rattle.writer.proofs.Taking.{head_few}
use Rattle.writer.proofs.Bytes.{byte_at}
use Rattle.writer.proofs.CommandWords.{read_all, turn_words}

-- ---- words and commands

-- "ESCAPE data being bytes, lowest first in each word, its padding zero": behind the last byte get_or gives 0.
pub data_bytes : (c : Command) → InBytes c → (i : ℕ) → i < 4 * length (data_words c.bytes) → byte_of (data_words c.bytes) i ≡ get_or c.bytes i 0
data_bytes c small i h = rw append-nil at (sym (byte_at c.bytes small [] i h))

-- A command is read back from its words, whatever words stand behind them.
pub read_back_words : (c : Command) (cap : ℕ) → Proper cap c → (v : List ℕ) → read_in (command_words c ++ v) ≡ c
read_back_words c cap p v = read_all c cap p.is_a_command p.lent v p.in_bytes

-- "two different commands never give the same words": nor does one begin as the other does, whatever words stand behind them.
pub distinct : (c e : Command) (cap cap' : ℕ) → Proper cap c → Proper cap' e → (u v : List ℕ) → command_words c ++ u ≡ command_words e ++ v → c ≡ e
distinct c e cap cap' p q u v same = sym (read_back_words c cap p u) ∙ ap read_in same ∙ read_back_words e cap' q v

pub different_words : (c e : Command) (cap cap' : ℕ) → Proper cap c → Proper cap' e → command_words c ≡ command_words e → c ≡ e
different_words c e cap cap' p q same = distinct c e cap cap' p q [] [] (ap (λ (w : List ℕ). w ++ []) same)

-- ---- the device

module _ (ring : List ℕ) (c : Command) (taken : (write_of ring c).answer ≡ 0) where
  abbrev fits : Fits ring c
  fits = taken_fits ring c taken

  module _ (g : Ring) (later : List ℕ) (w : Waits ring c g later) where
    -- the words that wait
    abbrev there : List ℕ
    there = waiting later g.min g.max g.stop (next_of later / 4)

    begins : there ≡ command_words c ++ drop (length (command_words c)) there
    unfolding waiting
    begins =
        let n = length (command_words c) in
        sym (take-append-drop n there) ∙ ap (λ (l : List ℕ). l ++ drop n there) (take_words later g.min g.max g.stop _ n w.waits ∙ w.unchanged)

  -- "What the writer appended, a device that remembers this MIN and MAX reads back as that command once its STOP stands there and those words wait unchanged"
  pub read_back_lem : InBytes c → (g : Ring) (later : List ℕ) → Waits ring c g later
      → read_in (waiting later g.min g.max g.stop (next_of later / 4)) ≡ c
  read_back_lem small g later w =
      ap read_in (begins g later w)
      ∙ read_back_words c (carried_in ring) (record { is_a_command = fits.is_a_command; lent = fits.lent; in_bytes = small }) _

  -- So the device's own turn, on any machine, executes that command with its words, all of them and no more.
  pub executed : (g : Ring) (later : List ℕ) → Waits ring c g later → (s : Scene) (m : Machine)
      → turn_in s g (next_of later) m (waiting later g.min g.max g.stop (next_of later / 4))
      ≡ exec (length (command_words c)) (done s ((entry (kind_in c.head)).action c.head) (command_words c) m)
  executed g later w s m =
      rw (turn_kept s g (next_of later) w.next, begins g later w, w.min, w.max)
      (turn_words c (carried_in ring) fits.is_a_command fits.lent _ s m)

-- ---- words appended one by one

module _ (ring : List ℕ) (c : Command) (taken : (write_of ring c).answer ≡ 0) where
  abbrev fit : Fits ring c
  fit = taken_fits ring c taken

  -- what the write leaves
  abbrev left : List ℕ
  left = (write_of ring c).ring

  -- "append all its words by the published rule .. and never filling the last word": what a write leaves that was taken are the appends of its words, one
  -- by one, each of them taken.
  pub one_by_one : ((write_of ring c).ring ≡ append_all ring (command_words c))
      × ((k : ℕ) → k < length (command_words c) → can_append (append_all ring (take k (command_words c))) ≡ true)
  one_by_one = (
    taken_all ring c taken,
    λ k h.
        let n = length-take-le k (command_words c) (omega arith) in
        let a = all_taken ring (take k (command_words c)) fit.usable (omega (arith, fit.room)) in
        (room _ a.still).0 (omega (arith, a.left, fit.room)),
  )

  -- MIN, MAX and STOP stay, the ring words are usable, and as many words fewer are free
  kept : AllTaken ring (command_words c)
  kept = all_taken ring (command_words c) fit.usable fit.room

  still : Usable left
  still = rw (taken_all ring c taken) kept.still

  bounds : (min_of left ≡ min_of ring) × (max_of left ≡ max_of ring)
  bounds = rw (taken_all ring c taken) (kept.min, kept.max)

  -- "and never filling the last word": as many words fewer are free as were written, and NEXT_CMD never comes to stand at STOP, as in an empty ring.
  pub never_full : (free_words (write_of ring c).ring + length (command_words c) ≡ free_words ring)
      × (next_of (write_of ring c).ring ≢ stop_of (write_of ring c).ring)
  unfolding command_words
  never_full =
      let fewer : free_words left + length (command_words c) ≡ free_words ring = rw (taken_all ring c taken) kept.left in (
        fewer,
        λ empty.
            let n = length-append c.head (c.pixels ++ data_words c.bytes) in
            let carries : carried_in left ≡ carried_in ring = rw (bounds.0, bounds.1) in
            omega (arith, fewer, empty_free left empty, carries, free_most ring, n, (head_few (carried_in ring) c.head fit.is_a_command).0),
      )

  -- What waited before waits, and behind it the command.
  pub waits_behind : waiting (write_of ring c).ring (min_of ring / 4) (max_of ring / 4) (stop_of ring / 4) (next_of (write_of ring c).ring / 4)
      ≡ waiting ring (min_of ring / 4) (max_of ring / 4) (stop_of ring / 4) (next_of ring / 4) ++ command_words c
  waits_behind =
      rw (taken_all ring c taken)
      (append_all_waits (command_words c) ring (min_of ring / 4) (max_of ring / 4) (stop_of ring / 4) refl refl refl fit.usable fit.room)

  -- From the old NEXT_CMD to the new the command waits, and nothing else.
  pub waits_exactly : waiting (write_of ring c).ring (min_of ring / 4) (max_of ring / 4) (next_of ring / 4) (next_of (write_of ring c).ring / 4) ≡ command_words c
  waits_exactly =
      let lo = min_of ring / 4 in
      let hi = max_of ring / 4 in
      let stop = stop_of ring / 4 in
      let next = next_of ring / 4 in
      let to = next_of left / 4 in
      let u = fit.usable in
      let v = still in
      let old = waiting ring lo hi stop next in
      let k = between lo hi stop next in
      let before : length old ≡ k = length-waiting ring lo hi stop next in
      let more : between lo hi stop to ≡ length old + length (command_words c) =
      sym (length-waiting left lo hi stop to) ∙ ap length waits_behind ∙ length-append old (command_words c) in
      ap (λ p. waiting left lo hi p to) (sym (ahead_between lo hi stop next (omega arith) (omega arith) (omega arith) (omega arith)))
      ∙ words_left left lo hi stop to k (omega arith) (omega arith) (omega (arith, bounds)) (omega (arith, bounds)) (omega arith)
      ∙ ap (drop k) waits_behind
      ∙ drop_at old (command_words c) k before

  -- Right behind the write, "those words wait unchanged" from where NEXT_CMD stood: `read_back_lem` and `executed` hold once STOP stands there.
  pub written_waits : Waits ring c (record { min = min_of ring / 4; max = max_of ring / 4; stop = next_of ring / 4 }) (write_of ring c).ring
  unfolding next_good waiting
  written_waits =
      let lo = min_of ring / 4 in
      let hi = max_of ring / 4 in
      let next = next_of ring / 4 in
      let to = next_of left / 4 in
      let v = still in
      let exact : between lo hi next to ≡ length (command_words c) = sym (length-waiting left lo hi next to) ∙ ap length waits_exactly in
      record {
        min = refl;
        max = refl;
        stop = refl;
        next = rw (eq-eqb (next_of left % 4) 0 v.next_word, le-leb lo to (omega (arith, bounds)), lt-ltb to hi (omega (arith, bounds)));
        waits = omega arith;
        unchanged = ap (words left lo hi next) (sym exact) ∙ waits_exactly;
      }
