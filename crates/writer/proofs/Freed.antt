-- "Freed words are used again": document 02, P2, for readers. The words that a run consumed are free again, exactly those; and what the least ring takes.
-- Assumes nothing.
use mathlib.Core.Path.{◌≡◌, refl, sym, ap, ◌∙◌}
use mathlib.Core.Bool.{true, false}
use mathlib.Core.List.{List, [], ◌∷◌}
use Prim.Native.Nat.{ℕ, ◌+◌, ◌-◌, ◌*◌, ◌/◌, ◌≤◌, ◌<◌}
use native.Mathlib.Omega.{arith}
use lib.Dec.{eqb}
use lib.ListN.{length, get_or, drop}
use lib.Seq.{get_or-set_same}
use borrow.Author.Tests.{eqb-true, eq-eqb}
use borrow.Table.Steps.{cases}
use Rattle.execution.specs.Straight.{Line}
use Rattle.execution.specs.Turns.{runs}
use Rattle.command.specs.Commands.{entry, size_by, kind_of, kind_in}
use Rattle.effect.specs.Effects.{Scene, Machine}
use Rattle.ring.specs.declared.Ring.{Ring}
use Rattle.ring.specs.Acceptance.{min_of, max_of, next_of, stop_of, Usable}
use Rattle.ring.specs.Waiting.{between, words, waiting, carried}
use Rattle.ring.proofs.Laws.{when_usable}
use Rattle.ring.proofs.WaitingLaws.{ahead_in, ahead_zero, between_carried, between_on, between_ahead, length-waiting, words_left}
use Rattle.run.specs.Run.{turn_in, passed, stamped, posts_in, posting, left, run_words, fitting, run_in}
use Rattle.run.proofs.Fences.{runs_none}
use Rattle.run.proofs.Posting.{clear_min, length-posting, length-written, written_other, written_words}
use Rattle.writer.specs.Writing.{Command, command, command_words, lent_good, is_command, carried_in, free_words, Written, write_of}
use Rattle.writer.specs.Reading.{Remembers, Frees, Least, Largest}
use Rattle.writer.proofs.Taking.{passes}
use Rattle.writer.proofs.RoomLaws.{empty_free}
use Rattle.writer.proofs.Appending.{fits_taken}
use Rattle.writer.proofs.CommandWords.{size_words}

-- ---- free words

free_of : (g : Ring) (ring : List ℕ) → Remembers g ring → free_words ring ≡ carried g.min g.max - between g.min g.max g.stop (next_of ring / 4)
unfolding free_words
free_of g ring r = rw (r.min, r.max, r.stop)

-- ---- what a run leaves of the ring memory

-- ring words in which STOP has moved to this place
record Moves (g : Ring) (ring later : List ℕ) (stop : ℕ) : Type 0 where
  same_length : length later ≡ length ring
  low : min_of later ≡ min_of ring
  high : max_of later ≡ max_of ring
  next : next_of later ≡ next_of ring
  at : stop_of later ≡ stop * 4
  same : (p n : ℕ) → g.min ≤ p → p < g.max → words later g.min g.max p n ≡ words ring g.min g.max p n

module _ (g : Ring) (ring : List ℕ) (u : Usable ring) (known : Remembers g ring) where
  still : Moves g ring ring g.stop
  still = record { same_length = refl; low = refl; high = refl; next = refl; at = omega arith; same = λ p n a b. refl }

  moved : (stop number : ℕ) → Moves g ring (stamped stop (posting (posts_in g) number ring)) stop
  unfolding stamped
  moved stop number =
      let other : (i : ℕ) → i < 3 → get_or (stamped stop (posting (posts_in g) number ring)) i 0 ≡ get_or ring i 0 =
      λ i h. written_other (posts_in g) stop number ring i (λ e. omega arith) (λ t e. omega arith) in
      record {
        same_length = length-written (posts_in g) stop number ring;
        low = other 0 (omega arith);
        high = other 1 (omega arith);
        next = other 2 (omega arith);
        at = get_or-set_same (posting (posts_in g) number ring) 3 (stop * 4) 0 (omega (arith, length-posting (posts_in g) number ring));
        same = λ p n a b. written_words (posts_in g) stop number ring g.min g.max p n (omega arith) (clear_min g refl) a b;
      }

  abbrev lo : ℕ
  lo = g.min

  abbrev hi : ℕ
  hi = g.max

  abbrev next : ℕ
  next = next_of ring / 4

  abbrev all : List ℕ
  all = waiting ring lo hi g.stop next

  stop_in : (lo ≤ g.stop) × (g.stop < hi)
  stop_in = (omega arith, omega arith)

  next_in : (lo ≤ next) × (next < hi)
  next_in = (omega arith, omega arith)

  -- STOP has passed k of the words that wait
  module _ (later : List ℕ) (k : ℕ) (few : k ≤ between lo hi g.stop next) (w : Moves g ring later (passed g k).stop) where
    most : between lo hi g.stop next ≤ carried lo hi
    most = between_carried lo hi g.stop next stop_in.0 stop_in.1 next_in.0 next_in.1

    number : between lo hi g.stop (passed g k).stop ≡ k
    number = between_on lo hi g.stop k stop_in.0 stop_in.1 (omega (arith, most, stop_in))

    to_in : (lo ≤ (passed g k).stop) × ((passed g k).stop < hi)
    to_in = ahead_in lo hi g.stop k (record { from = stop_in.0; below = stop_in.1; held = omega (arith, most, stop_in) })

    knows : Remembers (passed g k) later
    knows = record { min = known.min ∙ ap (λ x. x / 4) (sym w.low); max = known.max ∙ ap (λ x. x / 4) (sym w.high); stop = omega arith }

    free_then : free_words later ≡ free_words ring + k
    free_then =
        let rest : between lo hi (passed g k).stop (next_of later / 4) ≡ between lo hi g.stop next - k =
        rw w.next (between_ahead lo hi g.stop next stop_in.0 stop_in.1 next_in.0 next_in.1 k few) in
        omega (arith, free_of (passed g k) later knows, free_of g ring known, most)

    waits_then : waiting later lo hi (passed g k).stop (next_of later / 4) ≡ drop k all
    unfolding waiting
    waits_then =
        rw w.next
        (w.same (passed g k).stop _ to_in.0 to_in.1
        ∙ words_left ring lo hi g.stop next k stop_in.0 stop_in.1 next_in.0 next_in.1 few)

    usable_then : Usable later
    usable_then = record {
      there = omega arith;
      min_word = omega arith;
      max_word = omega arith;
      next_word = omega arith;
      stop_word = omega arith;
      low = omega arith;
      fits = omega arith;
      size = omega arith;
      next_low = omega arith;
      next_high = omega arith;
      stop_low = omega (arith, to_in);
      stop_high = omega (arith, to_in);
    }

    frees : (rest : List ℕ) → k ≡ length all - length rest → Frees g ring (passed g k) later rest
    frees rest gone = record {
      consumed = number ∙ gone;
      free = rw number free_then;
      waits = rw number waits_then;
      carries = omega arith;
      usable = usable_then;
      remembers = knows;
    }

-- After a run moved ring word 3, exactly the words that it consumed are free again: of a device that remembers these ring words.
pub freed : (s : Scene) (g : Ring) (budget : ℕ) (ring : List ℕ) (m : Machine) → Usable ring → Remembers g ring
    → fitting g (length ring) (length m.cursor) ≡ true
    → Frees g ring (run_in s g budget ring m).place (run_in s g budget ring m).ring
    (runs (turn_in s g (next_of ring)) budget (record { words = waiting ring g.min g.max g.stop (next_of ring / 4); machine = m })).line.words
unfolding run_in run_words left
freed s g budget ring m u known fits =
    let words = waiting ring g.min g.max g.stop (next_of ring / 4) in
    let r = runs (turn_in s g (next_of ring)) budget (record { words = words; machine = m }) in
    let k = length words - length r.line.words in
    let few : k ≤ between g.min g.max g.stop (next_of ring / 4) = omega (arith, length-waiting ring g.min g.max g.stop (next_of ring / 4)) in
    rw fits
    (cases (eqb r.count 0)
    (λ t.
    let same = ap (λ (l : Line Machine). length l.words) (runs_none (turn_in s g (next_of ring)) budget _ (eqb-true r.count 0 t)) in
    let none : k ≡ 0 = omega arith in
    let stays : (passed g k).stop ≡ g.stop = rw none (ahead_zero g.min g.max g.stop (stop_in g ring u known).1) in
    rw t (frees g ring u known ring k few (rw stays (still g ring u known)) r.line.words refl))
    (λ f. rw f (frees g ring u known _ k few (moved g ring u known _ _) r.line.words refl)))

-- "Freed words are used again": a command for which there is room with them is taken.
pub used_again : (from : Ring) (ring : List ℕ) (to : Ring) (later rest : List ℕ) → Frees from ring to later rest
    → (c : Command) → is_command (carried_in ring) c.head ≡ true → lent_good c ≡ true
    → length (command_words c) ≤ free_words ring + between from.min from.max from.stop to.stop
    → (write_of later c).answer ≡ 0
used_again from ring to later rest f c is lent h =
    ap (λ (w : Written). w.answer)
    (fits_taken later c (record { usable = f.usable; is_a_command = rw f.carries is; lent = lent; room = omega (arith, f.free) }))

-- ---- an empty ring

-- "40 exactly if the command could fit the ring but there are too few free words now": an empty ring takes every command that could fit.
pub empty_takes : (ring : List ℕ) → Usable ring → next_of ring ≡ stop_of ring
    → (c : Command) → is_command (carried_in ring) c.head ≡ true → lent_good c ≡ true → (write_of ring c).answer ≡ 0
empty_takes ring u e c is lent =
    ap (λ (w : Written). w.answer)
    (fits_taken ring c (record {
      usable = u;
      is_a_command = is;
      lent = lent;
      room = omega (arith, size_words c (carried_in ring) is lent, (passes (carried_in ring) c.head is).fits, empty_free ring e);
    }))

is_escape : (x : ℕ) → is_command 2559 (33 ∷ x ∷ 10224 ∷ []) ≡ true
unfolding is_command kind_of entry
is_escape x = refl

lent_escape : (x : ℕ) (bytes : List ℕ) → length bytes ≡ 10224 → lent_good (command (33 ∷ x ∷ 10224 ∷ []) [] bytes) ≡ true
unfolding lent_good kind_of entry
lent_escape x bytes e = eq-eqb (length bytes) 10224 e

size_escape : (x : ℕ) → size_by (kind_in (33 ∷ x ∷ 10224 ∷ [])) (33 ∷ x ∷ 10224 ∷ []) ≡ 2559
unfolding kind_of entry
size_escape x = refl

too_long : (head : List ℕ) → 2560 ≤ size_by (kind_in head) head → is_command 2559 head ≡ false
too_long head h = cases (is_command 2559 head) (λ t. absurd (omega (arith, (passes 2559 head t).fits))) (λ f. f)

not_a_command : (ring : List ℕ) (c : Command) → Usable ring → is_command (carried_in ring) c.head ≡ false → (write_of ring c).answer ≡ 41
unfolding write_of
not_a_command ring c u f = rw (when_usable ring u, f)

pub largest_fits : (ring : List ℕ) → Least ring → Largest ring
largest_fits ring l =
    let u = l.usable in
    let carries : carried_in ring ≡ 2559 = omega arith in
    record {
      free = empty_free ring l.empty ∙ carries;
      escape = λ x bytes e.
          let c = command (33 ∷ x ∷ 10224 ∷ []) [] bytes in (
            size_words c 2559 (is_escape x) (lent_escape x bytes e) ∙ size_escape x,
            empty_takes ring u l.empty c (rw carries (is_escape x)) (lent_escape x bytes e),
          );
      longer = λ c h. (too_long c.head h, not_a_command ring c u (rw carries (too_long c.head h)));
    }
