-- Laws of words appended one after the other where a ring has room for all of them, and of a write: it appends all words of its command, or is refused
-- and leaves the ring memory as it was.
-- Assumes nothing.
use Rattle.std.specs.Prelude.{Err, Ok, Result}
use mathlib.Core.Path.{◌≡◌, refl, sym, ap, ◌∙◌}
use mathlib.Core.Bool.{true, false}
use mathlib.Core.List.{List, [], ◌∷◌, ◌++◌, append-nil, append_assoc}
use mathlib.Core.Logic.{◌≢◌}
use Prim.Native.Nat.{ℕ, suc, ◌+◌, ◌/◌, ◌≤◌, ◌<◌}
use native.Mathlib.Omega.{arith}
use lib.ListN.{length, get_or}
use lib.Dec.{leb}
use borrow.Author.Tests.{leb-true, leb-false, le-leb}
use Rattle.geometry.proofs.Tests.{by_cond}
use Rattle.ring.specs.Acceptance.{min_of, max_of, next_of, stop_of, usable, Usable}
use Rattle.ring.specs.Waiting.{after, ahead, waiting}
use Rattle.ring.specs.Append.{can_append, append_to}
use Rattle.ring.proofs.Laws.{usable_when, when_usable}
use Rattle.ring.proofs.WaitingLaws.{ahead_zero, ahead_after}
use Rattle.ring.proofs.AppendLaws.{length-append_to, append_elsewhere, append_keeps, append_waits, next_append, moved}
use Rattle.writer.specs.declared.WriterError.{WriterError}
use Rattle.writer.specs.declared.WriterError.TheVariants.{LentLength, RingRefused, NoRoom, NotACommand}
use Rattle.writer.specs.Writing.{Command, command_words, carried_in, free_words, is_command, lent_good, append_all, Written, writer_number, written, write_of}
use Rattle.writer.proofs.RoomLaws.{free_waiting, room, free_append}

-- ---- words one after the other

-- no word is added to the ring memory or lost
pub length-append_all : (ring w : List ℕ) → length (append_all ring w) ≡ length ring
unfolding append_all
length-append_all ring [] = refl
length-append_all ring (x ∷ w) = length-append_all (append_to ring x) w ∙ length-append_to ring x

-- where there is room for a word and others, it is taken, and there is room for the others
pub record Takes (ring : List ℕ) (x : ℕ) (w : List ℕ) : Type 0 where
  pub can : can_append ring ≡ true
  pub still : Usable (append_to ring x)
  pub left : length w ≤ free_words (append_to ring x)

pub takes : (ring : List ℕ) (x : ℕ) (w : List ℕ) → Usable ring → length (x ∷ w) ≤ free_words ring → Takes ring x w
takes ring x w u l =
    let e : can_append ring ≡ true = (room ring u).0 (omega arith) in
    let f = free_append ring x e in
    record {
      can = e;
      still = usable_when (append_to ring x) ((append_keeps ring x).3 ∙ when_usable ring u);
      left = omega arith;
    }

-- a word stays that is neither ring word 2 nor one of those from NEXT_CMD on, as many as are appended
pub append_all_elsewhere : (ring w : List ℕ) → Usable ring → length w ≤ free_words ring → (i : ℕ) → i ≢ 2
    → ((k : ℕ) → k < length w → i ≢ ahead (min_of ring / 4) (max_of ring / 4) (next_of ring / 4) k)
    → get_or (append_all ring w) i 0 ≡ get_or ring i 0
unfolding append_all
append_all_elsewhere ring [] u l i not-2 away = refl
append_all_elsewhere ring (x ∷ w) u l i not-2 away =
    let lo = min_of ring / 4 in
    let hi = max_of ring / 4 in
    let next = next_of ring / 4 in
    let t = takes ring x w u l in
    let keeps = append_keeps ring x in
    let all = free_waiting ring u in
    let m = moved ring lo hi (stop_of ring / 4) refl refl refl u in
    let on : next_of (append_to ring x) / 4 ≡ after lo hi next = omega (arith, next_append ring x t.can) in
    let there : i ≢ next = λ e. away 0 (omega arith) (e ∙ sym (ahead_zero lo hi next (omega arith))) in
    let behind : (k : ℕ) → k < length w → i ≢ ahead (min_of (append_to ring x) / 4) (max_of (append_to ring x) / 4) (next_of (append_to ring x) / 4) k =
    rw (keeps.0, keeps.1, on)
    (λ k b e. away (suc k) (omega arith) (e ∙ ahead_after lo hi next k (record { from = omega arith; below = omega arith; held = omega arith }))) in
    append_all_elsewhere (append_to ring x) w t.still t.left i not-2 behind ∙ append_elsewhere ring x i not-2 there

-- what words leave that were all taken: MIN, MAX and STOP, usable ring words, and fewer free words by as many as they are
pub record AllTaken (ring w : List ℕ) : Type 0 where
  pub min : min_of (append_all ring w) ≡ min_of ring
  pub max : max_of (append_all ring w) ≡ max_of ring
  pub stop : stop_of (append_all ring w) ≡ stop_of ring
  pub still : Usable (append_all ring w)
  pub left : free_words (append_all ring w) + length w ≡ free_words ring

pub all_taken : (ring w : List ℕ) → Usable ring → length w ≤ free_words ring → AllTaken ring w
unfolding append_all
all_taken ring [] u l = record { min = refl; max = refl; stop = refl; still = u; left = omega arith }
all_taken ring (x ∷ w) u l =
    let t = takes ring x w u l in
    let keeps = append_keeps ring x in
    let fewer = free_append ring x t.can in
    let r = all_taken (append_to ring x) w t.still t.left in
    record { min = r.min ∙ keeps.0; max = r.max ∙ keeps.1; stop = r.stop ∙ keeps.2; still = r.still; left = omega (arith, r.left) }

-- and they wait behind those that waited before; MIN, MAX and STOP in words
pub append_all_waits : (w ring : List ℕ) (lo hi stop : ℕ) → lo ≡ min_of ring / 4 → hi ≡ max_of ring / 4 → stop ≡ stop_of ring / 4
    → Usable ring → length w ≤ free_words ring
    → waiting (append_all ring w) lo hi stop (next_of (append_all ring w) / 4) ≡ waiting ring lo hi stop (next_of ring / 4) ++ w
unfolding append_all
append_all_waits [] ring lo hi stop low high last u l = sym (append-nil (waiting ring lo hi stop (next_of ring / 4)))
append_all_waits (x ∷ w) ring lo hi stop low high last u l =
    let t = takes ring x w u l in
    let keeps = append_keeps ring x in
    let before = waiting ring lo hi stop (next_of ring / 4) in
    append_all_waits w (append_to ring x) lo hi stop (rw keeps.0 low) (rw keeps.1 high) (rw keeps.2 last) t.still t.left
    ∙ ap (λ (v : List ℕ). v ++ w) (append_waits ring lo hi stop low high last x t.can)
    ∙ append_assoc before (x ∷ []) w

-- ---- a write

-- None of the refusals applies: "33 if the ring words are missing or unusable ..; 41 ..; 20 ..; 40 ..; in that order".
pub record Fits (ring : List ℕ) (c : Command) : Type 0 where
  pub usable : Usable ring
  pub is_a_command : is_command (carried_in ring) c.head ≡ true
  pub lent : lent_good c ≡ true
  pub room : length (command_words c) ≤ free_words ring

-- its tests, in their order: what holds at each of its ends holds of every write
pub by_tests : (ring : List ℕ) (c : Command) (P : Written → Type 0)
    → (usable ring ≡ false → P (written (Err RingRefused) ring))
    → (Usable ring → is_command (carried_in ring) c.head ≡ false → P (written (Err NotACommand) ring))
    → (Usable ring → is_command (carried_in ring) c.head ≡ true → lent_good c ≡ false → P (written (Err LentLength) ring))
    → (Usable ring → is_command (carried_in ring) c.head ≡ true → lent_good c ≡ true → free_words ring < length (command_words c) → P (written (Err NoRoom) ring))
    → (Fits ring c → P (written (Ok tt) (append_all ring (command_words c))))
    → P (write_of ring c)
unfolding write_of
by_tests ring c P on-33 on-41 on-20 on-40 taken =
    by_cond P (usable ring)
    (λ u.
    let good = usable_when ring u in
    by_cond P (is_command (carried_in ring) c.head)
    (λ h.
    by_cond P (lent_good c)
    (λ l.
    by_cond P (leb (length (command_words c)) (free_words ring))
    (λ f. taken (record { usable = good; is_a_command = h; lent = l; room = leb-true _ _ f }))
    (λ f. on-40 good h l (leb-false _ _ f)))
    (λ l. on-20 good h l))
    (λ h. on-41 good h))
    on-33

-- what holds of a write that is refused, whatever it answers, and of one that appends all words of its command where none of the refusals applies, holds of
-- every write
pub by_write : (ring : List ℕ) (c : Command) (P : Written → Type 0)
    → ((a : Result (Unit {0}) WriterError) → 20 ≤ writer_number a → P (written a ring))
    → (Fits ring c → P (written (Ok tt) (append_all ring (command_words c))))
    → P (write_of ring c)
by_write ring c P refused taken =
    by_tests ring c P
    (λ u. refused (Err RingRefused) (omega arith))
    (λ u h. refused (Err NotACommand) (omega arith))
    (λ u h l. refused (Err LentLength) (omega arith))
    (λ u h l f. refused (Err NoRoom) (omega arith))
    taken

-- its answer is one of the writer's: 0, 20, 33, 40 or 41
pub write_answers : (ring : List ℕ) (c : Command) → (a : Result (Unit {0}) WriterError) × ((write_of ring c).answer ≡ writer_number a)
write_answers ring c =
    by_write ring c (λ (o : Written). (a : Result (Unit {0}) WriterError) × (o.answer ≡ writer_number a)) (λ a high. (a, refl)) (λ f. ((Ok tt), refl))

-- "nothing written" where it is refused
pub write_refused : (ring : List ℕ) (c : Command) → ((write_of ring c).answer ≡ 0 → ⊥) → (write_of ring c).ring ≡ ring
write_refused ring c =
    by_write ring c (λ (o : Written). (o.answer ≡ 0 → ⊥) → o.ring ≡ ring) (λ a high n. refl) (λ f n. absurd (n refl))

-- where none of the refusals applies it is taken
pub fits_taken : (ring : List ℕ) (c : Command) → Fits ring c → write_of ring c ≡ written (Ok tt) (append_all ring (command_words c))
unfolding write_of
fits_taken ring c f = rw (when_usable ring f.usable, f.is_a_command, f.lent, le-leb _ _ f.room)

-- and only so
pub taken_fits : (ring : List ℕ) (c : Command) → (write_of ring c).answer ≡ 0 → Fits ring c
taken_fits ring c =
    by_write ring c (λ (o : Written). o.answer ≡ 0 → Fits ring c) (λ a high z. let n : writer_number a ≡ 0 = z in absurd (omega arith)) (λ f z. f)

-- it appended all words of its command
pub taken_all : (ring : List ℕ) (c : Command) → (write_of ring c).answer ≡ 0 → (write_of ring c).ring ≡ append_all ring (command_words c)
taken_all ring c e = ap (λ (o : Written). o.ring) (fits_taken ring c (taken_fits ring c e))
