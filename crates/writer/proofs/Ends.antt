-- What a write answers and leaves, at each of its ends, by what its head asks for.
-- Assumes nothing.
use Rattle.std.specs.Prelude.{Err, Ok, Some, None}
use mathlib.Core.Path.{◌≡◌, sym, ap, ap₂, ◌∙◌}
use mathlib.Core.Bool.{true, false, true≢false, ◌&&◌}
use mathlib.Core.List.{List}
use mathlib.Core.Option.{Option, none, some}
use Prim.Native.Nat.{ℕ, ◌*◌, ◌/◌, ◌≤◌, ◌<◌}
use native.Mathlib.Omega.{arith}
use lib.Dec.{eqb}
use lib.ListN.{length, get_or, set}
use borrow.Author.Tests.{eqb-true, lt-leb}
use borrow.Table.Steps.{cases}
use Rattle.command.specs.declared.Data.{Data}
use Rattle.command.specs.declared.Data.TheVariants as D
use Rattle.command.specs.Commands.{size_by, kind_in}
use Rattle.command.specs.Findings.{data_of}
use Rattle.geometry.proofs.Tests.{both, not_both}
use Rattle.ring.specs.Acceptance.{min_of, max_of, next_of, usable}
use Rattle.ring.specs.Waiting.{ahead}
use Rattle.ring.proofs.Laws.{usable_when}
use Rattle.writer.specs.declared.WriterError.TheVariants.{LentLength, RingRefused, NoRoom, NotACommand}
use Rattle.writer.specs.declared.Asked.{Asked}
use Rattle.writer.specs.Writing.{Command, command_words, pixels_asked, bytes_asked, lent_good, is_command, carried_in, free_words, written, write_of}
use Rattle.writer.specs.Laying.{laid, asked}
use Rattle.writer.proofs.Laying.{all_laid}
use Rattle.writer.proofs.Taking.{passes, is_a_command, head_few}
use Rattle.writer.proofs.Asking.{asked_none, asked_some}
use Rattle.writer.proofs.CommandWords.{size_words}
use Rattle.writer.proofs.Appending.{fits_taken}

-- a head's word is the number of its bytes
bytes_word : (behind : Option Data) (head : List ℕ) → get_or head 2 0 < 4294967296 → bytes_asked behind head < 4294967296
bytes_word none head small = omega arith
bytes_word (some D.Cursor) head small = omega arith
bytes_word (some D.Escape) head small = small

-- ---- each end

-- 33
pub write_unusable : (ring : List ℕ) (c : Command) → usable ring ≡ false → written (Err RingRefused) ring ≡ write_of ring c
unfolding write_of
write_unusable ring c e = rw e

module _ (ring : List ℕ) (c : Command) (good : usable ring ≡ true) where
  -- 41
  pub write_no_command : None ≡ asked (carried_in ring) c.head → written (Err NotACommand) ring ≡ write_of ring c
  unfolding write_of
  write_no_command is =
      cases (is_command (carried_in ring) c.head)
      (λ e. let z = is ∙ asked_some (carried_in ring) c.head (passes (carried_in ring) c.head e) in absurd (true≢false cc))
      (λ f. rw (good, f))

  module _ (a : Asked) (is : Some a ≡ asked (carried_in ring) c.head) where
    taken : is_command (carried_in ring) c.head ≡ true
    taken =
        cases (is_command (carried_in ring) c.head) (λ e. e)
        (λ f. let z = is ∙ asked_none (carried_in ring) c.head (λ p. not_both _ (is_a_command (carried_in ring) c.head p) f) in absurd (true≢false cc))

    -- its head is two to eight words
    pub few_words : (2 ≤ length c.head) × (length c.head ≤ 8)
    few_words = head_few (carried_in ring) c.head taken

    asks : (a.words ≡ size_by (kind_in c.head) c.head)
        × (a.pixels ≡ pixels_asked (data_of (kind_in c.head)) c.head)
        × (a.bytes ≡ bytes_asked (data_of (kind_in c.head)) c.head)
    asks =
        let e = same (is ∙ asked_some (carried_in ring) c.head (passes (carried_in ring) c.head taken)) in
        (ap (λ (b : Asked). b.words) e, ap (λ (b : Asked). b.pixels) e, ap (λ (b : Asked). b.bytes) e)
      where
        same : {b : Asked} → Some a ≡ Some b → a ≡ b
        same q = cc

    -- lent as it asks for is lent as its command says
    lends : eqb (length c.pixels) a.pixels && eqb (length c.bytes) a.bytes ≡ lent_good c
    unfolding lent_good
    lends = ap₂ (λ p b. eqb (length c.pixels) p && eqb (length c.bytes) b) asks.1 asks.2

    -- 20
    pub write_other_length : eqb (length c.pixels) a.pixels && eqb (length c.bytes) a.bytes ≡ false → written (Err LentLength) ring ≡ write_of ring c
    unfolding write_of
    write_other_length other = rw (good, taken, sym lends ∙ other)

    module _ (as-asked : eqb (length c.pixels) a.pixels && eqb (length c.bytes) a.bytes ≡ true) where
      lent : lent_good c ≡ true
      lent = sym lends ∙ as-asked

      numbers : (eqb (length c.pixels) a.pixels ≡ true) × (eqb (length c.bytes) a.bytes ≡ true)
      numbers = both (eqb (length c.pixels) a.pixels) (eqb (length c.bytes) a.bytes) as-asked

      -- its words are as many as it asks for
      pub all_words : length (command_words c) ≡ a.words
      all_words = size_words c (carried_in ring) taken lent ∙ sym asks.0

      -- its bytes are as many as a word can say
      pub few_bytes : get_or c.head 2 0 < 4294967296 → length c.bytes ≤ 4294967295
      few_bytes small =
          let e = eqb-true (length c.bytes) a.bytes numbers.1 ∙ asks.2 in
          omega (arith, bytes_word (data_of (kind_in c.head)) c.head small)

      -- 40
      pub write_no_room : free_words ring < a.words → written (Err NoRoom) ring ≡ write_of ring c
      unfolding write_of
      write_no_room few = let n = all_words in rw (good, taken, lent, lt-leb (length (command_words c)) (free_words ring) (omega arith))

      -- 0: its words first, NEXT_CMD then
      pub write_taken : (room : a.words ≤ free_words ring) (lo hi next : ℕ) → lo ≡ min_of ring / 4 → hi ≡ max_of ring / 4 → next ≡ next_of ring / 4
          → written (Ok tt) (set (laid lo hi next (command_words c) ring) 2 (ahead lo hi next (length (command_words c)) * 4)) ≡ write_of ring c
      write_taken room lo hi next low high at =
          let n = all_words in
          let u = usable_when ring good in
          sym (fits_taken ring c (record { usable = u; is_a_command = taken; lent = lent; room = omega arith })
          ∙ ap (written (Ok tt)) (all_laid (command_words c) ring lo hi next low high at u (omega arith)))
