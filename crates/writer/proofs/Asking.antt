-- What a head asks for: its command's words, pixels and bytes, or none where no command begins with it.
-- Assumes nothing.
use mathlib.Core.Path.{◌≡◌, refl, sym, ap, ◌∙◌}
use Rattle.std.specs.Prelude.{Some, None}
use mathlib.Core.Bool.{true, false, true≢false}
use mathlib.Core.List.{List}
use mathlib.Core.Option.{Option, none, some}
use mathlib.Core.Logic.{⊎_elim}
use Prim.Native.Nat.{ℕ, ◌≤◌}
use native.Mathlib.Omega.{arith}
use lib.ListN.{length}
use borrow.Table.Steps.{cases}
use Rattle.execution.specs.declared.Cause.{Cause}
use Rattle.execution.specs.declared.End.{End}
use Rattle.execution.specs.Straight.{ends, exec}
use Rattle.command.specs.declared.Action.{Action}
use Rattle.command.specs.declared.Data.{Data}
use Rattle.command.specs.declared.Step.{Step}
use Rattle.command.specs.declared.Step.TheVariants.{Does, Short, Faults, Long}
use Rattle.command.specs.Commands.{entry, size_by, kind_in}
use Rattle.command.specs.Findings.{finds_in, data_of, kind_with, begun, step_in}
use Rattle.command.proofs.Laws.{head_some}
use Rattle.command.proofs.Rules.{foreign, by_rule}
use Rattle.command.proofs.Steps.{fixed, step_long, step_does, whole}
use Rattle.run.proofs.Found.{Found, found}
use Rattle.command.proofs.Begun.{length-begun, word_begun, kind_begun}
use Rattle.writer.specs.declared.Asked.{Asked}
use Rattle.writer.specs.Writing.{is_command, pixels_asked, bytes_asked}
use Rattle.writer.specs.Laying.{asked}
use Rattle.writer.proofs.Taking.{Passes, passes, is_a_command, Begins, taken_turn, fault_turn}

-- what a command asks for, by its numbers
abbrev pub asks : ℕ → ℕ → ℕ → Asked
asks words pixels bytes = record { words = words; pixels = pixels; bytes = bytes }

module _ (cap : ℕ) (head : List ℕ) where
  -- a head that fails a check asks for nothing
  pub asked_none : (Passes cap head → ⊥) → asked cap head ≡ None
  unfolding asked
  asked_none n = cases (is_command cap head) (λ e. absurd (n (passes cap head e))) (λ f. rw f)

  -- and so does one of another number of words than its command's
  pub asked_other : (length head ≡ (entry (kind_in head)).head → ⊥) → asked cap head ≡ None
  asked_other other = asked_none (λ p. other p.number)

  -- one that passes asks for all that its command has
  pub asked_some : Passes cap head
      → asked cap head ≡ Some (asks (size_by (kind_in head) head) (pixels_asked (data_of (kind_in head)) head) (bytes_asked (data_of (kind_in head)) head))
  unfolding asked
  asked_some p = rw (is_a_command cap head p)

-- ---- by the turn on words that begin so

module _ (cap : ℕ) (head w : List ℕ) (begins : Begins cap head w) (number : length head ≡ (entry (kind_in head)).head) where
  there : 1 ≤ length w
  there = omega (arith, begins.some, (head_some (kind_in head)).0)

  -- where it ends, nothing is asked for
  pub ends_asked : (e : End) → finds_in tt cap w ≡ ends e → asked cap head ≡ None
  unfolding asked
  ends_asked e q =
      cases (is_command cap head)
      (λ is. let t = sym (taken_turn (λ s. tt) (λ a v s. some a) cap none head w begins is) ∙ q in absurd (true≢false cc))
      (λ f. rw f)

  -- where a command is found, the head passes, and these are its words
  pub found_passes : (n : ℕ) (a : Action) → finds_in tt cap w ≡ exec n (some a) → (is_command cap head ≡ true) × (n ≡ size_by (kind_in head) head)
  found_passes n a q =
      cases (is_command cap head)
      (λ is. (is, same (sym q ∙ taken_turn (λ s. tt) (λ a v s. some a) cap none head w begins is)))
      (λ f. absurd (cases (entry (kind_in head)).offered (no_fault f) no_foreign))
    where
      same : {m : ℕ} {b : Option Action} → exec n (some a) ≡ exec m b → n ≡ m
      same e = cc

      no_fault : is_command cap head ≡ false → (entry (kind_in head)).offered ≡ true → ⊥
      no_fault f on =
          ⊎_elim (λ t. let z = sym t ∙ q in true≢false cc) (λ t. let z = sym t ∙ q in true≢false cc)
          (fault_turn (λ s. tt) (λ a v s. some a) cap none head w begins on number f)

      no_foreign : (entry (kind_in head)).offered ≡ false → ⊥
      no_foreign off =
          let z = sym (by_rule (λ s. tt) (λ a v s. some a) cap none w there _ (foreign (rw begins.kind off))) ∙ q in true≢false cc

  -- and it asks for them
  pub found_asked : (n : ℕ) (a : Action) → finds_in tt cap w ≡ exec n (some a)
      → asked cap head ≡ Some (asks n (pixels_asked (data_of (kind_in head)) head) (bytes_asked (data_of (kind_in head)) head))
  found_asked n a q =
      let p = found_passes n a q in
      asked_some cap head (passes cap head p.0)
      ∙ ap (λ m. Some (asks m (pixels_asked (data_of (kind_in head)) head) (bytes_asked (data_of (kind_in head)) head))) (sym p.1)

-- ---- a command of fixed length

module _ (cap : ℕ) (head : List ℕ) (carries : 10 ≤ cap) where
  plain : (s : Step) → step_in tt head ≡ s → ((d : Data) → s ≡ Long d → ⊥) → data_of (kind_in head) ≡ none
  plain s e other = go (data_of (kind_in head)) refl
    where
      go : (o : Option Data) → data_of (kind_in head) ≡ o → data_of (kind_in head) ≡ none
      go none q = q
      go (some d) q = absurd (other d (sym e ∙ step_long tt head d q))

  -- a step that executes nothing: nothing is asked for
  idle : (s : Step) → step_in tt head ≡ s → ((d : Data) → s ≡ Long d → ⊥) → ((a : Action) (n : ℕ) → s ≡ Does a n → ⊥) → asked cap head ≡ None
  idle s e other none-done =
      asked_none cap head
      (λ p. none-done _ _ (sym e ∙ step_does tt head (kind_in head) refl (plain s e other) p.offered _ refl (omega (arith, p.number)) p.good))

  pub short_asked : step_in tt head ≡ Short → asked cap head ≡ None
  short_asked e = idle Short e (λ d q. true≢false cc) (λ a n q. true≢false cc)

  pub faults_asked : (c : Cause) → step_in tt head ≡ Faults c → asked cap head ≡ None
  faults_asked c e = idle (Faults c) e (λ d q. true≢false cc) (λ a n q. true≢false cc)

  -- one that executes a command
  module _ (a : Action) (n : ℕ) (e : step_in tt head ≡ Does a n) where
    does_found : Found a n head
    does_found =
        let w = whole tt head a n e in
        found (length head) head a n (omega (arith, w.fits, w.one)) (w.at (length head) (omega arith))

    does_plain : data_of (kind_in head) ≡ none
    does_plain = plain _ e (λ d q. true≢false cc)

    does_size : n ≡ (entry (kind_in head)).head
    does_size = omega (arith, does_found.size, (fixed (kind_in head) does_plain).behind head)

    -- asks for the head alone
    pub does_asked : n ≡ length head → asked cap head ≡ Some (asks n 0 0)
    does_asked all =
        let f = does_found in
        asked_some cap head (record {
          offered = f.offered;
          number = omega (arith, does_size);
          head_good = f.head;
          fits = omega (arith, f.size, does_size, (head_some (kind_in head)).1);
          good = f.good;
        })
        ∙ ap (λ m. Some (asks m (pixels_asked (data_of (kind_in head)) head) (bytes_asked (data_of (kind_in head)) head))) (sym f.size)
        ∙ ap (λ o. Some (asks n (pixels_asked o head) (bytes_asked o head))) does_plain

    -- and for nothing where there are more words
    pub does_other : (n ≡ length head → ⊥) → asked cap head ≡ None
    does_other more = asked_none cap head (λ p. more (omega (arith, p.number, does_size)))

-- ---- a command with data behind its head

-- its turn in a ring full of words that begin so
module _ (d : Data) (cap : ℕ) (head : List ℕ) (carries : 10 ≤ cap) (kind : kind_in head ≡ kind_with d) (number : length head ≡ (entry (kind_with d)).head) where
  begun_begins : Begins cap head (begun d head cap)
  begun_begins = record {
    kind = kind_begun d head cap (omega arith) ∙ sym kind;
    begin = λ i p q. word_begun d head cap i p (omega (arith, (head_some (kind_in head)).1));
    some = omega (arith, length-begun d head cap, (head_some (kind_in head)).1);
    all = λ fits. omega (arith, length-begun d head cap);
  }

  -- ends, or takes as many words as it asks for
  pub long_none : (e : End) → ends e ≡ finds_in tt cap (begun d head cap) → asked cap head ≡ None
  long_none e q = ends_asked cap head _ begun_begins (rw kind number) e (sym q)

  pub long_some : (n : ℕ) (a : Action) → exec n (some a) ≡ finds_in tt cap (begun d head cap)
      → (n ≡ size_by (kind_with d) head) × (asked cap head ≡ Some (asks n (pixels_asked (data_of (kind_with d)) head) (bytes_asked (data_of (kind_with d)) head)))
  long_some n a q = (
    rw kind at (found_passes cap head _ begun_begins (rw kind number) n a (sym q)).1,
    rw kind at (found_asked cap head _ begun_begins (rw kind number) n a (sym q)),
  )
