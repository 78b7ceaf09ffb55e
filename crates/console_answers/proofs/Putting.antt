-- Text is put part by part.
-- Assumes nothing.
use mathlib.Core.Path.{◌≡◌, refl, sym, ◌∙◌}
use mathlib.Core.List.{List, [], ◌++◌, append-nil, append_assoc}
use Prim.Native.Nat.{ℕ, ◌+◌, ◌≤◌, ◌<◌}
use native.Mathlib.Nat.{add-zero, add_assoc}
use native.Mathlib.Omega.{arith}
use lib.Dec.{leb}
use lib.ListN.{length, take, drop, length-append, length-take, length-drop, drop_of_length-le, take-append-drop}
use lib.Seq.{length-take-le, take_all, take_at, drop_at, drop-drop}
use borrow.Author.Tests.{leb-true, leb-false}
use borrow.Table.Steps.{cases}
use Rattle.std.proofs.lemmas.Bool.Decides.{nat_tests}
use Rattle.console_answers.specs.declared.Text.{Text}
use Rattle.console_answers.specs.Put.{Put, put_at}
use Rattle.console_answers.specs.Parts.{Puts}

-- ---- a buffer up to the text's end, and behind it

module _ (before : List ℕ) (at : ℕ) (text : List ℕ) where
  ends_there : at ≤ length before → length (take at before ++ text) ≡ at + length text
  ends_there h = omega (arith, length-append (take at before) text, length-take-le at before h)

  ends_before : length (take at before ++ text) ≤ at + length text
  ends_before = omega (arith, length-append (take at before) text, length-take at before)

  -- beyond the buffer
  nothing_behind : length before < at → put_at before at text ≡ take at before ++ text
  nothing_behind h =
      let end : length before ≤ at + length text = omega arith in rw (drop_of_length-le before end) (append-nil (take at before ++ text))

  up_to : take (at + length text) (put_at before at text) ≡ take at before ++ text
  up_to =
      cases (leb at (length before))
      (λ t. take_at (take at before ++ text) (drop (at + length text) before) (at + length text) (ends_there (leb-true _ _ t)))
      (λ t. rw (nothing_behind (leb-false _ _ t)) (take_all _ _ ends_before))

  behind : drop (at + length text) (put_at before at text) ≡ drop (at + length text) before
  behind =
      cases (leb at (length before))
      (λ t. drop_at (take at before ++ text) (drop (at + length text) before) (at + length text) (ends_there (leb-true _ _ t)))
      (λ t. let beyond : length before < at = leb-false _ _ t in
      let end : length before ≤ at + length text = omega arith in
      rw (nothing_behind beyond) (drop_of_length-le _ ends_before ∙ sym (drop_of_length-le before end)))

pub put_none : (out : List ℕ) (at : ℕ) → Put out at [] out at
put_none out at = record { bytes = rw (append-nil, add-zero) (sym (take-append-drop at out)); ends = omega arith }

-- What is put in two parts.
pub put_then : {a b c t u : List ℕ} {at mid end : ℕ} → Put a at t b mid → Put b mid u c end → Put a at (t ++ u) c end
put_then {a} {b} {c} {t} {u} {at} p q = record {
  bytes =
      q.bytes
      ∙ rw (p.ends, p.bytes, up_to a at t, ← (drop-drop (length u) (at + length t) (put_at a at t)), behind a at t)
      (rw (append_assoc (take at a) t u, drop-drop, length-append, add_assoc));
  ends = omega (arith, length-append t u, p.ends, q.ends);
}

-- The same of a buffer with its text.
pub puts_none : (a : Text) → Puts [] a a
puts_none a = record { same = refl; put = put_none a.bytes.now a.len }

pub puts_then : {a b c : Text} {t u : List ℕ} → Puts t a b → Puts u b c → Puts (t ++ u) a c
puts_then p q = record { same = q.same ∙ p.same; put = put_then p.put q.put }

-- Where it has room, the buffer has its length behind it.
pub puts_room : {a b : Text} {t : List ℕ} → Puts t a b → a.len + length t ≤ length a.bytes.now
    → (b.len ≡ a.len + length t) × (length b.bytes.now ≡ length a.bytes.now)
puts_room {a} {b} {t} p h = (
  p.put.ends,
  rw (p.put.bytes, length-append, length-append, length-drop, length-take-le a.len a.bytes.now (omega arith)) (omega arith),
)

pub ruleset printed = (puts_none, put_none, nat_tests)

-- ---- for callers

-- The buffer up to the text's end.
pub put_taken : {before after text : List ℕ} {at end : ℕ} → Put before at text after end → take end after ≡ take at before ++ text
put_taken {before} {after} {text} {at} p = rw (p.bytes, p.ends) (up_to before at text)

-- Where nothing is put the buffer stays.
pub put_nothing : {before after : List ℕ} {at end : ℕ} → Put before at [] after end → after ≡ before
put_nothing {before} {after} {at} p = p.bytes ∙ rw (append-nil, add-zero) (take-append-drop at before)
