-- A line is held byte by byte, and answered.
-- Assumes nothing.
use mathlib.Core.Path.{◌≡◌}
use mathlib.Core.Bool.{Bool, true, false, cond}
use mathlib.Core.List.{List, []}
use Prim.Native.Nat.{ℕ, ◌+◌, ◌≤◌, ◌<◌}
use native.Mathlib.Numerals.{add-one}
use native.Mathlib.Omega.{arith}
use lib.Dec.{leb}
use lib.ListN.{length, take, set}
use lib.Seq.{length-take-le, take-suc-set}
use borrow.Author.Tests.{lt-ltb, le-ltb, le-leb}
use Rattle.console_lines.specs.declared.Request.{Request}
use Rattle.console_lines.specs.Lines.{request_of}
use Rattle.console_answers.specs.declared.ConsoleAnswer.{ConsoleAnswer}
use Rattle.console_answers.specs.Text.{text_of}
use Rattle.console_answers.specs.Put.{Put, shown}
use Rattle.console_answers.proofs.Decimal.{text_short}
use Rattle.console_answers.proofs.Putting.{put_taken}
use Rattle.console_session.specs.Console.{Console, Performed, performed}
use Rattle.console_session.specs.Session.{answered, kept, line_with, line_kept}

pub kept_more : (line : List ℕ) (held b : ℕ) → held < 32 → held < length line → take (held + 1) (set line held b) ≡ kept (take held line) b
unfolding kept
kept_more line held b h there =
    let n = length-take-le held line (omega arith) in
    let more : length (take held line) < 32 = omega arith in rw (lt-ltb _ _ more, add-one) (take-suc-set line held b there)

pub kept_all : (line : List ℕ) (held b : ℕ) → 32 ≤ held → held ≤ length line → take held line ≡ kept (take held line) b
unfolding kept
kept_all line held b h there =
    let n = length-take-le held line there in
    let full : 32 ≤ length (take held line) = omega arith in rw (le-ltb _ _ full)

-- The line's bytes, to the last.
pub set_behind : (line : List ℕ) (held b : ℕ) → held < 32 → line_with (held + 1) (set line held b) ≡ line_kept (line_with held line) b
unfolding line_kept
set_behind line held b h = rw (lt-ltb held 32 h)

pub left_out : (line : List ℕ) (held b : ℕ) → 32 ≤ held → line_with held line ≡ line_kept (line_with held line) b
unfolding line_kept
left_out line held b h = rw (le-ltb held 32 h)

pub ruleset keeping = (kept_more, kept_all, set_behind, left_out)

chosen_short : (t : Bool) (a : ConsoleAnswer) → length (cond t (text_of a) []) ≤ 26
chosen_short true a = text_short a
chosen_short false a = omega arith

pub shown_short : (out after : List ℕ) (room at end : ℕ) (a : ConsoleAnswer) → Put out at (shown room at a) after end → end ≤ at + 26
unfolding shown
shown_short out after room at end a put = omega (arith, put.ends, chosen_short (leb (at + 26) room) a)

module _ (c : Console) (line out after : List ℕ) (held at end : ℕ) (q : Request) (p : Performed) where
  pub line_answered : q ≡ request_of (take held line) → p ≡ performed c q → at + 26 ≤ length out
      → Put out at (shown (length out) at p.answer) after end
      → record { console = p.console; held = []; printed = take end after }
      ≡ answered (record { console = c; held = take held line; printed = take at out })
  unfolding answered shown
  line_answered e f h put =
      let t = rw (le-leb _ _ h) at (put_taken put) in rw (← e, ← f, t)

  -- what that prints
  pub line_printed : q ≡ request_of (take held line) → p ≡ performed c q → at + 26 ≤ length out
      → Put out at (shown (length out) at p.answer) after end
      → Put out at (answered (record { console = c; held = take held line; printed = [] })).printed after end
  unfolding answered shown
  line_printed e f h put = rw (← e, ← f) (rw (le-leb _ _ h) at put)
