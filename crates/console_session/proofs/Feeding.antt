-- A chunk is fed byte by byte; what fits; the device of a session that begins.
-- Assumes nothing.
use mathlib.Core.Path.{◌≡◌, refl, ap, sym, ◌∙◌}
use mathlib.Core.Bool.{true}
use mathlib.Core.List.{List, [], ◌∷◌, ◌++◌}
use Prim.Native.Nat.{ℕ, ◌+◌, ◌-◌, ◌*◌, ◌/◌, ◌≤◌, ◌<◌}
use native.Mathlib.Numerals.{add-one}
use native.Mathlib.Omega.{arith}
use lib.Dec.{eqb, leb}
use lib.ListN.{length, get_or, take, length-take}
use lib.Seq.{take-suc}
use borrow.Author.Tests.{eq-eqb, eqb-true, leb-true, leb-false, le-leb, lt-leb}
use borrow.Table.Steps.{cases}
use Rattle.std.proofs.lemmas.Bool.Decides.{nat_tests}
use Rattle.geometry.proofs.Tests.{both}
use Rattle.std.specs.Prelude.{Result, Ok, Err}
use Rattle.device.specs.declared.Device.{Device}
use Rattle.device.specs.declared.BadSizes.{BadSizes}
use Rattle.device.specs.Device.{fresh, sizes_good}
use Rattle.device.specs.Making.{Creation, creation, made_of}
use Rattle.console_session.specs.declared.Session.{Session}
use Rattle.console_session.specs.Console.{memory, pixels}
use Rattle.console_session.specs.Session.{State, fed, fed_all, flushed, fits, Within, Line, line_byte, line_fed}
use Rattle.console_answers.proofs.Putting.{put_none}
use Rattle.console_session.proofs.Behind.{fed_text, flushed_all}

pub fed_behind : (s : State) (a : List ℕ) (b : ℕ) → fed_all s (a ++ (b ∷ [])) ≡ fed (fed_all s a) b
unfolding fed_all
fed_behind s [] b = refl
fed_behind s (x ∷ a) b = fed_behind (fed s x) a b

pub fed_one : (s : State) (chunk : List ℕ) (i : ℕ) → i < length chunk
    → fed_all s (take (i + 1) chunk) ≡ fed (fed_all s (take i chunk)) (get_or chunk i 0)
fed_one s chunk i h = rw (add-one, take-suc chunk i 0 h) (fed_behind s (take i chunk) (get_or chunk i 0))

-- What the chunk's first bytes print.
pub text_one : (s : State) (chunk : List ℕ) (i : ℕ) → i < length chunk
    → (fed_all (flushed s) (take (i + 1) chunk)).printed
    ≡ (fed_all (flushed s) (take i chunk)).printed ++ (fed (flushed (fed_all s (take i chunk))) (get_or chunk i 0)).printed
text_one s chunk i h =
    ap (λ (t : State). t.printed) (fed_one (flushed s) chunk i h)
    ∙ fed_text (fed_all (flushed s) (take i chunk)) (get_or chunk i 0)
    ∙ ap (λ (t : State). (fed_all (flushed s) (take i chunk)).printed ++ (fed t (get_or chunk i 0)).printed) (flushed_all s (take i chunk))

line_behind : (l : Line) (a : List ℕ) (b : ℕ) → line_fed l (a ++ (b ∷ [])) ≡ line_byte (line_fed l a) b
unfolding line_fed
line_behind l [] b = refl
line_behind l (x ∷ a) b = line_behind (line_byte l x) a b

pub line_one : (l : Line) (chunk : List ℕ) (i : ℕ) → i < length chunk
    → line_fed l (take (i + 1) chunk) ≡ line_byte (line_fed l (take i chunk)) (get_or chunk i 0)
line_one l chunk i h = rw (add-one, take-suc chunk i 0 h) (line_behind l (take i chunk) (get_or chunk i 0))

-- The loop over a chunk: of its bytes i are fed, and what is printed has room.
pub record Feeding (s t : Session) (i chunk : ℕ) : Type 0 where
  pub turn : i ≤ chunk
  pub held : t.held ≤ 32
  pub printed : t.printed ≤ s.printed + 26 * i

-- ---- what fits

pub fits_within : (s : Session) (n line out : ℕ) → fits s n line out ≡ true → Within s n line out
unfolding fits
fits_within s n line out e =
    let line_fits = both (eqb line 32) _ e in
    let rest = both (leb s.held 32) _ line_fits.1 in record {
      whole = eqb-true _ _ line_fits.0;
      held = leb-true _ _ rest.0;
      room = leb-true _ _ rest.1;
    }

pub within_fits : (s : Session) (n line out : ℕ) → Within s n line out → fits s n line out ≡ true
unfolding fits
within_fits s n line out w = rw (eq-eqb line 32 w.whole, le-leb _ 32 w.held, le-leb _ _ w.room)

pub room_test : (n printed out : ℕ) → printed ≤ out → leb n ((out - printed) / 26) ≡ leb (printed + 26 * n) out
room_test n printed out h =
    cases (leb n ((out - printed) / 26))
    (λ t. let k : n ≤ (out - printed) / 26 = leb-true _ _ t in
    let room : printed + 26 * n ≤ out = omega arith in t ∙ sym (le-leb _ _ room))
    (λ t. let k : (out - printed) / 26 < n = leb-false _ _ t in
    let full : out < printed + 26 * n = omega arith in t ∙ sym (lt-leb _ _ full))

pub ruleset room = (room_test, nat_tests)

-- What a step of a session takes and leaves.
pub ruleset steps = (fits_within, put_none, length-take, nat_tests)

-- ---- the device

pub console_made : (r : Result Device BadSizes) → creation r ≡ made_of memory pixels → r ≡ Ok (fresh memory pixels)
unfolding made_of sizes_good
console_made (Ok d) e = let made = ap (λ (c : Creation). c.device) e in cc
console_made (Err x) e = let z : ◌≡◌ {A = ℕ} 34 0 = ap (λ (c : Creation). c.answer) e in absurd (omega arith)
