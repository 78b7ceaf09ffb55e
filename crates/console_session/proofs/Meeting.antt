-- Fed byte by byte and chunk by chunk, the console prints what its lines ask for: the definition by lines and the code's steps meet.
-- Assumes nothing.
use mathlib.Core.Path.{◌≡◌, refl, ap, sym, ◌∙◌}
use mathlib.Core.Bool.{true, false}
use mathlib.Core.List.{List, [], ◌∷◌, ◌++◌, append-nil, append_assoc}
use Prim.Native.Nat.{ℕ, ◌≤◌, ◌<◌}
use native.Mathlib.Omega.{arith}
use lib.Dec.{eqb, ltb}
use lib.ListN.{length, take, replicate, length-append}
use lib.Seq.{length-take-le, take_all, take-append-le}
use borrow.Author.Tests.{ltb-true, ltb-false, le-ltb, le-leb}
use borrow.Table.Steps.{cases}
use Rattle.cursor.specs.Plane.{image_words}
use Rattle.device.specs.Device.{fresh}
use Rattle.device_run.specs.Run.{lent}
use Rattle.console_lines.specs.Input.{lines_of}
use Rattle.console_lines.specs.Lines.{in_first, request_of}
use Rattle.console_lines.proofs.Long.{first_bytes}
use Rattle.console_answers.specs.Text.{text_of}
use Rattle.console_session.specs.Console.{Console, performed, memory, ring_words, pixels, ring_start, start}
use Rattle.console_session.specs.Output.{answers_to, output_of}
use Rattle.console_session.specs.Session.{State, begun, answered, kept, fed, fed_all, ended, flushed, written_out, served, joined, state_of}
use Rattle.console_session.proofs.Behind.{behind_all, behind_ended, flushed_behind, flushed_all}

-- ---- lines with held bytes in front

abbrev front : List ℕ → List (List ℕ) → List (List ℕ)
front [] ls = ls
front (b ∷ h) ls = in_first b (front h ls)

front_line : (h l : List ℕ) (ls : List (List ℕ)) → front h (l ∷ ls) ≡ (h ++ l) ∷ ls
front_line [] l ls = refl
front_line (b ∷ h) l ls = rw (front_line h l ls)

front_end : (b : ℕ) (h : List ℕ) → front (b ∷ h) [] ≡ (b ∷ h) ∷ []
front_end b [] = refl
front_end b (d ∷ h) = rw (front_end d h)

front_byte : (h : List ℕ) (b : ℕ) (ls : List (List ℕ)) → front h (in_first b ls) ≡ front (h ++ (b ∷ [])) ls
front_byte [] b ls = refl
front_byte (d ∷ h) b ls = rw (front_byte h b ls)

kept_first : (h : List ℕ) (b : ℕ) → kept (take 32 h) b ≡ take 32 (h ++ (b ∷ []))
unfolding kept
kept_first h b =
    cases (ltb (length h) 32)
    (λ t. let short : length h < 32 = ltb-true _ _ t in
    let all : length (h ++ (b ∷ [])) ≤ 32 = omega (arith, length-append h (b ∷ [])) in
    rw (take_all 32 h (omega arith), t, take_all 32 (h ++ (b ∷ [])) all))
    (λ t. let long : 32 ≤ length h = ltb-false _ _ t in
    let full : 32 ≤ length (take 32 h) = omega (arith, length-take-le 32 h long) in
    rw (le-ltb _ _ full, take-append-le 32 h (b ∷ []) long))

-- ---- by bytes

at : Console → List ℕ → List ℕ → State
at c held printed = record { console = c; held = held; printed = printed }

last_line : (c : Console) (h p : List ℕ) → (ended (at c (take 32 h) p)).printed ≡ p ++ answers_to c (front h [])
unfolding ended answers_to answered at
last_line c [] p = sym (append-nil p)
last_line c (b ∷ h) p =
    let some : 1 ≤ length (take 32 (b ∷ h)) = omega arith in
    rw (le-leb 1 _ some, front_end b h, first_bytes (b ∷ h), append-nil)

fed_newline : (c : Console) (h p : List ℕ) (b : ℕ) → eqb b 10 ≡ true
    → fed (at c (take 32 h) p) b ≡ at (performed c (request_of h)).console [] (p ++ text_of (performed c (request_of h)).answer)
unfolding fed answered at
fed_newline c h p b t = rw (t, first_bytes h)

fed_other : (c : Console) (h p : List ℕ) (b : ℕ) → eqb b 10 ≡ false → fed (at c (take 32 h) p) b ≡ at c (take 32 (h ++ (b ∷ []))) p
unfolding fed at
fed_other c h p b t = rw (t, kept_first h b)

lines_newline : (b : ℕ) (bs h : List ℕ) → eqb b 10 ≡ true → front h (lines_of (b ∷ bs)) ≡ h ∷ lines_of bs
unfolding lines_of
lines_newline b bs h t = rw (t, front_line h [] (lines_of bs), append-nil)

lines_other : (b : ℕ) (bs h : List ℕ) → eqb b 10 ≡ false → front h (lines_of (b ∷ bs)) ≡ front (h ++ (b ∷ [])) (lines_of bs)
unfolding lines_of
lines_other b bs h t = rw (t, front_byte h b (lines_of bs))

first_answer : (c : Console) (p line : List ℕ) (lines : List (List ℕ))
    → p ++ text_of (performed c (request_of line)).answer ++ answers_to (performed c (request_of line)).console lines ≡ p ++ answers_to c (line ∷ lines)
unfolding answers_to
first_answer c p line lines = append_assoc p (text_of (performed c (request_of line)).answer) _

meets : (bs : List ℕ) (c : Console) (h p : List ℕ) → (ended (fed_all (at c (take 32 h) p) bs)).printed ≡ p ++ answers_to c (front h (lines_of bs))
unfolding fed_all lines_of
meets [] c h p = last_line c h p
meets (b ∷ bs) c h p =
    cases (eqb b 10)
    (λ t. rw (fed_newline c h p b t, lines_newline b bs h t)
    (meets bs (performed c (request_of h)).console [] (p ++ text_of (performed c (request_of h)).answer) ∙ first_answer c p h (lines_of bs)))
    (λ t. rw (fed_other c h p b t, lines_other b bs h t) (meets bs c (h ++ (b ∷ [])) p))

pub by_bytes : (input : List ℕ) → (ended (fed_all begun input)).printed ≡ output_of input
unfolding begun at output_of
by_bytes input = meets input start [] []

-- ---- by chunks

pub fed_more : (s : State) (a b : List ℕ) → fed_all s (a ++ b) ≡ fed_all (fed_all s a) b
unfolding fed_all
fed_more s [] b = refl
fed_more s (x ∷ a) b = fed_more (fed s x) a b

-- What was printed before a chunk stays in front.
from_flushed : (s : State) (bs : List ℕ) → (ended (fed_all s bs)).printed ≡ s.printed ++ (ended (fed_all (flushed s) bs)).printed
from_flushed s bs =
    ap (λ (t : State). (ended (fed_all t bs)).printed) (sym (flushed_behind s))
    ∙ rw (behind_all s.printed (flushed s) bs, behind_ended s.printed (fed_all (flushed s) bs))

written_out_lem : (s : State) (chunks : List (List ℕ)) → written_out s chunks ≡ (ended (fed_all s (joined chunks))).printed
unfolding written_out joined fed_all
written_out_lem s [] = refl
written_out_lem s (chunk ∷ chunks) =
    rw (fed_more s chunk (joined chunks), written_out_lem (flushed (fed_all s chunk)) chunks) (sym (from_flushed (fed_all s chunk) (joined chunks)))

-- However the input is cut into chunks, what is written in all is its output.
pub by_chunks : (chunks : List (List ℕ)) → written_out begun chunks ≡ output_of (joined chunks)
by_chunks chunks = written_out_lem begun chunks ∙ by_bytes (joined chunks)

-- And the state then is, but for the text, that of all their bytes.
pub served_fed : (s : State) (chunks : List (List ℕ)) → flushed (served s chunks) ≡ flushed (fed_all s (joined chunks))
unfolding served joined fed_all
served_fed s [] = refl
served_fed s (chunk ∷ chunks) =
    served_fed (flushed (fed_all s chunk)) chunks
    ∙ flushed_all (fed_all s chunk) (joined chunks)
    ∙ rw (fed_more s chunk (joined chunks))

-- One chunk more is served.
pub served_one : (s : State) (chunks : List (List ℕ)) (chunk : List ℕ) → served s (chunks ++ (chunk ∷ [])) ≡ flushed (fed_all (served s chunks) chunk)
unfolding served
served_one s [] chunk = refl
served_one s (c ∷ chunks) chunk = served_one (flushed (fed_all s c)) chunks chunk

-- A session that begins on memories that are zero is the console's start.
pub begins : (line out : List ℕ)
    → state_of (record { device = fresh memory pixels; held = 0; printed = 0 }) line (lent (ring_start (replicate ring_words 0)) (replicate pixels 0) (replicate pixels 0) (replicate image_words 0)) out
    ≡ begun
unfolding begun start
begins line out = refl
