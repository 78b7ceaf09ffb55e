-- The console fed byte by byte, in constant memory: of a line it keeps the first 32 bytes.
use Rattle.std.specs.Prelude.{ℕ, ◌+◌, ◌*◌, ◌≤◌, ◌≡◌, Bool, cond, ◌&&◌, List, [], ◌∷◌, ◌++◌, eqb, ltb, leb, length, take, set}
use Rattle.console_lines.specs.Lines.{request_of}
use Rattle.console_answers.specs.Text.{text_of}
use Rattle.console_answers.specs.Put.{Put}
use Rattle.device.specs.declared.Device.{Device}
use Rattle.device_run.specs.Run.{Lent}
use Rattle.console_session.specs.declared.Session.{Session}
use Rattle.console_session.specs.Console.{Console, Performed, console_of, performed, start}

-- The console, the line so far, and the text printed.
pub record State : Type 0 where
  pub console : Console
  pub held : List ℕ
  pub printed : List ℕ

unfoldable pub begun : State
begun = record { console = start; held = []; printed = [] }

-- The line's end: its request is performed and answered, and a new line begins.
abbrev pub told : List ℕ → Performed → State
told printed p = record { console = p.console; held = []; printed = printed ++ text_of p.answer }

unfoldable pub answered : State → State
answered s = told s.printed (performed s.console (request_of s.held))

-- One byte more of a line: the first 32 are kept. A line that long is bad.
unfoldable pub kept : List ℕ → ℕ → List ℕ
kept held b = cond (ltb (length held) 32) (held ++ (b ∷ [])) held

unfoldable pub fed : State → ℕ → State
fed s b = cond (eqb b 10) (answered s) (record { console = s.console; held = kept s.held b; printed = s.printed })

unfoldable pub fed_all : State → List ℕ → State
fed_all s [] = s
fed_all s (b ∷ bs) = fed_all (fed s b) bs

-- The input's end: a last line without newline is a line.
unfoldable pub ended : State → State
ended s = cond (leb 1 (length s.held)) (answered s) s

-- What was printed is written out.
abbrev pub flushed : State → State
flushed s = record { console = s.console; held = s.held; printed = [] }

-- All that is written where the input comes in chunks and the text is written out behind each, and at the end.
unfoldable pub written_out : State → List (List ℕ) → List ℕ
written_out s [] = (ended s).printed
written_out s (chunk ∷ chunks) = (fed_all s chunk).printed ++ written_out (flushed (fed_all s chunk)) chunks

-- The state before that end: each chunk was fed and its text written out.
unfoldable pub served : State → List (List ℕ) → State
served s [] = s
served s (chunk ∷ chunks) = served (flushed (fed_all s chunk)) chunks

-- The chunks as one input.
unfoldable pub joined : List (List ℕ) → List ℕ
joined [] = []
joined (chunk ∷ chunks) = chunk ++ joined chunks

-- ---- what the code keeps: a session, the lent memories, a line of 32 bytes and a buffer for the text

abbrev pub state_of : Session → List ℕ → Lent → List ℕ → State
state_of s line l out = record { console = console_of s.device l; held = take s.held line; printed = take s.printed out }

-- The line has 32 bytes, and out has room for the answers to n lines, each of at most 26 bytes.
unfoldable pub fits : Session → ℕ → ℕ → ℕ → Bool
fits s n line out = eqb line 32 && (leb s.held 32 && leb (s.printed + 26 * n) out)

-- The same as facts.
pub record Within (s : Session) (n line out : ℕ) : Type 0 where
  pub whole : line ≡ 32
  pub held : s.held ≤ 32
  pub room : s.printed + 26 * n ≤ out

-- Where there is no room for n lines, a call leaves what it found.
abbrev pub if_room : {A : Type 0} → Session → ℕ → List ℕ → List ℕ → A → A → A
if_room s n line out = cond (fits s n (length line) (length out))

-- What was printed is written out.
abbrev pub emptied : Session → Session
emptied s = record { device = s.device; held = s.held; printed = 0 }

-- ---- every byte of the line and of the text's buffer

-- All bytes of the line's buffer, and how many of them are held.
pub record Line : Type 0 where
  pub held : ℕ
  pub bytes : List ℕ

abbrev pub line_with : ℕ → List ℕ → Line
line_with held bytes = record { held = held; bytes = bytes }

-- The same of a session at a call's entry.
abbrev pub line_before : Session → List ℕ → Line
line_before s line = line_with s.held line

-- The line's end: no byte is held, and all stay as they are.
abbrev pub rested : Line → Line
rested l = line_with 0 l.bytes

-- A byte more is set behind those that are held; where 32 are, it is left out. All others stay.
unfoldable pub line_kept : Line → ℕ → Line
line_kept l b = cond (ltb l.held 32) (line_with (l.held + 1) (set l.bytes l.held b)) l

-- A byte of the input, and bytes.
unfoldable pub line_byte : Line → ℕ → Line
line_byte l b = cond (eqb b 10) (rested l) (line_kept l b)

unfoldable pub line_fed : Line → List ℕ → Line
line_fed l [] = l
line_fed l (b ∷ bs) = line_fed (line_byte l b) bs

-- The state at a call's entry, as if nothing were printed: what is printed from there on is what the call prints.
abbrev pub unprinted : Session → List ℕ → Lent → State
unprinted s line l = record { console = console_of s.device l; held = take s.held line; printed = [] }

-- What is left of the line, and of out: a text printed stands behind what was printed before, and every other byte is as it was.
pub record Buffers (s r : Session) (bytes before after : List ℕ) (l : Line) (text : List ℕ) : Type 0 where
  pub line : line_with r.held bytes ≡ l
  pub out : Put before s.printed text after r.printed

-- What reads leave: there are chunks, whatever they are, of which each was fed and its text written out.
pub record Served (s t : State) : Type 0 where
  pub chunks : List (List ℕ)
  pub state : t ≡ served s chunks

-- A session that begins.
abbrev pub ready_with : Device → Session
ready_with d = record { device = d; held = 0; printed = 0 }
