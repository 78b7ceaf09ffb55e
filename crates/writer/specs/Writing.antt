-- The guest's writer: document 02, P2. "From a command with its arguments and pixels, append all its words by the published rule or none".
use Rattle.std.specs.Prelude.{ℕ, ◌+◌, ◌-◌, ◌*◌, ◌/◌, Bool, cond, ◌&&◌, List, [], ◌∷◌, ◌++◌, eqb, leb, length, get_or, Err, Ok, Result}
use Rattle.std.proofs.Math.Option.{Option, none, some}
use Rattle.geometry.specs.Pixels.{tabulate}
use Rattle.command.specs.declared.Data.{Data}
use Rattle.command.specs.declared.Data.TheVariants as D
use Rattle.command.specs.Commands.{entry, size_by, kind_in, shape_at}
use Rattle.command.specs.Findings.{data_of}
use Rattle.ring.specs.Acceptance.{min_of, max_of, next_of, stop_of, usable}
use Rattle.ring.specs.Append.{append_to}
use Rattle.ring.specs.Waiting.{between, carried}
use Rattle.writer.specs.declared.WriterError.{WriterError}
use Rattle.writer.specs.declared.WriterError.TheVariants.{LentLength, RingRefused, NoRoom, NotACommand}

-- "a command with its arguments and pixels": its number and arguments in document 01's order, its pixels, and its data, which are bytes.
pub record Command : Type 0 where
  pub head : List ℕ
  pub pixels : List ℕ
  pub bytes : List ℕ

abbrev pub command : List ℕ → List ℕ → List ℕ → Command
command head pixels bytes = record { head = head; pixels = pixels; bytes = bytes }

-- ---- a command's words

-- "ESCAPE data being bytes, lowest first in each word, its padding zero": the word of the four bytes from byte k on, 0 where there are no more.
abbrev pub word_from : List ℕ → ℕ → ℕ
word_from bytes k = get_or bytes k 0 + 256 * get_or bytes (k + 1) 0 + 65536 * get_or bytes (k + 2) 0 + 16777216 * get_or bytes (k + 3) 0

-- "ceil(size/4)" words of data
unfoldable pub data_words : List ℕ → List ℕ
data_words bytes = tabulate ((length bytes + 3) / 4) (λ i. word_from bytes (4 * i))

-- "all its words": the head, and behind it the pixels or the data.
unfoldable pub command_words : Command → List ℕ
command_words c = c.head ++ (c.pixels ++ data_words c.bytes)

-- ---- refusals

-- "what the head says (none where no head asks for them)": w·h pixels for a cursor, size bytes for an escape.
abbrev pub pixels_asked : Option Data → List ℕ → ℕ
pixels_asked none head = 0
pixels_asked (some D.Cursor) head = (shape_at head 1).w * (shape_at head 1).h
pixels_asked (some D.Escape) head = 0

abbrev pub bytes_asked : Option Data → List ℕ → ℕ
bytes_asked none head = 0
bytes_asked (some D.Cursor) head = 0
bytes_asked (some D.Escape) head = get_or head 2 0

-- "20 if the lent pixels or data don't number what the head says"
unfoldable pub lent_good : Command → Bool
lent_good c =
    let behind = data_of (kind_in c.head) in
    eqb (length c.pixels) (pixels_asked behind c.head) && eqb (length c.bytes) (bytes_asked behind c.head)

-- "41 if the number isn't in document 01's command table or the device would fault with 11 or 12": the checks of a turn on these words, with as many
-- behind them as they ask for, in a ring that carries cap words. A number of arguments that is not the command's is 41 too, and so is no word at all.
unfoldable pub is_command : ℕ → List ℕ → Bool
is_command cap head =
    let row = entry (kind_in head) in
    row.offered && (eqb (length head) row.head && (row.head_good head && (leb (size_by (kind_in head) head) cap && row.good tt head)))

-- The number of words that the ring of these ring words carries: from MIN to below MAX, "never filling the last word", one fewer than it holds.
abbrev pub carried_in : List ℕ → ℕ
carried_in ring = carried (min_of ring / 4) (max_of ring / 4)

-- "free words now": those that the ring carries, less those that wait, "reading STOP from ring word 3".
unfoldable pub free_words : List ℕ → ℕ
free_words ring = carried_in ring - between (min_of ring / 4) (max_of ring / 4) (stop_of ring / 4) (next_of ring / 4)

-- ---- the write

-- "by the published rule": document 01's append, word after word.
unfoldable pub append_all : List ℕ → List ℕ → List ℕ
append_all ring [] = ring
append_all ring (x ∷ w) = append_all (append_to ring x) w

-- A write answers a number and leaves the ring memory.
pub record Written : Type 0 where
  pub answer : ℕ
  pub ring : List ℕ

abbrev pub writer_number : Result (Unit {0}) WriterError → ℕ
writer_number (Ok _) = 0
writer_number (Err LentLength) = 20
writer_number (Err RingRefused) = 33
writer_number (Err NoRoom) = 40
writer_number (Err NotACommand) = 41

abbrev pub written : Result (Unit {0}) WriterError → List ℕ → Written
written a ring = record { answer = writer_number a; ring = ring }

-- where the test fails it is refused so, "nothing written"; else what follows
abbrev pub unless : Bool → Result (Unit {0}) WriterError → List ℕ → Written → Written
unless test a ring follows = cond test follows (written a ring)

-- "33 if the ring words are missing or unusable by document 01's rule, M being four times the lent words; 41 ..; 20 ..; 40 exactly if the command could
-- fit the ring but there are too few free words now; in that order, nothing written."
unfoldable pub write_of : List ℕ → Command → Written
write_of ring c =
    unless (usable ring) (Err RingRefused) ring
    (unless (is_command (carried_in ring) c.head) (Err NotACommand) ring
    (unless (lent_good c) (Err LentLength) ring
    (unless (leb (length (command_words c)) (free_words ring)) (Err NoRoom) ring
    (written (Ok tt) (append_all ring (command_words c))))))
