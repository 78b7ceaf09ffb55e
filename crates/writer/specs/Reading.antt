-- What a written command is to a reader: document 02, P2. "What the writer appended, a device that remembers this MIN and MAX reads back as that command
-- once its STOP stands there and those words wait unchanged".
use Rattle.std.specs.Prelude.{ℕ, ◌+◌, ◌-◌, ◌/◌, ◌%◌, ◌^◌, ◌≤◌, ◌<◌, ◌≡◌, true, false, List, [], ◌∷◌, ◌⊎◌, length, get_or, take, drop}
use Rattle.geometry.specs.Pixels.{tabulate}
use Rattle.execution.specs.declared.Cause.TheVariants.{BadOperand, TooLong}
use Rattle.execution.specs.declared.End.TheVariants.{Fault}
use Rattle.execution.specs.Straight.{ends}
use Rattle.execution.specs.Table.{turn_of}
use Rattle.command.specs.Commands.{entry, kind_in, size_by}
use Rattle.command.specs.Findings.{data_of}
use Rattle.effect.specs.Effects.{Scene, Machine}
use Rattle.run.specs.Run.{table}
use Rattle.ring.specs.declared.Ring.{Ring}
use Rattle.ring.specs.Acceptance.{min_of, max_of, next_of, stop_of, Usable}
use Rattle.ring.specs.Waiting.{between, words, waiting, next_good}
use Rattle.writer.specs.Writing.{Command, command, command_words, pixels_asked, bytes_asked, lent_good, is_command, carried_in, free_words, write_of}

-- "bytes, lowest first in each word": byte i of these words.
abbrev pub byte_of : List ℕ → ℕ → ℕ
byte_of w i = get_or w (i / 4) 0 / 256 ^ (i % 4) % 256

-- The command that words begin with: its number and arguments, its pixels, its data.
unfoldable pub read_in : List ℕ → Command
read_in w =
    let kind = kind_in w in
    let behind = drop (entry kind).head w in
    record {
      head = take (entry kind).head w;
      pixels = take (pixels_asked (data_of kind) w) behind;
      bytes = tabulate (bytes_asked (data_of kind) w) (byte_of behind);
    }

-- "data being bytes"
abbrev pub InBytes : Command → Type 0
InBytes c = (i : ℕ) → get_or c.bytes i 0 < 256

-- The words of a whole command with this head: as many behind it as it asks for.
pub record Whole (head w : List ℕ) : Type 0 where
  pub begins : take (length head) w ≡ head
  pub all : length w ≡ size_by (kind_in head) head

-- "the device would fault with 11 or 12": its own turn, on any machine, in a ring that carries cap words.
abbrev pub WouldFault : ℕ → List ℕ → Type 0
WouldFault cap head =
    (s : Scene) (m : Machine) (w : List ℕ) → Whole head w
    → (turn_of cap (table s) m w ≡ ends (Fault BadOperand)) ⊎ (turn_of cap (table s) m w ≡ ends (Fault TooLong))

-- "the number isn't in document 01's command table or the device would fault with 11 or 12"; a number of arguments that is not the command's counts so too.
abbrev pub NotTaken : ℕ → List ℕ → Type 0
NotTaken cap head =
    ((entry (kind_in head)).offered ≡ false) ⊎ (¬ (length head ≡ (entry (kind_in head)).head)) ⊎ WouldFault cap head

-- A device's ring, and the ring memory as it finds it later: the command written into this ring waits there.
pub record Waits (ring : List ℕ) (c : Command) (g : Ring) (later : List ℕ) : Type 0 where
  -- "a device that remembers this MIN and MAX", in words
  pub min : g.min ≡ min_of ring / 4
  pub max : g.max ≡ max_of ring / 4
  -- "once its STOP stands there": where NEXT_CMD stood
  pub stop : g.stop ≡ next_of ring / 4
  -- "and those words wait unchanged", others perhaps behind them
  pub next : next_good g (next_of later) ≡ true
  pub waits : length (command_words c) ≤ between g.min g.max g.stop (next_of later / 4)
  pub unchanged : words later g.min g.max g.stop (length (command_words c)) ≡ command_words c

-- A command of a ring that carries cap words, its pixels and its data as many as its head says, "data being bytes".
pub record Proper (cap : ℕ) (c : Command) : Type 0 where
  pub is_a_command : is_command cap c.head ≡ true
  pub lent : lent_good c ≡ true
  pub in_bytes : InBytes c

-- ---- "Freed words are used again"

-- "a device that remembers this MIN and MAX", and STOP as ring word 3 has it, in words
pub record Remembers (g : Ring) (ring : List ℕ) : Type 0 where
  pub min : g.min ≡ min_of ring / 4
  pub max : g.max ≡ max_of ring / 4
  pub stop : g.stop ≡ stop_of ring / 4

-- What a run left that went from one remembered ring to another, and from one ring memory to another, where the words left of those that wait are these.
pub record Frees (from : Ring) (ring : List ℕ) (to : Ring) (later rest : List ℕ) : Type 0 where
  -- the words from where STOP stood up to where it stands now are those that were dropped
  pub consumed : between from.min from.max from.stop to.stop
      ≡ length (waiting ring from.min from.max from.stop (next_of ring / 4)) - length rest
  -- as many are free again
  pub free : free_words later ≡ free_words ring + between from.min from.max from.stop to.stop
  -- the others wait as before
  pub waits : waiting later to.min to.max to.stop (next_of later / 4)
      ≡ drop (between from.min from.max from.stop to.stop) (waiting ring from.min from.max from.stop (next_of ring / 4))
  -- the ring carries as much as before, its words are usable, and those that the device remembers
  pub carries : carried_in later ≡ carried_in ring
  pub usable : Usable later
  pub remembers : Remembers to later

-- The least ring, empty: "MAX − MIN ≥ 10,240". It carries 2,559 words.
pub record Least (ring : List ℕ) : Type 0 where
  pub usable : Usable ring
  pub size : max_of ring ≡ min_of ring + 10240
  pub empty : next_of ring ≡ stop_of ring

pub record Largest (ring : List ℕ) : Type 0 where
  pub free : free_words ring ≡ 2559
  -- a command of all of them has room: an ESCAPE of 10,224 bytes
  pub escape : (x : ℕ) (bytes : List ℕ) → length bytes ≡ 10224
      → (length (command_words (command (33 ∷ x ∷ 10224 ∷ []) [] bytes)) ≡ 2559) × ((write_of ring (command (33 ∷ x ∷ 10224 ∷ []) [] bytes)).answer ≡ 0)
  -- and one of a word more, or longer, is no command there
  pub longer : (c : Command) → 2560 ≤ size_by (kind_in c.head) c.head → (is_command 2559 c.head ≡ false) × ((write_of ring c).answer ≡ 41)
