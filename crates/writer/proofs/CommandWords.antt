-- A command's words: as many as its head says, read back as the command, and executed by a turn.
-- Assumes nothing.
use mathlib.Core.Path.{◌≡◌, refl, sym, ap, ◌∙◌}
use mathlib.Core.Bool.{true}
use mathlib.Core.Option.{Option, none, some}
use mathlib.Core.List.{List, [], ◌∷◌, ◌++◌, append_assoc}
use Prim.Native.Nat.{ℕ, ◌+◌, ◌/◌, ◌≤◌, ◌<◌}
use native.Mathlib.Omega.{arith}
use lib.ListN.{length, get_or, take, drop, length-append, get_or-append}
use lib.Seq.{take_at, drop_at}
use borrow.Author.Tests.{eqb-true}
use Rattle.geometry.specs.Pixels.{tabulate}
use Rattle.geometry.proofs.Tests.{both}
use Rattle.execution.specs.Straight.{exec}
use Rattle.execution.specs.Table.{turn_of}
use Rattle.command.specs.declared.Data.{Data}
use Rattle.command.specs.declared.Data.TheVariants as D
use Rattle.command.specs.declared.Kind.{Kind}
use Rattle.command.specs.declared.Kind.TheVariants.{Update, RectFill, RectCopy, RectRopFill, RectRopCopy}
use Rattle.command.specs.declared.Kind.TheVariants.{DefineAlphaCursor, UpdateVerbose, Fence, Escape, Foreign}
use Rattle.command.specs.Commands.{entry, size_by, kind_of, kind_in}
use Rattle.command.specs.Findings.{data_of}
use Rattle.command.proofs.Laws.{Begin, head_some}
use Rattle.effect.specs.Effects.{Scene, Machine, done}
use Rattle.run.specs.Run.{known_of, table}
use Rattle.writer.specs.Writing.{Command, data_words, command_words, pixels_asked, bytes_asked, lent_good, is_command}
use Rattle.writer.specs.Reading.{byte_of, read_in, InBytes}
use Rattle.writer.proofs.Laying.{length_data}
use Rattle.writer.proofs.Taking.{passes, Begins, taken_turn}
use Rattle.writer.proofs.Bytes.{bytes_back}

-- ---- what a head says

-- a row asks for what its head's words say
asked_alike : (k : Kind) (w v : List ℕ) → Begin (entry k).head w v
    → (pixels_asked (data_of k) w ≡ pixels_asked (data_of k) v) × (bytes_asked (data_of k) w ≡ bytes_asked (data_of k) v)
unfolding entry
asked_alike Update w v b = (refl, refl)
asked_alike RectFill w v b = (refl, refl)
asked_alike RectCopy w v b = (refl, refl)
asked_alike RectRopFill w v b = (refl, refl)
asked_alike RectRopCopy w v b = (refl, refl)
asked_alike DefineAlphaCursor w v b = (rw (b 4 (omega arith) (omega arith), b 5 (omega arith) (omega arith)), refl)
asked_alike UpdateVerbose w v b = (refl, refl)
asked_alike Fence w v b = (refl, refl)
asked_alike Escape w v b = (refl, b 2 (omega arith) (omega arith))
asked_alike Foreign w v b = (refl, refl)

-- the words behind a head are its pixels and its data
asked_behind : (k : Kind) (head : List ℕ) → pixels_asked (data_of k) head + (bytes_asked (data_of k) head + 3) / 4 ≡ (entry k).behind head
unfolding entry
asked_behind Update head = refl
asked_behind RectFill head = refl
asked_behind RectCopy head = refl
asked_behind RectRopFill head = refl
asked_behind RectRopCopy head = refl
asked_behind DefineAlphaCursor head = omega arith
asked_behind UpdateVerbose head = refl
asked_behind Fence head = refl
asked_behind Escape head = omega arith
asked_behind Foreign head = refl

lent_numbers : (c : Command) → lent_good c ≡ true
    → (length c.pixels ≡ pixels_asked (data_of (kind_in c.head)) c.head) × (length c.bytes ≡ bytes_asked (data_of (kind_in c.head)) c.head)
unfolding lent_good
lent_numbers c e = let b = both _ _ e in (eqb-true _ _ b.0, eqb-true _ _ b.1)

-- ---- a command's words

none_there : (l : List ℕ) → length l ≡ 0 → l ≡ []
none_there [] e = refl
none_there (x ∷ l) e = absurd (omega arith)

-- A command of a ring that carries cap words, its pixels and bytes as many as its head says.
module _ (c : Command) (cap : ℕ) (is : is_command cap c.head ≡ true) (lent : lent_good c ≡ true) where
  number : length c.head ≡ (entry (kind_in c.head)).head
  number = (passes cap c.head is).number

  row_words : 1 ≤ length c.head
  row_words = omega (arith, number, (head_some (kind_in c.head)).0)

  -- "append all its words": they are as many as document 01's table says.
  pub size_words : length (command_words c) ≡ size_by (kind_in c.head) c.head
  unfolding command_words
  size_words =
      let n = lent_numbers c lent in
      length-append c.head (c.pixels ++ data_words c.bytes)
      ∙ omega (arith, length-append c.pixels (data_words c.bytes), length_data c.bytes, number, n.0, n.1, asked_behind (kind_in c.head) c.head)

  -- with other words behind it
  module _ (v : List ℕ) where
    abbrev all : List ℕ
    all = command_words c ++ v

    abbrev behind : List ℕ
    behind = c.pixels ++ (data_words c.bytes ++ v)

    laid_out : all ≡ c.head ++ behind
    unfolding command_words
    laid_out = append_assoc c.head _ v ∙ ap (λ (l : List ℕ). c.head ++ l) (append_assoc c.pixels _ v)

    word : (i : ℕ) → i < length c.head → get_or all i 0 ≡ get_or c.head i 0
    word i h = rw laid_out (get_or-append c.head behind 0 i h)

    kind : kind_in all ≡ kind_in c.head
    kind = ap kind_of (word 0 (omega (arith, row_words)))

    begin : Begin (entry (kind_in c.head)).head all c.head
    begin i g h = word i (omega (arith, number))

    same_asked : (pixels_asked (data_of (kind_in c.head)) all ≡ pixels_asked (data_of (kind_in c.head)) c.head)
        × (bytes_asked (data_of (kind_in c.head)) all ≡ bytes_asked (data_of (kind_in c.head)) c.head)
    same_asked = asked_alike (kind_in c.head) all c.head begin

    read_head : take (entry (kind_in c.head)).head all ≡ c.head
    read_head = rw laid_out (take_at c.head behind _ number)

    read_behind : drop (entry (kind_in c.head)).head all ≡ behind
    read_behind = rw laid_out (drop_at c.head behind _ number)

    -- where bytes are asked for no pixels are
    read_bytes : InBytes c → (o : Option Data) → length c.pixels ≡ pixels_asked o c.head → length c.bytes ≡ bytes_asked o c.head
        → tabulate (bytes_asked o c.head) (byte_of behind) ≡ c.bytes
    unfolding tabulate
    read_bytes small none p b = sym (none_there c.bytes b)
    read_bytes small (some D.Cursor) p b = sym (none_there c.bytes b)
    read_bytes small (some D.Escape) p b = rw (none_there c.pixels p) (bytes_back c.bytes small v _ b)

    pub read_all : InBytes c → read_in all ≡ c
    unfolding read_in
    read_all small =
        let n = lent_numbers c lent in
        rw (kind, read_head, read_behind, same_asked.0, same_asked.1)
        (λ i. record {
          head = c.head;
          pixels = take_at c.pixels (data_words c.bytes ++ v) _ n.0 i;
          bytes = read_bytes small (data_of (kind_in c.head)) n.0 n.1 i;
        })

    begins : Begins cap c.head all
    begins =
        let l = length-append (command_words c) v in
        record { kind = kind; begin = begin; some = omega (arith, l, size_words); all = λ fits. omega (arith, l, size_words) }

    own_words : take (size_by (kind_in c.head) c.head) all ≡ command_words c
    own_words = take_at (command_words c) v _ size_words

    -- a turn executes it, whatever stands behind it
    pub turn_words : (s : Scene) (m : Machine)
        → turn_of cap (table s) m all ≡ exec (length (command_words c)) (done s ((entry (kind_in c.head)).action c.head) (command_words c) m)
    turn_words s m = taken_turn known_of (done s) cap m c.head all begins is ∙ rw (own_words, size_words)
