-- What holds of document 01's rows: a turn looks at a command's own words, and the table keeps what the theorem of `execution` asks.
-- Assumes nothing.
use mathlib.Core.Path.{◌≡◌, ap, ◌∙◌}
use mathlib.Core.List.{List}
use Prim.Native.Nat.{ℕ, ◌+◌, ◌≤◌, ◌<◌}
use native.Mathlib.Omega.{arith}
use lib.ListN.{take, get_or}
use lib.Seq.{get_or-take}
use Rattle.execution.specs.Table.{head_of, size_of, all_of, turn_of, Laws}
use Rattle.execution.proofs.Tables.{laws_of}
use Rattle.command.specs.declared.Action.{Action}
use Rattle.command.specs.declared.Kind.{Kind}
use Rattle.command.specs.Commands.{Known, Entry, entry, size_by, kind_of, kind_in, commands}

-- ---- a row looks at its head's words

-- what a row says of words
pub record Alike (e : Entry) (w v : List ℕ) : Type 0 where
  pub behind : e.behind w ≡ e.behind v
  pub head_good : e.head_good w ≡ e.head_good v
  pub good : (s : Known) → e.good s w ≡ e.good s v
  pub action : e.action w ≡ e.action v

-- words that begin alike, behind the number
abbrev pub Begin : ℕ → List ℕ → List ℕ → Type 0
Begin n w v = (i : ℕ) → 1 ≤ i → i < n → get_or w i 0 ≡ get_or v i 0

pub alike : (k : Kind) (w v : List ℕ) → Begin (entry k).head w v → Alike (entry k) w v
unfolding entry
alike k w v b = grind arith

pub head_some : (k : Kind) → (1 ≤ (entry k).head) × ((entry k).head ≤ 10)
unfolding entry
head_some k = grind arith

-- ---- the table by its rows

module _ {S : Type 0} (known_of : S → Known) (does : Action → List ℕ → S → S) where
  -- what demand 3's theorem asks of a table: the ring carries every head, and a command has a word
  pub command_laws : (cap : ℕ) → 10 ≤ cap → Laws cap (turn_of cap (commands known_of does))
  unfolding commands
  command_laws cap h = laws_of cap (commands known_of does) (record {
    head_fits = λ x e. omega (arith, (head_some (kind_of x)).1);
    size_some = λ w. omega (arith, (head_some (kind_in w)).0);
  })

  module _ (x : ℕ) (w : List ℕ) (first : get_or w 0 0 ≡ x) where
    abbrev row : Entry
    row = entry (kind_of x)

    -- the first n words are of the same kind
    kind_take : (n : ℕ) → 1 ≤ n → kind_in (take n w) ≡ kind_of x
    kind_take n h = ap kind_of (get_or-take n w 0 0 (omega arith) ∙ first)

    -- checks and length by a command's own words are those by all the words there
    module _ (n : ℕ) (long : row.head ≤ n) where
      own : Alike row (take n w) w
      own = alike (kind_of x) (take n w) w (λ i g h. get_or-take n w i 0 (omega arith))

      same_kind : kind_in (take n w) ≡ kind_of x
      same_kind = kind_take n (omega (arith, (head_some (kind_of x)).0))

    good_all : (s : S) → (commands known_of does).good s (take (size_by (kind_of x) w) w) ≡ row.good (known_of s) w
    unfolding commands
    good_all s = rw (same_kind (size_by (kind_of x) w) (omega arith)) ((own (size_by (kind_of x) w) (omega arith)).good (known_of s))

    effect_all : (s : S) → (commands known_of does).effect s (take (size_by (kind_of x) w) w) ≡ does (row.action w) (take (size_by (kind_of x) w) w) s
    unfolding commands
    effect_all s = rw (same_kind (size_by (kind_of x) w) (omega arith)) (ap (λ (a : Action). does a (take (size_by (kind_of x) w) w) s) (own (size_by (kind_of x) w) (omega arith)).action)

    pub by_head : ((commands known_of does).head_good (head_of (commands known_of does) x w) ≡ row.head_good w)
    unfolding commands
    by_head = rw (same_kind row.head (omega arith)) (own row.head (omega arith)).head_good

    pub by_size : size_of (commands known_of does) x w ≡ size_by (kind_of x) w
    unfolding commands
    by_size = rw (same_kind row.head (omega arith)) (ap (λ n. row.head + n) (own row.head (omega arith)).behind)

    pub by_good : (s : S) → (commands known_of does).good s (all_of (commands known_of does) x w) ≡ row.good (known_of s) w
    by_good s = rw by_size (good_all s)

    pub by_effect : (s : S) → (commands known_of does).effect s (all_of (commands known_of does) x w) ≡ does (row.action w) (take (size_by (kind_of x) w) w) s
    by_effect s = rw by_size (effect_all s)
