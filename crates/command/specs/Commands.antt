-- Document 01's table of commands, row by row: "One command out of the ring".
use Rattle.std.specs.Prelude.{ℕ, ◌+◌, ◌*◌, ◌/◌, Bool, true, false, cond, not, List, [], ◌∷◌, eqb, leb, get_or}
use Rattle.geometry.specs.declared.Rect.{Rect}
use Rattle.cursor.specs.declared.Shape.{Shape}
use Rattle.cursor.specs.Plane.{shape_good}
use Rattle.execution.specs.Table.{Table}
use Rattle.geometry.specs.declared.Point.{Point}
use Rattle.command.specs.declared.Kind.{Kind}
use Rattle.command.specs.declared.Kind.TheVariants.{Update, RectFill, RectCopy, RectRopFill, RectRopCopy, DefineAlphaCursor, UpdateVerbose, Fence, Escape, Foreign}
use Rattle.command.specs.declared.Action.{Action}
use Rattle.command.specs.declared.Action.TheVariants as A

-- What the checks know of the machine: document 01's look at nothing of it.
abbrev pub Known : Type 0
Known = Unit {0}

-- A row of the table. Of a command's words, word 0 is its number.
pub record Entry : Type 0 where
  -- the column "Command"
  pub number : ℕ
  pub offered : Bool
  -- the column "Words": those of its head, and those behind it, by what the head says; a command of fixed length is all head
  pub head : ℕ
  pub behind : List ℕ → ℕ
  -- the turn's checks: on the words of its head; on all its words and what is known of the machine
  pub head_good : List ℕ → Bool
  pub good : Known → List ℕ → Bool
  -- the column "Arguments": what is executed
  pub action : List ℕ → Action

-- Arguments that stand together, from word i on: "x y w h", "sx sy", "id hotx hoty w h".
abbrev pub rect_at : List ℕ → ℕ → Rect
rect_at w i = record { x = get_or w i 0; y = get_or w (i + 1) 0; w = get_or w (i + 2) 0; h = get_or w (i + 3) 0 }

abbrev pub source_at : List ℕ → ℕ → Point
source_at w i = record { x = get_or w i 0; y = get_or w (i + 1) 0 }

abbrev pub shape_at : List ℕ → ℕ → Shape
shape_at w i = record { id = get_or w i 0; hotx = get_or w (i + 1) 0; hoty = get_or w (i + 2) 0; w = get_or w (i + 3) 0; h = get_or w (i + 4) 0 }

-- The raster operation of a plain fill or copy: it stores the source.
abbrev pub plain : ℕ
plain = 3

-- a command of fixed length that is never refused
abbrev pub fixed : ℕ → ℕ → (List ℕ → Action) → Entry
fixed number words action = record {
  number = number;
  offered = true;
  head = words;
  behind = λ w. 0;
  head_good = λ w. true;
  good = λ s w. true;
  action = action;
}

-- one of fixed length that is judged once all its words are there
abbrev pub checked : ℕ → ℕ → (List ℕ → Bool) → (List ℕ → Action) → Entry
checked number words good action = record {
  number = number;
  offered = true;
  head = words;
  behind = λ w. 0;
  head_good = λ w. true;
  good = λ s w. good w;
  action = action;
}

-- "Raster operation above 15: 11.": one whose word i is a raster operation
abbrev pub operated : ℕ → ℕ → ℕ → (List ℕ → Action) → Entry
operated number words i action = checked number words (λ w. leb (get_or w i 0) 15) action

-- one with data behind its head
abbrev pub followed : ℕ → ℕ → (List ℕ → ℕ) → (List ℕ → Bool) → (List ℕ → Action) → Entry
followed number words behind good action = record {
  number = number;
  offered = true;
  head = words;
  behind = behind;
  head_good = good;
  good = λ s w. true;
  action = action;
}

-- The table. "Cursor: w and h 1 to 64, hotx < w, hoty < h, else 11." Document 02, P6: "11 for FENCE 0, judged once both words are there, in the place of the
-- raster check". A plain fill or copy is operation 3; UPDATE_VERBOSE is "as 1, reason (no effect)";
-- ESCAPE's "data (no effect)". Any other number is not offered: no row, and its one word is never looked at further.
unfoldable pub entry : Kind → Entry
entry Update = fixed 1 5 (λ w. A.Update (rect_at w 1))
entry RectFill = fixed 2 6 (λ w. A.Fill (rect_at w 2) (get_or w 1 0) plain)
entry RectCopy = fixed 3 7 (λ w. A.Copy (source_at w 1) (rect_at w 3) plain)
entry RectRopFill = operated 13 7 6 (λ w. A.Fill (rect_at w 2) (get_or w 1 0) (get_or w 6 0))
entry RectRopCopy = operated 14 8 7 (λ w. A.Copy (source_at w 1) (rect_at w 3) (get_or w 7 0))
entry DefineAlphaCursor = followed 22 6 (λ w. (shape_at w 1).w * (shape_at w 1).h) (λ w. shape_good (shape_at w 1)) (λ w. A.Define (shape_at w 1))
entry UpdateVerbose = fixed 25 6 (λ w. A.Update (rect_at w 1))
entry Fence = checked 30 2 (λ w. not (eqb (get_or w 1 0) 0)) (λ w. A.Fence (get_or w 1 0))
entry Escape = followed 33 3 (λ w. (get_or w 2 0 + 3) / 4) (λ w. true) (λ w. A.Nothing)
entry Foreign = record { number = 0; offered = false; head = 1; behind = λ w. 0; head_good = λ w. true; good = λ s w. true; action = λ w. A.Nothing }

-- "head 6, then w·h", "head 3, then ceil(size/4)": all words of a command that begins so.
abbrev pub size_by : Kind → List ℕ → ℕ
size_by k w = (entry k).head + (entry k).behind w

-- The rows, in document 01's order.
abbrev pub kinds : List Kind
kinds = Update ∷ RectFill ∷ RectCopy ∷ RectRopFill ∷ RectRopCopy ∷ DefineAlphaCursor ∷ UpdateVerbose ∷ Fence ∷ Escape ∷ []

-- The row that has a number.
abbrev pub row_with : ℕ → List Kind → Kind
row_with number [] = Foreign
row_with number (k ∷ ks) = cond (eqb number (entry k).number) k (row_with number ks)

unfoldable pub kind_of : ℕ → Kind
unfolding entry
kind_of number = row_with number kinds

-- The kind of the command that words begin with.
abbrev pub kind_in : List ℕ → Kind
kind_in w = kind_of (get_or w 0 0)

-- The rows as the table that straight execution goes by. What the checks know of a machine and what an action does to it are parameters: an action is
-- done with the command's own words.
module _ {S : Type 0} (known_of : S → Known) (does : Action → List ℕ → S → S) where
  unfoldable pub commands : Table S
  commands = record {
    offered = λ x. (entry (kind_of x)).offered;
    head = λ x. (entry (kind_of x)).head;
    head_good = λ h. (entry (kind_in h)).head_good h;
    size = λ h. size_by (kind_in h) h;
    good = λ s w. (entry (kind_in w)).good (known_of s) w;
    effect = λ s w. does ((entry (kind_in w)).action w) w s;
  }
