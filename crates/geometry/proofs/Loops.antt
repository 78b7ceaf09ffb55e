-- The loops of the painters: for each its invariant, and laws for the beginning, a turn and the end.
-- Assumes nothing.
use mathlib.Core.Path.{◌≡◌}
use mathlib.Core.Bool.{Bool, true}
use mathlib.Core.List.{List}
use Prim.Native.Nat.{ℕ, ◌+◌, ◌*◌, ◌-◌, ◌≤◌, ◌<◌}
use native.Mathlib.Omega.{arith}
use lib.ListN.{length, get_or}
use lib.Dec.{leb}
use borrow.Author.Tests.{leb-true, leb-false}
use borrow.Table.Steps.{cases}
use borrow.Rule.Slice.PartMut.{mid_of, put_mid}
use Rattle.geometry.specs.Pixels.{within, in_rect, tabulate, painted}
use Rattle.geometry.specs.Parts.{moved, next, done_from, Inside, Ordered, after}
use Rattle.geometry.proofs.Painted.{Done, done_row, done_part}
use Rattle.geometry.proofs.Rows.{row_room, rows_none, rows_grow, grow_right, none_done, moved_at, piece_moved, pieces_done}
use Rattle.geometry.proofs.Rows.{copied_at, row_copied, next_fits, rows_ordered, places_ordered, rows_done}

-- ---- the rows of a rectangle, each lent as a part: the first j are painted

pub record RowsDone (width x y w h : ℕ) (new : ℕ → ℕ) (old : List ℕ) (j : ℕ) (l : List ℕ) : Type 0 where
  pub most : j ≤ h
  pub done : Done (in_rect width x y w j) new old l

module _ {width x y w h : ℕ} {new : ℕ → ℕ} {old : List ℕ} where
  pub rows_begin : RowsDone width x y w h new old 0 old
  rows_begin = record { most = omega arith; done = rows_none _ _ _ _ _ _ }

  -- a turn lends row j and gets it back: each of its places has the new pixel, which may cite what stood there
  pub rows_turn : {j : ℕ} {l : List ℕ} → RowsDone width x y w h new old j l → Inside width x y w h (length old) → j < h
      → let at = (y + j) * width + x in
      let part = mid_of at (at + w - at) l in
      (row : List ℕ) (g : ℕ → ℕ) → row ≡ tabulate (length part) g
      → ((k : ℕ) → within at w k ≡ true → get_or part (k - at) 0 ≡ get_or old k 0 → g (k - at) ≡ new k)
      → RowsDone width x y w h new old (j + 1) (put_mid at (at + w - at) l row)
  rows_turn {j} rows in-old more =
      let room = row_room in-old more in
      let grows = rows_grow width x w _ _ _ _ _ in-old.across (grow_right y j 1) in
      let e : (y + j) * width + x + w - ((y + j) * width + x) ≡ w = omega arith in
      rw e (λ row g is each. record {
        most = omega arith;
        done = done_row rows.done grows room row g is (λ k lt t. each k t (done_part rows.done grows room k lt t));
      })

  pub rows_end : {j : ℕ} {l : List ℕ} → RowsDone width x y w h new old j l → h ≤ j → l ≡ painted (in_rect width x y w h) new old
  rows_end {j} rows over = let e : j ≡ h = omega arith in rw e at rows.done.is

-- ---- the pieces of a row that moves, from the front or from the back

pub record PiecesDone (back : Bool) (from to n : ℕ) (f : ℕ → ℕ → ℕ) (old : List ℕ) (done : ℕ) (l : List ℕ) : Type 0 where
  pub most : done ≤ n
  pub moves : Done (within (to + done_from back n done) done) (moved_at from to f old) old l

module _ {back : Bool} {from to n : ℕ} {f : ℕ → ℕ → ℕ} {old : List ℕ} where
  pub pieces_begin : PiecesDone back from to n f old 0 old
  pieces_begin = record { most = omega arith; moves = none_done _ _ _ }

  module _ {done : ℕ} {l : List ℕ} (pieces : PiecesDone back from to n f old done l) where
    pub pieces_turn : Ordered back from to → from + n ≤ length old → (k : ℕ) → done + k ≤ n
        → (later : List ℕ) → later ≡ moved (from + next back n done k) (to + next back n done k) k f l → PiecesDone back from to n f old (done + k) later
    pieces_turn o fits k h later is = record { most = h; moves = piece_moved back from to n done k f old l o pieces.moves h fits later is }

    -- those up to a later one
    pub pieces_to : Ordered back from to → from + n ≤ length old → {then : ℕ} → done ≤ then → then ≤ n
        → {later : List ℕ} → later ≡ moved (from + next back n done (then - done)) (to + next back n done (then - done)) (then - done) f l
        → PiecesDone back from to n f old then later
    pieces_to o fits {then} more most is =
        let e : done + (then - done) ≡ then = omega arith in
        rw e at (pieces_turn o fits (then - done) (omega arith) _ is)

    pub pieces_end : n ≤ done → l ≡ moved from to n f old
    pieces_end over = pieces_done back from to n done f old l (omega arith) pieces.moves

-- m more of n where so many are left, and fewer than twice m were: fewer than m are left
pub fewer_left : (m : ℕ) {n done then : ℕ} → (done + m ≤ n → then ≡ done + m) → (n < done + m → then ≡ done) → done ≤ n → n < done + (m + m)
    → (done ≤ then) × (then ≤ n) × (n < then + m)
fewer_left m {n} {done} left none most fewer =
    cases (leb (done + m) n)
    (λ t. let e = left (leb-true (done + m) n t) in (omega arith, omega (arith, leb-true (done + m) n t), omega arith))
    (λ f. let few : n < done + m = omega (arith, leb-false (done + m) n f) in let e = none few in (omega arith, omega arith, omega arith))

-- ---- the rows of a copy, from the top or from the bottom

pub record CopyDone (back : Bool) (width sx sy x y w h : ℕ) (f : ℕ → ℕ → ℕ) (old : List ℕ) (done : ℕ) (l : List ℕ) : Type 0 where
  pub most : done ≤ h
  pub moves : Done (in_rect width x (y + done_from back h done) w done) (copied_at width sx sy x y f old) old l

-- what a copy knows of its rows, n words being lent: whether they go from the bottom, and where its two rectangles lie
pub record Copying (back : Bool) (width sx sy x y w h n : ℕ) : Type 0 where
  pub order : back ≡ after sx sy x y
  pub to_in : Inside width x y w h n
  pub from_in : Inside width sx sy w h n

-- the row of a turn: its places, and their order
pub record CopyRow (back : Bool) (width sx sy x y w h n j : ℕ) : Type 0 where
  pub below : j < h
  pub from_room : (sy + j) * width + sx + w ≤ n
  pub to_room : (y + j) * width + x + w ≤ n
  pub narrow : w ≤ width
  pub ordered : Ordered back ((sy + j) * width + sx) ((y + j) * width + x)

module _ {back : Bool} {width sx sy x y w h : ℕ} where
  pub copy_row : {n done j : ℕ} → Copying back width sx sy x y w h n → done < h → j ≡ next back h done 1 → CopyRow back width sx sy x y w h n j
  copy_row {n} {done} {j} c more e =
      let in-time = next_fits back h done 1 j e (omega arith) in
      let to = c.to_in.across in
      let from = c.from_in.across in
      record {
        below = omega arith;
        from_room = row_room c.from_in (omega arith);
        to_room = row_room c.to_in (omega arith);
        narrow = omega arith;
        ordered = places_ordered back sx sy x y c.order width j (omega arith) (omega arith);
      }

  module _ {f : ℕ → ℕ → ℕ} {old : List ℕ} where
    pub copy_begin : CopyDone back width sx sy x y w h f old 0 old
    copy_begin = record { most = omega arith; moves = rows_none _ _ _ _ _ _ }

    pub copy_turn : {done j : ℕ} {l : List ℕ} → CopyDone back width sx sy x y w h f old done l → Copying back width sx sy x y w h (length old)
        → done < h → j ≡ next back h done 1
        → (later : List ℕ) → later ≡ moved ((sy + j) * width + sx) ((y + j) * width + x) w f l → CopyDone back width sx sy x y w h f old (done + 1) later
    copy_turn {done} {l = l} rows c more e later is = record {
      most = omega arith;
      moves = row_copied back width sx sy x y w h done f old l (rows_ordered back sx sy x y c.order) rows.moves (omega arith) c.to_in c.from_in later
          (rw e at is);
    }

    pub copy_end : {done : ℕ} {l : List ℕ} → CopyDone back width sx sy x y w h f old done l → h ≤ done
        → l ≡ painted (in_rect width x y w h) (copied_at width sx sy x y f old) old
    copy_end {done} {l} rows over = rows_done back width x y w h done _ old l (omega arith) rows.moves

pub ruleset copy_loop = (copy_begin, copy_row, copy_turn, copy_end)
