-- A row that is stored part by part, from its front on; the parts may overlap. And the rows of a rectangle, one behind the other.
-- Assumes nothing.
use mathlib.Core.Path.{◌≡◌, refl, sym, ap, ◌∙◌}
use mathlib.Core.Bool.{false}
use mathlib.Core.Logic.{⊎_elim}
use mathlib.Core.List.{List}
use Prim.Native.Nat.{ℕ, ◌+◌, ◌*◌, ◌-◌, ◌≤◌, ◌<◌}
use native.Mathlib.Nat.{add-mul, one-mul}
use native.Mathlib.Omega.{arith}
use lib.ListN.{length, get_or, set}
use borrow.Rule.Slice.PartMut.{mid_of, put_mid}
use borrow.Table.Steps.{cases}
use Rattle.geometry.specs.Pixels.{within, in_rect, tabulate, painted}
use Rattle.geometry.specs.Parts.{Inside}
use Rattle.geometry.proofs.Tests.{within_out}
use Rattle.geometry.proofs.Tabulate.{is_tabulate, table_of}
use Rattle.geometry.proofs.Painted.{put_painted, length-painted, get_or-painted, length_mid, get_or_mid_back, set_painted, done_more}
use Rattle.geometry.proofs.Rows.{row_room, rows_none, rows_grow, grow_right}
use Rattle.geometry.proofs.Loops.{RowsDone, rows_begin, rows_turn}

-- A row of n pixels, of which the first i have the colour.
pub record Stored (c n i : ℕ) (l : List ℕ) : Type 0 where
  pub size : length l ≡ n
  pub front : (k : ℕ) → k < i → get_or l k 0 ≡ c

pub none_stored : (c : ℕ) (l : List ℕ) → Stored c (length l) 0 l
none_stored c l = record { size = refl; front = λ k h. absurd (omega arith) }

module _ {c n i : ℕ} {l : List ℕ} (s : Stored c n i l) where
  -- p pixels from at on, which no gap parts from the first i: a part that was lent and is back
  pub part_stored : (row : List ℕ) (at p : ℕ) → at ≤ i → at + p ≤ n → row ≡ tabulate (length (mid_of at p l)) (λ k. c)
      → Stored c n (at + p) (put_mid at p l row)
  part_stored row at p behind fits is =
      let new = put_painted l row at p (λ k. c) (omega (arith, s.size)) is in
      record {
        size = ap length new ∙ length-painted (within at p) (λ k. c) l ∙ s.size;
        front = λ k h. rw (new, get_or-painted (within at p) (λ k. c) l k (omega (arith, s.size)))
            (cases (within at p k) (λ t. rw t) (λ f. rw f (s.front k (before k h f))));
      }
    where
      before : (k : ℕ) → k < at + p → within at p k ≡ false → k < i
      before k h f = ⊎_elim (λ (b : k < at). omega arith) (λ (b : at + p ≤ k). omega arith) (within_out at p k f)

  pub fewer_stored : (j : ℕ) → j ≤ i → Stored c n j l
  fewer_stored j h = record { size = s.size; front = λ k q. s.front k (omega arith) }

  pub all_stored : n ≤ i → l ≡ tabulate n (λ k. c)
  all_stored h = is_tabulate l n (λ k. c) s.size (λ k q. s.front k (omega arith))

-- ---- the rows of a rectangle: the first j are painted, and row j begins at place at

pub record Begun (width x y w h : ℕ) (f : ℕ → ℕ) (old : List ℕ) (j at : ℕ) (l : List ℕ) : Type 0 where
  pub rows : RowsDone width x y w h (λ k. f (get_or old k 0)) old j l
  pub row : at ≡ (y + j) * width + x

pub begins : {width x y w h at : ℕ} {f : ℕ → ℕ} {old : List ℕ} → at ≡ y * width + x → Begun width x y w h f old 0 at old
begins {y = y} e = let first : y + 0 ≡ y = omega arith in record { rows = rows_begin; row = rw first e }

module _ {width x y w h : ℕ} {f : ℕ → ℕ} {old : List ℕ} {j at : ℕ} {l : List ℕ} (begun : Begun width x y w h f old j at l)
    (in-old : Inside width x y w h (length old)) (more : j < h) where
  -- row j lies in the screen
  pub row_begun : at + w ≤ length old
  row_begun = rw begun.row (row_room in-old more)

  -- a turn paints row j, and the next begins one row's width behind it
  pub turns : (row : List ℕ) → row ≡ tabulate (length (mid_of at (at + w - at) l)) (λ i. f (get_or (mid_of at (at + w - at) l) i 0))
      → Begun width x y w h f old (j + 1) (at + width) (put_mid at (at + w - at) l row)
  turns row is =
      let behind : y + (j + 1) ≡ y + j + 1 = omega arith in
      let painted : row ≡ tabulate (length (mid_of at (at + w - at) l)) (λ i. f (get_or (mid_of at (at + w - at) l) i 0))
      → RowsDone width x y w h (λ k. f (get_or old k 0)) old (j + 1) (put_mid at (at + w - at) l row) =
      rw begun.row (λ is'. rows_turn begun.rows in-old more row _ is' (λ k t stood. ap f stood)) in
      record {
        rows = painted is;
        row = rw behind (omega (arith, begun.row, add-mul (y + j) 1 width, one-mul width));
      }

-- a turn of an update brings row j, which begins at place at
pub update_turn : (framebuffer : List ℕ) {width x y w h : ℕ} {old l : List ℕ} {j at : ℕ} → RowsDone width x y w h (λ k. get_or framebuffer k 0) old j l
    → Inside width x y w h (length old) → Inside width x y w h (length framebuffer) → j < h → at ≡ (y + j) * width + x
    → (row : List ℕ) → row ≡ mid_of at (at + w - at) framebuffer
    → RowsDone width x y w h (λ k. get_or framebuffer k 0) old (j + 1) (put_mid at (at + w - at) l row)
update_turn framebuffer {width} {x} {y} {w} {old = old} {l} {j} rows in-old in-new more e =
    let at : ℕ = (y + j) * width + x in
    let n : at + w - at ≡ w = omega arith in
    let room = row_room in-new more in
    let fits : at + w ≤ length l = omega (arith, row_room in-old more, rows.done.same) in
    rw (e, n) (λ row is.
    let len : length row ≡ length (mid_of at w l) = ap length is ∙ length_mid framebuffer row at w room ∙ sym (length_mid l row at w fits) in
    let table : row ≡ tabulate (length (mid_of at (at + w - at) l)) (λ i. get_or row i 0) = rw (n, ← len) (table_of row) in
    let turn = rw n at (rows_turn rows in-old more row (λ i. get_or row i 0) table) in
    turn (λ k t stood. rw is (get_or_mid_back framebuffer at w room k t)))

-- a single pixel is a rectangle of one row
pub pixel_stored : {width x y : ℕ} (old : List ℕ) (colour : ℕ) {at : ℕ} → Inside width x y 1 1 (length old) → at ≡ y * width + x
    → set old at colour ≡ painted (in_rect width x y 1 1) (λ k. colour) old
pixel_stored {width} {x} {y} old colour in-old e =
    let first : y + 0 ≡ y = omega arith in
    let room : y * width + x + 1 ≤ length old = rw first at (row_room in-old {j = 0} (omega arith)) in
    let below : y * width + x < length old = omega arith in
    let grows = rw first at (rows_grow width x 1 y 0 y 1 _ in-old.across (grow_right y 0 1)) in
    rw e (done_more (rows_none _ _ _ _ _ _) grows _ (λ k. colour) (set_painted old (y * width + x) colour below) (λ k h t. refl)).is
