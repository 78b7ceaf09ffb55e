-- The rows of a rectangle, a row in pieces, and copies of both, from the front or from the back.
-- Assumes nothing.
use mathlib.Core.Path.{◌≡◌, refl, sym, ap, ◌∙◌}
use mathlib.Core.Bool.{Bool, true, false, and-false, true≢false}
use mathlib.Core.Logic.{⊎_elim}
use mathlib.Core.List.{List, []}
use Prim.Native.Nat.{ℕ, ◌+◌, ◌-◌, ◌*◌, ◌/◌, ◌%◌, ◌≤◌, ◌<◌}
use native.Mathlib.Nat.{add-mul, one-mul, mul-le-mul_right, mul_comm, div-eq_of_lt-le, div-add-mod'}
use native.Mathlib.Omega.{arith}
use lib.ListN.{length, get_or, take}
use lib.Seq.{take-append_seam}
use lib.Dec.{eqb, ltb}
use borrow.Author.Tests.{eqb-true, eqb-false, ltb-true, ltb-false}
use borrow.Rule.Slice.PartMut.{mid_of, post_of, put_mid}
use borrow.Table.Steps.{cases}
use Rattle.geometry.specs.Pixels.{place_of, column_of, row_of, within, in_rect, tabulate, painted}
use Rattle.geometry.specs.Parts.{moved, next, done_from, Inside, Ordered, after}
use Rattle.geometry.proofs.Tests.{same_bool, within_in, within_yes, within_before, within_past, within_out}
use Rattle.geometry.proofs.Tabulate.{table_of}
use Rattle.geometry.proofs.Painted.{painted_same, none_painted, length_mid, get_or_mid, get_or_mid_back, put_painted, Adds, Done, done_off, done_more}

-- ---- a pixel and its place

-- "Pixel (x, y) stands at y·width + x", and the pixel at place k is in column k % width and row k / width
module _ (width x y : ℕ) (across : x < width) where
  pub row_of_place : row_of width (place_of width x y) ≡ y
  row_of_place = div-eq_of_lt-le {k = y} width (omega arith) (omega (arith, add-mul y 1 width, one-mul width))

  pub column_of_place : column_of width (place_of width x y) ≡ x
  column_of_place =
      let d : y * width + (y * width + x) % width ≡ y * width + x = rw row_of_place at (div-add-mod' (y * width + x) width) in
      omega arith

pub place_of_pixel : (width k : ℕ) → place_of width (column_of width k) (row_of width k) ≡ k
place_of_pixel width k = div-add-mod' k width

-- ---- places in a row

-- w by h pixels at (x, y) that end within the width and the rows
pub inside : (width rows x y w h n : ℕ) → x + w ≤ width → y + h ≤ rows → width * rows ≤ n → Inside width x y w h n
inside width rows x y w h n across down long =
    let d : (y + h) * width ≤ rows * width = mul-le-mul_right width down in
    record { across = across; down = omega (arith, mul_comm width rows) }

-- row j of a rectangle lies in the list
pub row_room : {width x y w h n : ℕ} → Inside width x y w h n → {j : ℕ} → j < h → (y + j) * width + x + w ≤ n
row_room {width} {x} {y} {w} {h} i {j} c =
    let d : (y + j + 1) * width ≤ (y + h) * width = mul-le-mul_right width (omega arith) in
    omega (arith, add-mul (y + j) 1 width, one-mul width)

-- place k stands in columns x to x + w of row r exactly if it is one of the w places from r * width + x on
module _ (width x w r k : ℕ) (across : x + w ≤ width) where
  pub row_in : within (r * width + x) w k ≡ true → (k / width ≡ r) × (within x w (k % width) ≡ true)
  row_in e =
      let b = within_in (r * width + x) w k e in
      let q : k / width ≡ r = div-eq_of_lt-le {k = r} width (omega arith) (omega (arith, add-mul r 1 width, one-mul width)) in
      let d : r * width + k % width ≡ k = rw q at (div-add-mod' k width) in
      (q, within_yes x w (k % width) (omega arith) (omega arith))

  row_out : within (r * width + x) w k ≡ false → within x w (k % width) ≡ true → k / width ≡ r → ⊥
  row_out e m q =
      let b = within_in x w (k % width) m in
      let d : r * width + k % width ≡ k = rw q at (div-add-mod' k width) in
      let z : within (r * width + x) w k ≡ true = within_yes (r * width + x) w k (omega arith) (omega arith) in
      true≢false cc

-- ---- growth: k more behind the n from a on, k more before them, and the next k of n

pub grow_right : (a n k : ℕ) → Adds (within a n) (within a (n + k)) (a + n) k
grow_right a n k = record {
  here = λ p t. let b = within_in (a + n) k p t in within_yes a (n + k) p (omega arith) (omega arith);
  off = λ p t. let b = within_in (a + n) k p t in within_past a n p (omega arith);
  rest = λ p f. ⊎_elim
      (λ (b : p < a + n). same_bool (within a (n + k) p) (within a n p)
      (λ e. let i = within_in a (n + k) p e in within_yes a n p i.0 b)
      (λ e. let i = within_in a n p e in within_yes a (n + k) p i.0 (omega arith)))
      (λ (b : a + n + k ≤ p). rw (within_past a (n + k) p (omega arith), within_past a n p (omega arith)))
      (within_out (a + n) k p f);
}

grow_left : (a n k : ℕ) → Adds (within (a + k) n) (within a (n + k)) a k
grow_left a n k = record {
  here = λ p t. let b = within_in a k p t in within_yes a (n + k) p b.0 (omega arith);
  off = λ p t. let b = within_in a k p t in within_before (a + k) n p b.1;
  rest = λ p f. ⊎_elim
      (λ (b : p < a). rw (within_before a (n + k) p b, within_before (a + k) n p (omega arith)))
      (λ (b : a + k ≤ p). same_bool (within a (n + k) p) (within (a + k) n p)
      (λ e. let i = within_in a (n + k) p e in within_yes (a + k) n p b (omega arith))
      (λ e. let i = within_in (a + k) n p e in within_yes a (n + k) p (omega arith) (omega arith)))
      (within_out a k p f);
}

pub grow_next : (back : Bool) (a n done k : ℕ) → done + k ≤ n
    → Adds (within (a + done_from back n done) done) (within (a + done_from back n (done + k)) (done + k)) (a + next back n done k) k
grow_next true a n done k h =
    let e : a + (n - (done + k)) + k ≡ a + (n - done) = omega arith in
    let f : a + (n - (done + k)) ≡ a + (n - done - k) = omega arith in
    rw f (rw (e, f) at (grow_left (a + (n - (done + k))) done k))
grow_next false a n done k h = let e : a + 0 ≡ a = omega arith in rw e (grow_right a done k)

all_done : (back : Bool) (a n : ℕ) → a + done_from back n n ≡ a
all_done true a n = omega arith
all_done false a n = omega arith

-- rows: one row more
pub rows_grow : (width x w y₁ h₁ y₂ h₂ r : ℕ) → x + w ≤ width → Adds (within y₁ h₁) (within y₂ h₂) r 1
    → Adds (in_rect width x y₁ w h₁) (in_rect width x y₂ w h₂) (r * width + x) w
unfolding in_rect
rows_grow width x w y₁ h₁ y₂ h₂ r across grows =
    let own : within r 1 r ≡ true = within_yes r 1 r (omega arith) (omega arith) in
    record {
      here = λ k t. let i = row_in width x w r k across t in rw (i.1, i.0) (grows.here r own);
      off = λ k t. let i = row_in width x w r k across t in rw (i.1, i.0) (grows.off r own);
      rest = λ k f. cases (within x w (k % width))
          (λ t. rw t (grows.rest (k / width) (other (k / width) (row_out width x w r k across f t))))
          (λ g. rw g);
    }
  where
    other : (q : ℕ) → (q ≡ r → ⊥) → within r 1 q ≡ false
    other q ne = cases (within r 1 q) (λ t. let b = within_in r 1 q t in absurd (ne (omega arith))) (λ f. f)

-- nothing painted yet
within_none : (a k : ℕ) → within a 0 k ≡ false
within_none a k = cases (within a 0 k) (λ t. let b = within_in a 0 k t in absurd (omega arith)) (λ f. f)

pub none_done : (a : ℕ) (new : ℕ → ℕ) (old : List ℕ) → Done (within a 0) new old old
none_done a new old = record { same = refl; is = sym (none_painted (within a 0) new old (λ k h. within_none a k)) }

pub rows_none : (width x y w : ℕ) (new : ℕ → ℕ) (old : List ℕ) → Done (in_rect width x y w 0) new old old
unfolding in_rect
rows_none width x y w new old = record {
  same = refl;
  is = sym (none_painted (in_rect width x y w 0) new old (λ k h. rw (within_none y (k / width), and-false)));
}

-- ---- copies

-- the line is the source, and the destination was lent and is back as row
pub row_moved : (s line row : List ℕ) (from to n : ℕ) (f : ℕ → ℕ → ℕ) → from + n ≤ length s → to + n ≤ length s
    → line ≡ mid_of from n s
    → row ≡ tabulate (length (mid_of to n s)) (λ i. f (get_or line i 0) (get_or (mid_of to n s) i 0))
    → put_mid to n s row ≡ moved from to n f s
unfolding moved
row_moved s line row from to n f hf ht is-line is_row =
    put_painted s row to n _ ht is_row
    ∙ painted_same (within to n) _ _ s (λ k h t.
    let b = within_in to n k t in
    let e : from + (k - to) ≡ k - to + from = omega arith in
    let p : get_or line (k - to) 0 ≡ get_or s (k - to + from) 0 = rw (is-line, get_or_mid s [] from n hf (k - to) (omega arith), e) in
    rw (p, get_or_mid_back s to n ht k t))

-- the source goes through the front of a line
pub line_moved : (s line₀ line row : List ℕ) (from to n : ℕ) → from + n ≤ length s → to + n ≤ length s
    → line ≡ mid_of from n s → row ≡ take n (put_mid 0 n line₀ line) → put_mid to n s row ≡ moved from to n (λ s d. s) s
line_moved s line₀ line row from to n hf ht is-line is-row =
    let len : length line ≡ n = ap length is-line ∙ length_mid s [] from n hf in
    let same : row ≡ line = is-row ∙ (rw len at (take-append_seam line (post_of 0 n line₀))) in
    let table : row ≡ tabulate (length (mid_of to n s)) (λ i. get_or line i 0) = rw (same, length_mid s [] to n ht, ← len) (table_of line) in
    row_moved s line row from to n (λ s d. s) hf ht is-line table

-- no pixel moves
pub none_moved : (from to : ℕ) (f : ℕ → ℕ → ℕ) (s : List ℕ) → s ≡ moved from to 0 f s
unfolding moved
none_moved from to f s =
    sym (none_painted _ _ s (λ k h. cases (within to 0 k) (λ t. let b = within_in to 0 k t in absurd (omega arith)) (λ o. o)))

-- the next k of the sources are none of the destinations done so far
apart : (back : Bool) (from to n done k p : ℕ) → Ordered back from to → done + k ≤ n → within (from + next back n done k) k p ≡ true
    → within (to + done_from back n done) done p ≡ false
apart true from to n done k p o h t = let b = within_in (from + (n - done - k)) k p t in within_before (to + (n - done)) done p (omega arith)
apart false from to n done k p o h t = let b = within_in (from + done) k p t in within_past (to + 0) done p (omega arith)

pub next_fits : (back : Bool) (n done k i : ℕ) → i ≡ next back n done k → done + k ≤ n → i + k ≤ n
next_fits true n done k i e h = omega arith
next_fits false n done k i e h = omega arith

-- what moving a row puts at place p
abbrev pub moved_at : ℕ → ℕ → (ℕ → ℕ → ℕ) → List ℕ → ℕ → ℕ
moved_at from to f old p = f (get_or old (p - to + from) 0) (get_or old p 0)

-- the next piece of a row
pub piece_moved : (back : Bool) (from to n done k : ℕ) (f : ℕ → ℕ → ℕ) (old l : List ℕ) → Ordered back from to
    → Done (within (to + done_from back n done) done) (moved_at from to f old) old l → done + k ≤ n → from + n ≤ length old
    → (later : List ℕ) → later ≡ moved (from + next back n done k) (to + next back n done k) k f l
    → Done (within (to + done_from back n (done + k)) (done + k)) (moved_at from to f old) old later
unfolding moved
piece_moved back from to n done k f old l o so_far h fits later is =
    let i = next back n done k in
    let grows = grow_next back to n done k h in
    done_more so_far grows later _ is (λ p lt t.
    let b = within_in (to + i) k p t in
    let r = next_fits back n done k i refl h in
    let e : p - (to + i) + (from + i) ≡ p - to + from = omega arith in
    let off = apart back from to n done k (p - to + from) o h (within_yes (from + i) k (p - to + from) (omega arith) (omega arith)) in
    rw (e, done_off so_far (p - to + from) (omega arith) off, done_off so_far p lt (grows.off p t)))

-- all pieces
pub pieces_done : (back : Bool) (from to n done : ℕ) (f : ℕ → ℕ → ℕ) (old l : List ℕ) → done ≡ n
    → Done (within (to + done_from back n done) done) (moved_at from to f old) old l → l ≡ moved from to n f old
unfolding moved
pieces_done back from to n done f old l e all = rw (e, all_done) at all.is

-- what a copy puts at place k
abbrev pub copied_at : ℕ → ℕ → ℕ → ℕ → ℕ → (ℕ → ℕ → ℕ) → List ℕ → ℕ → ℕ
copied_at width sx sy x y f old k = f (get_or old (place_of width (sx + (column_of width k - x)) (sy + (row_of width k - y))) 0) (get_or old k 0)

-- the order of rows, and in each row
module _ (back : Bool) (sx sy x y : ℕ) (is : back ≡ after sx sy x y) where
  pub rows_ordered : Ordered back sy y
  rows_ordered =
      rw is
      (cases (eqb sy y)
      (λ t. rw t (let e = eqb-true sy y t in cases (ltb sx x) (λ l. rw l (omega arith)) (λ g. rw g (omega arith))))
      (λ n. rw n (cases (ltb sy y) (λ l. rw l (let o = ltb-true sy y l in omega arith)) (λ g. rw g (ltb-false sy y g)))))

  pub places_ordered : (width j : ℕ) → sx ≤ width → x ≤ width → Ordered back ((sy + j) * width + sx) ((y + j) * width + x)
  places_ordered width j a b =
      rw is
      (cases (eqb sy y)
      (λ t. rw (t, eqb-true sy y t)
      (cases (ltb sx x) (λ l. rw l (let o = ltb-true sx x l in omega arith)) (λ g. rw g (let o = ltb-false sx x g in omega arith))))
      (λ n. rw n
      (let ne = eqb-false sy y n in
      cases (ltb sy y) (λ l. rw l (let o = ltb-true sy y l in below sx sy x y a (omega arith))) (λ g. rw g (let o = ltb-false sy y g in below x y sx sy b (omega arith))))))
    where
      below : (u v p q : ℕ) → u ≤ width → v < q → (v + j) * width + u ≤ (q + j) * width + p
      below u v p q c h =
          let d : (v + j + 1) * width ≤ (q + j) * width = mul-le-mul_right width (omega arith) in
          omega (arith, add-mul (v + j) 1 width, one-mul width)

-- the next row of a copy
pub row_copied : (back : Bool) (width sx sy x y w h done : ℕ) (f : ℕ → ℕ → ℕ) (old l : List ℕ) → Ordered back sy y
    → Done (in_rect width x (y + done_from back h done) w done) (copied_at width sx sy x y f old) old l
    → done + 1 ≤ h → Inside width x y w h (length old) → Inside width sx sy w h (length old)
    → (later : List ℕ)
    → later ≡ moved ((sy + next back h done 1) * width + sx) ((y + next back h done 1) * width + x) w f l
    → Done (in_rect width x (y + done_from back h (done + 1)) w (done + 1)) (copied_at width sx sy x y f old) old later
unfolding moved in_rect
row_copied back width sx sy x y w h done f old l o so_far more to_in from_in later is =
    let j = next back h done 1 in
    let fits = next_fits back h done 1 j refl more in
    let grows = rows_grow width x w _ done _ (done + 1) (y + j) to_in.across (grow_next back y h done 1 more) in
    let room = row_room from_in {j = j} (omega arith) in
    done_more so_far grows later _ is (λ k lt t.
    let from = (sy + j) * width + sx in
    let to = (y + j) * width + x in
    let b = within_in to w k t in
    let r = row_in width x w (y + j) k to_in.across t in
    let d : (y + j) * width + k % width ≡ k = rw r.0 at (div-add-mod' k width) in
    let m = within_in x w (k % width) r.1 in
    let g : sy + (y + j - y) ≡ sy + j = omega arith in
    let e : k - to + from ≡ (sy + j) * width + (sx + (k % width - x)) = omega arith in
    let s = row_in width sx w (sy + j) (k - to + from) from_in.across (within_yes from w (k - to + from) (omega arith) (omega arith)) in
    let off = apart back sy y h done 1 (sy + j) o more (within_yes (sy + j) 1 (sy + j) (omega arith) (omega arith)) in
    rw (done_off so_far (k - to + from) (omega arith) (rw (s.0, off, and-false)), done_off so_far k lt (grows.off k t), e, r.0, g))

-- all rows
pub rows_done : (back : Bool) (width x y w h done : ℕ) (new : ℕ → ℕ) (old l : List ℕ) → done ≡ h
    → Done (in_rect width x (y + done_from back h done) w done) new old l → l ≡ painted (in_rect width x y w h) new old
rows_done back width x y w h done new old l e all = rw (e, all_done) at all.is
