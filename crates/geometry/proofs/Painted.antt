-- Laws of `painted`: single pixels, a part that was lent and is back, and a region that grows.
-- Assumes nothing.
use mathlib.Core.Path.{◌≡◌, refl, sym, ap, ◌∙◌}
use mathlib.Core.Bool.{Bool, true, false, cond}
use mathlib.Core.Logic.{⊎_elim}
use mathlib.Core.List.{List, [], ◌++◌}
use Prim.Native.Nat.{ℕ, ◌+◌, ◌-◌, ◌≤◌, ◌<◌}
use native.Mathlib.Omega.{arith}
use lib.ListN.{length, get_or, set, take, length-set, length-take, length-drop, get_or-append}
use Rattle.std.proofs.Common.{◌≢◌}
use Rattle.std.proofs.lemmas.List.{get_or-set_same, get_or-set_other}
use lib.Seq.{get_or-drop, get_or-take, get_or-append-add, length-take-le}
use borrow.Rule.Slice.PartMut.{mid_of, post_of, put_mid, same_len_mid}
use borrow.Table.Steps.{cases}
use Rattle.geometry.specs.Pixels.{within, tabulate, painted, painted_if}
use Rattle.geometry.proofs.Tests.{within_in, within_out}
use Rattle.geometry.proofs.Tabulate.{length-tabulate, get_or-tabulate, is_tabulate}

pub length-painted : (inside : ℕ → Bool) (new : ℕ → ℕ) (old : List ℕ) → length (painted inside new old) ≡ length old
unfolding painted
length-painted inside new old = length-tabulate (length old) _

pub get_or-painted : (inside : ℕ → Bool) (new : ℕ → ℕ) (old : List ℕ) (k : ℕ) → k < length old
    → get_or (painted inside new old) k 0 ≡ cond (inside k) (new k) (get_or old k 0)
unfolding painted
get_or-painted inside new old k h = get_or-tabulate (length old) _ k h

pub is_painted : (inside : ℕ → Bool) (new : ℕ → ℕ) (old l : List ℕ) → length l ≡ length old
    → ((k : ℕ) → k < length old → get_or l k 0 ≡ cond (inside k) (new k) (get_or old k 0)) → l ≡ painted inside new old
unfolding painted
is_painted inside new old l e h = is_tabulate l (length old) _ e h

pub painted_same : (R : ℕ → Bool) (f g : ℕ → ℕ) (old : List ℕ) → ((k : ℕ) → k < length old → R k ≡ true → f k ≡ g k) → painted R f old ≡ painted R g old
painted_same R f g old each =
    is_painted R g old (painted R f old) (length-painted R f old)
    (λ k h. get_or-painted R f old k h ∙ cases (R k) (λ t. rw (t, each k h t)) (λ e. rw e))

pub painted_region : (R Q : ℕ → Bool) (new : ℕ → ℕ) (old : List ℕ) → ((k : ℕ) → k < length old → R k ≡ Q k) → painted R new old ≡ painted Q new old
painted_region R Q new old each = is_painted Q new old (painted R new old) (length-painted R new old) (λ k h. get_or-painted R new old k h ∙ rw (each k h))

pub none_painted : (R : ℕ → Bool) (new : ℕ → ℕ) (old : List ℕ) → ((k : ℕ) → k < length old → R k ≡ false) → painted R new old ≡ old
none_painted R new old off = sym (is_painted R new old old refl (λ k h. rw (off k h)))

-- ---- a painter that may be refused

module _ (fits : Bool) (R : ℕ → Bool) (new : ℕ → ℕ) (old : List ℕ) where
  pub painted_if_lem : fits ≡ true → painted_if fits R new old ≡ painted R new old
  unfolding painted_if
  painted_if_lem t = rw t

  pub refused_if : fits ≡ false → painted_if fits R new old ≡ old
  unfolding painted_if
  refused_if f = rw f

  pub length-painted_if : length (painted_if fits R new old) ≡ length old
  length-painted_if = cases fits (λ t. rw (painted_if_lem t) (length-painted R new old)) (λ f. rw (refused_if f))

  pub outside_if : (k : ℕ) → k < length old → R k ≡ false → get_or (painted_if fits R new old) k 0 ≡ get_or old k 0
  outside_if k h off = cases fits (λ t. rw (painted_if_lem t) (get_or-painted R new old k h ∙ rw off)) (λ f. rw (refused_if f))

  pub same_if : ((k : ℕ) → k < length old → new k ≡ get_or old k 0) → painted_if fits R new old ≡ old
  same_if each =
      cases fits
      (λ t. painted_if_lem t ∙ sym (is_painted R new old old refl (λ k h. rw (each k h) (cases (R k) (λ e. rw e) (λ e. rw e)))))
      refused_if

-- ---- a part of a slice that was lent and is back: `mid_of a n l` is the part, and `put_mid a n l row` the slice with row in its place

get_or_past : (xs ys : List ℕ) (k : ℕ) → length xs ≤ k → get_or (xs ++ ys) k 0 ≡ get_or ys (k - length xs) 0
get_or_past xs ys k h =
    let e : length xs + (k - length xs) ≡ k = omega arith in
    rw e at (get_or-append-add xs ys (k - length xs) 0)

module _ (l row : List ℕ) (a n : ℕ) (fits : a + n ≤ length l) where
  pub length_mid : length (mid_of a n l) ≡ n
  length_mid = simp (length-take, length-drop) (omega arith)

  pub get_or_mid : (i : ℕ) → i < n → get_or (mid_of a n l) i 0 ≡ get_or l (a + i) 0
  get_or_mid i h = rw (get_or-take, get_or-drop)

  pub get_or-put_in : length row ≡ n → (k : ℕ) → a ≤ k → k < a + n → get_or (put_mid a n l row) k 0 ≡ get_or row (k - a) 0
  get_or-put_in e k lo hi =
      let f : length (take a l) ≡ a = length-take-le a l (omega arith) in
      get_or_past (take a l) (row ++ post_of a n l) k (omega arith) ∙ rw f (get_or-append row (post_of a n l) 0 (k - a) (omega arith))

  pub get_or_put_out : length row ≡ n → (k : ℕ) → within a n k ≡ false → get_or (put_mid a n l row) k 0 ≡ get_or l k 0
  get_or_put_out e k o =
      let f : length (take a l) ≡ a = length-take-le a l (omega arith) in
      ⊎_elim
      (λ (b : k < a). get_or-append (take a l) (row ++ post_of a n l) 0 k (omega arith) ∙ get_or-take a l k 0 b)
      (λ (b : a + n ≤ k).
      let g : a + (n + (k - a - n)) ≡ k = omega arith in
      get_or_past (take a l) (row ++ post_of a n l) k (omega arith)
      ∙ rw f (get_or_past row (post_of a n l) (k - a) (omega arith) ∙ rw (e, get_or-drop, get_or-drop, g)))
      (within_out a n k o)

-- the part's element that place k is
pub get_or_mid_back : (l : List ℕ) (a n : ℕ) → a + n ≤ length l → (k : ℕ) → within a n k ≡ true → get_or (mid_of a n l) (k - a) 0 ≡ get_or l k 0
get_or_mid_back l a n fits k t =
    let b = within_in a n k t in
    let e : a + (k - a) ≡ k = omega arith in
    rw e at (get_or_mid l [] a n fits (k - a) (omega arith))

-- ---- painting a part more: the region grows from R to Q by the n places from a on

pub record Adds (R Q : ℕ → Bool) (a n : ℕ) : Type 0 where
  pub here : (k : ℕ) → within a n k ≡ true → Q k ≡ true
  pub off : (k : ℕ) → within a n k ≡ true → R k ≡ false
  pub rest : (k : ℕ) → within a n k ≡ false → Q k ≡ R k

-- a part that is back, painted
pub put_painted : (l row : List ℕ) (a n : ℕ) (g : ℕ → ℕ) → a + n ≤ length l → row ≡ tabulate (length (mid_of a n l)) g
    → put_mid a n l row ≡ painted (within a n) (λ k. g (k - a)) l
put_painted l row a n g fit is =
    let is-n : row ≡ tabulate n g = rw (length_mid l row a n fit) at is in
    let len : length row ≡ n = ap length is-n ∙ length-tabulate n g in
    is_painted (within a n) _ l (put_mid a n l row) (same_len_mid a n l row (len ∙ sym (length_mid l row a n fit)))
    (λ k h. cases (within a n k)
    (λ t.
    let b = within_in a n k t in
    get_or-put_in l row a n fit len k b.0 b.1 ∙ rw (is-n, get_or-tabulate n g (k - a) (omega arith), t))
    (λ f. get_or_put_out l row a n fit len k f ∙ rw f))

-- a single place that is set
pub set_painted : (l : List ℕ) (a v : ℕ) → a < length l → set l a v ≡ painted (within a 1) (λ k. v) l
set_painted l a v h =
    is_painted (within a 1) (λ k. v) l (set l a v) (length-set l a v)
    (λ k lt. cases (within a 1 k)
    (λ t.
    let b = within_in a 1 k t in
    let e : k ≡ a = omega arith in
    rw (t, e) (get_or-set_same l a v 0 h))
    (λ f.
    let other : k ≢ a = ⊎_elim (λ (b : k < a). λ e. omega arith) (λ (b : a + 1 ≤ k). λ e. omega arith) (within_out a 1 k f) in
    rw f (get_or-set_other l a k v 0 other)))

-- a painter's loop, of which l is the screen so far: its invariant, and what a turn asks
pub record Done (R : ℕ → Bool) (new : ℕ → ℕ) (old l : List ℕ) : Type 0 where
  pub same : length l ≡ length old
  pub is : l ≡ painted R new old

module _ {R : ℕ → Bool} {new : ℕ → ℕ} {old l : List ℕ} (done : Done R new old l) where
  -- outside the region nothing has changed
  pub done_off : (k : ℕ) → k < length old → R k ≡ false → get_or l k 0 ≡ get_or old k 0
  done_off k h f = rw (done.is, get_or-painted R new old k h, f)

  -- a turn that paints the n places from a on
  pub done_more : {Q : ℕ → Bool} {a n : ℕ} → Adds R Q a n → (next : List ℕ) (new' : ℕ → ℕ) → next ≡ painted (within a n) new' l
      → ((k : ℕ) → k < length old → within a n k ≡ true → new' k ≡ new k) → Done Q new old next
  done_more {Q} {a} {n} grows next new' is each =
      let same : length next ≡ length old = ap length is ∙ length-painted (within a n) new' l ∙ done.same in
      record {
        same = same;
        is = is_painted Q new old next same (λ k h. rw (is, get_or-painted (within a n) new' l k (omega (arith, done.same)))
            (cases (within a n k)
            (λ t. rw (t, each k h t, grows.here k t))
            (λ f. rw (f, done.is, get_or-painted R new old k h, grows.rest k f))));
      }

  -- a turn that lends the part and gets it back as row
  pub done_row : {Q : ℕ → Bool} {a n : ℕ} → Adds R Q a n → a + n ≤ length old → (row : List ℕ) (g : ℕ → ℕ) → row ≡ tabulate (length (mid_of a n l)) g
      → ((k : ℕ) → k < length old → within a n k ≡ true → g (k - a) ≡ new k) → Done Q new old (put_mid a n l row)
  done_row grows fits row g is each = done_more grows _ _ (put_painted l row _ _ g (omega (arith, done.same)) is) each

  -- the part as it was lent, at place k
  pub done_part : {Q : ℕ → Bool} {a n : ℕ} → Adds R Q a n → a + n ≤ length old → (k : ℕ) → k < length old → within a n k ≡ true
      → get_or (mid_of a n l) (k - a) 0 ≡ get_or old k 0
  done_part {Q} {a} {n} grows fits k h t = get_or_mid_back l a n (omega (arith, done.same)) k t ∙ done_off k h (grows.off k t)
