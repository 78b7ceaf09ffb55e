-- From integers to natural numbers: what is covered is the rectangle of the two spans, and where the cursor's pixels then are.
-- Assumes nothing.
use mathlib.Core.Path.{◌≡◌, refl, sym, ap, ◌∙◌}
use mathlib.Core.Bool.{true, false, ◌&&◌, and-false, true≢false}
use mathlib.Core.Logic.{◌⊎◌, inl, inr, ⊎_elim}
use mathlib.Core.List.{List, []}
use Prim.Native.Nat.{ℕ, zero, suc, ◌+◌, ◌-◌, ◌*◌, ◌/◌, ◌%◌, ◌≤◌, ◌<◌, min}
use native.Mathlib.Nat.{mod-lt, div-add-mod'}
use native.Mathlib.Omega.{arith}
use lib.Dec.{ltb, leb}
use lib.IntN.{ℤ, pos, negsuc, nat_abs}
use lib.Signed.{lt_z}
use lib.ListN.{length, get_or}
use borrow.Author.Tests.{ltb-true, ltb-false, leb-true, leb-false, lt-ltb, le-ltb}
use borrow.Rule.Slice.PartMut.{mid_of}
use borrow.Table.Steps.{cases}
use Rattle.geometry.specs.Pixels.{place_of, within, in_rect}
use Rattle.geometry.specs.Parts.{Inside}
use Rattle.geometry.proofs.Tests.{both, same_bool, within_in, within_yes, within_past}
use Rattle.geometry.proofs.Painted.{get_or_mid, painted_same, painted_region, painted_if_lem, refused_if}
use Rattle.geometry.proofs.Rows.{inside, row_in}
use Rattle.pixel.specs.Blend.{blend_pixel}
use Rattle.cursor.specs.declared.Shape.{Shape}
use Rattle.cursor.specs.declared.Span.{Span}
use Rattle.cursor.specs.Plane.{corner_of, offset_at, covers, covered, cursor_pixel, overlay_fits, overlaid}
use Rattle.cursor.specs.Spans.{span, at_of, skip_of, span_from, overlaid_visible}

-- ---- one axis

-- a corner before the picture, and one that is not, as its test says
pub before : (z : ℤ) → lt_z z (pos 0) ≡ true → (at_of z ≡ 0) × (skip_of z ≡ nat_abs z)
before (pos a) t = absurd (let b = ltb-true a 0 t in omega arith)
before (negsuc b) t = (refl, refl)

pub beyond : (z : ℤ) → lt_z z (pos 0) ≡ false → (at_of z ≡ nat_abs z) × (skip_of z ≡ 0)
beyond (pos a) f = (refl, refl)
beyond (negsuc b) f = absurd (true≢false cc)

-- before the corner the cursor has no column, and from there on they count up
offset_cases : {P : Type 0} (z : ℤ) (k : ℕ) → (k < at_of z → lt_z (offset_at z k) (pos 0) ≡ true → P)
    → (at_of z ≤ k → offset_at z k ≡ pos (k - at_of z + skip_of z) → P) → P
offset_cases (pos zero) k out there = there (omega arith) (ap pos (omega arith))
offset_cases (pos (suc a)) k out there =
    cases (ltb k (suc a)) (λ t. out (ltb-true k (suc a) t) (rw t)) (λ f. there (ltb-false k (suc a) f) (rw f (ap pos (omega arith))))
offset_cases (negsuc b) k out there = there (omega arith) (ap pos (omega arith))

-- the cursor covers k: k is not before the corner, and its column there is one of the cursor's
record OnCursor (z : ℤ) (size k : ℕ) : Type 0 where
  from : at_of z ≤ k
  ends : k - at_of z + skip_of z < size
  offset : offset_at z k ≡ pos (k - at_of z + skip_of z)

on_cursor : (z : ℤ) (size k : ℕ) → covers z size k ≡ true → OnCursor z size k
unfolding covers
on_cursor z size k t =
    offset_cases z k
    (λ l e. absurd (let u = rw e at t in true≢false cc))
    (λ g e.
    let b = rw (e, le-ltb (k - at_of z + skip_of z) 0 (omega arith)) at t in
    record { from = g; ends = ltb-true (k - at_of z + skip_of z) size b; offset = e })

is_on_cursor : (z : ℤ) (size k : ℕ) → at_of z ≤ k → k - at_of z + skip_of z < size → covers z size k ≡ true
unfolding covers
is_on_cursor z size k g h =
    offset_cases z k
    (λ l e. absurd (omega arith))
    (λ _ e. rw (e, le-ltb (k - at_of z + skip_of z) 0 (omega arith), lt-ltb (k - at_of z + skip_of z) size h))

-- its column there is below its size
pub covers_below : (z : ℤ) (size k : ℕ) → covers z size k ≡ true → nat_abs (offset_at z k) < size
covers_below z size k t = let v = on_cursor z size k t in rw v.offset v.ends

-- the span of a cursor: nothing, or from the corner on
span_cases : (z : ℤ) (size limit : ℕ) (P : Span → Type 0) → ((limit ≤ at_of z) ⊎ (size ≤ skip_of z) → P (span 0 0 0))
    → (at_of z < limit → skip_of z < size → P (span (at_of z) (skip_of z) (min (size - skip_of z) (limit - at_of z)))) → P (span_from z size limit)
unfolding span_from
span_cases z size limit P none some =
    cases (leb limit (at_of z))
    (λ t. rw t (none (inl (leb-true limit (at_of z) t))))
    (λ f. rw f (cases (leb size (skip_of z))
    (λ t. rw t (none (inr (leb-true size (skip_of z) t))))
    (λ g. rw g (some (leb-false limit (at_of z) f) (leb-false size (skip_of z) g)))))

-- it lies below the limit and in the cursor
pub span_fits : (z : ℤ) (size limit : ℕ)
    → ((span_from z size limit).at + (span_from z size limit).n ≤ limit) × ((span_from z size limit).skip + (span_from z size limit).n ≤ size)
span_fits z size limit =
    span_cases z size limit (λ s. (s.at + s.n ≤ limit) × (s.skip + s.n ≤ size)) (λ _. (omega arith, omega arith)) (λ a b. (omega arith, omega arith))

module _ (z : ℤ) (size limit k : ℕ) (below : k < limit) where
  -- the columns of the span are those that are covered
  pub covers_span : covers z size k ≡ within (span_from z size limit).at (span_from z size limit).n k
  covers_span =
      span_cases z size limit (λ s. covers z size k ≡ within s.at s.n k)
      (λ o. cases (covers z size k)
      (λ t. let v = on_cursor z size k t in absurd (⊎_elim (λ (e : limit ≤ at_of z). omega arith) (λ (e : size ≤ skip_of z). omega arith) o))
      (λ f. f ∙ sym (within_past 0 0 k (omega arith))))
      (λ a b. same_bool _ _
      (λ t. let v = on_cursor z size k t in within_yes _ _ k v.from (omega (arith, v.ends)))
      (λ t. let i = within_in _ _ k t in is_on_cursor z size k i.0 (omega arith)))

  -- and there the cursor's column counts from skip on
  pub offset_span : covers z size k ≡ true → nat_abs (offset_at z k) ≡ k - (span_from z size limit).at + (span_from z size limit).skip
  offset_span t =
      let v = on_cursor z size k t in
      span_cases z size limit (λ s. nat_abs (offset_at z k) ≡ k - s.at + s.skip)
      (λ o. absurd (⊎_elim (λ (e : limit ≤ at_of z). omega arith) (λ (e : size ≤ skip_of z). omega arith) o))
      (λ a b. rw v.offset)

-- ---- the picture

-- the pixel of the cursor over place k, by the two spans
abbrev pub visible_pixel : ℕ → ℕ → Span → Span → List ℕ → ℕ → ℕ
visible_pixel width w columns lines image k = get_or image (place_of w (k % width - columns.at + columns.skip) (k / width - lines.at + lines.skip)) 0

-- in row j the part of the image that is lent has, over each place k of the part of the picture, the cursor's pixel
pub row_visible : (width w : ℕ) (columns lines : Span) (image : List ℕ) (j k : ℕ) → columns.at + columns.n ≤ width
    → (lines.skip + j) * w + columns.skip + columns.n ≤ length image → within ((lines.at + j) * width + columns.at) columns.n k ≡ true
    → get_or (mid_of ((lines.skip + j) * w + columns.skip) columns.n image) (k - ((lines.at + j) * width + columns.at)) 0
    ≡ visible_pixel width w columns lines image k
row_visible width w columns lines image j k across fits t =
    let to = (lines.at + j) * width + columns.at in
    let b = within_in to columns.n k t in
    let r = row_in width columns.at columns.n (lines.at + j) k across t in
    let m = within_in columns.at columns.n (k % width) r.1 in
    let d : (lines.at + j) * width + k % width ≡ k = rw r.0 at (div-add-mod' k width) in
    let e : lines.at + j - lines.at + lines.skip ≡ lines.skip + j = omega arith in
    let p : (lines.skip + j) * w + columns.skip + (k - to) ≡ (lines.skip + j) * w + (k % width - columns.at + columns.skip) = omega arith in
    get_or_mid image [] _ columns.n fits (k - to) (omega arith) ∙ rw (r.0, e, p)

-- what fits
pub record Fit (width rows : ℕ) (s : Shape) (pixels words : ℕ) : Type 0 where
  pub wide : 0 < width
  pub long : width * rows ≤ pixels
  pub whole : s.w * s.h ≤ words

pub overlay_fit : (width rows : ℕ) (s : Shape) (pixels words : ℕ) → overlay_fits width rows s pixels words ≡ true → Fit width rows s pixels words
unfolding overlay_fits
overlay_fit width rows s pixels words t =
    let a = both (ltb 0 width) (leb (width * rows) pixels && leb (s.w * s.h) words) t in
    let b = both (leb (width * rows) pixels) (leb (s.w * s.h) words) a.1 in
    record { wide = ltb-true 0 width a.0; long = leb-true _ _ b.0; whole = leb-true _ _ b.1 }

module _ (width rows : ℕ) (s : Shape) (x y : ℕ) (image old : List ℕ) where
  abbrev columns : Span
  columns = span_from (corner_of x s.hotx) s.w width

  abbrev lines : Span
  lines = span_from (corner_of y s.hoty) s.h rows

  -- what is covered is the rectangle of the two spans
  pub covered_rect : 0 < width → (k : ℕ) → covered width rows s x y k ≡ in_rect width columns.at lines.at columns.n lines.n k
  unfolding covered in_rect
  covered_rect wide k =
      cases (ltb (k / width) rows)
      (λ t. rw (
        t,
        covers_span (corner_of x s.hotx) s.w width (k % width) (mod-lt k wide),
        covers_span (corner_of y s.hoty) s.h rows (k / width) (ltb-true (k / width) rows t),
      ))
      (λ f.
      let u = (span_fits (corner_of y s.hoty) s.h rows).0 in
      let g = ltb-false (k / width) rows f in
      rw (f, within_past lines.at lines.n (k / width) (omega arith), and-false))

  -- and there the cursor's pixel is that of the spans
  pub covered_pixel : 0 < width → (k : ℕ) → covered width rows s x y k ≡ true
      → cursor_pixel width s x y image k ≡ visible_pixel width s.w columns lines image k
  unfolding covered cursor_pixel
  covered_pixel wide k t =
      let a = both (ltb (k / width) rows) _ t in
      let b = both (covers (corner_of x s.hotx) s.w (k % width)) (covers (corner_of y s.hoty) s.h (k / width)) a.1 in
      rw (
        offset_span (corner_of x s.hotx) s.w width (k % width) (mod-lt k wide) b.0,
        offset_span (corner_of y s.hoty) s.h rows (k / width) (ltb-true (k / width) rows a.0) b.1,
      )

  -- ---- the overlay: refused, and by the spans

  pub overlay_refused : overlay_fits width rows s (length old) (length image) ≡ false → old ≡ overlaid width rows s x y image old
  unfolding overlaid
  overlay_refused misfit = sym (refused_if _ _ _ old misfit)

  module _ (fits : overlay_fits width rows s (length old) (length image) ≡ true) where
    fit : Fit width rows s (length old) (length image)
    fit = overlay_fit width rows s (length old) (length image) fits

    -- the two spans lie in the picture and in the image
    pub in_picture : Inside width columns.at lines.at columns.n lines.n (length old)
    in_picture =
        inside width rows _ _ _ _ _ (span_fits (corner_of x s.hotx) s.w width).0 (span_fits (corner_of y s.hoty) s.h rows).0 fit.long

    pub in_image : Inside s.w columns.skip lines.skip columns.n lines.n (length image)
    in_image =
        inside s.w s.h _ _ _ _ _ (span_fits (corner_of x s.hotx) s.w width).1 (span_fits (corner_of y s.hoty) s.h rows).1 fit.whole

    pub overlay_by_spans : overlaid_visible width s.w columns lines image old ≡ overlaid width rows s x y image old
    unfolding overlaid overlaid_visible
    overlay_by_spans =
        painted_region _ _ _ old (λ k h. sym (covered_rect fit.wide k))
        ∙ painted_same _ _ _ old (λ k h o. ap (λ (p : ℕ). blend_pixel p (get_or old k 0)) (sym (covered_pixel fit.wide k o)))
        ∙ sym (painted_if_lem _ _ _ old fits)
