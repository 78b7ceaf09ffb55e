-- The copy of a cursor's pixels, up to the ring's end and from its begin on.
-- Assumes nothing.
use mathlib.Core.Path.{◌≡◌, sym, ap, ap₂, ◌∙◌}
use mathlib.Core.List.{List, ◌++◌, append_assoc}
use Prim.Native.Nat.{ℕ, ◌+◌, ◌-◌, ◌≤◌, ◌<◌}
use native.Mathlib.Omega.{arith}
use native.Mathlib.Nat.{zero-add}
use native.Mathlib.Numerals.{add-one}
use lib.ListN.{length, get_or, take, drop, set, length-drop, length-append, length-set, take-append-drop, get_or-append}
use lib.Seq.{take_all, drop-append-le, drop_at, take_at, paste, paste-suc, take-paste, drop-paste, get_or-take, get_or-drop, get_or-set_same}
use lib.Seq.{length-take-le, ext_get_or, drop-drop}
use borrow.Author.Tests.{le-ltb}
use Rattle.ring.specs.Waiting.{ahead, words}
use Rattle.ring.proofs.WaitingLaws.{ahead_in, length-words, get_or_straight, take_words, drop-words}
use Rattle.run.specs.declared.View.{View}
use Rattle.run.specs.Turns.{InView, words_in, front_of, passed_in, row_in}

-- one word more
pub copy_more : (d : List ℕ) (to : ℕ) (ring : List ℕ) (from j : ℕ) → to + j < length d → from + j < length ring
    → set (paste d to (drop from ring) j) (to + j) (get_or ring (from + j) 0) ≡ paste d to (drop from ring) (j + 1)
copy_more d to ring from j a b =
    ap (λ x. set (paste d to (drop from ring) j) (to + j) x) (sym (get_or-drop from ring j 0))
    ∙ paste-suc d to (drop from ring) j 0 a (rw length-drop (omega arith))
    ∙ ap (λ k. paste d to (drop from ring) k) (sym (add-one j))

module _ (ring : List ℕ) (lo hi : ℕ) (there : hi ≤ length ring) where
  -- words that do not wrap stand in a row
  pub straight : (p m : ℕ) → lo ≤ p → p < hi → m + lo ≤ hi → p + m ≤ hi → words ring lo hi p m ≡ take m (drop p ring)
  straight p m from below held room =
      ext_get_or 0 _ _ (length-words ring lo hi p m ∙ sym (length-take-le m (drop p ring) (rw length-drop (omega arith))))
      (λ i h. let few : i < m = rw length-words at h in
      get_or_straight ring lo hi p m i (record { from = from; below = below; held = held }) few (omega arith)
      ∙ sym (get_or-take m (drop p ring) i 0 few ∙ get_or-drop p ring i 0))

  module _ (p n : ℕ) (from : lo ≤ p) (below : p < hi) (held : n + lo ≤ hi) (d : List ℕ) (to : ℕ) (fits : to + n ≤ length d) where
    all_words : take n (words ring lo hi p n) ≡ words ring lo hi p n
    all_words = take_all n (words ring lo hi p n) (rw length-words (omega arith))

    -- all of them before the ring's end
    pub copied_straight : p + n ≤ hi → paste d to (drop p ring) n ≡ paste d to (words ring lo hi p n) n
    copied_straight room = ap (λ (w : List ℕ). take to d ++ w ++ drop (to + n) d) (sym (straight p n from below held room) ∙ sym all_words)

    -- some of them, and the rest from the ring's begin on
    pub copied_wrapped : (f : ℕ) → f ≡ hi - p → f ≤ n
        → paste (paste d to (drop p ring) f) (to + f) (drop lo ring) (n - f) ≡ paste d to (words ring lo hi p n) n
    unfolding ahead
    copied_wrapped f is some =
        let s = words ring lo hi p n in
        let room : p + f ≤ hi = omega arith in
        let few : f + lo ≤ hi = omega arith in
        let head : take f (drop p ring) ≡ take f s = sym (straight p f from below few room) ∙ sym (take_words ring lo hi p n f some) in
        let begin : ahead lo hi p f ≡ lo = rw (le-ltb (p + f) hi (omega arith)) (omega arith) in
        let rest-held : n - f + lo ≤ hi = omega arith in
        let tail : take (n - f) (drop lo ring) ≡ drop f s =
        sym (straight lo (n - f) (omega arith) (omega arith) rest-held (omega arith))
        ∙ sym (drop-words ring lo hi p n f (record { from = from; below = below; held = held }) some ∙ ap (λ q. words ring lo hi q (n - f)) begin) in
        let front : take (to + f) (paste d to (drop p ring) f) ≡ take to d ++ take f s =
        take-paste d to (drop p ring) f (omega arith) (rw length-drop (omega arith)) ∙ ap (λ (w : List ℕ). take to d ++ w) head in
        let sum : to + f + (n - f) ≡ to + n = omega arith in
        let last : drop (to + f + (n - f)) (paste d to (drop p ring) f) ≡ drop (to + n) d =
        sym (drop-drop (n - f) (to + f) (paste d to (drop p ring) f)) ∙ ap (drop (n - f)) (drop-paste d to (drop p ring) f (omega arith) (rw length-drop (omega arith)))
        ∙ drop-drop (n - f) (to + f) d ∙ ap (λ k. drop k d) sum in
        ap₂ (λ (x : List ℕ) (y : List ℕ). x ++ y) (ap₂ (λ (x : List ℕ) (y : List ℕ). x ++ y) front tail ∙ append_assoc (take to d) (take f s) (drop f s) ∙ ap (λ (w : List ℕ). take to d ++ w) (take-append-drop f s ∙ sym all_words)) last

-- the pixels behind a cursor's head are in the ring
pub pixels_view : (ring : List ℕ) (v : View) (count : ℕ) → InView v (length ring) → 6 + count ≤ v.n → InView (front_of (passed_in v 6) count) (length ring)
pixels_view ring v count inside some =
    let p = ahead_in v.lo v.hi v.at 6 (record { from = inside.from; below = inside.below; held = omega (arith, inside.held) }) in
    record { from = p.0; below = p.1; held = omega (arith, inside.held); fits = inside.fits }

-- and copied to the front of an image
pub pixels_pasted : (ring : List ℕ) (v : View) (count : ℕ) (d : List ℕ) → InView v (length ring) → 6 + count ≤ v.n
    → paste d 0 (words_in ring (front_of (passed_in v 6) count)) count ≡ take count (drop 6 (words_in ring v)) ++ drop count d
pixels_pasted ring v count d inside some =
    let p = ahead v.lo v.hi v.at 6 in
    let there : words ring v.lo v.hi p count ≡ take count (drop 6 (words_in ring v)) =
    sym (ap (take count) (drop-words ring v.lo v.hi v.at v.n 6 (record { from = inside.from; below = inside.below; held = omega (arith, inside.held) }) (omega arith))
    ∙ take_words ring v.lo v.hi p (v.n - 6) count (omega arith)) in
    ap₂ (λ (x : List ℕ) (y : List ℕ). x ++ y)
    (take_all count (words ring v.lo v.hi p count) (rw length-words (omega arith)) ∙ there)
    (ap (λ k. drop k d) (zero-add count))

-- copied into a line, they lie there in a row
pub line_row : (ring : List ℕ) (v : View) (n e : ℕ) (d : List ℕ) → length d ≡ 17 → n ≤ 10 → n ≤ v.n → e ≡ n + 7
    → row_in (paste d 7 (words ring v.lo v.hi v.at n) n) 7 e ≡ take n (words_in ring v)
line_row ring v n e d long few some is =
    let s = words ring v.lo v.hi v.at n in
    let all : length s ≡ n = length-words ring v.lo v.hi v.at n in
    let front : length (take 7 d) ≡ 7 = length-take-le 7 d (omega arith) in
    let part : length (take n s) ≡ n = length-take-le n s (omega arith) in
    let size : e - 7 ≡ n = omega arith in
    let begin : 7 ≤ length (take 7 d ++ take n s) = rw length-append (omega arith) in
    rw size
    (ap (take n) (drop-append-le 7 (take 7 d ++ take n s) (drop (7 + n) d) begin ∙ ap (λ (w : List ℕ). w ++ drop (7 + n) d) (drop_at (take 7 d) (take n s) 7 front))
    ∙ take_at (take n s) (drop (7 + n) d) n part
    ∙ take_all n s (omega arith)
    ∙ sym (take_words ring v.lo v.hi v.at v.n n some))

-- and the word before them is still there
pub line_front : (d : List ℕ) (x n : ℕ) (s : List ℕ) → length d ≡ 17 → get_or (paste (set d 6 x) 7 s n) 6 0 ≡ x
line_front d x n s long =
    let b = set d 6 x in
    let size : length b ≡ 17 = length-set d 6 x ∙ long in
    let front : length (take 7 b) ≡ 7 = length-take-le 7 b (omega arith) in
    get_or-append (take 7 b ++ take n s) (drop (7 + n) b) 0 6 (omega (arith, length-append (take 7 b) (take n s)))
    ∙ get_or-append (take 7 b) (take n s) 0 6 (omega arith)
    ∙ get_or-take 7 b 6 0 (omega arith)
    ∙ get_or-set_same d 6 x 0 (omega arith)
