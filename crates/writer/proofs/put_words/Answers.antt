-- A head, and behind it pixels, data or nothing: all are in the ring, and no word below it changes.
use Rattle.std.proofs.Common.{◌≡◌, ◌<◌, ◌≤◌, ◌+◌, ℕ, List, ◌++◌, length, get_or, sym, ap, ◌∙◌, length-append, arith}
use Rattle.std.proofs.lemmas.Bool.{eqb-true}
use Rattle.ring.specs.Waiting.{ahead}
use Rattle.ring.proofs.WaitingLaws.{InRing}
use Rattle.writer.specs.Writing.{Command, command, data_words, command_words}
use Rattle.writer.specs.declared.Place.{Place}
use Rattle.writer.specs.Laying.{InPlace, behind, laid}
use Rattle.writer.proofs.Laying.{laid_below, others_in, laid_both, behind_both, command_bare}
use Rattle.writer.proofs.put_words.Goals as goal

-- a command from a place of a ring that holds it
record Fits (p : Place) (c : Command) : Type 0 where
  low : 4 ≤ p.lo
  from : p.lo ≤ p.at
  below : p.at < p.hi
  all : length (command_words c) + p.lo < p.hi

fits : {m : ℕ} (p : Place) (c : Command) → InPlace p m → 4 ≤ p.lo → length (command_words c) + p.lo < p.hi → Fits p c
fits p c i low all = record { low = low; from = i.from; below = i.below; all = all }

-- what stands behind its head
abbrev rest : Command → List ℕ
rest c = c.pixels ++ data_words c.bytes

module _ {p : Place} {c : Command} (f : Fits p c) where
  all_held : length (c.head ++ rest c) + p.lo < p.hi
  unfolding command_words
  all_held = f.all

  held : InRing p.lo p.hi p.at (length (c.head ++ rest c))
  held = let l = all_held in record { from = f.from; below = f.below; held = omega arith }

  -- the head and the rest are each less than the ring
  head_fits : length c.head + p.lo < p.hi
  head_fits = let l = all_held in let n = length-append c.head (rest c) in omega arith

  rest_fits : length (rest c) + p.lo < p.hi
  rest_fits = let l = all_held in let n = length-append c.head (rest c) in omega arith

  -- the rest is in the ring
  rest_in : {m : ℕ} (q : ℕ) → p.hi ≤ m → q ≡ behind p (length c.head) → InPlace (record { lo = p.lo; hi = p.hi; at = q }) m
  rest_in q there on =
      let i = others_in p.lo p.hi p.at c.head (rest c) q held on in
      record { from = i.from; below = i.below; fits = there }

  -- the contract, of a ring left and a place answered
  module _ (ring : List ℕ) where
    abbrev Put : List ℕ → ℕ → Type 0
    Put left r =
        (left ≡ laid p.lo p.hi p.at (command_words c) ring)
        × (r ≡ behind p (length (command_words c)))
        × ((i : ℕ) → i < 4 → get_or left i 0 ≡ get_or ring i 0)

    put : (left : List ℕ) (r : ℕ) → left ≡ laid p.lo p.hi p.at (command_words c) ring → r ≡ behind p (length (command_words c)) → Put left r
    put left r stored on = (
      stored,
      on,
      λ i l. ap (λ w. get_or w i 0) stored ∙ laid_below p.lo p.hi p.at (command_words c) ring i (omega (arith, f.low)) f.from f.below,
    )

    -- with the rest stored behind the head
    put_both : (middle : List ℕ) (q : ℕ) → middle ≡ laid p.lo p.hi p.at c.head ring → q ≡ behind p (length c.head)
        → (left : List ℕ) (r : ℕ) → left ≡ laid p.lo p.hi q (rest c) middle → r ≡ ahead p.lo p.hi q (length (rest c)) → Put left r
    unfolding command_words
    put_both middle q stored on left r more further =
        put left r
        (more ∙ ap (laid p.lo p.hi q (rest c)) stored ∙ laid_both p.lo p.hi p.at c.head (rest c) q held on ring)
        (further ∙ behind_both p.lo p.hi p.at c.head (rest c) q held on)

    -- with nothing behind it
    put_bare : length c.pixels ≤ 0 → length c.bytes ≤ 0
        → (left : List ℕ) (r : ℕ) → left ≡ laid p.lo p.hi p.at c.head ring → r ≡ behind p (length c.head) → Put left r
    put_bare none bare left r stored on =
        let e = sym (command_bare c none bare) in
        put left r (stored ∙ ap (λ w. laid p.lo p.hi p.at w ring) e) (on ∙ ap (λ w. behind p (length w)) e)

pub put_head-behind-requires : goal.put_head-behind-requires
put_head-behind-requires c =
    let a = c.args in
    let b = c.requires.in_bounds in
    let f = fits a.place (command a.head.now a.pixels.now a.bytes.now) c.requires.held b.0 b.4 in
    record { held = c.requires.held; room = (head_fits f, b.1, b.2) }

pub put_rest-requires : goal.put_rest-requires
put_rest-requires c =
    let a = c.args in
    let b = c.requires.in_bounds in
    let f = fits a.place (command a.head.now a.pixels.now a.bytes.now) c.requires.held b.0 b.4 in
    let there = c.put_head-behind.auto.ring in
    record { held = rest_in f _ (omega (arith, c.requires.held.fits, there)) c.put_head-behind.ensures.value; room = (rest_fits f, b.3) }

pub returns-then-is_empty-2 : goal.returns-then-is_empty-2
returns-then-is_empty-2 c =
    let a = c.args in
    let b = c.requires.in_bounds in
    let f = fits a.place (command a.head.now a.pixels.now a.bytes.now) c.requires.held b.0 b.4 in
    let h = c.put_head-behind.ensures in
    let none = eqb-true _ 0 (sym c.if-is_empty.ensures) in
    let bare = eqb-true _ 0 (sym c.if-is_empty-2.ensures) in
    let p = put_bare f a.ring.now (omega (arith, none)) (omega (arith, bare)) _ _ h.ring_after h.value in
    record { ring_after = p.0; value = p.1; by_index = p.2 }

pub returns : goal.returns
returns c =
    let a = c.args in
    let b = c.requires.in_bounds in
    let f = fits a.place (command a.head.now a.pixels.now a.bytes.now) c.requires.held b.0 b.4 in
    let h = c.put_head-behind.ensures in
    let p = put_both f a.ring.now _ _ h.ring_after h.value _ _ c.put_rest.ensures.ring_after c.put_rest.ensures.value in
    record { ring_after = p.0; value = p.1; by_index = p.2 }
