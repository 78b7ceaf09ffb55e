-- Ring word 6, where fences are posted there, and word 3, which is written with it.
-- Assumes nothing.
use mathlib.Core.Path.{◌≡◌, refl, sym, ap, ◌∙◌}
use mathlib.Core.Bool.{Bool, true, false, cond}
use mathlib.Core.List.{List}
use mathlib.Core.Logic.{◌≢◌}
use Prim.Native.Nat.{ℕ, ◌-◌, ◌*◌, ◌≤◌, ◌<◌}
use native.Mathlib.Omega.{arith}
use lib.Dec.{eqb}
use lib.ListN.{length, get_or, take, set, length-set}
use lib.Seq.{set-get_or, set-set, set_comm, get_or-set_same, get_or-set_other, drop-set-lt}
use borrow.Author.Tests.{eqb-true, eqb-false, ne_eqb, leb-true}
use borrow.Table.Steps.{cases}
use Rattle.ring.specs.declared.Ring.{Ring}
use Rattle.ring.specs.Waiting.{words, waiting}
use Rattle.ring.proofs.WaitingLaws.{words_outside}
use Rattle.command.specs.declared.Action.{Action}
use Rattle.command.specs.declared.Action.TheVariants as A
use Rattle.effect.specs.Effects.{posted_after}
use Rattle.run.specs.Run.{stamped, posts_in, posting, posted_in}
use Rattle.run.specs.Turns.{row_in, Clear}

-- ---- what is posted

-- what is posted already changes nothing
pub posting_same : (posts : Bool) (ring : List ℕ) → posting posts (posted_in posts ring) ring ≡ ring
unfolding posting posted_in
posting_same true ring = set-get_or ring 6 0
posting_same false ring = refl

-- where fences are posted, ring word 6 is what is
pub posted_six : (posts : Bool) (ring : List ℕ) → posts ≡ true → posted_in posts ring ≡ get_or ring 6 0
unfolding posted_in
posted_six posts ring e = rw e

-- where they are not, nothing is
pub posted_none : (posts : Bool) (ring : List ℕ) → posts ≡ false → posted_in posts ring ≡ 0
unfolding posted_in
posted_none posts ring e = rw e

pub posted_after_none : (posts : Bool) (act : Action) (ring : List ℕ) → posts ≡ false → posted_after posts act (posted_in posts ring) ≡ 0
unfolding posted_after
posted_after_none posts (A.Update r) ring e = posted_none posts ring e
posted_after_none posts (A.Fill r colour rop) ring e = posted_none posts ring e
posted_after_none posts (A.Copy from r rop) ring e = posted_none posts ring e
posted_after_none posts (A.Define s) ring e = posted_none posts ring e
posted_after_none posts (A.Fence number) ring e = rw e (posted_none false ring refl)
posted_after_none posts A.Nothing ring e = posted_none posts ring e

-- ---- other words

pub length-posting : (posts : Bool) (number : ℕ) (ring : List ℕ) → length (posting posts number ring) ≡ length ring
unfolding posting
length-posting true number ring = length-set ring 6 number
length-posting false number ring = refl

pub posting_other : (posts : Bool) (number : ℕ) (ring : List ℕ) (i : ℕ) → (posts ≡ true → i ≢ 6) → get_or (posting posts number ring) i 0 ≡ get_or ring i 0
unfolding posting
posting_other true number ring i h = get_or-set_other ring 6 i number 0 (h refl)
posting_other false number ring i h = refl

-- a MIN at which fences are posted is behind word 6
pub clear_min : {posts : Bool} (g : Ring) → posts ≡ posts_in g → Clear posts g.min
clear_min g e t = leb-true 7 g.min (sym e ∙ t)

-- words behind word 6 are what they were
posting_words : (posts : Bool) (number : ℕ) (ring : List ℕ) (lo hi p n : ℕ) → Clear posts lo → lo ≤ p → p < hi
    → words (posting posts number ring) lo hi p n ≡ words ring lo hi p n
unfolding posting
posting_words true number ring lo hi p n clear from below = words_outside ring lo hi p n 6 number from below (clear refl)
posting_words false number ring lo hi p n clear from below = refl

pub posting_waits : (posts : Bool) (number : ℕ) (ring : List ℕ) (lo hi stop next : ℕ) → Clear posts lo → lo ≤ stop → stop < hi
    → waiting (posting posts number ring) lo hi stop next ≡ waiting ring lo hi stop next
unfolding waiting
posting_waits posts number ring lo hi stop next clear from below = posting_words posts number ring lo hi stop _ clear from below

posting_row : (posts : Bool) (number : ℕ) (ring : List ℕ) (a e : ℕ) → Clear posts a → row_in (posting posts number ring) a e ≡ row_in ring a e
unfolding posting
posting_row true number ring a e clear = ap (take (e - a)) (drop-set-lt a ring 6 number (clear refl))
posting_row false number ring a e clear = refl

-- ---- both words written

module _ (posts : Bool) (at number : ℕ) (ring : List ℕ) where
  abbrev written : List ℕ
  written = stamped at (posting posts number ring)

  pub length-written : length written ≡ length ring
  unfolding stamped
  length-written = length-set (posting posts number ring) 3 (at * 4) ∙ length-posting posts number ring

  pub written_other : (i : ℕ) → i ≢ 3 → (posts ≡ true → i ≢ 6) → get_or written i 0 ≡ get_or ring i 0
  unfolding stamped
  written_other i h k = get_or-set_other (posting posts number ring) 3 i (at * 4) 0 h ∙ posting_other posts number ring i k

  pub written_words : (lo hi p n : ℕ) → 4 ≤ lo → Clear posts lo → lo ≤ p → p < hi → words written lo hi p n ≡ words ring lo hi p n
  unfolding stamped
  written_words lo hi p n low clear from below =
      words_outside (posting posts number ring) lo hi p n 3 (at * 4) from below low ∙ posting_words posts number ring lo hi p n clear from below

  pub written_row : (a e : ℕ) → 4 ≤ a → Clear posts a → row_in written a e ≡ row_in ring a e
  unfolding stamped
  written_row a e low clear = ap (take (e - a)) (drop-set-lt a (posting posts number ring) 3 (at * 4) low) ∙ posting_row posts number ring a e clear

  -- what was posted is there
  pub posted_written : Clear posts (length ring) → (posts ≡ false → number ≡ 0) → posted_in posts written ≡ number
  unfolding stamped posting posted_in
  posted_written = by_test posts
    where
      by_test : (p : Bool) → Clear p (length ring) → (p ≡ false → number ≡ 0) → posted_in p (stamped at (posting p number ring)) ≡ number
      by_test true clear none = get_or-set_other (set ring 6 number) 3 6 (at * 4) 0 (λ e. omega arith) ∙ get_or-set_same ring 6 number 0 (clear refl)
      by_test false clear none = sym (none refl)

  -- written once more
  pub written_again : (to later : ℕ) → stamped to (posting posts later written) ≡ stamped to (posting posts later ring)
  unfolding stamped posting
  written_again to later = by_test posts
    where
      by_test : (p : Bool) → stamped to (posting p later (stamped at (posting p number ring))) ≡ stamped to (posting p later ring)
      by_test true =
          ap (λ (l : List ℕ). set l 3 (to * 4)) (set_comm (set ring 6 number) 3 6 (at * 4) later (λ e. omega arith))
          ∙ set-set (set (set ring 6 number) 6 later) 3 (at * 4) (to * 4)
          ∙ ap (λ (l : List ℕ). set l 3 (to * 4)) (set-set ring 6 number later)
      by_test false = set-set ring 3 (at * 4) (to * 4)

-- what is posted stays where word 3 alone is written
pub posted_stamped : (posts : Bool) (at : ℕ) (ring : List ℕ) → posted_in posts (stamped at ring) ≡ posted_in posts ring
unfolding stamped posted_in
posted_stamped true at ring = get_or-set_other ring 3 6 (at * 4) 0 (λ e. omega arith)
posted_stamped false at ring = refl

-- written once more, or not, where nothing is written as long as the budget is whole
pub written_further : (posts : Bool) (budget left later at to number posted : ℕ) (ring₀ ring after : List ℕ) → left ≤ budget → later ≤ left
    → (later ≡ left → (to ≡ at) × (posted ≡ number)) → ring ≡ cond (eqb left budget) ring₀ (stamped at (posting posts number ring₀))
    → after ≡ cond (eqb later left) ring (stamped to (posting posts posted ring))
    → after ≡ cond (eqb later budget) ring₀ (stamped to (posting posts posted ring₀))
written_further posts budget left later at to number posted ring₀ ring after h k same p q =
    cases (eqb later left)
    (λ t. let z = eqb-true later left t in rw (q, t, p, z, (same z).0, (same z).1))
    (λ t. let n : later ≢ left = eqb-false later left t in rw (q, t, ne_eqb later budget (omega arith))
    (cases (eqb left budget) (λ e. rw (p, e)) (λ e. rw (p, e) (written_again posts at number ring₀ to posted))))
