-- What a turn that found a command has shown.
-- Assumes nothing.
use mathlib.Core.Path.{◌≡◌, refl, sym, ap, ◌∙◌}
use mathlib.Core.Bool.{Bool, true, true≢false}
use mathlib.Core.Option.{Option, none, some}
use mathlib.Core.List.{List, ◌++◌}
use Prim.Native.Nat.{ℕ, ◌*◌, ◌≤◌}
use native.Mathlib.Omega.{arith}
use lib.Dec.{leb}
use lib.ListN.{length, take, drop}
use lib.Seq.{take-take}
use borrow.Author.Tests.{leb-true}
use Rattle.geometry.proofs.Tests.{both}
use Rattle.execution.specs.Straight.{Turn, exec}
use Rattle.cursor.specs.declared.Shape.{Shape}
use Rattle.cursor.specs.Plane.{shape_good}
use Rattle.command.specs.declared.Action.{Action}
use Rattle.command.specs.declared.Data.{Data}
use Rattle.command.specs.declared.Data.TheVariants as D
use Rattle.command.specs.declared.Kind.{Kind}
use Rattle.command.specs.declared.Kind.TheVariants.{Update, RectFill, RectCopy, RectRopFill, RectRopCopy, DefineAlphaCursor, UpdateVerbose, Fence, Escape, Foreign}
use Rattle.command.specs.Commands.{entry, size_by, shape_at, kind_in}
use Rattle.command.specs.Findings.{finds_in, kind_with}
use Rattle.command.proofs.Rules.{Ruled, foreign, no_head, bad_head, long, no_rest, bad, well, ruled}
use Rattle.effect.specs.Effects.{Scene, screen_after, posted_after, cursor_after}
use Rattle.run.specs.Turns.{Ready}
use Rattle.run.proofs.Rows.{drop-take}

-- the command's words are there, a cursor's pixels among them, and the words behind them are not looked at
pub record Found (a : Action) (n : ℕ) (w : List ℕ) : Type 0 where
  pub offered : (entry (kind_in w)).offered ≡ true
  pub size : n ≡ size_by (kind_in w) w
  pub action : (entry (kind_in w)).action w ≡ a
  pub good : (entry (kind_in w)).good tt w ≡ true
  pub head : (entry (kind_in w)).head_good w ≡ true
  pub there : n ≤ length w
  pub ready : Ready a (length w)
  pub own : (cursor : List ℕ) → cursor_after a (take n w) cursor ≡ cursor_after a w cursor

pub sides : (s : Shape) → shape_good s ≡ true → (s.w ≤ 64) × (s.h ≤ 64)
unfolding shape_good
sides s e =
    let p = both (leb 1 s.w) _ e in
    let q = both (leb s.w 64) _ p.1 in
    let r = both (leb 1 s.h) _ q.1 in
    let t = both (leb s.h 64) _ r.1 in
    (leb-true _ _ q.0, leb-true _ _ t.0)

own_words : (k : Kind) (w cursor : List ℕ) → cursor_after ((entry k).action w) (take (size_by k w) w) cursor ≡ cursor_after ((entry k).action w) w cursor
unfolding cursor_after entry
own_words Update w cursor = refl
own_words RectFill w cursor = refl
own_words RectCopy w cursor = refl
own_words RectRopFill w cursor = refl
own_words RectRopCopy w cursor = refl
own_words DefineAlphaCursor w cursor =
    let n = (shape_at w 1).w * (shape_at w 1).h in
    ap (λ (l : List ℕ). l ++ drop n cursor) (ap (take n) (drop-take 6 n w) ∙ take-take n n (drop 6 w) (omega arith))
own_words UpdateVerbose w cursor = refl
own_words Fence w cursor = refl
own_words Escape w cursor = refl
own_words Foreign w cursor = refl

pixels_there : (k : Kind) (w : List ℕ) (n : ℕ) → (entry k).head_good w ≡ true → size_by k w ≤ n → Ready ((entry k).action w) n
unfolding entry
pixels_there Update w n good there = tt
pixels_there RectFill w n good there = tt
pixels_there RectCopy w n good there = tt
pixels_there RectRopFill w n good there = tt
pixels_there RectRopCopy w n good there = tt
pixels_there DefineAlphaCursor w n good there = (there, (sides (shape_at w 1) good).0, (sides (shape_at w 1) good).1)
pixels_there UpdateVerbose w n good there = tt
pixels_there Fence w n good there = tt
pixels_there Escape w n good there = tt
pixels_there Foreign w n good there = tt

module _ (cap : ℕ) (w : List ℕ) (a : Action) (n : ℕ) where
  same_action : {b : Action} {m : ℕ} → exec m (some b) ≡ exec n (some a) → b ≡ a
  same_action e = cc

  same_size : {b : Action} {m : ℕ} → exec m (some b) ≡ exec n (some a) → m ≡ n
  same_size e = cc

  by_ruled : (t : Turn (Option Action)) → Ruled (λ m. tt) (λ a v m. some a) cap none w t → t ≡ exec n (some a) → Found a n w
  by_ruled t (foreign p) q = absurd (true≢false cc)
  by_ruled t (no_head p r) q = absurd (true≢false cc)
  by_ruled t (bad_head p r u) q = absurd (true≢false cc)
  by_ruled t (long p r u v) q = absurd (true≢false cc)
  by_ruled t (no_rest p r u v x) q = absurd (true≢false cc)
  by_ruled t (bad p r u v x y) q = absurd (true≢false cc)
  by_ruled t (well p r u v x y) q =
      let is = same_action q in
      let size = same_size q in
      record {
        offered = p;
        size = sym size;
        action = is;
        good = y;
        head = u;
        there = omega arith;
        ready = rw is at (pixels_there (kind_in w) w (length w) u x);
        own = λ cursor. rw (is, size) at (own_words (kind_in w) w cursor);
      }

  pub found : 1 ≤ length w → finds_in tt cap w ≡ exec n (some a) → Found a n w
  found h q = by_ruled _ (ruled (λ m. tt) (λ a v m. some a) cap none w h) q

-- a command with data behind its head paints nothing, and posts nothing
pub data_screen : (d : Data) (s : Scene) (w screen : List ℕ) → screen_after s ((entry (kind_with d)).action w) screen ≡ screen
unfolding screen_after entry
data_screen D.Cursor s w screen = refl
data_screen D.Escape s w screen = refl

pub data_posts : (d : Data) (posts : Bool) (w : List ℕ) (posted : ℕ) → posted_after posts ((entry (kind_with d)).action w) posted ≡ posted
unfolding posted_after entry
data_posts D.Cursor posts w posted = refl
data_posts D.Escape posts w posted = refl
