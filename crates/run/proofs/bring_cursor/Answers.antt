-- The pixels are the words of the view behind the six of the head, as many as the shape says.
use Rattle.std.proofs.Common.{◌≡◌, ◌*◌, ap, ◌∙◌}
use Rattle.std.proofs.Math.Seq.{paste}
use Rattle.effect.specs.Effects.{cursor_after}
use Rattle.run.specs.declared.View.{View}
use Rattle.run.specs.Turns.{words_in, front_of, passed_in}
use Rattle.run.proofs.Copying.{pixels_view, pixels_pasted}
use Rattle.run.proofs.bring_cursor.Goals as goal

pub copy_words-requires-clause-in_view : goal.copy_words-requires-clause-in_view
copy_words-requires-clause-in_view c =
    let a = c.args in
    let r = rw c.in-Define.is at c.requires.ready in
    rw (c.front-pixels.ensures, c.pass.ensures) (pixels_view a.ring.now a.v _ c.requires.in_view r.0)

pub returns-in-Define : goal.returns-in-Define
unfolding cursor_after
returns-in-Define c =
    let a = c.args in
    let s = c.in-Define.shape in
    let r = rw c.in-Define.is at c.requires.ready in
    let pixels : c.front-pixels.result ≡ front_of (passed_in a.v 6) (s.w * s.h) =
    c.front-pixels.ensures ∙ ap (λ (u : View). front_of u (s.w * s.h)) c.pass.ensures in
    rw c.in-Define.is
    (c.copy_words.ensures
    ∙ ap (λ (u : View). paste a.cursor.now 0 (words_in a.ring.now u) u.n) pixels
    ∙ pixels_pasted a.ring.now a.v _ a.cursor.now c.requires.in_view r.0)
