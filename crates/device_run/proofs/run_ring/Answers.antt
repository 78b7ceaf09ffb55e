-- The run of a ring is that of its scene: its pixels in the mode or offscreen are those of its rows.
use Rattle.std.proofs.Common.{sym, ap, ◌∙◌}
use Rattle.geometry.specs.declared.Frame.{Frame}
use Rattle.effect.specs.Effects.{Scene, scene}
use Rattle.run.specs.Run.{RingOutcome, posts_in, run_in}
use Rattle.device_run.specs.Run.{Lent, contents, machine_of, ran, run_by}
use Rattle.device_run.proofs.ByRows.{scene_by_rows}
use Rattle.device_run.proofs.run_ring.Goals as goal

pub returns-clause-ran : goal.returns-clause-ran
unfolding run_by
returns-clause-ran c =
    let a = c.args in
    let l : Lent = contents a.memories.now in
    let by : Scene → RingOutcome = λ s. run_in s a.at a.budget l.ring (machine_of a.d l a.at) in
    let by_frame : Frame → RingOutcome = λ x. by (scene x l.framebuffer (posts_in a.at)) in
    c.settle.ensures l _ _ _
    ∙ ap (ran a.d l) (c.run-left.ensures ∙ ap by_frame c.frame_of.ensures ∙ ap by (sym (scene_by_rows a.d l a.at c.requires.good c.requires.fits)))
