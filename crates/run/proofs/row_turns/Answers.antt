-- Each command of the row is one turn more of the run.
use Rattle.std.proofs.Common.{◌≡◌, ℕ, ◌+◌, ◌-◌, ◌<◌, refl, sym, ap, ◌∙◌, arith}
use Rattle.command.specs.declared.Action.{Action}
use Rattle.command.specs.declared.Step.{Step}
use Rattle.command.specs.declared.Step.TheVariants.{Does, Short, Faults, Long}
use Rattle.command.specs.Findings.{step_in}
use Rattle.run.specs.declared.Pause.TheVariants.{Spent}
use Rattle.run.specs.Run.{stamped}
use Rattle.run.specs.Going.{pause_of}
use Rattle.run.proofs.Rows.{same_row, row_same_length, row_clear, row_fits, row_more}
use Rattle.run.proofs.row_turns.Goals as goal

-- a step that is not executed
not_spent : (step : Step) → ((a : Action) (n : ℕ) → step ≡ Does a n → ⊥) → pause_of step ≡ Spent → ⊥
not_spent (Does a n) other q = other a n refl
not_spent Short other q = cc
not_spent (Faults c) other q = cc
not_spent (Long d) other q = cc

pub slice_bounds-step_in-end : goal.slice_bounds-step_in-end
slice_bounds-step_in-end c =
    let p = c.requires in
    let g = c.loop-spent.invariant.1 in
    let l = row_same_length p.0 p.2 p.4 g in
    omega (arith, l, g.within)

pub shape_of-memory-in_default : goal.shape_of-memory-in_default
shape_of-memory-in_default c = let p = c.requires in row_same_length p.0 p.2 p.4 c.loop-spent.invariant.1

pub returns-in_default : goal.returns-in_default
returns-in_default c =
    let p = c.requires in
    let g = c.loop-spent.invariant.1 in
    (g, λ h q. not_spent c.step_in.result c.in_default.not-Does (ap pause_of (c.step_in.ensures ∙ ap (step_in tt) (same_row p.0 p.2 p.4 g)) ∙ q))

pub post_fence-requires : goal.post_fence-requires
post_fence-requires c = let p = c.requires in row_clear p.0 p.2 p.4 c.loop-spent.invariant.1

pub overflow_add-at : goal.overflow_add-at
overflow_add-at c =
    let p = c.requires in
    let f = row_fits p.0 p.2 p.4 c.loop-spent.invariant.1 _ _ (sym c.in-Does.ensures) in
    omega (arith, f.1)

pub stamp-requires : goal.stamp-requires
stamp-requires c =
    let p = c.requires in
    let g = c.loop-spent.invariant.1 in
    let l = row_same_length p.0 p.2 p.4 g in
    let f = row_fits p.0 p.2 p.4 g _ _ (sym c.in-Does.ensures) in
    let kept = c.post_fence.auto.ring in
    (omega (arith, l, kept, g.from, g.within), omega (arith, f.1))

pub loop-spent-preserved : goal.loop-spent-preserved
loop-spent-preserved c =
    let p = c.requires in
    let at = c.loop-spent in
    let wrote = c.stamp.ensures ∙ ap (stamped (at.at + c.in-Does.size)) c.post_fence.ensures in
    let less : c.args.budget - at.spent - 1 ≡ c.args.budget - (at.spent + 1) = omega arith in
    let more : 0 < c.args.budget - at.spent = omega (arith, c.loop-spent-test.true) in (
      omega (arith, c.loop-spent-test.true),
      rw less at (row_more p.0 p.2 p.4 at.invariant.1 _ _ (sym c.in-Does.ensures) more _ wrote _ (c.draw.ensures c.args.stage.posts) _ c.fence_after-fence.ensures),
    )

pub shape_of-memory : goal.shape_of-memory
shape_of-memory c = let p = c.requires in row_same_length p.0 p.2 p.4 c.loop-spent.invariant.1
