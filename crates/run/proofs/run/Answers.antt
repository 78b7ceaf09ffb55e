-- The run by its tests: of the lengths, of NEXT_CMD, and then by the turns.
use Rattle.std.proofs.Common.{sym, ◌∙◌}
use Rattle.run.proofs.RunLaws.{run_unfit, run_next_unusable, run_posts, can_view, can_turn, head_there}
use Rattle.run.proofs.run.Goals as goal

pub returns-then-not-is_fitting : goal.returns-then-not-is_fitting
returns-then-not-is_fitting c = sym (run_unfit _ _ _ _ _ (sym c.if-not-is_fitting.ensures))

pub bounds-ring-2 : goal.bounds-ring-2
bounds-ring-2 c = head_there _ _ _ (sym c.if-not-is_fitting.ensures)

pub returns-then-not-next_good : goal.returns-then-not-next_good
returns-then-not-next_good c =
    rw c.next_unusable.ensures (sym (run_next_unusable _ _ _ _ _ (sym c.if-not-is_fitting.ensures) (sym c.if-not-next_good.ensures)))

pub of-view-requires : goal.of-view-requires
of-view-requires c = can_view _ _ _ _ (sym c.if-not-is_fitting.ensures) (sym c.if-not-next_good.ensures)

pub turns-requires : goal.turns-requires
turns-requires c = can_turn _ _ _ _ _ (sym c.if-not-is_fitting.ensures) (sym c.if-not-next_good.ensures) c.of-view.ensures _ c.posts_in.ensures

pub returns : goal.returns
returns c =
    c.turns.ensures
    ∙ run_posts _ _ _ _ _ _ _ _ _ _ (sym c.if-not-is_fitting.ensures) (sym c.if-not-next_good.ensures) c.of-view.ensures c.posts_in.ensures
