-- What is found ends the turn, which changes nothing, or is a command, executed with what it brings to the cursor.
use Rattle.std.proofs.Common.{Ok, Err, refl, sym, ap, ◌∙◌, arith}
use Rattle.execution.specs.Straight.{exec}
use Rattle.ring.proofs.WaitingLaws.{length-words}
use Rattle.ring.specs.Waiting.{carried}
use Rattle.std.proofs.lemmas.Result.{err_from_is_err_and}
use Rattle.run.specs.Run.{machine, stamped, posted_in}
use Rattle.run.specs.Turns.{passed_in}
use Rattle.run.proofs.Posting.{posting_same, posted_stamped}
use Rattle.run.proofs.TurnLaws.{stops, goes_on, data_ends, data_executes, data_found, data_done}
use Rattle.run.proofs.data_turn.Goals as goal

pub returns-in_err-action : goal.returns-in_err-action
returns-in_err-action c s screen =
    let a = c.args in
    let r = c.requires.le_n in
    let m = machine a.marks screen a.cursor.now (posted_in s.posts a.ring.now) in
    let e = err_from_is_err_and c.from_residual.result c.from_residual.ensures.1 in
    let was = c.in_err-action.was ∙ ap Err (sym e.2) in
    rw e.1
    (stops s a.v a.ring.now m _
    (data_ends a.v a.ring.now _ a.tail a.head.now r.0 r.1 r.2 c.data_turn.result c.data_turn.ensures s m _ was))

pub bring_cursor-requires-clause-ready : goal.bring_cursor-requires-clause-ready
bring_cursor-requires-clause-ready c =
    let a = c.args in
    let r = c.requires.le_n in
    let shown = data_found a.v a.ring.now _ a.tail a.head.now r.0 r.1 r.2 c.in_ok-action.action c.in_ok-action.size c.in_ok-action.ensures in
    rw (length-words a.ring.now a.v.lo a.v.hi a.v.at a.v.n) at shown.ready

pub executed-requires-clause-size_le_n : goal.executed-requires-clause-size_le_n
executed-requires-clause-size_le_n c =
    let a = c.args in
    let r = c.requires.le_n in
    let s = c.requires.stands in
    let shown = data_found a.v a.ring.now _ a.tail a.head.now r.0 r.1 r.2 c.in_ok-action.action c.in_ok-action.size c.in_ok-action.ensures in (
      omega (arith, shown.there, length-words a.ring.now a.v.lo a.v.hi a.v.at a.v.n),
      s.small,
      omega (arith, s.low, s.inside.fits, s.inside.below, s.inside.from),
    )

pub returns : goal.returns
returns c s screen =
    let a = c.args in
    let r = c.requires.le_n in
    let act = c.in_ok-action.action in
    let n = c.in_ok-action.size in
    let said = c.in_ok-action.ensures in
    let m = machine a.marks screen a.cursor.now (posted_in s.posts a.ring.now) in
    let cap = carried a.v.lo a.v.hi in
    let left = data_done a.v a.ring.now cap a.tail a.head.now r.0 r.1 r.2 act n said s m _ _ c.after.ensures c.bring_cursor.ensures in
    let executes = data_executes a.v a.ring.now cap a.tail a.head.now r.0 r.1 r.2 (Ok (act, n)) said s m act n refl ∙ ap (exec n) left in
    let to = (passed_in a.v n).at in
    rw (c.executed.ensures.value, c.executed.ensures.ring_after)
    (goes_on s a.v a.ring.now m n _ executes _ (ap (stamped to) (sym (posting_same s.posts a.ring.now))) _
    (ap (machine c.after.result screen _) (posted_stamped s.posts to a.ring.now)))
