-- The request of the held bytes is performed, and the text of its answer stands behind what was printed.
use Rattle.std.proofs.Common.{arith, refl, ◌+◌, ◌≤◌, length}
use Rattle.console_session.proofs.Holding.{line_answered, line_printed, shown_short}
use Rattle.console_session.proofs.answer_line.Goals as goal

pub returns-clause-state : goal.returns-clause-state
returns-clause-state c =
    let room : c.args.s.printed + 26 ≤ length c.args.out.now = omega arith in
    line_answered _ c.args.line.now _ _ c.args.s.held _ _ _ _ c.request_of-request.ensures c.perform-p.ensures.performs room c.print.ensures

pub returns-clause-buffers : goal.returns-clause-buffers
returns-clause-buffers c =
    let room : c.args.s.printed + 26 ≤ length c.args.out.now = omega arith in record {
      line = refl;
      out = line_printed _ c.args.line.now _ _ c.args.s.held _ _ _ _ c.request_of-request.ensures c.perform-p.ensures.performs room c.print.ensures;
    }

pub returns-clause-printed_bound : goal.returns-clause-printed_bound
returns-clause-printed_bound c = shown_short _ _ _ _ _ _ c.print.ensures
