-- What the first tab, or its absence, says of the fields.
use Rattle.console_lines.proofs.Fields.{no_tab, first_tab}
use Rattle.console_lines.proofs.split_tab.Goals as goal

pub returns-in_err-tab : goal.returns-in_err-tab
returns-in_err-tab c = rw c.from_residual.ensures (no_tab c.args.line.now c.in_err-tab.ensures)

pub returns : goal.returns
returns c = first_tab c.args.line.now c.in_ok-tab.tab c.in_ok-tab.ensures
