-- `put_row` meets its contract: the loop stores the source from the front.
use mathlib.Core.Path.{refl, sym, ◌∙◌}
use native.Mathlib.Omega.{arith}
use Rattle.geometry.proofs.Tabulate.{table_of, front_step, front_end}
use Rattle.raster.proofs.put_row.Goals as goal

pub loop-i-preserved : goal.loop-i-preserved
loop-i-preserved c = front_step c.loop-i.invariant _ (omega arith) refl

pub returns : goal.returns
returns c = front_end c.loop-i.invariant (omega arith) ∙ (rw c.requires (sym (table_of c.args.src.now)))
