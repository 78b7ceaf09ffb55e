-- Four single stores are a copy.
use Rattle.std.proofs.Common.{arith}
use Rattle.writer.proofs.Pasting.{stored_paste}
use Rattle.writer.proofs.lay_four.Goals as goal

pub returns : goal.returns
returns c = let a = c.args in stored_paste a.ring.now a.at a.row.now a.from 3 (omega arith) (omega arith)
