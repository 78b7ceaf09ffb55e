-- `copy_piece` meets its contract: the line holds the source, and the destination, lent and back, is painted from it.
use mathlib.Core.Path.{◌≡◌}
use Prim.Native.Nat.{◌+◌, ◌-◌}
use native.Mathlib.Omega.{arith}
use Rattle.geometry.proofs.Rows.{row_moved}
use Rattle.raster.proofs.copy_piece.Goals as goal

pub returns : goal.returns
returns g c =
    let a = c.args in
    let n : a.to + g.row.N - a.to ≡ g.row.N = omega arith in
    let m : a.from + g.row.N - a.from ≡ g.row.N = omega arith in
    rw n (row_moved a.screen.now _ _ a.from a.to g.row.N _ (omega arith) (omega arith)
    (rw m at c.put_row.ensures) (rw n at c.merge_line.ensures))
