-- `copy_next` meets its contract: a piece, or none.
use mathlib.Core.Path.{◌≡◌}
use Prim.Native.Nat.{◌+◌, ◌-◌}
use native.Mathlib.Omega.{arith}
use Rattle.geometry.proofs.Rows.{none_moved}
use Rattle.raster.proofs.copy_next.Goals as goal

pub returns-clause-moves : goal.returns-clause-moves
returns-clause-moves g c =
    let n : c.args.done + g.row.N - c.args.done ≡ g.row.N = omega arith in
    rw n (rw c.next-i.ensures at c.copy_piece.ensures)

pub returns-then-n-done-clause-moves : goal.returns-then-n-done-clause-moves
returns-then-n-done-clause-moves g c =
    let none : c.args.done - c.args.done ≡ 0 = omega arith in
    rw none (none_moved _ _ _ _)
