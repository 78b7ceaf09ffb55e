-- `move_row` meets its contract: the line holds the source, and the destination, lent and back, is the line.
use mathlib.Core.Path.{◌≡◌}
use Prim.Native.Nat.{◌+◌, ◌-◌}
use native.Mathlib.Omega.{arith}
use lib.ListN.{take, replicate}
use borrow.Rule.Slice.PartMut.{put_mid}
use Rattle.geometry.proofs.Rows.{line_moved}
use Rattle.raster.proofs.move_row.Goals as goal

pub returns : goal.returns
returns c =
    let a = c.args in
    let n : a.to + a.n - a.to ≡ a.n = omega arith in
    let m : a.from + a.n - a.from ≡ a.n = omega arith in
    let line = c.copy_from_slice.new.self in
    let row : c.copy_from_slice-2.new.self ≡ take a.n (put_mid 0 a.n (replicate 2560 0) line) = c.copy_from_slice-2.ensures.after in
    rw n (line_moved a.screen.now _ line _ a.from a.to a.n (omega arith) (omega arith) (rw m at c.copy_from_slice.ensures.after) row)
