-- `store_short` meets its contract. The invariant: the first i pixels are stored.
use Prim.Native.Nat.{◌+◌, ◌-◌}
use native.Mathlib.Omega.{arith}
use lib.ListN.{length}
use Rattle.raster.proofs.Stored.{none_stored, part_stored, fewer_stored, all_stored}
use Rattle.raster.proofs.store_short.Goals as goal

pub loop-i-init : goal.loop-i-init
loop-i-init c =
    let a = c.args in
    let four = part_stored (none_stored a.colour a.row.now) _ 0 4 (omega arith) (omega arith) c.store_row-2.ensures in
    (omega arith, four.size, fewer_stored four _ (omega arith))

pub loop-i-preserved : goal.loop-i-preserved
loop-i-preserved c =
    let at = c.loop-i in
    let s = part_stored at.invariant.2 _ at.i (at.i + 4 - at.i) (omega arith) (omega arith) c.store_row-in-loop-i.ensures in
    (omega arith, s.size, fewer_stored s _ (omega arith))

pub returns : goal.returns
returns c =
    let at = c.loop-i in
    let n = length c.args.row.now in
    all_stored (part_stored at.invariant.2 _ (n - 4) (length at.row - (n - 4)) (omega arith) (omega arith) c.store_row-3.ensures) (omega arith)
