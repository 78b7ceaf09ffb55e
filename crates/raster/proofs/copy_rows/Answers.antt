-- `copy_rows` meets its contract: each turn moves the next row.
use native.Mathlib.Omega.{arith}
use Rattle.geometry.proofs.Loops.{copy_row}
use Rattle.raster.proofs.copy_rows.Goals as goal

pub row-requires : goal.row-requires
row-requires g c =
    let row = copy_row c.loop-done.invariant.copying (omega arith) c.next-j.ensures in
    record {
      narrow = omega (arith, row.narrow);
      fits = (omega (arith, row.from_room), omega (arith, row.to_room));
      ordered = rw (c.place_of-source.ensures, c.place_of-place.ensures) row.ordered;
    }
