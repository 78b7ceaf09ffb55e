-- `copy_pieces` meets its contract: each piece goes on with those done so far.
use native.Mathlib.Omega.{arith}
use Rattle.geometry.proofs.Loops.{pieces_begin, pieces_to, pieces_end, fewer_left}
use Rattle.raster.proofs.copy_pieces.Goals as goal

pub loop-done-init : goal.loop-done-init
loop-done-init g c = pieces_begin

pub loop-done-preserved : goal.loop-done-preserved
loop-done-preserved g c = pieces_to c.loop-done.invariant c.requires.ordered (omega arith) (omega arith) (omega arith) c.copy_next-done.ensures.moves

pub returns : goal.returns
returns g c =
    let o = c.requires.ordered in
    let at_16 = c.copy_next-done_16.ensures in
    let at_8 = c.copy_next-done_8.ensures in
    let at_4 = c.copy_next-done_4.ensures in
    let at_2 = c.copy_next-done_2.ensures in
    let at_1 = c.copy_next-all.ensures in
    let left_16 = fewer_left 16 at_16.left at_16.too_few (omega arith) (omega arith) in
    let left_8 = fewer_left 8 at_8.left at_8.too_few left_16.1 left_16.2 in
    let left_4 = fewer_left 4 at_4.left at_4.too_few left_8.1 left_8.2 in
    let left_2 = fewer_left 2 at_2.left at_2.too_few left_4.1 left_4.2 in
    let left_1 = fewer_left 1 at_1.left at_1.too_few left_2.1 left_2.2 in
    let by_16 = pieces_to c.loop-done.invariant o (omega arith) left_16.0 left_16.1 at_16.moves in
    let by_8 = pieces_to by_16 o (omega arith) left_8.0 left_8.1 at_8.moves in
    let by_4 = pieces_to by_8 o (omega arith) left_4.0 left_4.1 at_4.moves in
    let by_2 = pieces_to by_4 o (omega arith) left_2.0 left_2.1 at_2.moves in
    pieces_end (pieces_to by_2 o (omega arith) left_1.0 left_1.1 at_1.moves) (omega (arith, left_1.2))
