-- Commands in a row and single turns are parts of the whole run, and a run may go on from where each of them ends.
use Rattle.std.proofs.Common.{refl, arith}
use Rattle.run.specs.Turns.{place_of}
use Rattle.run.proofs.Laws.{in_largest}
use Rattle.run.proofs.Posting.{clear_min}
use Rattle.run.proofs.Loop.{row_bounds, going_start, going_rows, going_one, going_stops, going_spent, going_left, can_stand}
use Rattle.run.proofs.turns.Goals as goal

pub loop-left-init : goal.loop-left-init
loop-left-init c = going_start _ _ _ _ _ c.requires.inside

pub row_end-requires : goal.row_end-requires
row_end-requires c =
    let at = c.loop-left in
    let s = can_stand c.requires at.invariant {cursor = at.cursor} at.auto.cursor in
    in_largest s

pub row_turns-row-requires : goal.row_turns-row-requires
row_turns-row-requires c =
    let at = c.loop-left in
    let s = can_stand c.requires at.invariant {cursor = at.cursor} at.auto.cursor in
    let b = row_bounds at.ring at.v s.inside in
    let e = c.row_end.ensures in (
      omega (arith, s.low, s.inside.from),
      omega (arith, b, e),
      omega (arith, b, e, s.inside.fits),
      omega (arith, b, e, s.small),
      λ t. omega (arith, clear_min (place_of at.v) s.posted t, s.inside.from),
    )

pub pass-v-requires : goal.pass-v-requires
pass-v-requires c =
    let at = c.loop-left in
    let s = can_stand c.requires at.invariant {cursor = at.cursor} at.auto.cursor in
    let b = row_bounds at.ring at.v s.inside in
    record { in_view = in_largest s; there = omega (arith, b, c.row_end.ensures, c.row_turns-row.ensures.0.within) }

pub one_turn-requires : goal.one_turn-requires
one_turn-requires c =
    let at = c.loop-left in
    let s = can_stand c.requires at.invariant {cursor = at.cursor} at.auto.cursor in
    let g = going_rows c.requires at.invariant s c.row_end.ensures c.row_turns-row.ensures.0 _ c.pass-v.ensures in
    can_stand c.requires g {cursor = at.cursor} at.auto.cursor

pub loop-left-preserved-in-Ok : goal.loop-left-preserved-in-Ok
loop-left-preserved-in-Ok c =
    let at = c.loop-left in
    let s = can_stand c.requires at.invariant {cursor = at.cursor} at.auto.cursor in
    let g = going_rows c.requires at.invariant s c.row_end.ensures c.row_turns-row.ensures.0 _ c.pass-v.ensures in
    let here = can_stand c.requires g {cursor = at.cursor} at.auto.cursor in
    going_one c.requires g here c.if-left-gt0.true _ (rw c.in-Ok.is at c.one_turn.ensures) refl

pub ran_to-requires : goal.ran_to-requires
ran_to-requires c =
    let at = c.loop-left in
    let s = can_stand c.requires at.invariant {cursor = at.cursor} at.auto.cursor in
    let g = going_rows c.requires at.invariant s c.row_end.ensures c.row_turns-row.ensures.0 _ c.pass-v.ensures in
    let here = can_stand c.requires g {cursor = at.cursor} at.auto.cursor in
    in_largest here

pub returns-in-Err : goal.returns-in-Err
returns-in-Err c =
    let at = c.loop-left in
    let s = can_stand c.requires at.invariant {cursor = at.cursor} at.auto.cursor in
    let g = going_rows c.requires at.invariant s c.row_end.ensures c.row_turns-row.ensures.0 _ c.pass-v.ensures in
    rw c.ran_to.ensures (going_stops c.requires g c.if-left-gt0.true _ (rw c.in-Err.is at c.one_turn.ensures) _ refl _ refl refl refl refl refl)

pub loop-left-preserved : goal.loop-left-preserved
loop-left-preserved c =
    let at = c.loop-left in
    let s = can_stand c.requires at.invariant {cursor = at.cursor} at.auto.cursor in
    going_rows c.requires at.invariant s c.row_end.ensures c.row_turns-row.ensures.0 _ c.pass-v.ensures

pub ran_to-requires-2 : goal.ran_to-requires-2
ran_to-requires-2 c =
    let at = c.loop-left in
    let s = can_stand c.requires at.invariant {cursor = at.cursor} at.auto.cursor in
    in_largest s

pub returns : goal.returns
returns c =
    let at = c.loop-left in
    let s = can_stand c.requires at.invariant {cursor = at.cursor} at.auto.cursor in
    let z = c.loop-left-test.false in
    rw (c.ran_to-2.ensures, ← s.posted) (going_left c.requires at.invariant _ _ (omega (arith, z)) (going_spent c.requires at.invariant z))
