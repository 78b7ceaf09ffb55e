-- The line's first ten words say what the turn does.
use Rattle.std.proofs.Common.{arith}
use Rattle.run.specs.Going.{scene_of}
use Rattle.run.proofs.TurnLaws.{stops, turn_drained, line_fits, line_goes, line_kept, line_same, line_short, line_faults, line_long}
use Rattle.run.proofs.one_turn.Goals as goal

pub returns-then-v-eq0 : goal.returns-then-v-eq0
returns-then-v-eq0 c =
    let a = c.args in
    stops _ a.v a.ring.now _ _ (turn_drained _ a.v a.ring.now _ c.if-v-eq0.true)

pub executed-requires-clause-size_le_n : goal.executed-requires-clause-size_le_n
executed-requires-clause-size_le_n c =
    let h = c.requires in
    let kept = c.bring_posted.auto.ring in
    (line_fits _ _ _ h.inside h.carries c.fill_line-end.ensures c.line_turn-p.ensures.0, h.small, omega (arith, kept, h.carries, h.inside.fits))

pub returns-in-Spent : goal.returns-in-Spent
returns-in-Spent c =
    let a = c.args in
    let h = c.requires in
    let t = c.line_turn-p.ensures in
    rw c.executed.ensures.value
    (line_goes _ _ _ h.inside h.carries c.fill_line-end.ensures t.0 (t.1.spent c.in-Spent.is) a.marks.defined a.cursor.now _ _ c.bring_posted.ensures
    c.executed.ensures.ring_after)

pub returns-in-Short : goal.returns-in-Short
returns-in-Short c =
    let a = c.args in
    let h = c.requires in
    let l = c.fill_line-end.ensures in
    let t = c.line_turn-p.ensures in
    let z = t.1.short c.in-Short.is in
    rw (line_kept _ _ _ h.inside h.carries l t.0 z.0)
    (stops _ a.v a.ring.now _ _ (line_short _ _ _ h.inside h.carries l t.0 z.0 z.1 (omega arith) _))

pub returns-in-Faults : goal.returns-in-Faults
returns-in-Faults c =
    let a = c.args in
    let h = c.requires in
    let l = c.fill_line-end.ensures in
    let t = c.line_turn-p.ensures in
    let z = t.1.faults _ c.in-Faults.is in
    rw (line_kept _ _ _ h.inside h.carries l t.0 z.0)
    (stops _ a.v a.ring.now _ _ (line_faults _ _ _ h.inside h.carries l t.0 z.0 _ z.1 _))

pub data_turn-requires-clause-le_n : goal.data_turn-requires-clause-le_n
data_turn-requires-clause-le_n c =
    let h = c.requires in
    let l = c.fill_line-end.ensures in
    let t = c.line_turn-p.ensures in
    let z = t.1.long _ c.in-Long.is in
    (omega arith, rw (line_same _ _ _ h.inside h.carries l t.0 z.0) l.row, line_long _ _ _ h.inside h.carries l t.0 z.0 _ z.1)

pub returns-in-Long : goal.returns-in-Long
returns-in-Long c =
    let a = c.args in
    let h = c.requires in
    let t = c.line_turn-p.ensures in
    let z = t.1.long _ c.in-Long.is in
    rw (line_kept _ _ _ h.inside h.carries c.fill_line-end.ensures t.0 z.0)
    (c.data_turn.ensures (scene_of a.stage) a.screen.now)
