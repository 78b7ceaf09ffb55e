-- Pixels and then data, the data from the place behind the pixels on.
use Rattle.std.proofs.Common.{◌<◌, ◌+◌, ℕ, ◌++◌, length, refl, ap, ◌∙◌, length-append, arith}
use Rattle.ring.specs.Waiting.{ahead}
use Rattle.ring.proofs.WaitingLaws.{InRing}
use Rattle.writer.specs.declared.Place.{Place}
use Rattle.writer.specs.Writing.{data_words}
use Rattle.writer.specs.Laying.{InPlace, laid}
use Rattle.writer.proofs.Laying.{others_in, laid_both, behind_both}
use Rattle.writer.proofs.put_rest.Goals as goal

-- all of them are in the ring
held : {p : Place} {m : ℕ} → InPlace p m → (n : ℕ) → n + p.lo < p.hi → InRing p.lo p.hi p.at n
held i n h = record { from = i.from; below = i.below; held = omega arith }

pub lay_data-requires : goal.lay_data-requires
lay_data-requires c =
    let a = c.args in
    let p = a.place in
    let u = a.pixels.now in
    let v = data_words a.bytes.now in
    let n = length-append u v in
    let h = c.requires.held in
    let i = others_in p.lo p.hi p.at u v (ahead p.lo p.hi p.at (length u)) (held h (length (u ++ v)) (omega arith)) refl in
    let there = c.lay-last.auto.ring in
    let e = c.lay-last.ensures.value in
    record { held = record { from = rw e i.from; below = rw e i.below; fits = omega (arith, h.fits, there) }; room = (omega arith, omega arith) }

pub returns-clause-ring_after : goal.returns-clause-ring_after
returns-clause-ring_after c =
    let a = c.args in
    let p = a.place in
    let u = a.pixels.now in
    let v = data_words a.bytes.now in
    let l = c.lay-last.ensures in
    c.lay_data.ensures.ring_after
    ∙ ap (laid p.lo p.hi c.lay-last.result v) l.ring_after
    ∙ laid_both p.lo p.hi p.at u v _ (held c.requires.held (length (u ++ v)) (omega arith)) l.value a.ring.now

pub returns-clause-value : goal.returns-clause-value
returns-clause-value c =
    let a = c.args in
    let p = a.place in
    let u = a.pixels.now in
    let v = data_words a.bytes.now in
    c.lay_data.ensures.value ∙ behind_both p.lo p.hi p.at u v _ (held c.requires.held (length (u ++ v)) (omega arith)) c.lay-last.ensures.value
