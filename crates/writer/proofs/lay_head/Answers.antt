-- Two copies of four words that meet or overlap are one, and so are two or three single stores.
use Rattle.std.proofs.Common.{◌≡◌, ◌+◌, ◌-◌, length, drop, ap, ap₂, ◌∙◌, arith}
use Rattle.std.proofs.Math.Seq.{paste}
use Rattle.writer.proofs.Pasting.{stored_paste, paste_paste}
use Rattle.writer.proofs.lay_head.Goals as goal

pub returns-then-n-ge4 : goal.returns-then-n-ge4
returns-then-n-ge4 c =
    let a = c.args in
    let w = a.head.now in
    let n = length w in
    let at : a.at + n - 4 ≡ a.at + (n - 4) = omega arith in
    let all : n - 4 + 4 ≡ n = omega arith in
    c.lay_four-then-n-ge4.ensures
    ∙ ap₂ (λ r p. paste r p (drop (n - 4) w) 4) c.lay_four.ensures at
    ∙ paste_paste a.ring.now a.at w 4 (n - 4) (omega arith) (omega arith) (omega arith)
    ∙ ap (paste a.ring.now a.at w) all

pub returns-then-n-eq3 : goal.returns-then-n-eq3
returns-then-n-eq3 c =
    let a = c.args in
    let three : 3 ≡ length a.head.now = omega arith in
    stored_paste a.ring.now a.at a.head.now 0 2 (omega arith) (omega arith) ∙ ap (paste a.ring.now a.at a.head.now) three

pub returns-else-n-eq3 : goal.returns-else-n-eq3
returns-else-n-eq3 c =
    let a = c.args in
    let two : 2 ≡ length a.head.now = omega arith in
    stored_paste a.ring.now a.at a.head.now 0 1 (omega arith) (omega arith) ∙ ap (paste a.ring.now a.at a.head.now) two
