-- All words that wait, or ten of them, lie in the line behind the ring's word 6.
use Rattle.std.proofs.Common.{◌≡◌, min, ◌+◌, ◌≤◌, length, take, set, get_or, length-set, refl, sym, ap, ◌∙◌, arith}
use Rattle.std.proofs.Math.Nat.{min_comm, min-le_left, min-le_right}
use Rattle.std.proofs.Math.Seq.{paste}
use Rattle.std.proofs.lemmas.List.{take_min}
use Rattle.ring.proofs.WaitingLaws.{length-words}
use Rattle.run.specs.declared.View.{View}
use Rattle.run.specs.Turns.{words_in, front_of}
use Rattle.run.proofs.Copying.{line_row, line_front}
use Rattle.run.proofs.fill_line.Goals as goal

pub returns : goal.returns
returns c =
    let a = c.args in
    let v = a.v in
    let n = c.min-n.result in
    let w = words_in a.ring.now v in
    let begun = set a.line.now 6 (get_or a.ring.now 6 0) in
    let size : length begun ≡ 17 = length-set a.line.now 6 (get_or a.ring.now 6 0) ∙ c.requires.in_bounds.1 in
    let few : n ≤ 10 = omega (arith, c.min-n.ensures, min-le_right v.n 10) in
    let some : n ≤ v.n = omega (arith, c.min-n.ensures, min-le_left v.n 10) in
    let long : length w ≡ v.n = length-words a.ring.now v.lo v.hi v.at v.n in
    let same : take n w ≡ take 10 w =
    ap (λ k. take k w) (c.min-n.ensures ∙ min_comm v.n 10 ∙ ap (min 10) (sym long)) ∙ take_min 10 w in
    let is = c.copy_words.ensures ∙ ap (λ (u : View). paste begun 7 (words_in a.ring.now u) u.n) c.front.ensures in
    record {
      size = c.copy_words.auto.image ∙ size;
      low = omega arith;
      high = omega arith;
      row = rw is (line_row a.ring.now v n (n + 7) begun size few some refl ∙ same);
      six = rw is (line_front a.line.now (get_or a.ring.now 6 0) n (words_in a.ring.now (front_of v n)) c.requires.in_bounds.1);
    }
