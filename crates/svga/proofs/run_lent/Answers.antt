-- The memories that were lent are those that the run had.
use Rattle.std.proofs.Common.{rules, sym}
use Rattle.svga.proofs.Laws.{ran_equal}
use Rattle.svga.proofs.run_lent.Goals as goal

pub returns : goal.returns
returns c =
    let same = c.run.ensures.same in
    let ring = sym same.ring in
    let framebuffer = sym same.framebuffer in
    let screen = sym same.screen in
    let cursor = sym same.cursor in
    ran_equal _ _ _ c.run.ensures.ran (search (rules, ring)) (search (rules, framebuffer)) (search (rules, screen)) (search (rules, cursor))
