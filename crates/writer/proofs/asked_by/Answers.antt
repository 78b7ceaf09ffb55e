-- What the front of the head says.
use Rattle.std.proofs.Common.{⊎_elim, sym, ◌∙◌}
use Rattle.command.proofs.Steps.{long_kind}
use Rattle.writer.proofs.Asking.{does_asked, does_other, short_asked, faults_asked}
use Rattle.writer.proofs.asked_by.Goals as goal

pub returns-then-words-head : goal.returns-then-words-head
returns-then-words-head c = sym (does_other _ _ c.requires _ _ (sym c.in-Does.ensures) c.if-words-head.true)

pub returns-else-words-head : goal.returns-else-words-head
returns-else-words-head c = sym (does_asked _ _ c.requires _ _ (sym c.in-Does.ensures) c.if-words-head.false)

pub long_asked-requires : goal.long_asked-requires
long_asked-requires c = (c.requires, long_kind _ _ c.in-Long.tail (sym c.in-Long.ensures))

pub returns-in-Short : goal.returns-in-Short
returns-in-Short c =
    ⊎_elim
    (λ q. sym (short_asked _ _ c.requires (sym c.step_in.ensures ∙ q)))
    (λ q. sym (faults_asked _ _ c.requires q.0 (sym c.step_in.ensures ∙ q.1)))
    c.in-Short.is
