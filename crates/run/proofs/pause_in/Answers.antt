-- Each kind of command, by what a step says of it. The kinds that the match does not name are of fixed length and offered.
use Rattle.std.proofs.Common.{◌≡◌, ℕ, List, cond, ltb, length, refl, sym, ap, ◌∙◌, arith}
use Rattle.std.proofs.Math.Option.{none}
use Rattle.execution.specs.declared.Cause.TheVariants.{BadOperand}
use Rattle.command.specs.declared.Kind.{Kind}
use Rattle.command.specs.declared.Kind.TheVariants.{DefineAlphaCursor, Escape, Foreign}
use Rattle.command.specs.declared.Data.{Data}
use Rattle.command.specs.declared.Data.TheVariants as D
use Rattle.command.specs.Commands.{entry, kind_in}
use Rattle.command.specs.Findings.{data_of, step_in, kind_with}
use Rattle.command.proofs.Steps.{fixed, no_data, step_none, step_long, step_foreign}
use Rattle.run.specs.declared.Pause.TheVariants.{Spent, Short, Faults}
use Rattle.run.specs.Going.{pause_of}
use Rattle.run.proofs.Rows.{pauses_fixed}
use Rattle.run.proofs.pause_in.Goals as goal

-- a kind that is none of the three named is paused at as one of fixed length
unnamed : (row : List ℕ) → (pause_of (step_in tt row) ≡ Spent → ⊥) → (k : Kind) → k ≡ kind_in row
    → (k ≡ DefineAlphaCursor → ⊥) → (k ≡ Escape → ⊥) → (k ≡ Foreign → ⊥)
    → cond (ltb (length row) (entry k).head) Short (Faults BadOperand) ≡ pause_of (step_in tt row)
unnamed row other k is no_cursor no_escape no_foreign =
    let plain : data_of (kind_in row) ≡ none = no_data (kind_in row) no_long in
    rw is (sym (pauses_fixed row other plain ((fixed (kind_in row) plain).offered (λ e. no_foreign (is ∙ e)))))
  where
    no_long : (d : Data) → kind_in row ≡ kind_with d → ⊥
    no_long D.Cursor e = no_cursor (is ∙ e)
    no_long D.Escape e = no_escape (is ∙ e)

pub returns-in_default : goal.returns-in_default
returns-in_default c = ap pause_of (sym (step_none tt c.args.row.now (omega (arith, c.in_default.len_below))))

pub returns-in-DefineAlphaCursor : goal.returns-in-DefineAlphaCursor
returns-in-DefineAlphaCursor c = ap pause_of (sym (step_long tt c.args.row.now D.Cursor (ap data_of (sym c.in-DefineAlphaCursor.ensures))))

pub returns-in-Escape : goal.returns-in-Escape
returns-in-Escape c = ap pause_of (sym (step_long tt c.args.row.now D.Escape (ap data_of (sym c.in-Escape.ensures))))

pub returns-in-Foreign : goal.returns-in-Foreign
unfolding entry
returns-in-Foreign c = ap pause_of (sym (step_foreign tt c.args.row.now Foreign (sym c.in-Foreign.ensures) refl (omega arith) refl))

pub returns-in_default-kind : goal.returns-in_default-kind
returns-in_default-kind c =
    c.fixed_pause.ensures
    ∙ ap (λ (n : ℕ). cond (ltb (length c.args.row.now) n) Short (Faults BadOperand)) c.head_words.ensures
    ∙ unnamed c.args.row.now c.requires _ c.from-kind.ensures c.in_default-kind.not-DefineAlphaCursor c.in_default-kind.not-Escape c.in_default-kind.not-Foreign
