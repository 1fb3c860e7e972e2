use Rattle.std.proofs.Common.{◌∙◌, ap, sym, List, subst}
use Rattle.std.specs.Prelude.{IfOk}
use Rattle.u_program.specs.Parts.{BlockParts, ProgramParts}
use Rattle.u_check.specs.Rules.{IsChecked}
use Rattle.u_determinate.specs.Meetings.{IsAnswer, IsExact}
use Rattle.u_determinate.proofs.first_meeting.determinacy.Goals as goal

pub determinacy_of-requires : goal.determinacy_of-requires
determinacy_of-requires c =
    subst IsChecked (sym (c.blocks-2.ensures.blocks ∙ ap (λ (p : ProgramParts). p.blocks) c.program.ensures.program)) c.program.ensures.checked

pub returns-clause-answer : goal.returns-clause-answer
returns-clause-answer c =
    subst (λ (p : List BlockParts). IfOk c.determinacy_of.result (IsAnswer p)) (c.blocks-2.ensures.blocks ∙ ap (λ (p : ProgramParts). p.blocks) c.program.ensures.program) c.determinacy_of.ensures.answer

pub returns-clause-exact : goal.returns-clause-exact
returns-clause-exact c =
    subst (λ (p : List BlockParts). IfOk c.determinacy_of.result (IsExact p)) (c.blocks-2.ensures.blocks ∙ ap (λ (p : ProgramParts). p.blocks) c.program.ensures.program) c.determinacy_of.ensures.exact
