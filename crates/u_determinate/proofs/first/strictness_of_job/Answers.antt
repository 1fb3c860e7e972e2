use Rattle.std.proofs.Common.{◌≡◌, ◌↔◌, ◌∙◌, ap, List, subst}
use Rattle.std.specs.Prelude.{IfOk}
use Rattle.u_program.specs.Parts.{BlockParts, ProgramParts}
use Rattle.u_determinate.specs.declared.answer.Strictness.TheVariants.{Strict}
use Rattle.u_determinate.specs.Strict.{IsStrict}
use Rattle.u_determinate.proofs.first.strictness_of_job.Goals as goal

pub returns-clause-exact : goal.returns-clause-exact
returns-clause-exact c =
    subst (λ (p : List BlockParts). IfOk c.strictness_of.result (λ s. (s ≡ Strict) ↔ IsStrict p)) (c.blocks-2.ensures.blocks ∙ ap (λ (p : ProgramParts). p.blocks) c.program.ensures.program) c.strictness_of.ensures.exact
