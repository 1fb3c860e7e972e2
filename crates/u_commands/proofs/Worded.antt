-- What `strict` and `determinate` say of a program is so of its jobs.
use Rattle.std.specs.Prelude.{List}
use Rattle.std.proofs.Common.{sym, subst}
use Rattle.u_program.specs.Parts.{BlockParts}
use Rattle.u_check.specs.Rules.{IsChecked}
use Rattle.u_determinate.specs.Strict.{IsStrict}
use Rattle.u_determinate.specs.Determinate.{IsDeterminate}
use Rattle.u_determinate.specs.Breaches as breaches
use Rattle.u_determinate.specs.Meetings as meetings
use Rattle.u_determinate.specs.declared.answer.Strictness.{Strictness}
use Rattle.u_determinate.specs.declared.answer.Strictness.TheVariants.{Strict, Loose}
use Rattle.u_determinate.specs.declared.verdict.Determinacy.{Determinacy}
use Rattle.u_determinate.specs.declared.verdict.Determinacy.TheVariants.{Determinate, Meets}
use Rattle.u_determinate.proofs.Theorem.{determinate_job, strict_job}
use Rattle.u_commands.specs.Checks.{StrictKeeps, DeterminateKeeps}

pub strict_keeps : (p : List BlockParts) → IsChecked p → (s : Strictness) → breaches.IsAnswer p s → StrictKeeps p s
strict_keeps p checked Strict is = λ job e. strict_job job (subst IsChecked (sym e) checked) (subst IsStrict (sym e) is)
strict_keeps p checked (Loose rule block at) is = tt

pub determinate_keeps : (p : List BlockParts) → IsChecked p → (d : Determinacy) → meetings.IsAnswer p d → DeterminateKeeps p d
determinate_keeps p checked Determinate is = λ job e. determinate_job job (subst IsChecked (sym e) checked) (subst IsDeterminate (sym e) is)
determinate_keeps p checked (Meets place) is = tt
