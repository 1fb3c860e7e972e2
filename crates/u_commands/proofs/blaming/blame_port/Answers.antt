use Rattle.std.proofs.Common.{subst, sym}
use Rattle.std.specs.Prelude.{MatchResult}
use Rattle.u_check.specs.Jobs.{JobParts}
use Rattle.u_commands.specs.Traces.{RanPlainly}
use Rattle.u_commands.specs.Blaming.{most_blamed, BlamesJob, BlameRefused}
use Rattle.u_commands.proofs.Traced.{ran_plainly}
use Rattle.u_commands.proofs.blaming.blame_port.Goals as goal

pub blamed-requires-clause-ran : goal.blamed-requires-clause-ran
unfolding most_blamed
blamed-requires-clause-ran g c =
    subst (λ (j : JobParts). RanPlainly j most_blamed c.in_ok-machine.machine) (sym c.in_ok-machine.ensures.ok.of) (ran_plainly c.args.task.now.job most_blamed c.in_ok-machine.machine _ c.in_ok-machine.ensures.ok)

pub returns : goal.returns
returns g c =
    subst (λ (j : JobParts). MatchResult c.blamed.result (λ v. BlamesJob j c.args.task.now.origins.items c.args.activity.now c.args.port v.items) (λ fault. BlameRefused j c.args.activity.now c.args.port fault)) c.in_ok-machine.ensures.ok.of (rw c.deref.ensures.value at c.blamed.ensures)
