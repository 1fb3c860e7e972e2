use Rattle.std.proofs.Common.{subst}
use Rattle.std.specs.Prelude.{IfOk}
use Rattle.u_check.specs.Jobs.{JobParts}
use Rattle.u_trace.specs.Blames.{BlamesByWrites}
use Rattle.u_trace.proofs.BlameLaws.{always_some}
use Rattle.u_trace.proofs.blaming.blame.Goals as goal

pub returns-clause-cell : goal.returns-clause-cell
returns-clause-cell c =
    subst (λ (j : JobParts). IfOk c.blame_in.result (BlamesByWrites j)) c.job-job.ensures
    (always_some c.job-job.result.now c.applied-log.result.now c.args.activity.now c.args.port c.blame_in.result c.blame_in.ensures c.only_writes_clash.ensures.determinate c.only_writes_clash.ensures.strict)
