use Rattle.std.proofs.Common.{drop, refl}
use Rattle.u_outlet.proofs.Growing.{joined-snoc}
use Rattle.u_outlet.proofs.publishing.add.Goals as goal
use Rattle.u_outlet.proofs.publishing.add.Goals.{in-Ok, in-Err}

pub returns-clause-unshown : goal.returns-clause-unshown
returns-clause-unshown g c =
    let old = drop c.args.writer.now.behind c.args.writer.now.log.items in
    elim c.match-append.branch [
      | in-Ok w ↦ rw (w.result-is, w.in-Ok.ensures.pending) (joined-snoc old c.args.batch)
      | in-Err w ↦ rw (w.result-is, w.in-Err.ensures.pending.1) refl
    ]
