use Rattle.std.proofs.Common.{sym, subst, refl, [], ◌∷◌}
use Rattle.u_delta.specs.Lines.{lines_behind}
use Rattle.u_replica.specs.CheckpointText.{first_line}
use Rattle.u_replica.specs.CheckpointReading.{IsAnswer}
use Rattle.u_replica.proofs.CheckpointSteps.{none_read}
use Rattle.u_replica.proofs.FiredLaws.{behind_none}
use Rattle.u_replica.proofs.checkpoint_reading.read_lines.Goals as goal

pub returns-in-Ok : goal.returns-in-Ok
returns-in-Ok c =
    let head = c.in-Ok.field-0-0 in
    subst (λ t. IsAnswer c.args.version t c.read_firings.result) (sym c.in-Ok.ensures.1)
    (subst (λ r. IsAnswer c.args.version (lines_behind (first_line head ∷ []) c.in-Ok.rest.now) r) (behind_none c.read_firings.result) (c.read_firings.ensures head [] refl (none_read head) c.args.version c.in-Ok.ensures.0))
