use Rattle.std.proofs.Common.{rules}
use Rattle.u_fleet.proofs.Living.{restored_lives, restored_full, restored_other}
use Rattle.u_fleet.proofs.restarting.restart.Goals as goal

pub returns-in-Ok-restore-clause-lives : goal.returns-in-Ok-restore-clause-lives
returns-in-Ok-restore-clause-lives g c =
    restored_lives _ _ _ c.args.life.now c.in-Ok.text _ c.requires.job c.as_slice.ensures.value c.requires.lives.1.job_is (c.in-Ok.ensures).text _ _ _ _ c.holds.ensures.is.machine (c.in-Ok-restore.ensures).written
    c.replace-before.ensures.after c.replace-saved.ensures.after

pub returns-in-Err-Full-clause-fails : goal.returns-in-Err-Full-clause-fails
returns-in-Err-Full-clause-fails g c =
    restored_full _ _ _ c.args.life.now c.in-Ok.text _ c.requires.job c.as_slice.ensures.value c.requires.lives.1.job_is (c.in-Ok.ensures).text c.in-Err-Full.field-0 c.in-Err-Full.field-0-is c.requires.limit (c.in-Err-Full.ensures).written

pub unreachable-requires : goal.unreachable-requires
unreachable-requires g c =
    restored_other _ _ _ c.args.life.now c.in-Ok.text _ c.requires.job c.as_slice.ensures.value c.requires.lives.1.job_is (c.in-Ok.ensures).text c.in-Err.field-0 (c.in-Err.ensures).written (search rules) (search rules)
