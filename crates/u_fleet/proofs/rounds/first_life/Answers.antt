use Rattle.std.proofs.Common.{[], subst, sym}
use Rattle.u_fleet.specs.Workers.{Lives}
use Rattle.u_fleet.specs.declared.worker.Saved.TheVariants.{Front}
use Rattle.u_fleet.proofs.Living.{first_lives}
use Rattle.u_fleet.proofs.rounds.first_life.Goals as goal

pub returns-clause-lives : goal.returns-clause-lives
returns-clause-lives g c = subst (λ r. Lives c.args.setting.now.job.now (record { replica = r; sent = 0; saved = Front 0 }) []) (sym (c.in_ok-replica.ensures)) (first_lives _ _ _)
