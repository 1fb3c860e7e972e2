use Rattle.std.proofs.Common.{rules}
use Rattle.std.proofs.lemmas.Result.{IfErr-weaker}
use Rattle.u_fleet.specs.Workers.{MayFail}
use Rattle.u_fleet.proofs.Living.{lives_on, fails_since, ended_whole, ended_full}
use Rattle.u_fleet.proofs.rounds.last_round.Goals as goal

pub returns-in_err-ran-clause-lives : goal.returns-in_err-ran-clause-lives
returns-in_err-ran-clause-lives g c = lives_on _ c.args.life.now _ _ c.run_last.ensures.gains c.requires.lives

pub publish_new-requires-clause-lives : goal.publish_new-requires-clause-lives
publish_new-requires-clause-lives g c = lives_on _ c.args.life.now _ _ c.run_last.ensures.gains c.requires.lives

pub returns-in_err-publish_new-clause-fails : goal.returns-in_err-publish_new-clause-fails
returns-in_err-publish_new-clause-fails g c =
    IfErr-weaker c.from_residual-in_err-publish_new.result (MayFail c.run_last.new.replica.machine) (MayFail c.args.life.now.replica.machine) (λ end. fails_since _ _ end c.run_last.ensures.gains) (search rules)

pub returns-in-Quiet-clause-ended : goal.returns-in-Quiet-clause-ended
returns-in-Quiet-clause-ended g c =
    ended_whole _ c.publish_new.new.life _ _ _ _ c.holds.ensures.is.machine (c.in_ok-ran.ensures).ran c.in-Quiet.is c.publish_new.ensures.replica (c.in_ok-publish_new.ensures).all c.publish_new.ensures.lives

pub returns-in-Paused-clause-ended : goal.returns-in-Paused-clause-ended
returns-in-Paused-clause-ended g c = ended_full c.publish_new.new.life _ _ _ (c.in_ok-ran.ensures).ran c.in-Paused.is c.publish_new.ensures.replica
