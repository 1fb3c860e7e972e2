use Rattle.std.proofs.Common.{rules}
use Rattle.std.proofs.lemmas.Result.{IfErr-weaker}
use Rattle.u_fleet.specs.Workers.{MayFail}
use Rattle.u_fleet.proofs.Firings.{gains_trans}
use Rattle.u_fleet.proofs.Living.{lives_on, fails_since}
use Rattle.u_fleet.proofs.rounds.one_round.Goals as goal

pub returns-in_err-gather_all-clause-lives : goal.returns-in_err-gather_all-clause-lives
returns-in_err-gather_all-clause-lives g c = lives_on _ c.args.life.now _ _ c.gather_all.ensures.gains c.requires.lives

pub returns-in_err-fire_share-clause-lives : goal.returns-in_err-fire_share-clause-lives
returns-in_err-fire_share-clause-lives g c = lives_on _ c.args.life.now _ _ (gains_trans _ _ _ c.gather_all.ensures.gains c.fire_share.ensures.gains) c.requires.lives

pub returns-in_err-fire_share-clause-fails : goal.returns-in_err-fire_share-clause-fails
returns-in_err-fire_share-clause-fails g c =
    IfErr-weaker c.from_residual-in_err-fire_share.result (MayFail c.gather_all.new.replica.machine) (MayFail c.args.life.now.replica.machine) (λ end. fails_since _ _ end c.gather_all.ensures.gains) (search rules)

pub publish_new-requires-clause-lives : goal.publish_new-requires-clause-lives
publish_new-requires-clause-lives g c = lives_on _ c.args.life.now _ _ (gains_trans _ _ _ c.gather_all.ensures.gains c.fire_share.ensures.gains) c.requires.lives

pub returns-clause-fails : goal.returns-clause-fails
returns-clause-fails g c =
    IfErr-weaker c.publish_new.result (MayFail c.fire_share.new.replica.machine) (MayFail c.args.life.now.replica.machine)
    (λ end. fails_since _ _ end (gains_trans _ _ _ c.gather_all.ensures.gains c.fire_share.ensures.gains)) c.publish_new.ensures.fails
