use Rattle.std.proofs.Common.{subst, ◌∙◌}
use Rattle.std.proofs.lemmas.Result.{IfErr-weaker}
use Rattle.u_fleet.specs.Workers.{MayFail}
use Rattle.u_fleet.specs.Headline.{HasEnded}
use Rattle.u_fleet.specs.declared.gate.Turn.TheVariants.{Stop}
use Rattle.u_fleet.proofs.Living.{failed, lives_run}
use Rattle.u_fleet.proofs.rounds.one_turn.Goals as goal

pub returns-in-Err-clause-ended : goal.returns-in-Err-clause-ended
returns-in-Err-clause-ended g c =
    failed _ _ _ _ _ c.args.life.now.replica.machine _ _ (lives_run _ _ _ c.holds.ensures.is.machine c.one_round-went.ensures.lives) c.requires.lives.job_is c.requires.limit c.requires.lives.sound (c.in-Err.ensures).fails

pub returns-in-Go-clause-lives : goal.returns-in-Go-clause-lives
returns-in-Go-clause-lives g c = c.save.ensures.lives _ _ c.one_round-went.ensures.lives

pub returns-in-Go-clause-ended : goal.returns-in-Go-clause-ended
returns-in-Go-clause-ended g c =
    let lives = c.one_round-went.ensures.lives in
    IfErr-weaker c.save.result (MayFail c.one_round-went.new.life.replica.machine)
    (HasEnded g.G.Gate.may g.J.Named.job c.args.setting.now.plan.limit c.args.setting.now.plan.rounds c.args.pair.now.1.number _)
    (λ end fails. failed _ _ _ _ _ c.one_round-went.new.life.replica.machine _ end (lives_run _ _ _ c.holds.ensures.is.machine lives) lives.job_is (c.one_round-went.ensures.limit ∙ c.requires.limit) lives.sound fails)
    c.save.ensures.fails

pub returns-in-Restart-clause-lives : goal.returns-in-Restart-clause-lives
returns-in-Restart-clause-lives g c = c.restart.ensures.lives _ _ c.one_round-went.ensures.lives

pub returns-in-Restart-clause-ended : goal.returns-in-Restart-clause-ended
returns-in-Restart-clause-ended g c =
    let lives = c.one_round-went.ensures.lives in
    IfErr-weaker c.restart.result (MayFail c.one_round-went.new.life.replica.machine)
    (HasEnded g.G.Gate.may g.J.Named.job c.args.setting.now.plan.limit c.args.setting.now.plan.rounds c.args.pair.now.1.number _)
    (λ end fails. failed _ _ _ _ _ c.one_round-went.new.life.replica.machine _ end (lives_run _ _ _ c.holds.ensures.is.machine lives) lives.job_is (c.one_round-went.ensures.limit ∙ c.requires.limit) lives.sound fails)
    c.restart.ensures.fails

pub returns-in-Stop-clause-ended : goal.returns-in-Stop-clause-ended
returns-in-Stop-clause-ended g c = record {
  run = lives_run _ _ _ c.holds.ensures.is.machine c.one_round-went.ensures.lives;
  ends = (c.args.round, c.requires.round, subst (λ number. g.G.Gate.may number c.args.round Stop) c.one_round-went.ensures.number (c.in-Stop.ensures));
}
