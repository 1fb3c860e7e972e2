use Rattle.std.proofs.Common.{subst, ◌∙◌}
use Rattle.u_outlet.specs.Ends.{published}
use Rattle.u_fleet.specs.Headline.{HasEnded}
use Rattle.u_fleet.proofs.Living.{last_worked, failed, lives_run}
use Rattle.u_fleet.proofs.rounds.all_rounds.Goals as goal

pub returns-in-Ok-clause-worked : goal.returns-in-Ok-clause-worked
returns-in-Ok-clause-worked g c =
    let lives = c.last_round-last.ensures.lives in
    last_worked _ _ _ _ _ c.last_round-last.new.life.replica.machine _ _ (lives_run _ _ _ c.holds.ensures.is.machine lives) lives.job_is (c.last_round-last.ensures.limit ∙ c.loop-round.invariant.5) lives.sound (c.in-Ok.ensures).ended

pub returns-in-Err-clause-worked : goal.returns-in-Err-clause-worked
returns-in-Err-clause-worked g c =
    subst (λ number. HasEnded g.G.Gate.may g.J.Named.job c.args.setting.now.plan.limit c.args.setting.now.plan.rounds number (published c.one_turn.new.pair.0) c.in-Err.end) c.loop-round.invariant.2 (c.in-Err.ensures).ended

pub returns-in-Err-last-clause-worked : goal.returns-in-Err-last-clause-worked
returns-in-Err-last-clause-worked g c =
    let lives = c.loop-round.invariant.0 in
    failed _ _ _ _ _ c.loop-round.life.replica.machine _ _ (lives_run _ _ _ c.holds.ensures.is.machine c.last_round-last.ensures.lives) lives.job_is c.loop-round.invariant.5 lives.sound (c.in-Err-last.ensures).fails
