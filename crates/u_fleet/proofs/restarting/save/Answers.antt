use Rattle.u_fleet.proofs.Living.{text_lives}
use Rattle.u_fleet.proofs.restarting.save.Goals as goal

pub returns-in-Ok-clause-lives : goal.returns-in-Ok-clause-lives
returns-in-Ok-clause-lives c job published lives = text_lives job c.args.life.now published c.in-Ok.bytes (c.in-Ok.ensures).text c.save.ensures.valid lives
