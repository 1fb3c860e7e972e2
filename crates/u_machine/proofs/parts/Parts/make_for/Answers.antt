use Rattle.u_machine.proofs.Making.{makes_none}
use Rattle.u_machine.proofs.parts.Parts.make_for.Goals as goal

pub returns-in_err-need-clause-makes : goal.returns-in_err-need-clause-makes
returns-in_err-need-clause-makes c = makes_none c.args.self.now
