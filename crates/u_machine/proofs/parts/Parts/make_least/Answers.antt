use Rattle.std.proofs.Common.{◌∙◌, refl}
use Rattle.u_machine.proofs.Making.{makes_none, makes_on}
use Rattle.u_machine.proofs.parts.Parts.make_least.Goals as goal

pub loop-self-init : goal.loop-self-init
loop-self-init c = record { kept = c.requires.kept; makes = makes_none c.args.self.now }

pub make_first-requires-clause-idle : goal.make_first-requires-clause-idle
make_first-requires-clause-idle c = c.loop-self.invariant.makes.woken ∙ c.requires.idle

pub loop-self-preserved : goal.loop-self-preserved
loop-self-preserved c = record { kept = c.make_first.ensures.kept; makes = makes_on _ _ _ c.loop-self.invariant.makes c.make_first.ensures.makes }

pub returns-in_err-make_first-clause-makes : goal.returns-in_err-make_first-clause-makes
returns-in_err-make_first-clause-makes c = makes_on _ _ _ c.loop-self.invariant.makes c.make_first.ensures.makes

pub returns-clause-least : goal.returns-clause-least
returns-clause-least c = c.loop-self-test.ensures.least refl
