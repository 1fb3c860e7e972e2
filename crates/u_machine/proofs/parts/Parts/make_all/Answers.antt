use Rattle.std.proofs.Common.{◌∙◌, arith}
use Rattle.u_machine.proofs.Lists.{nil_of_length}
use Rattle.u_machine.proofs.Making.{makes_none, makes_on}
use Rattle.u_machine.proofs.parts.Parts.make_all.Goals as goal

pub loop-self-init : goal.loop-self-init
loop-self-init c = record { kept = c.requires.kept; makes = makes_none c.args.self.now }

pub make_first-requires-clause-idle : goal.make_first-requires-clause-idle
make_first-requires-clause-idle c = c.loop-self.invariant.makes.woken ∙ c.requires.idle

pub loop-self-preserved : goal.loop-self-preserved
loop-self-preserved c = record { kept = c.make_first.ensures.kept; makes = makes_on _ _ _ c.loop-self.invariant.makes c.make_first.ensures.makes }

pub returns-in_err-make_first-clause-makes : goal.returns-in_err-make_first-clause-makes
returns-in_err-make_first-clause-makes c = makes_on _ _ _ c.loop-self.invariant.makes c.make_first.ensures.makes

pub returns-clause-ok : goal.returns-clause-ok
returns-clause-ok c = nil_of_length c.loop-self.self.late (let n = c.len.ensures.len in omega (arith, n))
