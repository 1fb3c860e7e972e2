use Rattle.u_name.proofs.WholeTexts.{name_left_within}
use Rattle.u_name.proofs.name.Name.read.Goals as goal

pub whole-requires-clause-within : goal.whole-requires-clause-within
whole-requires-clause-within c = name_left_within c.args.bytes.now c.in-Ok.name c.name.new.self.rest.now c.in-Ok.ensures.1
