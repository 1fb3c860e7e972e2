use Rattle.std.proofs.Common.{◌∙◌, ap, Err}
use Rattle.u_name.proofs.WholeTexts.{stuck_deep, deep_within}
use Rattle.u_name.proofs.reading.front_name.Goals as goal

pub behind-requires : goal.behind-requires
behind-requires c = deep_within c.args.bytes.now (rw c.in-Err-Deep.field-0-is at c.in-Err-Deep.ensures)

pub returns-in-Err-Deep : goal.returns-in-Err-Deep
returns-in-Err-Deep c = stuck_deep c.args.bytes.now (rw c.in-Err-Deep.field-0-is at c.in-Err-Deep.ensures) ∙ ap Err c.behind.ensures
