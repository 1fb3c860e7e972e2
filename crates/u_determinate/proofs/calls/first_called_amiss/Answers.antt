use Rattle.std.proofs.Common.{List, subst}
use Rattle.u_program.specs.Parts.{StatementParts}
use Rattle.u_determinate.specs.Breaches.{ReturnsOneCall, IsFirstFailing}
use Rattle.u_determinate.proofs.calls.first_called_amiss.Goals as goal

pub returns : goal.returns
returns c = subst (λ (ss : List StatementParts). IsFirstFailing (ReturnsOneCall ss) c.first_back.result) c.statements-statements.ensures c.first_back.ensures
