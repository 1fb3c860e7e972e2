use Rattle.u_scope.proofs.CheckLaws.{check_back}
use Rattle.u_scope.proofs.MeaningLaws.{answer_means, answer_calls}
use Rattle.u_scope.proofs.checked.CheckedSource.check.Goals as goal

pub returns-clause-back : goal.returns-clause-back
returns-clause-back c = check_back c.args.source.now c.check_source.result c.check_source.ensures

pub returns-clause-means : goal.returns-clause-means
returns-clause-means c = answer_means c.args.source.now c.check_source.result c.check_source.ensures

pub returns-clause-calls : goal.returns-clause-calls
returns-clause-calls c = answer_calls c.args.source.now c.check_source.result c.check_source.ensures
