use Rattle.std.proofs.Common.{subst, List}
use Rattle.u_sets.specs.Members.{IsUnion}
use Rattle.u_rule.specs.declared.entry.Entry.{Entry}
use Rattle.u_history.proofs.history.History.merge.Goals as goal

pub returns-clause-ok : goal.returns-clause-ok
returns-clause-ok c = subst (λ (left : List Entry). IsUnion left c.args.other.now c.take_in.new.self) c.in_ok-union.ensures c.in_ok-take_in.ensures
