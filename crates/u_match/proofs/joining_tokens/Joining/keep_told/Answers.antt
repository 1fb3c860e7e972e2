use Rattle.std.proofs.Common.{sym, subst, OnOk, Option}
use Rattle.u_rule.specs.declared.firing.Firing.{Firing}
use Rattle.u_sets.specs.Members.{Gains}
use Rattle.u_match.specs.Joins.{IsSomeSame}
use Rattle.u_match.proofs.joining_tokens.Joining.keep_told.Goals as goal

pub returns-in-Some-clause-ok : goal.returns-in-Some-clause-ok
returns-in-Some-clause-ok c =
    subst (λ (o : Option Firing). OnOk c.keep.result (Gains c.args.found.now.items (IsSomeSame c.args.self.now.job.now o) c.keep.new.found.items)) (sym c.in-Some.is) c.keep.ensures.ok
