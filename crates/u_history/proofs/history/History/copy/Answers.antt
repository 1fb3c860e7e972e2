use Rattle.std.proofs.Common.{subst, List}
use Rattle.u_rule.specs.declared.entry.Entry.{Entry}
use Rattle.u_sets.specs.Members.{IsUnion}
use Rattle.u_history.proofs.Unions.{copied}
use Rattle.u_history.proofs.history.History.copy.Goals as goal

pub returns : goal.returns
returns c =
    copied c.args.self.now c.take_in.new.self c.len.ensures.rises c.len-2.ensures.rises
    (subst (λ (left : List Entry). IsUnion left c.args.self.now c.take_in.new.self) c.new-copied.ensures c.in_ok-take_in.ensures)
