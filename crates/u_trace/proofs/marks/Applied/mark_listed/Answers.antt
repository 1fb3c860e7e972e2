use Rattle.std.proofs.Common.{◌∙◌, List, subst}
use Rattle.std.specs.Prelude.{OnOk}
use Rattle.u_rule.specs.declared.entry.Entry.{Entry}
use Rattle.u_sets.specs.Members.{SomeOf}
use Rattle.u_trace.specs.Table.{place_in}
use Rattle.u_trace.specs.Marks.{IsWanted, Marks}
use Rattle.u_trace.proofs.marks.Applied.mark_listed.Goals as goal

pub returns : goal.returns
returns c =
    subst (λ (xs : List Entry). OnOk c.mark_all.result (Marks c.args.marks.now (SomeOf xs (IsWanted c.args.self.now.start.now (place_in c.args.self.now.givers.now))) c.mark_all.new.marks))
    (c.deref.ensures.value ∙ c.in_ok-needed.ensures) c.mark_all.ensures
