use Rattle.std.proofs.Common.{◌∙◌, List, sym, subst, ap}
use Rattle.std.specs.Prelude.{OnOk}
use Rattle.u_value.specs.declared.value.Value.{Value}
use Rattle.u_rule.specs.Rule.{tokens_from}
use Rattle.u_rule.specs.declared.entry.Entry.{Entry}
use Rattle.u_sets.specs.Members.{SomeOf}
use Rattle.u_trace.specs.Table.{place_in}
use Rattle.u_trace.specs.Marks.{IsWanted, Marks}
use Rattle.u_trace.proofs.NeedLaws.{needs_plain}
use Rattle.u_trace.proofs.marks.Applied.mark_needs.Goals as goal

pub returns : goal.returns
returns c =
    let f = c.args.firing.now in
    subst (λ (xs : List Entry). OnOk c.mark_tokens.result (Marks c.args.marks.now (SomeOf xs (IsWanted c.args.self.now.start.now (place_in c.args.self.now.givers.now))) c.mark_tokens.new.marks))
    (ap (λ (vs : List Value). tokens_from f.activity 1 vs) c.as_slice.ensures.values ∙ sym (needs_plain f (sym c.is_some.ensures ∙ c.if-is_some.false))) c.mark_tokens.ensures
