use Rattle.std.proofs.Common.{◌∙◌, ap, sym, ℕ}
use Rattle.u_value.specs.declared.value.Value.{Value}
use Rattle.u_name.specs.Name.{Activity}
use Rattle.u_rule.specs.Parts.{token}
use Rattle.u_rule.specs.declared.entry.Entry.TheVariants as kinds
use Rattle.u_history.proofs.OneValue.{one_value}
use Rattle.u_history.proofs.Gathered.{added}
use Rattle.u_history.proofs.lookup.add_value.Goals as goal

pub returns-in_ok-place_in-clause-ok : goal.returns-in_ok-place_in-clause-ok
returns-in_ok-place_in-clause-ok c =
    let at = c.is_at_port.ensures.0 c.if-is_at_port.true in
    added (λ (x : Value). kinds.Token (token c.args.activity.now c.args.port x)) (one_value c.args.activity.now c.args.port) c.args.entry.now c.args.list.now.items c.place_in.new.list.items c.in_ok-copy.field-0
    (c.in-Token.is
    ∙ (ap (λ (n : Activity). kinds.Token (token n c.in-Token.item.port c.in-Token.item.value)) at.0
    ∙ (ap (λ (p : ℕ). kinds.Token (token c.args.activity.now p c.in-Token.item.value)) at.1
    ∙ ap (λ (v : Value). kinds.Token (token c.args.activity.now c.args.port v)) (sym (c.in_ok-copy.ensures ∙ c.value.ensures)))))
    c.in_ok-place_in.ensures.ok
