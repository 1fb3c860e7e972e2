use Rattle.std.proofs.Common.{◌≡◌, subst, ap, sym, ◌∙◌}
use Rattle.u_name.specs.Name.{Activity}
use Rattle.u_rule.specs.Parts.{TokenParts}
use Rattle.u_rule.specs.declared.entry.Entry.TheVariants as kinds
use Rattle.u_sets.specs.Columns.{IsNumberOf}
use Rattle.u_history.specs.Tables.{Contents, contents_of, HasMore}
use Rattle.u_history.proofs.tables.Tables.insert_token.Goals as goal

pub returns-in-Ok-put-clause-ok : goal.returns-in-Ok-put-clause-ok
returns-in-Ok-put-clause-ok c =
    let parts = c.into_parts-activity.ensures.parts in
    let who : c.into_parts-activity.result.0 ≡ c.args.item.activity = ap (λ (k : TokenParts). k.activity) parts in
    let number = subst (λ (a : Activity). IsNumberOf c.number_at.new.self.names a c.in-Ok.number) (c.of.ensures ∙ c.activity.ensures ∙ sym who) c.in-Ok.ensures.number in
    let more = c.in-Ok-put.ensures.ok c.into_parts-activity.result.0 number in
    subst (λ (s : Contents). HasMore s (kinds.Token c.args.item) (contents_of c.put.new.self)) c.in-Ok.ensures.same
    (subst (λ (k : TokenParts). HasMore (contents_of c.number_at.new.self) (kinds.Token k) (contents_of c.put.new.self)) parts more)
