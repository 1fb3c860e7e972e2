use Rattle.std.proofs.Common.{◌↔◌, ◌+◌, ◌-◌, IsTrue, List, length, take, drop, subst, sym}
use Rattle.std.specs.Prelude.{Contains}
use Rattle.u_base.specs.Firing.{Within}
use Rattle.u_rule.specs.Parts.{token}
use Rattle.u_rule.specs.Rule.{tokens_from}
use Rattle.u_rule.specs.declared.entry.Entry.{Entry}
use Rattle.u_rule.specs.declared.entry.Entry.TheVariants as entries
use Rattle.u_match.proofs.Finding.{tokens_split, within_cons}
use Rattle.u_match.proofs.enabling.+has_tokens.Goals as goal

pub returns : goal.returns
returns t c =
    let a = c.args.activity.now in
    let d = c.first-item.result in
    let rest = tokens_from a (c.args.port + 1) (take (length c.args.values.now - 1) (drop 1 c.args.values.now)) in
    let w = within_cons (Contains c.args.history.now) (entries.Token (token a c.args.port d)) rest in
    subst (λ (es : List Entry). IsTrue c.in_ok-others.others ↔ Within (Contains c.args.history.now) es) (sym (tokens_split a c.args.port c.args.values.now d c.in-len1-up.len_at_least c.first-item.is))
    ((λ k. w.1 (c.in_ok-there.ensures.0 c.if-not-there.false, c.in_ok-others.ensures.0 k)), λ all. c.in_ok-others.ensures.1 (w.0 all).1)
