use Rattle.std.proofs.Common.{◌+◌, ◌-◌, length, take, drop, subst, sym, ◌∷◌, List}
use Rattle.std.specs.Prelude.{Contains, IfSome, IfNone}
use Rattle.u_base.proofs.Member.{Contains-tail}
use Rattle.u_rule.specs.Parts.{token}
use Rattle.u_rule.specs.Rule.{tokens_from}
use Rattle.u_rule.specs.declared.entry.Entry.{Entry}
use Rattle.u_rule.specs.declared.entry.Entry.TheVariants.{Token as token_entry}
use Rattle.u_match.proofs.Finding.{tokens_split}
use Rattle.u_machine.specs.Invariant.{HasNoneOf}
use Rattle.u_machine.proofs.Settled.{not_both}
use Rattle.u_machine.proofs.LateNeeds.{some_map, none_map, none_of_tokens}
use Rattle.u_machine.proofs.late_tokens.+first_in.Goals as goal

pub returns-clause-some : goal.returns-clause-some
returns-clause-some t c =
    let a = c.args.activity.now in
    let d = c.first-item.result in
    let rest = tokens_from a (c.args.port + 1) (take (length c.args.values.now - 1) (drop 1 c.args.values.now)) in
    subst (λ (es : List Entry). IfSome c.in_ok-found.found (λ (e : Entry). Contains c.args.set.now e × Contains es e)) (sym (tokens_split a c.args.port c.args.values.now d c.in-len1-up.len_at_least c.first-item.is))
    (some_map (λ (e : Entry). Contains c.args.set.now e × Contains rest e) (λ (e : Entry). Contains c.args.set.now e × Contains (token_entry (token a c.args.port d) ∷ rest) e) c.in_ok-found.found (λ e m. (m.0, Contains-tail (token_entry (token a c.args.port d)) e rest m.1)) c.in_ok-found.ensures.some)

pub returns-clause-none : goal.returns-clause-none
returns-clause-none t c =
    let a = c.args.activity.now in
    let d = c.first-item.result in
    let rest = tokens_from a (c.args.port + 1) (take (length c.args.values.now - 1) (drop 1 c.args.values.now)) in
    subst (λ (es : List Entry). IfNone c.in_ok-found.found (HasNoneOf c.args.set.now es)) (sym (tokens_split a c.args.port c.args.values.now d c.in-len1-up.len_at_least c.first-item.is))
    (none_map (HasNoneOf c.args.set.now rest) (HasNoneOf c.args.set.now (token_entry (token a c.args.port d) ∷ rest)) c.in_ok-found.found
    (none_of_tokens c.args.set.now (token_entry (token a c.args.port d)) rest (λ m. not_both c.contains.result (c.contains.ensures.1 (subst (λ (e : Entry). Contains c.args.set.now e) (sym c.in_ok-token.ensures) m)) c.if-contains.false)) c.in_ok-found.ensures.none)
