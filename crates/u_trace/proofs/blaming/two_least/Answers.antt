use Rattle.std.proofs.Common.{List, subst}
use Rattle.std.specs.Prelude.{Contains}
use Rattle.u_base.specs.Firing.{Held}
use Rattle.u_value.specs.declared.value.Value.{Value}
use Rattle.u_rule.specs.Rule.{own_of}
use Rattle.u_history.specs.Orders.{value_order}
use Rattle.u_history.specs.Outcomes.{ValueAt}
use Rattle.u_sets.proofs.Places.{list_of_same}
use Rattle.u_value.specs.contracts.value.ValueOrd.TheImpl.Laws as value_laws
use Rattle.u_rule.specs.Parts.{token}
use Rattle.u_rule.specs.declared.entry.Entry.TheVariants as entries
use Rattle.u_trace.specs.Blames.{AreFirstTokens}
use Rattle.u_trace.proofs.BlameLaws.{least_tokens}
use Rattle.u_trace.proofs.blaming.two_least.Goals as goal

pub returns : goal.returns
returns c =
    let n = c.args.activity.now in
    let p = c.args.port in
    least_tokens c.args.job.now c.args.log.now n p c.in_ok-values.values.items c.in_ok-tokens.tokens
    (list_of_same value_order value_laws.total-law (ValueAt (Contains c.in_ok-held.held) n p) (ValueAt (Held (own_of c.args.job.now) c.args.log.now) n p) (λ v. c.in_ok-held.ensures (entries.Token (token n p v))) c.in_ok-values.values.items c.in_ok-values.ensures)
    (subst (λ (vs : List Value). AreFirstTokens n p vs c.in_ok-tokens.tokens) c.deref.ensures.value c.in_ok-tokens.ensures)
