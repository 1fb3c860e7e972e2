use Rattle.std.proofs.Common.{◌≡◌, ◌∙◌, sym, subst, true}
use Rattle.u_value.specs.declared.value.Value.{Value}
use Rattle.u_value.specs.ExactOrders.{same_value, value_equals_itself}
use Rattle.u_value.specs.contracts.value.ValuePartialEq.TheImpl as value_eq
use Rattle.u_history.proofs.Neighbours.{same_name}
use Rattle.u_history.proofs.tables.is_pair.Goals as goal

pub returns-then-eq : goal.returns-then-eq
returns-then-eq c = (
  (λ h. ((same_name c.args.pair.now.writer c.args.write.now.writer).0 (sym c.eq.ensures ∙ c.if-eq.true), same_value c.args.pair.now.value c.args.write.now.value (sym c.eq-then-eq.ensures ∙ h))),
  λ p. c.eq-then-eq.ensures ∙ subst (λ (v : Value). (value_eq.ghosts).eq c.args.pair.now.value v ≡ true) p.1 (value_equals_itself c.args.pair.now.value),
)
