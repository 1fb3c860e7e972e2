use Rattle.std.proofs.Common.{refl, sym, ◌∙◌}
use Rattle.u_compile.specs.Operands.{lowering}
use Rattle.u_compile.specs.Turns.{other, given, kept}
use Rattle.u_compile.proofs.lowering.Lowering.close_turn.Goals as goal

pub returns-then-carried-turns : goal.returns-then-carried-turns
returns-then-carried-turns c = other c.in-Some.carried (sym c.carried.ensures ∙ c.in-Some.is) c.if-carried-turns.true refl

pub returns-in_ok-go_round-in-Some-next : goal.returns-in_ok-go_round-in-Some-next
returns-in_ok-go_round-in-Some-next c = given c.in-Some.carried c.in-Some-next.value (sym c.carried.ensures ∙ c.in-Some.is) c.if-carried-turns.false c.in-Some-next.is c.in_ok-go_round-in-Some-next.ensures

pub returns-in_ok-go_round-in-None : goal.returns-in_ok-go_round-in-None
returns-in_ok-go_round-in-None c = kept c.in-Some.carried c.in_ok-value-in-None.value (lowering c.value_of.new.self) (sym c.carried.ensures ∙ c.in-Some.is) c.if-carried-turns.false c.in-None.is c.in_ok-value-in-None.ensures.goes_on c.in_ok-value-in-None.ensures.named c.in_ok-go_round-in-None.ensures
