use Rattle.std.proofs.Common.{ℕ, List, sym, subst}
use Rattle.u_compile.specs.Operands.{lowering}
use Rattle.u_compile.proofs.OperandLaws.{Resolved, resolved_none, resolved_more}
use Rattle.u_compile.proofs.lowering.Lowering.resolve_all.Goals as goal

pub resolving-init : goal.resolving-init
resolving-init c =
    let l = lowering c.args.self.now in
    let os = c.args.taken.items in
    subst (λ (vs : List ℕ). Resolved l l os os vs) (sym c.new-values.ensures.items) (resolved_none l os)

pub resolving-preserved : goal.resolving-preserved
resolving-preserved c = resolved_more (lowering c.args.self.now) (lowering c.resolving.self) (lowering c.resolve.new.self) c.args.taken.items c.resolving.waiting.items c.pop.new.self.items c.resolving.values.items c.push.new.self.items c.in-Some.operand c.in_ok-value.value c.resolving.invariant c.in-Some.ensures.items c.in_ok-value.ensures.goes_on c.in_ok-value.ensures.is c.in_ok-push.ensures.items
