use Rattle.std.proofs.Common.{ℕ, List, subst}
use Rattle.u_compile.specs.Drawings.{Calls}
use Rattle.u_compile.specs.Operands.{lowering}
use Rattle.u_compile.proofs.OperandLaws.{takes_call}
use Rattle.u_compile.proofs.lowering.Lowering.call.Goals as goal

pub returns : goal.returns
returns c =
    let calls = subst (λ (vs : List ℕ). Calls c.resolve_all.new.self.drawing c.add_call.new.self c.in_ok-procedure.procedure vs c.in_ok-value.value) c.deref.ensures.value c.in_ok-value.ensures in
    takes_call (lowering c.args.self.now) (lowering c.pop_arguments.new.self) (lowering c.pop.new.self) (lowering c.resolve.new.self) (lowering c.resolve_all.new.self) (lowering c.note.new.self) (lowering c.push.new.self) c.in_ok-taken.taken.items c.in_ok-callee.callee c.in_ok-procedure.procedure c.in_ok-arguments.arguments.items c.add_call.new.self c.in_ok-value.value c.in_ok-taken.ensures c.in_ok-callee.ensures c.in_ok-procedure.ensures.goes_on c.in_ok-procedure.ensures.is c.in_ok-arguments.ensures.goes_on c.in_ok-arguments.ensures.are calls c.in_ok-note.ensures c.in_ok-push.ensures
