use Rattle.std.proofs.Common.{ℕ, suc, drop, arith, refl, subst, Option}
use Rattle.std.specs.Prelude.{IfSome}
use Rattle.u_compile.specs.Loops.{IsClock, TestsVariable}
use Rattle.u_compile.proofs.LoopLaws.{drop_one}
use Rattle.u_compile.proofs.lowering.Lowering.clock_of.Goals as goal

pub returns-in-Some : goal.returns-in-Some
returns-in-Some c =
    let ss = drop c.args.waiting c.args.self.now.starts.items in
    let is = subst (λ (o : Option ℕ). IfSome o (λ (name : ℕ). TestsVariable c.args.self.now.tree.now ss c.args.whole c.loop-at.at name)) c.in-Some.is c.in_ok-name.ensures.some in
    IsClock.tested c.loop-at.at (omega arith) (omega arith) is c.loop-at.invariant

pub returns : goal.returns
returns c =
    let ss = c.args.self.now.starts.items in
    IsClock.untested c.in_ok-start.start (drop (suc c.args.waiting) ss) (λ node name from to. c.loop-at.invariant node name from (omega (arith, to))) (drop_one ss c.args.waiting c.in_ok-start.start c.in_ok-start.ensures) refl
