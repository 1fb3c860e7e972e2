use Rattle.std.proofs.Common.{[], arith, refl, subst, sym, Ok}
use Rattle.u_machine.specs.declared.parts.Parts.{Parts}
use Rattle.u_machine.specs.State.{IsSettled, NothingReady}
use Rattle.u_machine.specs.declared.answer.Step.{Step}
use Rattle.u_machine.specs.Calls.{FireAnswer}
use Rattle.u_machine.specs.Invariant.{state_of}
use Rattle.u_machine.proofs.States.{Applies-refl, quiet_whole}
use Rattle.u_machine.proofs.Settled.{settled_there, settled_back}
use Rattle.u_machine.proofs.Picking.{none_refused, none_fired}
use Rattle.u_machine.proofs.Runs.{run_fails, run_quiet, run_fired, Fires-applies, Runs-applies, Runs-nil, fails_with}
use Rattle.u_machine.proofs.parts.Parts.run.Goals as goal

pub returns-in_err-fired-clause-answer : goal.returns-in_err-fired-clause-answer
returns-in_err-fired-clause-answer c =
    let (gs, r, n) = c.loop-made.invariant.ran in
    fails_with (state_of c.args.self.now) (state_of c.fire.new.self) c.args.budget _ c.from_residual.result c.from_residual.ensures.1
    (run_fails (state_of c.args.self.now) (state_of c.loop-made.self) (state_of c.fire.new.self) c.args.budget gs _ r (omega (arith, n)) c.in_err-fired.ensures.answer)

-- where nothing was ready on a settled machine, nothing is refused
pub returns-in_err-fired-clause-quiet : goal.returns-in_err-fired-clause-quiet
returns-in_err-fired-clause-quiet c st none =
    let same = sym (c.loop-made.invariant.still st none) in
    absurd (none_refused (state_of c.loop-made.self) (state_of c.fire.new.self) 0 _ (subst (λ (p : Parts). IsSettled (state_of p)) same st) (subst (λ (p : Parts). NothingReady (state_of p)) same none) c.in_err-fired.ensures.answer)

pub returns-in_err-settle-clause-quiet : goal.returns-in_err-settle-clause-quiet
returns-in_err-settle-clause-quiet c st none =
    let w = c.settle.ensures.still (rw (c.loop-made.invariant.still st none) (settled_back c.args.self.now c.requires st)) in
    absurd (let e = rw c.in_err-settle.was at w.0 in cc)

pub returns-in_err-settle-clause-answer : goal.returns-in_err-settle-clause-answer
returns-in_err-settle-clause-answer c =
    let (gs, r, n) = c.loop-made.invariant.ran in
    fails_with (state_of c.args.self.now) (state_of c.settle.new.self) c.args.budget _ c.from_residual-in_err-settle.result c.from_residual-in_err-settle.ensures.1
    (gs, Fires-applies (state_of c.args.self.now) (state_of c.loop-made.self) (state_of c.settle.new.self) gs r.fires c.settle.ensures.applies, omega (arith, n))

pub returns-in-Quiet-clause-answer : goal.returns-in-Quiet-clause-answer
returns-in-Quiet-clause-answer c =
    let (gs, r, n) = c.loop-made.invariant.ran in
    run_quiet (state_of c.args.self.now) (state_of c.loop-made.self) (state_of c.fire.new.self) gs c.args.budget r (omega (arith, n)) (subst (λ (x : Step). FireAnswer (state_of c.loop-made.self) 0 (Ok x) (state_of c.fire.new.self)) c.in-Quiet.is c.in_ok-fired.ensures.answer)

pub loop-made-preserved : goal.loop-made-preserved
loop-made-preserved c =
    let (gs, r, n) = c.loop-made.invariant.ran in
    let t = run_fired (state_of c.args.self.now) (state_of c.loop-made.self) (state_of c.fire.new.self) gs c.in-Fired.field-0 r (subst (λ (x : Step). FireAnswer (state_of c.loop-made.self) 0 (Ok x) (state_of c.fire.new.self)) c.in-Fired.is c.in_ok-fired.ensures.answer) in
    record {
      kept = c.fire.ensures.kept;
      still = λ st none. absurd (none_fired (state_of c.loop-made.self) (state_of c.fire.new.self) 0 c.in-Fired.field-0 (subst (λ (p : Parts). NothingReady (state_of p)) (sym (c.loop-made.invariant.still st none)) none) (subst (λ (x : Step). FireAnswer (state_of c.loop-made.self) 0 (Ok x) (state_of c.fire.new.self)) c.in-Fired.is c.in_ok-fired.ensures.answer));
      ran = (t.0, t.1, omega (arith, n, t.2));
    }

pub returns-then-is_quiet-clause-answer : goal.returns-then-is_quiet-clause-answer
returns-then-is_quiet-clause-answer c =
    let (gs, r, n) = c.loop-made.invariant.ran in
    let p = c.settle.new.self in
    let st = settled_there p c.settle.ensures.kept c.in_ok-settle.ensures.ok in
    let none = c.is_quiet.ensures.quiet c.if-is_quiet.true in
    (gs, Runs-applies (state_of c.args.self.now) (state_of c.loop-made.self) (state_of p) gs r c.settle.ensures.applies, omega (arith, n), st, none, quiet_whole (state_of p) c.settle.ensures.kept.logged.is st none)

pub returns-clause-answer : goal.returns-clause-answer
returns-clause-answer c =
    let (gs, r, n) = c.loop-made.invariant.ran in
    (gs, Runs-applies (state_of c.args.self.now) (state_of c.loop-made.self) (state_of c.settle.new.self) gs r c.settle.ensures.applies, omega (arith, n), settled_there c.settle.new.self c.settle.ensures.kept c.in_ok-settle.ensures.ok, c.is_quiet.ensures.ready c.if-is_quiet.false)

pub loop-made-init : goal.loop-made-init
loop-made-init c = record { kept = c.requires; still = λ st none. refl; ran = ([], Runs-nil (state_of c.args.self.now) (state_of c.args.self.now) (Applies-refl (state_of c.args.self.now)), refl) }
