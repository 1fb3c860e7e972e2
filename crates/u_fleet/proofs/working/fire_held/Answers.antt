use Rattle.std.proofs.Common.{[], refl, arith}
use Rattle.u_machine.proofs.States.{Applies-refl}
use Rattle.u_fleet.proofs.Firings.{alone_on, fires_none, fires_applies, fires_fired, fires_full, fires_failed, none_after, quiet_after}
use Rattle.u_fleet.proofs.working.fire_held.Goals as goal

pub loop-fired-init : goal.loop-fired-init
loop-fired-init c = record { alone = refl; ran = ([], fires_none c.args.held c.args.replica.now.machine c.args.replica.now.machine (Applies-refl c.args.replica.now.machine), refl) }

pub returns-in-Ok-Quiet-clause-answer : goal.returns-in-Ok-Quiet-clause-answer
returns-in-Ok-Quiet-clause-answer c =
    let (gs, r, n) = c.loop-fired.invariant.ran in
    let answer = rw c.in-Ok-Quiet.field-0-is at c.in-Ok-Quiet.ensures.answer in (
      refl,
      (gs, fires_applies c.args.held c.args.replica.now.machine c.loop-fired.replica.machine c.fire_in.new.self.machine gs r answer.1.applies, n, omega arith),
      λ few. quiet_after c.loop-fired.replica.machine c.fire_in.new.self.machine c.args.held answer.1.applies answer.0,
    )

pub returns-in-Ok-Elsewhere-clause-answer : goal.returns-in-Ok-Elsewhere-clause-answer
returns-in-Ok-Elsewhere-clause-answer c =
    let (gs, r, n) = c.loop-fired.invariant.ran in
    let answer = rw c.in-Ok-Elsewhere.field-0-is at c.in-Ok-Elsewhere.ensures.answer in (
      refl,
      (gs, fires_applies c.args.held c.args.replica.now.machine c.loop-fired.replica.machine c.fire_in.new.self.machine gs r answer.1.applies, n, omega arith),
      λ few. none_after c.loop-fired.replica.machine c.fire_in.new.self.machine c.args.held answer.1.applies answer.0,
    )

pub returns-in-Err-Full-clause-answer : goal.returns-in-Err-Full-clause-answer
returns-in-Err-Full-clause-answer c =
    let (gs, r, n) = c.loop-fired.invariant.ran in
    let answer = rw c.in-Err-Full.field-0-is at c.in-Err-Full.ensures.answer in
    let (fires, settled, ready, count) = fires_full c.args.held c.args.replica.now.machine c.loop-fired.replica.machine c.fire_in.new.self.machine gs r answer in
    (gs, fires, omega (arith, n), settled, ready, count)

pub returns-in-Err-NoMemory-clause-answer : goal.returns-in-Err-NoMemory-clause-answer
returns-in-Err-NoMemory-clause-answer c =
    let (gs, r, n) = c.loop-fired.invariant.ran in
    let answer = rw c.in-Err-NoMemory.field-0-is at c.in-Err-NoMemory.ensures.answer in
    let (xs, fires, few) = fires_failed c.args.held c.args.replica.now.machine c.loop-fired.replica.machine c.fire_in.new.self.machine gs r answer in
    (xs, fires, omega (arith, n, few))

pub loop-fired-preserved : goal.loop-fired-preserved
loop-fired-preserved c =
    let (gs, r, n) = c.loop-fired.invariant.ran in
    let answer = rw c.in-Ok-Fired.field-0-is at c.in-Ok-Fired.ensures.answer in
    let t = fires_fired c.args.held c.args.replica.now.machine c.loop-fired.replica.machine c.fire_in.new.self.machine gs c.in-Ok-Fired.field-0-0 r answer in
    record { alone = alone_on c.args.replica.now c.loop-fired.replica c.fire_in.new.self c.loop-fired.invariant.alone c.fire_in.ensures.alone; ran = (t.0, t.1, omega (arith, n, t.2)) }

pub returns-clause-answer : goal.returns-clause-answer
returns-clause-answer c = let (gs, r, n) = c.loop-fired.invariant.ran in (refl, (gs, r, omega (arith, n), omega arith), λ few. absurd (omega (arith, few)))
