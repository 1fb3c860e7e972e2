use Rattle.std.proofs.Common.{arith}
use Rattle.std.specs.Prelude.{Result}
use Rattle.u_share.specs.Headline.{streams, member}
use Rattle.u_share.specs.Calls.{ListenAnswer}
use Rattle.u_share.specs.declared.ended.Ended.{Ended}
use Rattle.u_share.specs.declared.fault.ShareFault.{ShareFault}
use Rattle.u_share.proofs.Faults.{by_fault}
use Rattle.u_share.proofs.Turned.{then_stops}
use Rattle.u_share.proofs.Steps.{on_nothing, on_begun, turns_stop, turns_end, turns_on}
use Rattle.u_share.proofs.listening.listen.Goals as goal

pub loop-made-init : goal.loop-made-init
loop-made-init g c =
    let a = member c.args.machine.now c.args.ear.now.splitter.begun.items c.args.ear.now.splitter.ended in
    let s = streams (g.R.Read.remaining c.args.bus.now.reader) (g.W.Write.contents c.args.bus.now.writer) (g.N.Write.contents c.args.bus.now.notices) in
    let first = c.requires.first in
    (on_nothing a s c.requires.begun, omega (arith, first))

pub turn-requires-clause-begun : goal.turn-requires-clause-begun
turn-requires-clause-begun g c =
    let a = member c.args.machine.now c.args.ear.now.splitter.begun.items c.args.ear.now.splitter.ended in
    let b = member c.loop-made.machine c.loop-made.ear.splitter.begun.items c.loop-made.ear.splitter.ended in
    let s = streams (g.R.Read.remaining c.args.bus.now.reader) (g.W.Write.contents c.args.bus.now.writer) (g.N.Write.contents c.args.bus.now.notices) in
    let t = streams (g.R.Read.remaining c.loop-made.bus.reader) (g.W.Write.contents c.loop-made.bus.writer) (g.N.Write.contents c.loop-made.bus.notices) in
    on_begun a b s t c.loop-made.invariant.0

pub returns-in_err-ended : goal.returns-in_err-ended
returns-in_err-ended g c =
    let a = member c.args.machine.now c.args.ear.now.splitter.begun.items c.args.ear.now.splitter.ended in
    let b = member c.loop-made.machine c.loop-made.ear.splitter.begun.items c.loop-made.ear.splitter.ended in
    let new = member c.turn.new.machine c.turn.new.ear.splitter.begun.items c.turn.new.ear.splitter.ended in
    let s = streams (g.R.Read.remaining c.args.bus.now.reader) (g.W.Write.contents c.args.bus.now.writer) (g.N.Write.contents c.args.bus.now.notices) in
    let t = streams (g.R.Read.remaining c.loop-made.bus.reader) (g.W.Write.contents c.loop-made.bus.writer) (g.N.Write.contents c.loop-made.bus.notices) in
    let u = streams (g.R.Read.remaining c.turn.new.bus.reader) (g.W.Write.contents c.turn.new.bus.writer) (g.N.Write.contents c.turn.new.bus.notices) in
    record {
      answer = by_fault (λ (x : Result Ended ShareFault). ListenAnswer a s x new u) c.in_err-ended.field-0.0 c.from_residual.result c.from_residual.ensures.1
          (then_stops a b s t u c.in_err-ended.field-0.0 c.loop-made.invariant.0 c.in_err-ended.ensures.answer);
    }

pub returns-in-Some : goal.returns-in-Some
returns-in-Some g c =
    let a = member c.args.machine.now c.args.ear.now.splitter.begun.items c.args.ear.now.splitter.ended in
    let b = member c.loop-made.machine c.loop-made.ear.splitter.begun.items c.loop-made.ear.splitter.ended in
    let new = member c.turn.new.machine c.turn.new.ear.splitter.begun.items c.turn.new.ear.splitter.ended in
    let s = streams (g.R.Read.remaining c.args.bus.now.reader) (g.W.Write.contents c.args.bus.now.writer) (g.N.Write.contents c.args.bus.now.notices) in
    let t = streams (g.R.Read.remaining c.loop-made.bus.reader) (g.W.Write.contents c.loop-made.bus.writer) (g.N.Write.contents c.loop-made.bus.notices) in
    let u = streams (g.R.Read.remaining c.turn.new.bus.reader) (g.W.Write.contents c.turn.new.bus.writer) (g.N.Write.contents c.turn.new.bus.notices) in
    record { answer = turns_end a b new s t u c.in_ok-ended.field-0 c.in-Some.ended c.loop-made.invariant.0 c.in-Some.is c.in_ok-ended.ensures.answer }

pub loop-made-preserved : goal.loop-made-preserved
loop-made-preserved g c =
    let a = member c.args.machine.now c.args.ear.now.splitter.begun.items c.args.ear.now.splitter.ended in
    let b = member c.loop-made.machine c.loop-made.ear.splitter.begun.items c.loop-made.ear.splitter.ended in
    let new = member c.turn.new.machine c.turn.new.ear.splitter.begun.items c.turn.new.ear.splitter.ended in
    let s = streams (g.R.Read.remaining c.args.bus.now.reader) (g.W.Write.contents c.args.bus.now.writer) (g.N.Write.contents c.args.bus.now.notices) in
    let t = streams (g.R.Read.remaining c.loop-made.bus.reader) (g.W.Write.contents c.loop-made.bus.writer) (g.N.Write.contents c.loop-made.bus.notices) in
    let u = streams (g.R.Read.remaining c.turn.new.bus.reader) (g.W.Write.contents c.turn.new.bus.writer) (g.N.Write.contents c.turn.new.bus.notices) in
    let few = c.loop-made.invariant.1 in
    let more = c.in_ok-ended.ensures.ended in
    (turns_on a b new s t u c.in_ok-ended.field-0 c.loop-made.invariant.0 c.in_default.is c.in_ok-ended.ensures.answer, omega (arith, few, more))

pub returns : goal.returns
returns g c =
    let a = member c.args.machine.now c.args.ear.now.splitter.begun.items c.args.ear.now.splitter.ended in
    let b = member c.loop-made.machine c.loop-made.ear.splitter.begun.items c.loop-made.ear.splitter.ended in
    let s = streams (g.R.Read.remaining c.args.bus.now.reader) (g.W.Write.contents c.args.bus.now.writer) (g.N.Write.contents c.args.bus.now.notices) in
    let t = streams (g.R.Read.remaining c.loop-made.bus.reader) (g.W.Write.contents c.loop-made.bus.writer) (g.N.Write.contents c.loop-made.bus.notices) in
    record { answer = turns_stop a b s t c.loop-made.invariant.0 }
