use Rattle.std.proofs.Common.{◌+◌}
use Rattle.std.specs.Prelude.{Result}
use Rattle.u_share.specs.Headline.{streams, member}
use Rattle.u_share.specs.Calls.{PartAnswer}
use Rattle.u_share.specs.declared.ended.Ended.{Ended}
use Rattle.u_share.specs.declared.fault.ShareFault.{ShareFault}
use Rattle.u_share.proofs.Faults.{by_fault}
use Rattle.u_share.proofs.Turned.{part_stops}
use Rattle.u_share.proofs.Steps.{part_ends}
use Rattle.u_share.proofs.sharing.take_part.Goals as goal

pub returns-in_err-ran : goal.returns-in_err-ran
returns-in_err-ran g c =
    let a = member c.args.machine.now c.args.ear.now.splitter.begun.items c.args.ear.now.splitter.ended in
    let b = member c.listen.new.machine c.listen.new.ear.splitter.begun.items c.listen.new.ear.splitter.ended in
    let new = member c.burst.new.machine c.listen.new.ear.splitter.begun.items c.listen.new.ear.splitter.ended in
    let s = streams (g.R.Read.remaining c.args.bus.now.reader) (g.W.Write.contents c.args.bus.now.writer) (g.N.Write.contents c.args.bus.now.notices) in
    let r = g.R.Read.remaining c.listen.new.bus.reader in
    let w = g.W.Write.contents c.listen.new.bus.writer in
    let v = g.W.Write.contents c.burst.new.writer in
    let n = g.N.Write.contents c.listen.new.bus.notices in
    record {
      answer = by_fault (λ (x : Result Ended ShareFault). PartAnswer a s x new (streams r v n)) c.in_err-ran.field-0.0 c.from_residual-in_err-ran.result c.from_residual-in_err-ran.ensures.1
          (part_stops a b s r w v n c.in_ok-ended.ended (c.args.limit + 1) c.burst.new.machine c.in_err-ran.field-0.0 c.in_ok-ended.ensures.answer c.in_err-ran.ensures);
    }

pub returns : goal.returns
returns g c =
    let a = member c.args.machine.now c.args.ear.now.splitter.begun.items c.args.ear.now.splitter.ended in
    let b = member c.listen.new.machine c.listen.new.ear.splitter.begun.items c.listen.new.ear.splitter.ended in
    let s = streams (g.R.Read.remaining c.args.bus.now.reader) (g.W.Write.contents c.args.bus.now.writer) (g.N.Write.contents c.args.bus.now.notices) in
    record { answer = part_ends a b s (g.R.Read.remaining c.listen.new.bus.reader) (g.W.Write.contents c.listen.new.bus.writer) (g.W.Write.contents c.burst.new.writer) (g.N.Write.contents c.listen.new.bus.notices) c.in_ok-ended.ended (c.args.limit + 1) c.in_ok-ran.ran c.burst.new.machine c.in_ok-ended.ensures.answer c.in-Quiet.is c.in_ok-ran.ensures }
