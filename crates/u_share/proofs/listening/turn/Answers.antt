use Rattle.std.proofs.Common.{rules, ◌≡◌, true, false, Option}
use Rattle.std.specs.Prelude.{Result}
use Rattle.u_share.specs.Headline.{streams, member}
use Rattle.u_share.specs.Calls.{TurnAnswer}
use Rattle.u_share.specs.declared.ended.Ended.{Ended}
use Rattle.u_share.specs.declared.fault.ShareFault.{ShareFault}
use Rattle.u_share.proofs.Faults.{by_fault}
use Rattle.u_share.proofs.Turned.{lead_stops}
use Rattle.u_share.proofs.Steps.{quiet_ends, quiet_stops, read_stops, read_ends, read_on}
use Rattle.u_share.proofs.listening.turn.Goals as goal

pub returns-in_err-fire_if_leading-clause-answer : goal.returns-in_err-fire_if_leading-clause-answer
returns-in_err-fire_if_leading-clause-answer g c =
    let o = c.args.ear.now.splitter.begun.items in
    let e = c.args.ear.now.splitter.ended in
    let r = g.R.Read.remaining c.args.bus.now.reader in
    let w = g.W.Write.contents c.args.bus.now.writer in
    let v = g.W.Write.contents c.fire_if_leading.new.writer in
    let n = g.N.Write.contents c.args.bus.now.notices in
    by_fault (λ (x : Result (Option Ended) ShareFault). TurnAnswer (member c.args.machine.now o e) (streams r w n) x (member c.fire_if_leading.new.machine o e) (streams r v n)) c.in_err-fire_if_leading.field-0.0 c.from_residual.result c.from_residual.ensures.1
    (lead_stops c.args.machine.now c.fire_if_leading.new.machine o e r w v n c.in_err-fire_if_leading.field-0.0 c.requires.begun c.in_err-fire_if_leading.ensures)

pub returns-in_err-is_quiet-clause-answer : goal.returns-in_err-is_quiet-clause-answer
returns-in_err-is_quiet-clause-answer g c =
    let o = c.args.ear.now.splitter.begun.items in
    let e = c.args.ear.now.splitter.ended in
    let r = g.R.Read.remaining c.args.bus.now.reader in
    let w = g.W.Write.contents c.args.bus.now.writer in
    let v = g.W.Write.contents c.fire_if_leading.new.writer in
    let n = g.N.Write.contents c.args.bus.now.notices in
    by_fault (λ (x : Result (Option Ended) ShareFault). TurnAnswer (member c.args.machine.now o e) (streams r w n) x (member c.is_quiet.new.machine o e) (streams r v n)) c.in_err-is_quiet.field-0.0 c.from_residual-in_err-is_quiet.result c.from_residual-in_err-is_quiet.ensures.1
    (quiet_stops c.args.machine.now c.fire_if_leading.new.machine c.is_quiet.new.machine o e r w v n c.in_err-is_quiet.field-0.0 c.requires.begun c.in_ok-fire_if_leading.ensures c.in_err-is_quiet.ensures)

pub returns-then-branch-clause-answer : goal.returns-then-branch-clause-answer
returns-then-branch-clause-answer g c =
    quiet_ends c.args.machine.now c.fire_if_leading.new.machine c.is_quiet.new.machine c.args.ear.now.splitter.begun.items c.args.ear.now.splitter.ended (g.R.Read.remaining c.args.bus.now.reader) (g.W.Write.contents c.args.bus.now.writer) (g.W.Write.contents c.fire_if_leading.new.writer) (g.N.Write.contents c.args.bus.now.notices) c.in_ok-is_quiet.field-0 c.requires.begun c.in_ok-fire_if_leading.ensures c.in_ok-is_quiet.ensures

pub returns-in_err-read_and_hear-clause-answer : goal.returns-in_err-read_and_hear-clause-answer
returns-in_err-read_and_hear-clause-answer g c =
    let o = c.args.ear.now.splitter.begun.items in
    let e = c.args.ear.now.splitter.ended in
    let r = g.R.Read.remaining c.args.bus.now.reader in
    let w = g.W.Write.contents c.args.bus.now.writer in
    let v = g.W.Write.contents c.fire_if_leading.new.writer in
    let n = g.N.Write.contents c.args.bus.now.notices in
    let left = g.R.Read.remaining c.read_and_hear.new.reader in
    let after = g.N.Write.contents c.read_and_hear.new.notices in
    let new = member c.read_and_hear.new.machine c.read_and_hear.new.ear.splitter.begun.items c.read_and_hear.new.ear.splitter.ended in
    by_fault (λ (x : Result (Option Ended) ShareFault). TurnAnswer (member c.args.machine.now o e) (streams r w n) x new (streams left v after)) c.in_err-read_and_hear.field-0.0 c.from_residual-in_err-read_and_hear.result c.from_residual-in_err-read_and_hear.ensures.1
    (read_stops c.args.machine.now c.fire_if_leading.new.machine c.is_quiet.new.machine new o e r w v n left after c.in_ok-is_quiet.field-0 c.in_err-read_and_hear.field-0.0 c.requires.begun c.in_ok-fire_if_leading.ensures c.in_ok-is_quiet.ensures c.in_err-read_and_hear.ensures.answer)

pub returns-then-branch-2-clause-answer : goal.returns-then-branch-2-clause-answer
returns-then-branch-2-clause-answer g c =
    let new = member c.read_and_hear.new.machine c.read_and_hear.new.ear.splitter.begun.items c.read_and_hear.new.ear.splitter.ended in
    let is_so : c.in_ok-read_and_hear.field-0 ≡ true = search rules in
    read_ends c.args.machine.now c.fire_if_leading.new.machine c.is_quiet.new.machine new c.args.ear.now.splitter.begun.items c.args.ear.now.splitter.ended (g.R.Read.remaining c.args.bus.now.reader) (g.W.Write.contents c.args.bus.now.writer) (g.W.Write.contents c.fire_if_leading.new.writer) (g.N.Write.contents c.args.bus.now.notices) (g.R.Read.remaining c.read_and_hear.new.reader) (g.N.Write.contents c.read_and_hear.new.notices) c.in_ok-is_quiet.field-0 c.in_ok-read_and_hear.field-0 c.requires.begun c.in_ok-fire_if_leading.ensures c.in_ok-is_quiet.ensures is_so c.in_ok-read_and_hear.ensures.answer

pub returns-clause-answer : goal.returns-clause-answer
returns-clause-answer g c =
    let new = member c.read_and_hear.new.machine c.read_and_hear.new.ear.splitter.begun.items c.read_and_hear.new.ear.splitter.ended in
    let is_so : c.in_ok-read_and_hear.field-0 ≡ false = search rules in
    read_on c.args.machine.now c.fire_if_leading.new.machine c.is_quiet.new.machine new c.args.ear.now.splitter.begun.items c.args.ear.now.splitter.ended (g.R.Read.remaining c.args.bus.now.reader) (g.W.Write.contents c.args.bus.now.writer) (g.W.Write.contents c.fire_if_leading.new.writer) (g.N.Write.contents c.args.bus.now.notices) (g.R.Read.remaining c.read_and_hear.new.reader) (g.N.Write.contents c.read_and_hear.new.notices) c.in_ok-is_quiet.field-0 c.in_ok-read_and_hear.field-0 c.requires.begun c.in_ok-fire_if_leading.ensures c.in_ok-is_quiet.ensures is_so c.in_ok-read_and_hear.ensures.answer
