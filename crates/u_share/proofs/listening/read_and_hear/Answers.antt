use Rattle.std.proofs.Common.{rules, ◌≡◌, Bool}
use Rattle.std.specs.Prelude.{Result}
use Rattle.u_share.specs.Headline.{member}
use Rattle.u_share.specs.Calls.{HeardAnswer}
use Rattle.u_share.specs.declared.fault.ShareFault.{ShareFault}
use Rattle.u_share.proofs.Faults.{by_fault}
use Rattle.u_share.proofs.Turned.{read_fails, read_ended, untold, heard_fails}
use Rattle.u_share.proofs.listening.read_and_hear.Goals as goal

pub returns-in_err-count-clause-answer : goal.returns-in_err-count-clause-answer
returns-in_err-count-clause-answer g c =
    let old = member c.args.machine.now c.args.ear.now.splitter.begun.items c.args.ear.now.splitter.ended in
    let from = g.R.Read.remaining c.args.reader.now in
    let left = g.R.Read.remaining c.read_once.new.reader in
    let n = g.N.Write.contents c.args.notices.now in
    by_fault (λ (r : Result Bool ShareFault). HeardAnswer old from n r old left n) _ c.from_residual.result c.from_residual.ensures.1
    (read_fails old old c.read_once.new.chunk from left n _ c.requires.begun c.in_err-count.ensures)

pub returns-in_err-tell_of_open-clause-answer : goal.returns-in_err-tell_of_open-clause-answer
returns-in_err-tell_of_open-clause-answer g c =
    let old = member c.args.machine.now c.args.ear.now.splitter.begun.items c.args.ear.now.splitter.ended in
    let from = g.R.Read.remaining c.args.reader.now in
    let left = g.R.Read.remaining c.read_once.new.reader in
    let n = g.N.Write.contents c.args.notices.now in
    let k = g.N.Write.contents c.tell_of_open.new.notices in
    let none : c.in_ok-count.count ≡ 0 = search rules in
    by_fault (λ (r : Result Bool ShareFault). HeardAnswer old from n r old left k) _ c.from_residual-in_err-tell_of_open.result c.from_residual-in_err-tell_of_open.ensures.1
    (untold old old c.read_once.new.chunk c.in_ok-count.count from left n k c.in_err-tell_of_open.field-0.0 c.requires.begun c.in_ok-count.ensures none c.in_err-tell_of_open.ensures)

pub returns-then-count-eq0-clause-answer : goal.returns-then-count-eq0-clause-answer
returns-then-count-eq0-clause-answer g c =
    let old = member c.args.machine.now c.args.ear.now.splitter.begun.items c.args.ear.now.splitter.ended in
    let none : c.in_ok-count.count ≡ 0 = search rules in
    read_ended old c.read_once.new.chunk c.in_ok-count.count (g.R.Read.remaining c.args.reader.now) (g.R.Read.remaining c.read_once.new.reader) (g.N.Write.contents c.args.notices.now) (g.N.Write.contents c.tell_of_open.new.notices) c.requires.begun c.in_ok-count.ensures none c.in_ok-tell_of_open.ensures

pub returns-in_err-hear_and_lead-clause-answer : goal.returns-in_err-hear_and_lead-clause-answer
returns-in_err-hear_and_lead-clause-answer g c =
    let old = member c.args.machine.now c.args.ear.now.splitter.begun.items c.args.ear.now.splitter.ended in
    let new = member c.hear_and_lead.new.machine c.hear_and_lead.new.ear.splitter.begun.items c.hear_and_lead.new.ear.splitter.ended in
    let from = g.R.Read.remaining c.args.reader.now in
    let left = g.R.Read.remaining c.read_once.new.reader in
    let n = g.N.Write.contents c.args.notices.now in
    let k = g.N.Write.contents c.hear_and_lead.new.notices in
    by_fault (λ (r : Result Bool ShareFault). HeardAnswer old from n r new left k) c.in_err-hear_and_lead.field-0.0 c.from_residual-in_err-hear_and_lead.result c.from_residual-in_err-hear_and_lead.ensures.1
    (heard_fails old new c.read_once.new.chunk c.in_ok-count.count from left n k c.in_err-hear_and_lead.field-0.0 c.in_ok-count.ensures c.in_err-hear_and_lead.ensures.answer)
