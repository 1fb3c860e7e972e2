use Rattle.std.proofs.Common.{[], arith, subst}
use Rattle.u_base.specs.Pieces.{lines}
use Rattle.u_replica.specs.ListedLines.{texts, FiresAmong}
use Rattle.u_replica.proofs.ListedLaws.{texts_length, among_none, listed_none, listed_some, listed_all}
use Rattle.u_replica.proofs.listed_lines.fire_listed.Goals as goal

pub returns-then-branch : goal.returns-then-branch
returns-then-branch g c =
    listed_none c.args.machine.now c.args.machine.now c.args.bytes.now [] (among_none c.args.machine.now (lines c.args.bytes.now) c.requires.settled)

pub returns-then-count-lt-TOO_MANY : goal.returns-then-count-lt-TOO_MANY
returns-then-count-lt-TOO_MANY g c =
    let old = c.args.machine.now in
    let new = c.fire_all.new.machine in
    let ls = c.in_ok-lines.lines.items in
    let f = c.in_ok-fired.ensures in
    let among = subst (λ lines. FiresAmong old (texts lines.items) f.0 new) c.in_ok-listed.ensures f.2 in
    listed_all old new c.args.bytes.now c.in_ok-lines.rest.now (texts ls) f.0 c.requires.alone c.in_ok-lines.ensures among c.holds.ensures.is
    (omega (arith, texts_length ls, f.1, c.len-count.ensures, c.if-fired-count.true)) c.len-count.result (omega (arith, texts_length ls, c.len-count.ensures)) (omega (arith, c.if-count-lt-TOO_MANY.true))

pub returns : goal.returns
returns g c =
    let old = c.args.machine.now in
    let new = c.fire_all.new.machine in
    let f = c.in_ok-fired.ensures in
    let among = subst (λ lines. FiresAmong old (texts lines.items) f.0 new) c.in_ok-listed.ensures f.2 in
    listed_some old new c.args.bytes.now c.in_ok-lines.rest.now (texts c.in_ok-lines.lines.items) f.0 c.requires.alone c.in_ok-lines.ensures among
