use Rattle.std.proofs.Common.{rules, ◌≡◌, ◌≤◌, ◌<◌, inl, length}
use Rattle.u_machine.proofs.Lists.{nil_of_length}
use Rattle.u_share.specs.Lines.{longest}
use Rattle.u_share.proofs.Taken.{empty_gains, long_gains, unread_gains, line_seen}
use Rattle.u_share.proofs.taking.look_at.Goals as goal

pub returns-then-is_empty : goal.returns-then-is_empty
returns-then-is_empty c =
    let n : length c.args.line.now ≡ 0 = search rules in
    let e = nil_of_length c.args.line.now n in
    (inl e, empty_gains c.args.machine.now c.args.line.now e)

pub returns-then-line-gt-LONGEST : goal.returns-then-line-gt-LONGEST
unfolding longest
returns-then-line-gt-LONGEST c =
    let l : longest < length c.args.line.now = search rules in
    (l, long_gains c.args.machine.now c.args.line.now l)

pub returns-in-Ok : goal.returns-in-Ok
unfolding longest
returns-in-Ok c =
    let s : length c.args.line.now ≤ longest = search rules in
    line_seen c.args.machine.now c.take_firing.new.machine c.args.line.now c.in-Ok.firing c.take_firing.result s c.in-Ok.ensures c.take_firing.ensures

pub returns-in-Err-BadText : goal.returns-in-Err-BadText
unfolding longest
returns-in-Err-BadText c =
    let s : length c.args.line.now ≤ longest = search rules in
    let n = rw c.in-Err-BadText.field-0-is at c.in-Err-BadText.ensures in
    ((s, (λ e. search rules), λ f p. n.none f p.0 p.1), unread_gains c.args.machine.now c.args.line.now (λ f p. n.none f p.0 p.1))
