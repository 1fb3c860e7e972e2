use Rattle.std.proofs.Common.{◌≡◌, length, arith, ap}
use Rattle.u_machine.proofs.Going.{entered_still, still_on}
use Rattle.u_machine.proofs.States.{applies_trans}
use Rattle.u_machine.proofs.Flight.{as_they_wait}
use Rattle.u_machine.proofs.Settled.{ends_there}
use Rattle.u_machine.proofs.parts.Parts.close_before.Goals as goal
use Rattle.u_machine.proofs.parts.Parts.close_before.Goals.{Then-len-place}

-- as many are parked as stand there before the place, so it is the end of the log
ends : (c : Then-len-place) → c.args.place ≡ length c.args.self.now.log.items
ends c =
    let n = c.len.ensures.len in
    let w = ap length (as_they_wait c.args.self.now.in_flight c.args.self.now.applied_count c.args.self.now.log.items c.args.self.now.parked c.requires.logged) in
    ends_there c.args.self.now c.requires.kept c.args.place c.requires.from c.requires.to (omega (arith, n, w, c.if-len-place.true))

pub close_all-requires-clause-idle : goal.close_all-requires-clause-idle
close_all-requires-clause-idle c = c.requires.idle (ends (goal.at.close_all-requires-clause-idle c).Then-len-place)

pub close_all-requires-clause-none : goal.close_all-requires-clause-none
close_all-requires-clause-none c =
    let n = c.len.ensures.len in
    let w = ap length (as_they_wait c.args.self.now.in_flight c.args.self.now.applied_count c.args.self.now.log.items c.args.self.now.parked c.requires.logged) in
    let e = ends (goal.at.close_all-requires-clause-none c).Then-len-place in
    omega (arith, n, w, c.if-len-place.true, c.requires.from, e)

pub close_all-requires-clause-all : goal.close_all-requires-clause-all
close_all-requires-clause-all c k from to =
    let e = ends (goal.at.close_all-requires-clause-all c).Then-len-place in
    c.requires.all k from (omega (arith, to, e))

pub close-requires-clause-idle : goal.close-requires-clause-idle
close-requires-clause-idle c e =
    let v = c.loop-self.invariant in
    let l = ap length v.still.log in
    rw v.still.woken (c.requires.idle (omega (arith, e, c.requires.to, v.to, c.loop-self-test.true)))

pub close-requires-clause-all : goal.close-requires-clause-all
close-requires-clause-all c =
    let v = c.loop-self.invariant in
    entered_still c.args.self.now c.loop-self.self c.loop-self.self.applied_count v.still (c.requires.all c.loop-self.self.applied_count v.from (omega (arith, v.to, c.loop-self-test.true)))

pub loop-self-preserved : goal.loop-self-preserved
loop-self-preserved c =
    let v = c.loop-self.invariant in
    let d = c.close.ensures.applied_count in
    record {
      kept = c.close.ensures.kept;
      applies = applies_trans _ _ _ v.applies c.close.ensures.applies;
      still = still_on _ _ _ v.still c.close.ensures.still;
      from = omega (arith, v.from);
      to = omega (arith, v.to, c.loop-self-test.true);
    }
