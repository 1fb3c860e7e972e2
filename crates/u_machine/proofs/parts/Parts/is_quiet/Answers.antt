use Rattle.std.proofs.Common.{get_or, arith, ap, length}
use Rattle.std.proofs.lemmas.List.Elements.{Contains-get_or}
use Rattle.u_machine.specs.Invariant.{state_of}
use Rattle.u_machine.proofs.States.{nothing_ready}
use Rattle.u_machine.proofs.Blank.{blank, blank_firing}
use Rattle.u_machine.proofs.Lists.{nil_of_length}
use Rattle.u_machine.proofs.LateTokens.{made_is_ready, waiting_is_ready}
use Rattle.u_machine.proofs.Settled.{kept_ready, is_ready_there}
use Rattle.u_machine.proofs.parts.Parts.is_quiet.Goals as goal

pub returns-then-not-is_empty-clause-ready : goal.returns-then-not-is_empty-clause-ready
returns-then-not-is_empty-clause-ready c _ =
    let m = c.args.self.now in
    let k = c.requires.kept in
    let f = get_or m.ready 0 blank_firing in
    (f, is_ready_there m k c.requires.settled f (made_is_ready _ _ _ _ _ _ _ k.late f (Contains-get_or m.ready 0 blank_firing (c.is_empty.ensures.some c.if-not-is_empty.true))))

pub returns-then-len-gt0-clause-ready : goal.returns-then-len-gt0-clause-ready
returns-then-len-gt0-clause-ready c _ =
    let m = c.args.self.now in
    let k = c.requires.kept in
    let n = c.len.ensures.len in
    let e = get_or m.late 0 blank in
    let there = Contains-get_or m.late 0 blank (omega (arith, n, c.if-len-gt0.true)) in
    let (f, w) = k.late.some e there in
    (f, is_ready_there m k c.requires.settled f (waiting_is_ready _ _ _ _ _ _ _ k.late (k.idle c.requires.settled) f (e, there, w)))

pub returns-clause-quiet : goal.returns-clause-quiet
returns-clause-quiet c _ =
    let m = c.args.self.now in
    let made = nil_of_length m.late (let n = c.len.ensures.len in omega (arith, n, c.if-len-gt0.false)) in
    nothing_ready (state_of m) m.ready (kept_ready m c.requires.kept c.requires.settled made c.is_empty.ensures.rises) (ap length (c.is_empty.ensures.none c.if-not-is_empty.false))
