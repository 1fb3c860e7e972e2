use Rattle.std.proofs.Common.{◌≡◌, ◌∙◌, ◌+◌, sym, get_or, length}
use Rattle.u_sets.specs.Members.{IsWithout}
use Rattle.std.proofs.lemmas.Bool.{false≢true}
use Rattle.u_machine.specs.Invariant.{parked_with, parked_of}
use Rattle.u_machine.proofs.Flight.{as_they_wait}
use Rattle.u_machine.proofs.Lists.{slice_get_at}
use Rattle.u_machine.proofs.Settled.{same_taken, parked_next}
use Rattle.u_machine.proofs.LateTokens.{same_taken_late}
use Rattle.u_machine.proofs.Steps.{applied, applied_more, taken_still}
use Rattle.u_machine.proofs.parts.Parts.close.Goals as goal
use Rattle.u_machine.proofs.parts.Parts.close.Goals.{After-index, After-take_out}

-- the next firing of the log
next : (c : After-index) → c.index.result.now ≡ get_or c.args.self.now.log.items c.args.self.now.applied_count c.index.result.now
next c = c.index.ensures

-- the parked firings are those of the set, before and then
waited : (c : After-index) → parked_of c.args.self.now ≡ c.args.self.now.parked
waited c = as_they_wait _ _ _ _ c.requires.logged

they_wait : (c : After-take_out) → parked_with c.args.self.now.in_flight (c.args.self.now.applied_count + 1) c.args.self.now.log.items c.take_out.new.self ≡ c.take_out.new.self
they_wait c = as_they_wait _ _ _ _ c.requires.logged

without : (c : After-take_out) → IsWithout (parked_of c.args.self.now) c.index.result.now c.take_out.new.self
without c = rw (as_they_wait c.args.self.now.in_flight c.args.self.now.applied_count c.args.self.now.log.items c.args.self.now.parked c.requires.logged) c.take_out.ensures.without

one_fewer : (c : After-take_out) → length (parked_of c.args.self.now) ≡ length c.take_out.new.self + 1
one_fewer c = rw (as_they_wait c.args.self.now.in_flight c.args.self.now.applied_count c.args.self.now.log.items c.args.self.now.parked c.requires.logged) c.take_out.ensures.count

pub take_out-requires : goal.take_out-requires
take_out-requires c = rw (← waited (goal.at.take_out-requires c).After-index) (parked_next c.args.self.now c.requires.kept c.index.result.now c.requires.some (next (goal.at.take_out-requires c).After-index))

pub returns-clause-kept : goal.returns-clause-kept
returns-clause-kept c =
    let k = c.requires.kept in
    let f = c.index.result.now in
    let at = next (goal.at.returns-clause-kept c).After-index in
    let d = (goal.at.returns-clause-kept c).After-take_out in
    let l = they_wait d in
    let m = c.args.self.now in
    record {
      all_ready = k.all_ready;
      flight = λ e. absurd (false≢true (sym c.requires.logged ∙ e));
      logged = rw l (applied _ _ _ _ _ _ k.logged f c.take_out.new.self c.requires.some at (without d) c.take_out.ensures.rises (one_fewer d)
          (c.requires.all f (slice_get_at m.log.items m.applied_count f c.requires.some at)));
      partitioned = rw l (same_taken _ _ _ _ _ _ _ (λ g. let t = taken_still _ _ _ _ _ _ k.logged f c.take_out.new.self c.requires.some at (without d) g in (t.1, t.0)) k.partitioned);
      late = rw l (same_taken_late _ _ _ _ _ _ _ k.late _ (λ g. let t = taken_still _ _ _ _ _ _ k.logged f c.take_out.new.self c.requires.some at (without d) g in (t.1, t.0)));
      idle = c.requires.idle;
    }

pub returns-clause-applies : goal.returns-clause-applies
returns-clause-applies c =
    let k = c.requires.kept in
    let f = c.index.result.now in
    let at = next (goal.at.returns-clause-applies c).After-index in
    let d = (goal.at.returns-clause-applies c).After-take_out in
    rw (they_wait d)
    (applied_more _ _ _ _ _ _ k.logged f c.take_out.new.self c.requires.some at (without d) (one_fewer d))
