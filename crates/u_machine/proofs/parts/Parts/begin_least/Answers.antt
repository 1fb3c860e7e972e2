use Rattle.std.proofs.Common.{◌≡◌, false, ◌∙◌, ◌+◌, length, ◌++◌, [], ◌∷◌, subst, sym, ap}
use Rattle.std.specs.Prelude.{Contains, slice_get}
use Rattle.u_rule.specs.EntryOrder.{FiringList}
use Rattle.u_rule.specs.declared.firing.Firing.{Firing}
use Rattle.u_sets.specs.Members.{IsWith}
use Rattle.u_base.proofs.Member.{Contains-head}
use Rattle.std.proofs.lemmas.Bool.{false≢true}
use Rattle.u_machine.proofs.Flight.{as_they_wait, all_wait, not_flying}
use Rattle.u_machine.proofs.Beginning.{unparked, begun_logged, begun_partitioned, begun_idle, begun_takes, begun_late, others}
use Rattle.u_machine.specs.Invariant.{NeedsNoLate, parked_with, parked_of}
use Rattle.u_machine.proofs.Lists.{first_is}
use Rattle.u_machine.proofs.parts.Parts.begin_least.Goals as goal
use Rattle.u_machine.proofs.parts.Parts.begin_least.Goals.{After-push_into_room}

copied : (c : After-push_into_room) → c.in_ok-copy_of_least.copy_of_least ≡ c.in-Some-pop_first.firing
copied c = c.in_ok-copy_of_least.ensures ∙ first_is c.args.self.now.ready c.pop_first.new.self c.in-Some.least.now c.in-Some-pop_first.firing c.in-Some.ensures c.in-Some-pop_first.ensures.some

was : (c : After-push_into_room) → Contains c.args.self.now.ready c.in-Some-pop_first.firing
was c = subst (λ (fs : FiringList). Contains fs c.in-Some-pop_first.firing) (sym c.in-Some-pop_first.ensures.some) (Contains-head c.in-Some-pop_first.firing c.pop_first.new.self)

landed : (c : After-push_into_room) → c.args.self.now.in_flight ≡ false
landed c = not_flying c.args.self.now c.requires.kept c.requires.settled

-- the parked firings are those of the set, before and then
waited : (c : After-push_into_room) → parked_of c.args.self.now ≡ c.args.self.now.parked
waited c = all_wait c.args.self.now c.requires.kept c.requires.settled

they_wait : (c : After-push_into_room) → parked_with c.args.self.now.in_flight c.args.self.now.applied_count c.push_into_room.new.list.items c.insert.new.self ≡ c.insert.new.self
they_wait c = as_they_wait _ _ _ _ (landed c)

with_it : (c : After-push_into_room) → IsWith (parked_of c.args.self.now) c.in-Some-pop_first.firing c.insert.new.self
with_it c = rw (waited c) (subst (λ (f : Firing). IsWith c.args.self.now.parked f c.insert.new.self) (copied c) c.in_ok-insert.ensures.ok)

one_more : (c : After-push_into_room) → length c.insert.new.self ≡ length (parked_of c.args.self.now) + 1
one_more c =
    rw (waited c) (c.in_ok-insert.ensures.count
    (c.in_ok-insert.ensures.new.1 (λ m. unparked c.args.self.now c.requires.kept c.in-Some-pop_first.firing (was c) (rw (waited c) (subst (λ (f : Firing). Contains c.args.self.now.parked f) (copied c) m)))))

-- the log, with the firing
abbrev log : After-push_into_room → FiringList
log c = c.push_into_room.new.list.items

logs : (c : After-push_into_room) → log c ≡ c.args.self.now.log.items ++ c.in-Some-pop_first.firing ∷ []
logs c = c.push_into_room.ensures.items ∙ ap (λ (l : FiringList). l ++ c.in-Some-pop_first.firing ∷ []) c.reserve.ensures.items

-- it needs no late token
free : (c : After-push_into_room) → NeedsNoLate c.args.self.now c.in-Some-pop_first.firing
free c = c.requires.made c.in-Some-pop_first.firing (ap (λ (fs : FiringList). slice_get fs 0) c.in-Some-pop_first.ensures.some)

pub returns-clause-kept : goal.returns-clause-kept
returns-clause-kept c =
    let k = c.requires.kept in
    let m = c.args.self.now in
    let f = c.in-Some-pop_first.firing in
    record {
      all_ready = others m k f (was c);
      flight = λ e. absurd (false≢true (sym (landed c) ∙ e));
      logged = rw (they_wait c) (begun_logged m k f (was c) c.requires.settled c.requires.room c.insert.new.self c.pop_first.new.self (log c) (with_it c) c.in_ok-insert.ensures.rises (one_more c) (logs c) c.in-Some-pop_first.ensures.without);
      partitioned = rw (they_wait c) (begun_partitioned m k f (was c) c.requires.settled c.requires.room c.insert.new.self c.pop_first.new.self (log c) (with_it c) c.in_ok-insert.ensures.rises (one_more c) (logs c) c.in-Some-pop_first.ensures.without);
      late = rw (they_wait c) (begun_late m k f (was c) c.requires.settled c.requires.room c.insert.new.self c.pop_first.new.self (log c) (with_it c) c.in_ok-insert.ensures.rises (one_more c) (logs c) c.in-Some-pop_first.ensures.without (free c));
      idle = begun_idle m k f (was c) c.requires.settled c.requires.room c.insert.new.self c.pop_first.new.self (log c) (with_it c) c.in_ok-insert.ensures.rises (one_more c) (logs c) c.in-Some-pop_first.ensures.without;
    }

pub returns-clause-ok : goal.returns-clause-ok
returns-clause-ok c = record {
  firing = c.in-Some-pop_first.firing;
  at = ap (λ (fs : FiringList). slice_get fs 0) c.in-Some-pop_first.ensures.some;
  takes = rw (they_wait c) (begun_takes c.args.self.now c.requires.kept c.in-Some-pop_first.firing (was c) c.requires.settled c.requires.room c.insert.new.self c.pop_first.new.self (log c) (with_it c) c.in_ok-insert.ensures.rises (one_more c) (logs c)
      c.in-Some-pop_first.ensures.without);
  log = logs c;
}
