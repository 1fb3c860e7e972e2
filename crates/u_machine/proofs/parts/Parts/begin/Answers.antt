use Rattle.std.proofs.Common.{◌≡◌, false, ◌+◌, length, ◌++◌, [], ◌∷◌, subst, sym, ap, ◌∙◌}
use Rattle.std.specs.Prelude.{Contains}
use Rattle.u_rule.specs.EntryOrder.{FiringList}
use Rattle.u_rule.specs.declared.firing.Firing.{Firing}
use Rattle.u_sets.specs.Members.{IsWith, IsWithout}
use Rattle.std.proofs.lemmas.Bool.{false≢true}
use Rattle.u_machine.specs.Invariant.{parked_with, parked_of}
use Rattle.u_machine.proofs.Flight.{as_they_wait, all_wait, not_flying}
use Rattle.u_machine.proofs.Beginning.{unparked, begun_logged, begun_partitioned, begun_idle, begun_takes, begun_late, others}
use Rattle.u_machine.proofs.parts.Parts.begin.Goals as goal
use Rattle.u_machine.proofs.parts.Parts.begin.Goals.{After-push_into_room}

landed : (c : After-push_into_room) → c.args.self.now.in_flight ≡ false
landed c = not_flying c.args.self.now c.requires.kept c.requires.settled

-- the parked firings are those of the set, before and then
waited : (c : After-push_into_room) → parked_of c.args.self.now ≡ c.args.self.now.parked
waited c = all_wait c.args.self.now c.requires.kept c.requires.settled

they_wait : (c : After-push_into_room) → parked_with c.args.self.now.in_flight c.args.self.now.applied_count c.push_into_room.new.list.items c.insert.new.self ≡ c.insert.new.self
they_wait c = as_they_wait _ _ _ _ (landed c)

with_it : (c : After-push_into_room) → IsWith (parked_of c.args.self.now) c.args.firing c.insert.new.self
with_it c = rw (waited c) (subst (λ (f : Firing). IsWith c.args.self.now.parked f c.insert.new.self) c.in_ok-waiting.ensures c.in_ok-insert.ensures.ok)

one_more : (c : After-push_into_room) → length c.insert.new.self ≡ length (parked_of c.args.self.now) + 1
one_more c =
    rw (waited c) (c.in_ok-insert.ensures.count
    (c.in_ok-insert.ensures.new.1 (λ m. unparked c.args.self.now c.requires.kept c.args.firing c.requires.ready (rw (waited c) (subst (λ (f : Firing). Contains c.args.self.now.parked f) c.in_ok-waiting.ensures m)))))

-- what is ready, without the firing
taken_out : (c : After-push_into_room) → IsWithout c.args.self.now.ready c.args.firing c.remove.new.self
taken_out c = subst (λ (fs : FiringList). IsWithout fs c.args.firing c.remove.new.self) c.end_run.ensures c.remove.ensures.without

-- the log, with the firing
abbrev log : After-push_into_room → FiringList
log c = c.push_into_room.new.list.items

logs : (c : After-push_into_room) → log c ≡ c.args.self.now.log.items ++ c.args.firing ∷ []
logs c = c.push_into_room.ensures.items ∙ ap (λ (l : FiringList). l ++ c.args.firing ∷ []) c.reserve.ensures.items

pub returns-clause-log : goal.returns-clause-log
returns-clause-log c = logs c

pub returns-clause-kept : goal.returns-clause-kept
returns-clause-kept c =
    let k = c.requires.kept in
    let m = c.args.self.now in
    let f = c.args.firing in
    record {
      all_ready = others m k f c.requires.ready;
      flight = λ e. absurd (false≢true (sym (landed c) ∙ e));
      logged = rw (they_wait c) (begun_logged m k f c.requires.ready c.requires.settled c.requires.room c.insert.new.self c.remove.new.self (log c) (with_it c) c.in_ok-insert.ensures.rises (one_more c) (logs c) (taken_out c));
      partitioned = rw (they_wait c) (begun_partitioned m k f c.requires.ready c.requires.settled c.requires.room c.insert.new.self c.remove.new.self (log c) (with_it c) c.in_ok-insert.ensures.rises (one_more c) (logs c) (taken_out c));
      late = rw (they_wait c) (begun_late m k f c.requires.ready c.requires.settled c.requires.room c.insert.new.self c.remove.new.self (log c) (with_it c) c.in_ok-insert.ensures.rises (one_more c) (logs c) (taken_out c) c.requires.made);
      idle = begun_idle m k f c.requires.ready c.requires.settled c.requires.room c.insert.new.self c.remove.new.self (log c) (with_it c) c.in_ok-insert.ensures.rises (one_more c) (logs c) (taken_out c);
    }

pub returns-clause-takes : goal.returns-clause-takes
returns-clause-takes c =
    rw (they_wait c) (begun_takes c.args.self.now c.requires.kept c.args.firing c.requires.ready c.requires.settled c.requires.room c.insert.new.self c.remove.new.self (log c) (with_it c) c.in_ok-insert.ensures.rises (one_more c) (logs c)
    (taken_out c))
