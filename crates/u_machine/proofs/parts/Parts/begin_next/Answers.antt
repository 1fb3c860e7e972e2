use Rattle.std.proofs.Common.{◌≡◌, ap, length, arith, length-append, [], ◌∷◌, ◌++◌, sym, subst, take, reverse, ◌∙◌}
use Rattle.std.proofs.lemmas.List.{take-append-le}
use Rattle.u_rule.specs.EntryOrder.{FiringList}
use Rattle.std.proofs.lemmas.List.Elements.{Contains-append_right}
use Rattle.u_machine.specs.Invariant.{IsLogged, IsPartitioned, HasLate, parked_with, parked_of}
use Rattle.std.proofs.lemmas.Bool.{false≢true}
use Rattle.u_machine.proofs.Flight.{as_they_wait}
use Rattle.u_machine.proofs.Settled.{not_logged, enabled_first}
use Rattle.u_machine.proofs.Steps.{begins}
use Rattle.u_machine.proofs.Sorting.{sorts_logged}
use Rattle.u_machine.proofs.LateTokens.{sorts_logged_late}
use Rattle.u_machine.proofs.parts.Parts.begin_next.Goals as goal
use Rattle.u_machine.proofs.parts.Parts.begin_next.Goals.{After-push_into_room}

logs : (c : After-push_into_room) → c.push_into_room.new.list.items ≡ c.args.self.now.log.items ++ c.in-Some.firing ∷ []
logs c = c.push_into_room.ensures.items ∙ ap (λ (l : FiringList). l ++ c.in-Some.firing ∷ []) c.reserve.ensures.items

-- the parked firings, before and then
they_wait : (c : After-push_into_room) → parked_with c.args.self.now.in_flight c.args.self.now.applied_count c.push_into_room.new.list.items c.args.self.now.parked ≡ parked_of c.args.self.now
they_wait c = as_they_wait _ _ _ _ c.requires.logged ∙ sym (as_they_wait _ _ _ _ c.requires.logged)

pub returns-clause-kept : goal.returns-clause-kept
returns-clause-kept c =
    let k = c.requires.kept in
    let m = c.args.self.now in
    let f = c.in-Some.firing in
    let rest = reverse c.take_first.new.turned.items in
    let n = c.in-Some.ensures.some in
    let l = logs c in
    let s : take m.applied_count (m.log.items ++ f ∷ []) ≡ take m.applied_count m.log.items = take-append-le m.applied_count m.log.items (f ∷ []) k.logged.place in
    record {
      all_ready = k.all_ready;
      logged = rw (they_wait c) (subst (λ (log : FiringList). IsLogged m.job.now m.limit log m.applied_count (parked_of m) m.matcher) (sym l)
          (begins _ _ _ _ _ _ k.logged f (c.requires.taken f (rest, n)) (not_logged m k f rest n) (enabled_first m k f rest n)));
      partitioned = rw (they_wait c) (subst (λ (log : FiringList). IsPartitioned m.job.now log (take m.applied_count log ++ (parked_of m)) k.all_ready rest m.matcher) (sym l)
          (rw s (sorts_logged _ _ _ _ _ _ k.partitioned f rest n)));
      late = rw (they_wait c) (subst (λ (log : FiringList). HasLate m.job.now (take m.applied_count log ++ (parked_of m)) k.all_ready m.ready rest m.late m.matcher) (sym l)
          (rw s (sorts_logged_late _ _ _ _ _ _ _ k.late f rest n (Contains-append_right (take m.applied_count m.log.items) (parked_of m) f (c.requires.taken f (rest, n))))));
      flight = λ e. absurd (false≢true (sym c.requires.logged ∙ e));
      idle = λ e. let a = length-append m.log.items (f ∷ []) in let b = k.logged.place in let d = ap length l in absurd (omega (arith, e));
    }
