use Rattle.std.proofs.Common.{◌≡◌, ◌∷◌, reverse, arith}
use Rattle.std.proofs.lemmas.List.{length-reverse}
use Rattle.u_rule.specs.EntryOrder.{FiringList}
use Rattle.u_rule.specs.declared.firing.Firing.{Firing}
use Rattle.u_machine.specs.Invariant.{woken_of}
use Rattle.u_machine.proofs.Settled.{parked_first, not_idle}
use Rattle.u_machine.proofs.Sorting.{sorts_ready}
use Rattle.u_machine.proofs.LateTokens.{with_first, sorts_ready_late}
use Rattle.u_machine.proofs.Turned.{pushed}
use Rattle.u_machine.proofs.parts.Parts.ready_next.Goals as goal
use Rattle.u_machine.proofs.parts.Parts.ready_next.Goals.{In_ok-insert_last_of}

pub insert_last_of-requires : goal.insert_last_of-requires
insert_last_of-requires c = let l = length-reverse c.args.self.now.woken.items in let s = c.requires.some in omega (arith, l, s)

module _ (c : In_ok-insert_last_of) where
  -- the next firing, and those behind it
  abbrev next : Firing
  next = c.in_ok-insert_last_of.ensures.ok.last

  abbrev rest : FiringList
  rest = reverse c.insert_last_of.new.list.items

  first : woken_of c.args.self.now ≡ next ∷ rest
  first = pushed c.insert_last_of.new.list.items c.args.self.now.woken.items next c.in_ok-insert_last_of.ensures.ok.was

pub returns-clause-kept : goal.returns-clause-kept
returns-clause-kept c =
    let d = (goal.at.returns-clause-kept c).In_ok-insert_last_of in
    let k = c.requires.kept in
    let m = c.args.self.now in
    let f = next d in
    let n = first d in
    record {
      all_ready = f ∷ k.all_ready;
      logged = k.logged;
      flight = k.flight;
      partitioned = sorts_ready _ _ _ _ _ _ k.partitioned f (rest d) (f ∷ k.all_ready) n (λ t. c.requires.new f (rest d, n) (parked_first m k f (rest d) n t)) (with_first f k.all_ready);
      late = sorts_ready_late _ _ _ _ _ _ _ k.late f (rest d) c.insert_last_of.new.self n k.partitioned.once c.in_ok-insert_last_of.ensures.ok.with;
      idle = λ e. absurd (not_idle m k f (rest d) n (k.idle e));
    }
