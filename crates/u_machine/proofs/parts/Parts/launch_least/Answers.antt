use Rattle.std.proofs.Common.{◌≡◌, ◌∙◌, ◌+◌, ◌++◌, [], ◌∷◌, length, drop, sym, ap, subst, refl, arith, length-append}
use Rattle.std.specs.Prelude.{Contains, slice_get}
use Rattle.u_base.proofs.Member.{Contains-head}
use Rattle.u_rule.specs.EntryOrder.{FiringList, firing_cmp}
use Rattle.u_rule.specs.declared.firing.Firing.{Firing}
use Rattle.u_sets.specs.Rising.{Rises}
use Rattle.u_sets.specs.Members.{IsWith, IsWithout}
use Rattle.u_machine.specs.Invariant.{NeedsNoLate, parked_of}
use Rattle.u_machine.proofs.Flight.{all_wait, with_only, only_rises, without_first, behind_others}
use Rattle.u_machine.proofs.Beginning.{begun_logged, begun_partitioned, begun_idle, begun_takes, begun_late, others}
use Rattle.u_machine.proofs.parts.Parts.launch_least.Goals as goal
use Rattle.u_machine.proofs.parts.Parts.launch_least.Goals.{After-push_into_room}

module _ (c : After-push_into_room) where
  abbrev firing : Firing
  firing = c.in-Some.firing

  abbrev less : FiringList
  less = c.pop_first.new.self

  -- it alone is parked
  abbrev only : FiringList
  only = firing ∷ []

  none_before : parked_of c.args.self.now ≡ []
  none_before = all_wait c.args.self.now c.requires.kept c.requires.settled ∙ c.requires.unparked

  was : Contains c.args.self.now.ready firing
  was = subst (λ (fs : FiringList). Contains fs firing) (sym c.in-Some.ensures.some) (Contains-head firing less)

  with_it : IsWith (parked_of c.args.self.now) firing only
  with_it = with_only (parked_of c.args.self.now) only firing none_before refl

  rises : Rises firing_cmp only
  rises = only_rises only firing refl

  one_more : length only ≡ length (parked_of c.args.self.now) + 1
  one_more = let b = ap length none_before in omega (arith, b)

  without : IsWithout c.args.self.now.ready firing less
  without = without_first c.args.self.now.ready less firing c.is_empty-none.ensures.rises c.in-Some.ensures.some

  -- the log, with the firing
  abbrev log : FiringList
  log = c.push_into_room.new.list.items

  logs : log ≡ c.args.self.now.log.items ++ only
  logs = c.push_into_room.ensures.items ∙ ap (λ (l : FiringList). l ++ only) c.reserve.ensures.items

  -- what is parked then
  flies : drop c.args.self.now.applied_count log ≡ only
  flies =
      ap (λ (l : FiringList). drop c.args.self.now.applied_count l) logs
      ∙ behind_others c.args.self.now.applied_count c.args.self.now.log.items firing c.requires.settled

  -- it needs no late token
  free : NeedsNoLate c.args.self.now firing
  free = c.requires.made firing (ap (λ (fs : FiringList). slice_get fs 0) c.in-Some.ensures.some)

pub returns-clause-kept : goal.returns-clause-kept
returns-clause-kept c =
    let d = (goal.at.returns-clause-kept c).After-push_into_room in
    let k = c.requires.kept in
    let m = c.args.self.now in
    let f = firing d in
    record {
      all_ready = others m k f (was d);
      logged = rw (flies d) (begun_logged m k f (was d) c.requires.settled c.requires.room (only d) (less d) (log d) (with_it d) (rises d) (one_more d) (logs d) (without d));
      partitioned = rw (flies d) (begun_partitioned m k f (was d) c.requires.settled c.requires.room (only d) (less d) (log d) (with_it d) (rises d) (one_more d) (logs d) (without d));
      late = rw (flies d) (begun_late m k f (was d) c.requires.settled c.requires.room (only d) (less d) (log d) (with_it d) (rises d) (one_more d) (logs d) (without d) (free d));
      idle = begun_idle m k f (was d) c.requires.settled c.requires.room (only d) (less d) (log d) (with_it d) (rises d) (one_more d) (logs d) (without d);
      flight = λ e. record {
        last =
            let l = ap length (logs d) in
            let a = length-append c.args.self.now.log.items (only d) in
            let t = c.requires.settled in
            omega (arith, l, a, t);
        alone = c.requires.unparked;
      };
    }

pub returns-clause-ok : goal.returns-clause-ok
returns-clause-ok c =
    let d = (goal.at.returns-clause-ok c).After-push_into_room in
    record {
      firing = firing d;
      at = ap (λ (fs : FiringList). slice_get fs 0) c.in-Some.ensures.some;
      takes = rw (flies d) (begun_takes c.args.self.now c.requires.kept (firing d) (was d) c.requires.settled c.requires.room (only d) (less d) (log d) (with_it d) (rises d) (one_more d) (logs d) (without d));
      log = logs d;
    }
