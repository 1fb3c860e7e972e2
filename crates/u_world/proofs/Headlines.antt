-- What holds of a world's replicas, as its users read it.
use Rattle.std.specs.Prelude.{◌≡◌, ℕ, ◌-◌, List, [], ◌∷◌, ◌++◌, length, take, Contains, Result, Ok, Err, IfOk}
use Rattle.std.proofs.Common.{sym, ◌∙◌, ap, subst, arith, append-nil}
use Rattle.std.proofs.lemmas.List.{take_all}
use Rattle.u_base.specs.Firing.{Same}
use Rattle.u_rule.specs.declared.firing.Firing.{Firing}
use Rattle.u_delta.specs.declared.message.Mark.{Mark}
use Rattle.u_machine.specs.State.{Taken, IsSettled}
use Rattle.u_machine.proofs.Obeying.{keeps_its_promise, agree}
use Rattle.u_replica.specs.Marking.{mark_of}
use Rattle.u_replica.specs.ReplicaState.{ReplicaState}
use Rattle.u_world.specs.WorldState.{WorldState, At}
use Rattle.u_world.specs.Worlds.{IsWorld}
use Rattle.u_world.specs.Headline.{IsOfOneRun, HasHeardAll, ParksNothing, ExchangeInFull, KeepsTheHeadline, AgreeOnSets, MergesInto, IsLeastUpperBound, MergesAreLeast}
use Rattle.u_world.specs.declared.event.Event.{Event}
use Rattle.u_world.specs.declared.event.Event.TheVariants as events
use Rattle.u_world.specs.declared.refused.WorldError.{WorldError}
use Rattle.u_world.specs.Happenings.{EventStep}
use Rattle.u_world.specs.Runs.{EventSteps, EventsAnswer}
use Rattle.u_world.proofs.Places.{at_between, get_set}

one_run : (w : WorldState) → IsWorld w → (k : ℕ) (r : ReplicaState) → At w.replicas k r → IsSettled r.machine → IsOfOneRun r
one_run w is k r a st =
    let s = (is.members k r a).is.machine.sound in
    record {
      run = s.derivation;
      held = λ e. (st.held e, s.has e);
      reached = λ e h. (r.machine.log, s.derivation, st.held e h);
    }

-- a replica that has heard all of another one, which parks nothing, took all that it took
heard_all : (w : WorldState) → IsWorld w → (k j : ℕ) (r p : ReplicaState) → (k ≡ j → ⊥) → At w.replicas k r → At w.replicas j p → HasHeardAll r p → ParksNothing p → (f : Firing) → Taken p.machine f → Taken r.machine f
heard_all w is k j r p apart a b heard none f t =
    let h = is.honest k j r p apart a b in
    let log : Contains p.machine.log f = subst (λ (fs : List Firing). Contains fs f) (ap (λ (fs : List Firing). p.machine.log ++ fs) none ∙ append-nil p.machine.log) t in
    let all : take (mark_of r.marks p.number).count p.machine.log ≡ p.machine.log =
    ap (λ (m : Mark). take m.count p.machine.log) heard ∙ take_all (length p.machine.log) p.machine.log (omega arith) in
    h.has (ap (λ (m : Mark). m.life) heard) f (subst (λ (fs : List Firing). Contains fs f) (sym all) log)

exchanged : (w : WorldState) → IsWorld w → ExchangeInFull w
exchanged w is k j r p apart a b heard_p heard_r none_r none_p =
    let back : j ≡ k → ⊥ = λ e. apart (sym e) in
    let same : Same (Taken p.machine) (Taken r.machine) = λ f. (heard_all w is k j r p apart a b heard_p none_p f, heard_all w is j k p r back b a heard_r none_r f) in
    let jobs = (is.members j p b).job ∙ sym (is.members k r a).job in
    record {
      taken = same;
      history = λ settled_r settled_p. agree r.machine p.machine (is.members k r a).is.machine (is.members j p b).is.machine settled_r settled_p jobs same;
    }

pub agree_on_sets : (v w : WorldState) → IsWorld v → IsWorld w → AgreeOnSets v w
agree_on_sets v w is_v is_w k j r p a b = agree r.machine p.machine (is_v.members k r a).is.machine (is_w.members j p b).is.machine

pub keeps_the_headline : (w : WorldState) → IsWorld w → KeepsTheHeadline w
keeps_the_headline w is = record {
  fixed = λ k r a st. (keeps_its_promise r.machine (is.members k r a).is.machine).closure st;
  one_run = one_run w is;
  whole = λ k r a st none. (keeps_its_promise r.machine (is.members k r a).is.machine).whole st none;
  honest = is.honest;
  exchanged = exchanged w is;
  equal_sets = agree_on_sets w w is is;
}

-- a merge that happened leaves the least upper bound

merge_least : (k j : ℕ) (old new : WorldState) → EventStep old (events.Merge k j) new → MergesInto k j old new
merge_least k j old new (may, (o, at, c)) =
    let l = c.replicas in
    let n = at_between old.replicas k l.before l.at in
    record {
      before = l.before;
      other = o;
      after = l.after;
      before_at = l.at;
      other_at = at;
      after_at = subst (λ (rs : List ReplicaState). At rs k l.after) (sym l.list) (n.0, get_set old.replicas (k - 1) l.after (omega (arith, n.0, n.1)));
      least = l.how.1.3;
    }

step_least : (old : WorldState) (e : Event) (new : WorldState) → EventStep old e new → IsLeastUpperBound old e new
step_least old (events.Merge k j) new s = merge_least k j old new s
step_least old (events.Fire k pick) new s = tt
step_least old (events.Take k f) new s = tt
step_least old (events.Ask k j) new s = tt
step_least old (events.Deliver i) new s = tt
step_least old (events.Save k) new s = tt
step_least old (events.Restart k keep) new s = tt
step_least old (events.Bytes k bytes) new s = tt

pub merges_are_least : (old : WorldState) (es : List Event) (new : WorldState) → EventSteps old es new → MergesAreLeast old es new
merges_are_least old [] new s = s
merges_are_least old (e ∷ es) new (mid, s, rest) = (mid, s, step_least old e mid s, merges_are_least mid es new rest)

pub run_least : (old : WorldState) (es : List Event) (new : WorldState) (result : Result (Unit {0}) WorldError) → EventsAnswer old es result new → IfOk result (λ u. MergesAreLeast old es new)
run_least old es new (Ok u) s = merges_are_least old es new s
run_least old es new (Err e) s = tt
