use Rattle.std.proofs.Common.{◌<◌, ◌++◌, ◌∷◌, [], inl, inr, sym, ◌∙◌, ap, subst, length, ℕ}
use Rattle.std.specs.Prelude.{Contains}
use Rattle.std.proofs.lemmas.Nat.{mod_below}
use Rattle.u_rule.specs.EntryOrder.{FiringList}
use Rattle.u_machine.specs.State.{State, IsReady, IsPick}
use Rattle.u_machine.specs.Calls.{Takes}
use Rattle.u_machine.specs.Invariant.{state_of}
use Rattle.u_machine.proofs.Making.{makes_settled}
use Rattle.u_machine.proofs.LateTokens.{ready_is_made}
use Rattle.u_machine.proofs.Picking.{ready_there, some_there, picks_least, picks_made, least_needs_none}
use Rattle.u_machine.proofs.parts.Parts.begin_picked.Goals as goal
use Rattle.u_machine.proofs.parts.Parts.begin_picked.Goals.{In_ok-make_least, In_ok-make_all}

-- something is ready after firings were made
is_there : (c : In_ok-make_least) → Contains c.in_ok-make_least.ensures.kept.all_ready c.requires.ready.0
is_there c =
    let p = c.make_least.new.self in
    ready_there p c.in_ok-make_least.ensures.kept (makes_settled _ _ c.in_ok-make_least.ensures.makes c.requires.settled) c.requires.ready.0 (subst (λ (m : State). IsReady m c.requires.ready.0) (sym c.in_ok-make_least.ensures.makes.state) c.requires.ready.1)

pub begin_least-requires-clause-ready : goal.begin_least-requires-clause-ready
begin_least-requires-clause-ready c =
    let p = c.make_least.new.self in
    let f = c.requires.ready.0 in
    elim ((c.in_ok-make_least.ensures.kept.late.whole f).0 (is_there (goal.at.begin_least-requires-clause-ready c).In_ok-make_least)).0
    [ inl m ↦ some_there p.ready f m | inr (e, i, w) ↦ c.in_ok-make_least.ensures.some (some_there p.late e i) ]

pub begin_least-requires-clause-made : goal.begin_least-requires-clause-made
begin_least-requires-clause-made c = least_needs_none c.make_least.new.self c.in_ok-make_least.ensures.least

pub returns-then-pick-eq0-clause-ok : goal.returns-then-pick-eq0-clause-ok
returns-then-pick-eq0-clause-ok c =
    let p = c.make_least.new.self in
    let m = c.in_ok-make_least.ensures.makes in
    let b = c.in_ok-begin_least.ensures.ok in
    record {
      firing = b.firing;
      picked = subst (λ (n : ℕ). IsPick (state_of c.args.self.now) n b.firing) (sym c.if-pick-eq0.true)
          (subst (λ (s : State). IsPick s 0 b.firing) m.state (picks_least p c.in_ok-make_least.ensures.kept (makes_settled _ _ m c.requires.settled) c.in_ok-make_least.ensures.least c.is_empty-none.ensures.rises b.firing b.at));
      takes = subst (λ (s : State). Takes s b.firing (state_of c.begin_least.new.self)) m.state b.takes;
      log = b.log ∙ ap (λ (l : FiringList). l ++ b.firing ∷ []) m.log;
    }

some_made : (c : In_ok-make_all) → 0 < length c.make_all.new.self.ready
some_made c =
    let p = c.make_all.new.self in
    let k = c.in_ok-make_all.ensures.kept in
    let m = c.in_ok-make_all.ensures.makes in
    let st = makes_settled _ _ m c.requires.settled in
    let there = ready_there p k st c.requires.ready.0 (subst (λ (s : State). IsReady s c.requires.ready.0) (sym m.state) c.requires.ready.1) in
    some_there p.ready c.requires.ready.0 ((ready_is_made _ _ _ _ _ _ _ k.late (k.idle st) c.in_ok-make_all.ensures.ok c.requires.ready.0).1 there)

pub picked_place-place-requires : goal.picked_place-place-requires
picked_place-place-requires c = some_made (goal.at.picked_place-place-requires c).In_ok-make_all

pub begin_at-requires-clause-ready : goal.begin_at-requires-clause-ready
begin_at-requires-clause-ready c =
    let s = some_made (goal.at.begin_at-requires-clause-ready c).In_ok-make_all in
    rw c.picked_place-place.ensures.place (mod_below c.args.pick (length c.make_all.new.self.ready) s)

pub returns-clause-ok : goal.returns-clause-ok
returns-clause-ok c =
    let p = c.make_all.new.self in
    let m = c.in_ok-make_all.ensures.makes in
    let b = c.in_ok-begin_at.ensures.ok in
    record {
      firing = b.firing;
      picked = subst (λ (s : State). IsPick s c.args.pick b.firing) m.state
          (picks_made p c.in_ok-make_all.ensures.kept (makes_settled _ _ m c.requires.settled) c.in_ok-make_all.ensures.ok c.picked_place-place.ensures.rises c.args.pick b.firing (rw c.picked_place-place.ensures.place at b.at));
      takes = subst (λ (s : State). Takes s b.firing (state_of c.begin_at.new.self)) m.state b.takes;
      log = b.log ∙ ap (λ (l : FiringList). l ++ b.firing ∷ []) m.log;
    }
