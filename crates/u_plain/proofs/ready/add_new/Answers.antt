use Rattle.std.proofs.Common.{Contains, inl, inr, subst, sym, refl}
use Rattle.u_rule.specs.declared.firing.Firing.{Firing}
use Rattle.u_sets.specs.Members.{IsWith}
use Rattle.u_plain.proofs.ready.add_new.Goals as goal
use Rattle.u_plain.proofs.ready.add_new.Goals.{In_ok-place_in}

placed : (c : In_ok-place_in) → IsWith c.args.rest.now.items c.args.firing.now c.place_in.new.list.items
placed c = subst (λ (x : Firing). IsWith c.args.rest.now.items x c.place_in.new.list.items) c.in_ok-copy.ensures c.in_ok-place_in.ensures.ok

untaken : (c : In_ok-place_in) → Contains c.args.taken.now c.args.firing.now → ⊥
untaken c m = let z = c.if-contains.ensures.1 m in cc

pub returns-clause-exact : goal.returns-clause-exact
returns-clause-exact c f m =
    elim ((placed (goal.at.returns-clause-exact c).In_ok-place_in f).0 m)
    [ inl a ↦ inl a | inr e ↦ inr (e, λ l. untaken (goal.at.returns-clause-exact c).In_ok-place_in (subst (λ (x : Firing). Contains c.args.taken.now x) (sym e) l)) ]

pub returns-clause-kept : goal.returns-clause-kept
returns-clause-kept c f m = (placed (goal.at.returns-clause-kept c).In_ok-place_in f).1 (inl m)

pub returns-clause-there : goal.returns-clause-there
returns-clause-there c = inl ((placed (goal.at.returns-clause-there c).In_ok-place_in c.args.firing.now).1 (inr refl))
