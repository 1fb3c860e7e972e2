use Rattle.std.proofs.Common.{subst, arith}
use Rattle.std.specs.Prelude.{Contains, IfSome, IfNone}
use Rattle.u_base.proofs.Member.{Contains-nil}
use Rattle.u_rule.specs.Parts.{ValueList}
use Rattle.u_rule.specs.Rule.{tokens_from, needs_of}
use Rattle.u_rule.specs.declared.entry.Entry.{Entry}
use Rattle.u_machine.specs.Invariant.{HasNoneOf}
use Rattle.u_machine.proofs.Lists.{nil_of_length}
use Rattle.u_machine.proofs.LateNeeds.{token_needed, needs_none, some_map, none_map}
use Rattle.u_machine.proofs.parts.Parts.late_need.Goals as goal

pub returns-then-len-eq0-clause-none : goal.returns-then-len-eq0-clause-none
returns-then-len-eq0-clause-none c e i n =
    let none = nil_of_length c.args.self.now.late (let l = c.len.ensures.len in omega (arith, l, c.if-len-eq0.true)) in
    absurd (Contains-nil e (rw none at i))

pub returns-clause-some : goal.returns-clause-some
returns-clause-some c =
    let f = c.args.firing.now in
    let late = c.args.self.now.late in
    some_map (λ (e : Entry). Contains late e × Contains (tokens_from f.activity 1 f.values) e) (λ (e : Entry). Contains late e × Contains (needs_of f) e) c.in_ok-found.found (λ e m. (m.0, token_needed f e m.1))
    (subst (λ (vs : ValueList). IfSome c.in_ok-found.found (λ (e : Entry). Contains late e × Contains (tokens_from f.activity 1 vs) e)) c.as_slice-values.ensures.values c.in_ok-found.ensures.some)

pub returns-clause-none : goal.returns-clause-none
returns-clause-none c =
    let f = c.args.firing.now in
    let late = c.args.self.now.late in
    none_map (HasNoneOf late (tokens_from f.activity 1 f.values)) (HasNoneOf late (needs_of f)) c.in_ok-found.found (needs_none late f c.requires.late.token)
    (subst (λ (vs : ValueList). IfNone c.in_ok-found.found (HasNoneOf late (tokens_from f.activity 1 vs))) c.as_slice-values.ensures.values c.in_ok-found.ensures.none)
