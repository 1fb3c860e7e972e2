use Rattle.std.proofs.Common.{rules, ◌≡◌, ◌≤◌, ◌∙◌, sym, ap, subst, arith, List, [], length}
use Rattle.std.specs.Prelude.{Contains}
use Rattle.std.specs.Borrow.{Bor}
use Rattle.u_name.specs.Name.{Activity}
use Rattle.u_rule.specs.Parts.{ValueList}
use Rattle.u_match.specs.Ports.{ports_at}
use Rattle.u_rule.specs.declared.firing.Firing.{Firing}
use Rattle.u_rule.specs.declared.entry.Entry.TheVariants as entries
use Rattle.u_sets.specs.Members.{SomeOf, Gains, HasOr}
use Rattle.u_match.specs.Keys.{AreMetFrom, lent_lists}
use Rattle.u_match.specs.Waking.{WakesSome}
use Rattle.u_match.specs.Finite.{HasSome}
use Rattle.u_match.specs.Joins.{IsOne, JoinsSome, JoinsAll}
use Rattle.u_match.proofs.Finite.{too_many, ones, twos, alls, wakes_some}
use Rattle.u_match.proofs.Made.{few_at}
use Rattle.u_match.proofs.Choices.{lent_count}
use Rattle.u_match.proofs.Answering.{two_of, two_left, answered_none, answered_ones, answered_twos, answered_all}
use Rattle.u_match.proofs.joining_tokens.Joining.gathered.Goals as goal

pub returns-then-ports-from-clause-exact : goal.returns-then-ports-from-clause-exact
returns-then-ports-from-clause-exact c =
    let ports : c.ports-ports.result ≡ ports_at c.args.self.now.job.now c.args.token.now.activity = c.ports-ports.ensures ∙ ap (ports_at c.args.self.now.job.now) c.requires.activity in
    rw (c.requires.empty) (answered_none (Contains c.args.self.now.history.now.entries) c.args.token.now c.args.self.now.job.now (omega (arith, ports, c.if-ports-from.true, c.from.ensures, c.port.ensures.port)))

pub met_at_each-requires-clause-ports : goal.met_at_each-requires-clause-ports
met_at_each-requires-clause-ports c =
    let ports : c.ports-ports.result ≡ ports_at c.args.self.now.job.now c.args.self.now.activity.now = c.ports-ports.ensures in
    let few = few_at c.args.self.now.job.now c.args.self.now.activity.now in
    omega (arith, ports, few)

pub add_all-requires-clause-ports : goal.add_all-requires-clause-ports
add_all-requires-clause-ports c =
    let ports : c.ports-ports.result ≡ ports_at c.args.self.now.job.now c.args.self.now.activity.now = c.ports-ports.ensures in
    let few = few_at c.args.self.now.job.now c.args.self.now.activity.now in
    let chosen = ap length c.new-chosen.ensures.items in
    let count = ap length c.deref.ensures.value ∙ c.in_ok-lists.ensures.count in
    (omega (arith, chosen, count, c.if-ports-gt2.true), omega (arith, chosen, count, ports, few))

pub returns-then-ports-gt2-clause-exact : goal.returns-then-ports-gt2-clause-exact
returns-then-ports-gt2-clause-exact c =
    let ports : c.ports-ports.result ≡ ports_at c.args.self.now.job.now c.args.token.now.activity = c.ports-ports.ensures ∙ ap (ports_at c.args.self.now.job.now) c.requires.activity in
    let high : c.args.token.now.port ≤ ports_at c.args.self.now.job.now c.args.token.now.activity = omega (arith, ports, c.if-ports-from.false, c.from.ensures, c.port.ensures.port) in
    let lists = lent_lists c.deref.result.now in
    answered_all (Contains c.args.self.now.history.now.entries) c.args.token.now c.args.self.now.job.now lists
    (subst (λ (ls : List (Bor ValueList)). AreMetFrom (Contains c.args.self.now.history.now.entries) c.args.token.now 1 (lent_lists ls)) (sym c.deref.ensures.value) c.in_ok-lists.ensures.each)
    c.add_all.new.found.items (λ two. omega (arith, c.if-ports-gt2.true, ports, two))
    (lent_count c.deref.result.now ∙ ap length c.deref.ensures.value ∙ c.in_ok-lists.ensures.count ∙ ports) c.port.ensures.range.0 high
    (subst (λ (a : Activity). Gains [] (JoinsAll c.args.self.now.job.now a [] lists) c.add_all.new.found.items) c.requires.activity
    (subst (λ (vs : ValueList). Gains [] (JoinsAll c.args.self.now.job.now c.args.self.now.activity.now vs lists) c.add_all.new.found.items) c.new-chosen.ensures.items
    (subst (λ (xs : List Firing). Gains xs (JoinsAll c.args.self.now.job.now c.args.self.now.activity.now c.new-chosen.result.items lists) c.add_all.new.found.items) c.requires.empty c.in_ok-add_all.ensures.ok)))

pub returns-then-ports-eq1-clause-exact : goal.returns-then-ports-eq1-clause-exact
returns-then-ports-eq1-clause-exact c =
    let ports : c.ports-ports.result ≡ ports_at c.args.self.now.job.now c.args.token.now.activity = c.ports-ports.ensures ∙ ap (ports_at c.args.self.now.job.now) c.requires.activity in
    let high : c.args.token.now.port ≤ ports_at c.args.self.now.job.now c.args.token.now.activity = omega (arith, ports, c.if-ports-from.false, c.from.ensures, c.port.ensures.port) in
    answered_ones (Contains c.args.self.now.history.now.entries) c.args.token.now c.args.self.now.job.now c.met_at-firsts.result.now
    c.met_at-firsts.ensures
    c.add_ones.new.found.items (sym ports ∙ c.if-ports-eq1.true) c.port.ensures.range.0 high
    (subst (λ (a : Activity). Gains [] (SomeOf c.met_at-firsts.result.now (IsOne c.args.self.now.job.now a)) c.add_ones.new.found.items) c.requires.activity
    (subst (λ (xs : List Firing). Gains xs (SomeOf c.met_at-firsts.result.now (IsOne c.args.self.now.job.now c.args.self.now.activity.now)) c.add_ones.new.found.items) c.requires.empty c.in_ok-add_ones.ensures.ok))

pub returns-clause-exact : goal.returns-clause-exact
returns-clause-exact c =
    let ports : c.ports-ports.result ≡ ports_at c.args.self.now.job.now c.args.token.now.activity = c.ports-ports.ensures ∙ ap (ports_at c.args.self.now.job.now) c.requires.activity in
    let high : c.args.token.now.port ≤ c.ports-ports.result = omega (arith, c.if-ports-from.false, c.from.ensures, c.port.ensures.port) in
    let two : c.ports-ports.result ≡ 2 = two_left c.ports-ports.result (omega (arith, c.port.ensures.range.0, high)) (omega (arith, c.if-ports-gt2.false)) c.if-ports-eq1.false in
    answered_twos (Contains c.args.self.now.history.now.entries) c.args.token.now c.args.self.now.job.now c.met_at-firsts.result.now
    c.met_at-firsts.ensures
    c.add_twos.new.found.items c.met_at-seconds.result.now
    c.met_at-seconds.ensures
    (sym ports ∙ two) (two_of c.args.token.now.port c.ports-ports.result c.port.ensures.range.0 high two)
    (subst (λ (a : Activity). Gains [] (SomeOf c.met_at-firsts.result.now (JoinsSome c.args.self.now.job.now (Contains c.args.self.now.history.now.entries) a c.met_at-seconds.result.now)) c.add_twos.new.found.items) c.requires.activity
    (subst (λ (xs : List Firing). Gains xs (SomeOf c.met_at-firsts.result.now (JoinsSome c.args.self.now.job.now (Contains c.args.self.now.history.now.entries) c.args.self.now.activity.now c.met_at-seconds.result.now)) c.add_twos.new.found.items) c.requires.empty c.in_ok-add_twos.ensures.ok))

pub returns-in_err-add_all-clause-many : goal.returns-in_err-add_all-clause-many
returns-in_err-add_all-clause-many c =
    let ports : c.ports-ports.result ≡ ports_at c.args.self.now.job.now c.args.token.now.activity = c.ports-ports.ensures ∙ ap (ports_at c.args.self.now.job.now) c.requires.activity in
    let high : c.args.token.now.port ≤ ports_at c.args.self.now.job.now c.args.token.now.activity = omega (arith, ports, c.if-ports-from.false, c.from.ensures, c.port.ensures.port) in
    let lists = lent_lists c.deref.result.now in
    too_many c.from_residual-in_err-add_all.result (HasSome (JoinsAll c.args.self.now.job.now c.args.self.now.activity.now c.new-chosen.result.items lists)) (WakesSome c.args.self.now.job.now (entries.Token c.args.token.now) (HasOr c.args.self.now.history.now.entries (entries.Token c.args.token.now)))
    (λ some. wakes_some (Contains c.args.self.now.history.now.entries) c.args.token.now c.args.self.now.job.now (JoinsAll c.args.self.now.job.now c.args.token.now.activity [] lists)
    (λ found g. answered_all (Contains c.args.self.now.history.now.entries) c.args.token.now c.args.self.now.job.now lists
    (subst (λ (ls : List (Bor ValueList)). AreMetFrom (Contains c.args.self.now.history.now.entries) c.args.token.now 1 (lent_lists ls)) (sym c.deref.ensures.value) c.in_ok-lists.ensures.each)
    found (λ two. omega (arith, c.if-ports-gt2.true, ports, two))
    (lent_count c.deref.result.now ∙ ap length c.deref.ensures.value ∙ c.in_ok-lists.ensures.count ∙ ports) c.port.ensures.range.0 high g)
    (alls c.args.self.now.job.now c.args.token.now.activity c.args.self.now.history.now.entries [] lists)
    (subst (λ (a : Activity). HasSome (JoinsAll c.args.self.now.job.now a [] lists)) c.requires.activity
    (subst (λ (vs : ValueList). HasSome (JoinsAll c.args.self.now.job.now c.args.self.now.activity.now vs lists)) c.new-chosen.ensures.items some))) (search rules)

pub returns-in_err-add_ones-clause-many : goal.returns-in_err-add_ones-clause-many
returns-in_err-add_ones-clause-many c =
    let ports : c.ports-ports.result ≡ ports_at c.args.self.now.job.now c.args.token.now.activity = c.ports-ports.ensures ∙ ap (ports_at c.args.self.now.job.now) c.requires.activity in
    let high : c.args.token.now.port ≤ ports_at c.args.self.now.job.now c.args.token.now.activity = omega (arith, ports, c.if-ports-from.false, c.from.ensures, c.port.ensures.port) in
    too_many c.from_residual-in_err-add_ones.result (HasSome (SomeOf c.met_at-firsts.result.now (IsOne c.args.self.now.job.now c.args.self.now.activity.now))) (WakesSome c.args.self.now.job.now (entries.Token c.args.token.now) (HasOr c.args.self.now.history.now.entries (entries.Token c.args.token.now)))
    (λ some. wakes_some (Contains c.args.self.now.history.now.entries) c.args.token.now c.args.self.now.job.now (SomeOf c.met_at-firsts.result.now (IsOne c.args.self.now.job.now c.args.token.now.activity))
    (λ found g. answered_ones (Contains c.args.self.now.history.now.entries) c.args.token.now c.args.self.now.job.now c.met_at-firsts.result.now c.met_at-firsts.ensures found (sym ports ∙ c.if-ports-eq1.true) c.port.ensures.range.0 high g)
    (ones c.args.self.now.job.now c.args.token.now.activity c.args.self.now.history.now.entries c.met_at-firsts.result.now)
    (subst (λ (a : Activity). HasSome (SomeOf c.met_at-firsts.result.now (IsOne c.args.self.now.job.now a))) c.requires.activity some)) (search rules)

pub returns-in_err-add_twos-clause-many : goal.returns-in_err-add_twos-clause-many
returns-in_err-add_twos-clause-many c =
    let ports : c.ports-ports.result ≡ ports_at c.args.self.now.job.now c.args.token.now.activity = c.ports-ports.ensures ∙ ap (ports_at c.args.self.now.job.now) c.requires.activity in
    let high : c.args.token.now.port ≤ c.ports-ports.result = omega (arith, c.if-ports-from.false, c.from.ensures, c.port.ensures.port) in
    let two : c.ports-ports.result ≡ 2 = two_left c.ports-ports.result (omega (arith, c.port.ensures.range.0, high)) (omega (arith, c.if-ports-gt2.false)) c.if-ports-eq1.false in
    let port = two_of c.args.token.now.port c.ports-ports.result c.port.ensures.range.0 high two in
    too_many c.from_residual-in_err-add_twos.result (HasSome (SomeOf c.met_at-firsts.result.now (JoinsSome c.args.self.now.job.now (Contains c.args.self.now.history.now.entries) c.args.self.now.activity.now c.met_at-seconds.result.now))) (WakesSome c.args.self.now.job.now (entries.Token c.args.token.now) (HasOr c.args.self.now.history.now.entries (entries.Token c.args.token.now)))
    (λ some. wakes_some (Contains c.args.self.now.history.now.entries) c.args.token.now c.args.self.now.job.now (SomeOf c.met_at-firsts.result.now (JoinsSome c.args.self.now.job.now (Contains c.args.self.now.history.now.entries) c.args.token.now.activity c.met_at-seconds.result.now))
    (λ found g. answered_twos (Contains c.args.self.now.history.now.entries) c.args.token.now c.args.self.now.job.now c.met_at-firsts.result.now c.met_at-firsts.ensures found c.met_at-seconds.result.now c.met_at-seconds.ensures (sym ports ∙ two) port g)
    (twos c.args.self.now.job.now c.args.token.now.activity c.args.self.now.history.now.entries c.met_at-firsts.result.now c.met_at-seconds.result.now)
    (subst (λ (a : Activity). HasSome (SomeOf c.met_at-firsts.result.now (JoinsSome c.args.self.now.job.now (Contains c.args.self.now.history.now.entries) a c.met_at-seconds.result.now))) c.requires.activity some)) (search rules)
