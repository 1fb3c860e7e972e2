use Rattle.std.proofs.Common.{rules, ◌≡◌, ◌∙◌, sym, ap, subst, arith, [], ◌∷◌, ◌++◌, length, List, None}
use Rattle.u_value.specs.declared.value.Value.{Value}
use Rattle.u_rule.specs.Parts.{ValueList}
use Rattle.u_rule.specs.EntryOrder.{firing}
use Rattle.u_sets.proofs.Gathering.{scan_all}
use Rattle.u_sets.proofs.Steps.{round, alike}
use Rattle.u_sets.specs.Members.{SomeOf, Gains}
use Rattle.u_match.specs.Finite.{HasSome}
use Rattle.u_match.specs.Joins.{IsKept, JoinsAll}
use Rattle.u_match.specs.Keys.{lent_lists}
use Rattle.u_match.proofs.Steps.{renamed}
use Rattle.u_match.proofs.Finite.{too_many, some_at, some_renamed}
use Rattle.u_match.proofs.Choices.{joins_none, joins_more, lent_none, lent_split, length_more, popped}
use Rattle.u_match.proofs.joining_tokens.Joining.+choosing.Goals as goal

pub add_all-returns-in_default-clause-ok : goal.add_all-returns-in_default-clause-ok
add_all-returns-in_default-clause-ok t c =
    let job = c.args.self.now.job.now in
    let a = c.args.self.now.activity.now in
    let made = c.in_ok-joined.ensures ∙ ap (λ (vs : ValueList). firing a vs None) c.deref.ensures.value in
    subst (λ (ls : List ValueList). Gains c.args.found.now.items (JoinsAll job a c.args.chosen.now.items ls) c.add.new.found.items) (sym (lent_none c.args.lists.now c.in_default.len_below))
    (alike (IsKept job (firing a c.args.chosen.now.items None)) (JoinsAll job a c.args.chosen.now.items []) c.args.found.now.items c.add.new.found.items (joins_none job a c.args.chosen.now.items)
    (renamed job c.in_ok-joined.joined (firing a c.args.chosen.now.items None) c.args.found.now.items c.add.new.found.items made c.in_ok-add.ensures.ok))

pub add_all-returns-in_err-add-clause-many : goal.add_all-returns-in_err-add-clause-many
add_all-returns-in_err-add-clause-many t c =
    let job = c.args.self.now.job.now in
    let a = c.args.self.now.activity.now in
    let made = c.in_ok-joined.ensures ∙ ap (λ (vs : ValueList). firing a vs None) c.deref.ensures.value in
    too_many c.from_residual-in_err-add.result (HasSome (IsKept job c.in_ok-joined.joined)) (HasSome (JoinsAll job a c.args.chosen.now.items (lent_lists c.args.lists.now)))
    (λ some. subst (λ (ls : List ValueList). HasSome (JoinsAll job a c.args.chosen.now.items ls)) (sym (lent_none c.args.lists.now c.in_default.len_below))
    (let (f, k) = some_renamed job c.in_ok-joined.joined (firing a c.args.chosen.now.items None) made some in (f, (joins_none job a c.args.chosen.now.items f).0 k))) (search rules)

pub add_all-returns-clause-ok : goal.add_all-returns-clause-ok
add_all-returns-clause-ok t c =
    subst (λ (ls : List ValueList). Gains c.args.found.now.items (JoinsAll c.args.self.now.job.now c.args.self.now.activity.now c.args.chosen.now.items ls) c.add_each.new.found.items)
    (sym (lent_split c.args.lists.now c.values-item.result c.in-len1-up.len_at_least c.values-item.is)) c.in_ok-add_each.ensures.ok

pub add_each-loop-value-preserved : goal.add_each-loop-value-preserved
add_each-loop-value-preserved t c =
    let job = c.args.self.now.job.now in
    let a = c.args.self.now.activity.now in
    let others = lent_lists c.args.others.now in
    let pushed : c.push.new.self.items ≡ c.args.chosen.now.items ++ c.value-item.result ∷ [] =
    c.in_ok-push.ensures.items ∙ ap (λ (vs : ValueList). vs ++ c.in_ok-copy.copy ∷ []) c.loop-value.invariant.0 ∙ ap (λ (v : Value). c.args.chosen.now.items ++ v ∷ []) c.in_ok-copy.ensures in (
      popped c.args.chosen.now.items c.add_all.new.chosen.items c.pop.new.self.items c.value-item.result c.add_all.new.chosen.len (c.in_ok-add_all.ensures.same ∙ pushed) (omega (arith, c.add_all.new.chosen.ok.0)) c.pop.ensures.rest,
      round (λ (v : Value). JoinsAll job a (c.args.chosen.now.items ++ v ∷ []) others) c.args.found.now.items c.loop-value.found.items c.add_all.new.found.items c.args.values.now c.loop-value.value-index c.value-item.result c.loop-value-test.true c.value-item.is c.loop-value.invariant.1
          (subst (λ (vs : ValueList). Gains c.loop-value.found.items (JoinsAll job a vs others) c.add_all.new.found.items) pushed c.in_ok-add_all.ensures.ok),
    )

pub add_each-add_all-requires : goal.add_each-add_all-requires
add_each-add_all-requires t c =
    let pushed : c.push.new.self.items ≡ c.loop-value.chosen.items ++ c.in_ok-copy.copy ∷ [] = c.in_ok-push.ensures.items in
    let count = ap length pushed in
    let more = length_more c.loop-value.chosen.items c.in_ok-copy.copy in
    let same = ap length c.loop-value.invariant.0 in
    (omega (arith, count, more, same, c.requires.ports.0), (c.requires.known, omega (arith, count, more, same, c.requires.ports.1)))

pub add_each-returns-in_err-add_all-clause-many : goal.add_each-returns-in_err-add_all-clause-many
add_each-returns-in_err-add_all-clause-many t c =
    let job = c.args.self.now.job.now in
    let a = c.args.self.now.activity.now in
    let others = lent_lists c.args.others.now in
    let pushed : c.push.new.self.items ≡ c.args.chosen.now.items ++ c.value-item.result ∷ [] =
    c.in_ok-push.ensures.items ∙ ap (λ (vs : ValueList). vs ++ c.in_ok-copy.copy ∷ []) c.loop-value.invariant.0 ∙ ap (λ (v : Value). c.args.chosen.now.items ++ v ∷ []) c.in_ok-copy.ensures in
    too_many c.from_residual-in_err-add_all.result (HasSome (JoinsAll job a c.push.new.self.items others)) (HasSome (JoinsAll job a c.args.chosen.now.items (c.args.values.now ∷ others)))
    (λ some. let (f, k) = some_at (λ (v : Value). JoinsAll job a (c.args.chosen.now.items ++ v ∷ []) others) c.args.values.now c.loop-value.value-index c.value-item.result c.loop-value-test.true c.value-item.is (subst (λ (vs : ValueList). HasSome (JoinsAll job a vs others)) pushed some) in (f, (joins_more job a c.args.chosen.now.items f c.args.values.now others).0 k)) (search rules)

pub add_each-returns-clause-ok : goal.add_each-returns-clause-ok
add_each-returns-clause-ok t c =
    let job = c.args.self.now.job.now in
    let a = c.args.self.now.activity.now in
    let others = lent_lists c.args.others.now in
    alike (SomeOf c.args.values.now (λ (v : Value). JoinsAll job a (c.args.chosen.now.items ++ v ∷ []) others)) (JoinsAll job a c.args.chosen.now.items (c.args.values.now ∷ others)) c.args.found.now.items c.loop-value.found.items
    (λ f. joins_more job a c.args.chosen.now.items f c.args.values.now others)
    (scan_all (λ (v : Value). JoinsAll job a (c.args.chosen.now.items ++ v ∷ []) others) c.args.found.now.items c.args.values.now c.loop-value.value-index c.loop-value.found.items c.loop-value-test.false c.loop-value.invariant.1)
