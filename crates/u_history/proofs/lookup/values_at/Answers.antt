use Rattle.u_sets.specs.Rising.{Rises}
use Rattle.std.proofs.Common.{◌≡◌, List, [], arith, refl, sym, subst}
use Rattle.u_sets.proofs.Gathering.{scan_more, scan_all}
use Rattle.u_value.specs.declared.value.Value.{Value}
use Rattle.u_rule.specs.Parts.{token}
use Rattle.u_rule.specs.declared.entry.Entry.{Entry}
use Rattle.u_rule.specs.declared.entry.Entry.TheVariants as kinds
use Rattle.u_history.specs.declared.place.MeetingPlace.TheVariants as places
use Rattle.u_history.specs.Orders.{value_order}
use Rattle.u_history.specs.Outcomes.{lent}
use Rattle.u_history.specs.Places.{IsAt}
use Rattle.u_history.proofs.Gathered.{listed, step_item, lent_below, lent_end}
use Rattle.u_history.proofs.Spans.{none_before, listed_until}
use Rattle.u_history.proofs.lookup.values_at.Goals as goal

pub loop-index-init : goal.loop-index-init
loop-index-init c = record {
  from = omega arith;
  rises = subst (λ (xs : List Value). Rises value_order xs) (sym c.new-list.ensures.items) tt;
  all = none_before (λ (x : Value). kinds.Token (token c.args.activity.now c.args.port x)) (places.Port c.args.activity c.args.port) (λ x. (refl, refl)) (lent c.args.entries.now) c.first_at-index.result c.first_at-index.ensures.before c.new-list.result.items c.new-list.ensures.items;
}

pub loop-index-preserved : goal.loop-index-preserved
loop-index-preserved c = record {
  from = let f = c.loop-index.invariant.from in omega (arith, f);
  rises = c.in_ok-add_value.ensures.rises;
  all = scan_more (λ (e : Entry) (x : Value). e ≡ kinds.Token (token c.args.activity.now c.args.port x)) [] (lent c.args.entries.now) c.loop-index.index c.entry_at-entry.result.now c.loop-index.list.items c.add_value.new.list.items (lent_below c.args.entries.now c.loop-index.index (omega arith)) c.loop-index.invariant.all (step_item (λ (x : Value). kinds.Token (token c.args.activity.now c.args.port x)) c.entry_at-entry.result.now _ c.loop-index.list.items c.add_value.new.list.items (c.entry_at-entry.ensures c.entry_at-entry.result.now) c.in_ok-add_value.ensures.ok);
}

pub returns-then-not-is_at : goal.returns-then-not-is_at
returns-then-not-is_at c =
    let d = c.entry_at-entry.result.now in
    let below = lent_below c.args.entries.now c.loop-index.index (omega arith) in
    listed_until (λ (x : Value). kinds.Token (token c.args.activity.now c.args.port x)) (places.Port c.args.activity c.args.port) (λ x. (refl, refl)) (lent c.args.entries.now) c.requires c.loop-index.index d below
    (c.first_at-index.ensures.behind c.loop-index.index d c.loop-index.invariant.from (omega arith))
    (λ s. absurd (let f = c.if-not-is_at.true in let g = c.is_at.ensures.1 (subst (IsAt (places.Port c.args.activity c.args.port)) (c.entry_at-entry.ensures d) s) in cc))
    value_order c.loop-index.list.items c.loop-index.invariant.rises c.loop-index.invariant.all

pub returns : goal.returns
returns c =
    listed (λ (x : Value). kinds.Token (token c.args.activity.now c.args.port x)) value_order (lent c.args.entries.now) c.loop-index.list.items c.loop-index.invariant.rises (scan_all (λ (e : Entry) (x : Value). e ≡ kinds.Token (token c.args.activity.now c.args.port x)) [] (lent c.args.entries.now) c.loop-index.index c.loop-index.list.items (lent_end c.args.entries.now c.loop-index.index (omega arith)) c.loop-index.invariant.all)
