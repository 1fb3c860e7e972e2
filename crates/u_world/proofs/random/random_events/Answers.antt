use Rattle.std.proofs.Common.{◌≡◌, ℕ, ◌<◌, ◌^◌, ◌∙◌, ap, sym, subst, length, arith, List}
use Rattle.std.proofs.lemmas.Grind.{common_steps}
use Rattle.u_world.specs.declared.event.Event.{Event}
use Rattle.u_world.specs.Random.{generator, random_event, NoneIsBad}
use Rattle.u_world.proofs.Drawing.{makes_first, makes_more, makes_all, random_list_count}
use Rattle.u_world.proofs.Doable.{none_is_bad}
use Rattle.u_world.proofs.random.random_events.Goals as goal

pub loop-place-init : goal.loop-place-init
unfolding generator
loop-place-init c =
    makes_first c.args.seed c.args.replicas c.args.count c.new-events.result.items c.seed_from_u64-random.result c.new-asks.result.items
    c.new-events.ensures.items c.seed_from_u64-random.ensures c.new-asks.ensures.items

pub loop-place-preserved : goal.loop-place-preserved
loop-place-preserved c =
    let l = c.loop-place in
    let sent : c.len.result ≡ length l.asks.items = grind (arith, common_steps) in
    makes_more c.args.seed c.args.replicas c.args.count l._place l.events.items c.push.new.self.items l.random c.draw-words.new.random l.asks.items c.send.new.asks.items
    c.random_event-event.result c.draw-words.result c.loop-place-test.true c.draw-words.ensures.words c.draw-words.ensures.after (c.random_event-event.ensures ∙ ap (λ (n : ℕ). random_event c.args.replicas n c.draw-words.result) sent) c.in_ok-send.ensures c.in_ok-push.ensures.items l.invariant

pub returns-clause-list : goal.returns-clause-list
returns-clause-list c =
    let l = c.loop-place in
    let place : l._place ≡ c.args.count = omega (arith, c.loop-place-test.false, l.auto._place-end) in
    makes_all c.args.seed c.args.replicas c.args.count l._place l.events.items l.random l.asks.items place l.invariant

pub returns-clause-count : goal.returns-clause-count
returns-clause-count c =
    let l = c.loop-place in
    let place : l._place ≡ c.args.count = omega (arith, c.loop-place-test.false, l.auto._place-end) in
    ap (λ (es : List Event). length es) (makes_all c.args.seed c.args.replicas c.args.count l._place l.events.items l.random l.asks.items place l.invariant) ∙ random_list_count c.args.seed c.args.replicas c.args.count

pub returns-clause-doable : goal.returns-clause-doable
returns-clause-doable c =
    let l = c.loop-place in
    let place : l._place ≡ c.args.count = omega (arith, c.loop-place-test.false, l.auto._place-end) in
    let all = makes_all c.args.seed c.args.replicas c.args.count l._place l.events.items l.random l.asks.items place l.invariant in
    let long : length l.events.items ≡ c.args.count = ap (λ (es : List Event). length es) all ∙ random_list_count c.args.seed c.args.replicas c.args.count in
    let few : length l.events.items < 2 ^ 63 = omega arith in
    subst (λ (es : List Event). NoneIsBad c.args.replicas es) (sym all) (none_is_bad c.args.replicas c.requires c.args.seed c.args.count (omega (arith, long, few)))
