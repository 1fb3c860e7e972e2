use Rattle.std.proofs.Common.{◌≡◌, sym, subst, arith, take, List, Err, Ok}
use Rattle.std.proofs.lemmas.List.{take_all}
use Rattle.u_world.specs.declared.event.Event.{Event}
use Rattle.u_world.specs.Inside.{world_of}
use Rattle.u_world.specs.Runs.{EventSteps, EventsAnswer}
use Rattle.u_world.specs.declared.refused.WorldError.{WorldError}
use Rattle.u_world.proofs.Kept.{event_keeps}
use Rattle.u_world.proofs.Lists.{happened, steps_more, stops}
use Rattle.u_world.proofs.Settled.{steps_settled, stay_settled}
use Rattle.u_world.proofs.Headlines.{keeps_the_headline, merges_are_least}
use Rattle.u_world.proofs.Rounded.{rounds_catch_up}
use Rattle.u_world.proofs.Among.{rounds_keep_up}
use Rattle.u_world.proofs.world.World.run.Goals as goal

pub invariant_of-self-in-Err : goal.invariant_of-self-in-Err
invariant_of-self-in-Err c =
    event_keeps (world_of c.loop-place.self-inside.inside) c.loop-place.invariant.is c.index-events-place.result (Err c.in-Err.refused) (world_of c.happen.new.self) c.in-Err.ensures

pub returns-in-Err-clause-answer : goal.returns-in-Err-clause-answer
returns-in-Err-clause-answer c =
    let w = c.args.self.now in
    let es = c.args.events.now in
    let mid = world_of c.loop-place.self-inside.inside in
    let new = world_of c.happen.new.self in
    subst (λ (e : WorldError). EventsAnswer w es (Err e) new) (sym c.at.ensures)
    (stops w es c.loop-place.place mid c.index-events-place.result c.in-Err.refused new c.loop-place-test.true c.index-events-place.is c.loop-place.invariant.steps c.in-Err.ensures)

pub returns-in-Err-clause-is : goal.returns-in-Err-clause-is
returns-in-Err-clause-is c =
    event_keeps (world_of c.loop-place.self-inside.inside) c.loop-place.invariant.is c.index-events-place.result (Err c.in-Err.refused) (world_of c.happen.new.self) c.in-Err.ensures

pub returns-in-Err-clause-headline : goal.returns-in-Err-clause-headline
returns-in-Err-clause-headline c =
    keeps_the_headline (world_of c.happen.new.self)
    (event_keeps (world_of c.loop-place.self-inside.inside) c.loop-place.invariant.is c.index-events-place.result (Err c.in-Err.refused) (world_of c.happen.new.self) c.in-Err.ensures)

pub loop-place-preserved : goal.loop-place-preserved
loop-place-preserved c =
    let w = c.args.self.now in
    let es = c.args.events.now in
    let mid = world_of c.loop-place.self-inside.inside in
    let new = world_of c.happen.new.self in
    record {
      steps = steps_more w es c.loop-place.place mid c.index-events-place.result new c.loop-place-test.true c.index-events-place.is c.loop-place.invariant.steps (happened mid c.index-events-place.result c.in-Ok.field-0 new c.in-Ok.ensures);
      is = event_keeps mid c.loop-place.invariant.is c.index-events-place.result (Ok c.in-Ok.field-0) new c.in-Ok.ensures;
    }

pub returns-clause-headline : goal.returns-clause-headline
returns-clause-headline c = keeps_the_headline (world_of c.loop-place.self-inside.inside) c.loop-place.invariant.is

pub returns-clause-merges : goal.returns-clause-merges
returns-clause-merges c =
    let w = c.args.self.now in
    let es = c.args.events.now in
    let new = world_of c.loop-place.self-inside.inside in
    let all : take c.loop-place.place es ≡ es = take_all c.loop-place.place es (omega (arith, c.loop-place-test.false)) in
    merges_are_least w es new (subst (λ (es : List Event). EventSteps w es new) all c.loop-place.invariant.steps)

pub returns-in-Err-clause-settled : goal.returns-in-Err-clause-settled
returns-in-Err-clause-settled c =
    let w = c.args.self.now in
    let es = c.args.events.now in
    let mid = world_of c.loop-place.self-inside.inside in
    let new = world_of c.happen.new.self in
    stay_settled w es (Err c.at.result) new
    (subst (λ (e : WorldError). EventsAnswer w es (Err e) new) (sym c.at.ensures)
    (stops w es c.loop-place.place mid c.index-events-place.result c.in-Err.refused new c.loop-place-test.true c.index-events-place.is c.loop-place.invariant.steps c.in-Err.ensures))

pub returns-clause-settled : goal.returns-clause-settled
returns-clause-settled c = λ settled.
    let w = c.args.self.now in
    let es = c.args.events.now in
    let new = world_of c.loop-place.self-inside.inside in
    let all : take c.loop-place.place es ≡ es = take_all c.loop-place.place es (omega (arith, c.loop-place-test.false)) in
    steps_settled w es new settled (subst (λ (es : List Event). EventSteps w es new) all c.loop-place.invariant.steps)

pub returns-clause-rounds : goal.returns-clause-rounds
returns-clause-rounds c = rounds_catch_up c.args.self.now c.args.events.now (world_of c.loop-place.self-inside.inside) c.holds.ensures.is

pub returns-in-Err-clause-rounds : goal.returns-in-Err-clause-rounds
returns-in-Err-clause-rounds c = rounds_catch_up c.args.self.now c.args.events.now (world_of c.happen.new.self) c.holds.ensures.is

pub returns-clause-rounds_among : goal.returns-clause-rounds_among
returns-clause-rounds_among c = rounds_keep_up c.args.self.now c.args.events.now (world_of c.loop-place.self-inside.inside) c.holds.ensures.is

pub returns-in-Err-clause-rounds_among : goal.returns-in-Err-clause-rounds_among
returns-in-Err-clause-rounds_among c = rounds_keep_up c.args.self.now c.args.events.now (world_of c.happen.new.self) c.holds.ensures.is
