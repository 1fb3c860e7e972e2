use Rattle.std.proofs.Common.{ℕ, List, [], ◌∷◌, ◌++◌, take, sym, subst, length, arith, length-take, ◌≡◌}
use Rattle.std.proofs.lemmas.List.{take_all}
use Rattle.u_rule.specs.Rule.{own_of}
use Rattle.u_rule.specs.HeldEntries.{entries_given}
use Rattle.u_rule.specs.declared.firing.Firing.{Firing}
use Rattle.u_rule.proofs.Firings.{own_is_firing}
use Rattle.u_trace.specs.Table.{place_in, Owns}
use Rattle.u_trace.specs.Givers.{Notes, AreGivers}
use Rattle.u_trace.proofs.Lists.{next_take}
use Rattle.u_trace.proofs.GiverLaws.{givers_none, givers_more}
use Rattle.u_trace.proofs.TableLaws.{notes_from}
use Rattle.u_trace.proofs.OwnerLaws.{owns_none, owns_still, owns_more}
use Rattle.u_trace.proofs.givers.givers_of.Goals as goal

pub loop-place-init : goal.loop-place-init
loop-place-init c = record {
  givers = givers_none (own_of c.args.job.now) (place_in c.new-givers.result) c.new-givers.ensures.places;
  owners = owns_none c.new-givers.result c.new-givers.ensures.owners;
}

pub given-requires : goal.given-requires
given-requires c = own_is_firing c.args.job.now c.index-log-place.result (c.requires c.index-log-place.result (c.loop-place.place, c.loop-place-test.true, sym c.index-log-place.is))

pub loop-place-preserved : goal.loop-place-preserved
loop-place-preserved c =
    let i = c.loop-place.place in
    let f = c.index-log-place.result in
    let front = take i c.args.log.now in
    let n : i ≡ length front = (let h = length-take i c.args.log.now in let l = c.loop-place-test.true in omega (arith, h, l)) in
    let next = sym (next_take c.args.log.now i f c.loop-place-test.true c.index-log-place.is) in
    let notes = notes_from (place_in c.loop-place.givers) (place_in c.own.new.self) (place_in c.note_given.new.givers) (entries_given c.in_ok-all.all) i c.own.ensures.same c.in_ok-note_given.ensures.notes in
    record {
      givers = subst (λ (fs : List Firing). AreGivers (own_of c.args.job.now) fs (place_in c.note_given.new.givers)) next
          (givers_more (own_of c.args.job.now) front f (entries_given c.in_ok-all.all) (place_in c.loop-place.givers) (place_in c.note_given.new.givers) c.loop-place.invariant.givers c.in_ok-all.ensures.all
          (subst (λ (k : ℕ). Notes (place_in c.loop-place.givers) (entries_given c.in_ok-all.all) k (place_in c.note_given.new.givers)) n notes));
      owners = subst (λ (fs : List Firing). Owns c.note_given.new.givers fs) next
          (owns_still c.own.new.self c.note_given.new.givers (front ++ f ∷ []) (owns_more c.loop-place.givers c.own.new.self front f c.loop-place.invariant.owners c.in_ok-own.ensures.more) c.note_given.ensures.owns);
    }

pub returns-clause-givers : goal.returns-clause-givers
returns-clause-givers c = subst (λ (fs : List Firing). AreGivers (own_of c.args.job.now) fs (place_in c.loop-place.givers)) (take_all c.loop-place.place c.args.log.now c.loop-place-test.false) c.loop-place.invariant.givers

pub returns-clause-owners : goal.returns-clause-owners
returns-clause-owners c = subst (λ (fs : List Firing). Owns c.loop-place.givers fs) (take_all c.loop-place.place c.args.log.now c.loop-place-test.false) c.loop-place.invariant.owners
