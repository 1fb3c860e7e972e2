use Rattle.std.proofs.Common.{◌≡◌, false, ◌∙◌, sym, ◌+◌, ◌++◌, length, take, subst, refl, inl, inr}
use Rattle.std.specs.Prelude.{Contains}
use Rattle.std.proofs.lemmas.List.Elements.{Contains-append_right}
use Rattle.u_rule.specs.declared.firing.Firing.{Firing}
use Rattle.u_sets.specs.Members.{IsWith}
use Rattle.std.proofs.lemmas.Bool.{false≢true}
use Rattle.u_machine.specs.Invariant.{parked_with, parked_of}
use Rattle.u_machine.proofs.Flight.{as_they_wait, all_wait, not_flying}
use Rattle.u_machine.proofs.Steps.{parks, parks_takes, taken_more}
use Rattle.u_machine.proofs.Sorting.{takes_early}
use Rattle.u_machine.proofs.LateTokens.{takes_early_late}
use Rattle.u_machine.proofs.Early.{untaken, early_is_new}
use Rattle.u_machine.proofs.Settled.{settled_there, settles_itself, not_both}
use Rattle.u_machine.proofs.parts.Parts.park.Goals as goal
use Rattle.u_machine.proofs.parts.Parts.park.Goals.{In_ok-is_new, Then-is_new}

-- the parked firings are those of the set, before and then
waited : (c : In_ok-is_new) → parked_of c.args.self.now ≡ c.args.self.now.parked
waited c = all_wait c.args.self.now c.requires.kept c.requires.settled

with_it : (c : In_ok-is_new) → IsWith (parked_of c.args.self.now) c.args.firing.now c.insert.new.self
with_it c = rw (waited c) (subst (λ (f : Firing). IsWith c.args.self.now.parked f c.insert.new.self) c.in_ok-copy.ensures c.in_ok-is_new.ensures.ok)

landed : (c : In_ok-is_new) → c.args.self.now.in_flight ≡ false
landed c = not_flying c.args.self.now c.requires.kept c.requires.settled

they_wait : (c : In_ok-is_new) → parked_with c.args.self.now.in_flight c.args.self.now.applied_count c.args.self.now.log.items c.insert.new.self ≡ c.insert.new.self
they_wait c = as_they_wait _ _ _ _ (landed c)

-- the firing was put in
module _ (c : Then-is_new) where
  added : IsWith (parked_of c.args.self.now) c.args.firing.now c.insert.new.self
  added = with_it (goal.at.returns-then-is_new-clause-kept c).In_ok-is_new

  was_set : parked_of c.args.self.now ≡ c.args.self.now.parked
  was_set = waited (goal.at.returns-then-is_new-clause-kept c).In_ok-is_new

  unparked : Contains (parked_of c.args.self.now) c.args.firing.now → ⊥
  unparked m = c.in_ok-is_new.ensures.new.0 c.if-is_new.true (rw c.in_ok-copy.ensures (rw was_set at m))

  one_more : length c.insert.new.self ≡ length (parked_of c.args.self.now) + 1
  one_more = rw was_set (c.in_ok-is_new.ensures.count c.if-is_new.true)

  unready_at_all : Contains c.requires.kept.all_ready c.args.firing.now → ⊥
  unready_at_all m = elim ((c.requires.kept.late.whole c.args.firing.now).0 m).0 [ inl r ↦ c.requires.unready r | inr (e, i, n) ↦ c.requires.made e i n.0 ]

pub returns-then-is_new-clause-kept : goal.returns-then-is_new-clause-kept
returns-then-is_new-clause-kept c =
    let k = c.requires.kept in
    let m = c.args.self.now in
    let f = c.args.firing.now in
    let d = (goal.at.returns-then-is_new-clause-kept c).In_ok-is_new in
    let l = they_wait d in
    record {
      all_ready = k.all_ready;
      flight = λ e. absurd (false≢true (sym (landed d) ∙ e));
      logged = rw l (parks _ _ _ _ _ _ k.logged f c.insert.new.self (untaken m f c.requires.unapplied (unparked c)) c.requires.firing c.requires.room (added c) c.in_ok-is_new.ensures.rises (one_more c));
      partitioned = rw l (takes_early _ _ _ _ _ _ k.partitioned f (take m.applied_count m.log.items ++ c.insert.new.self) (unready_at_all c) (taken_more _ _ _ _ _ _ k.logged f c.insert.new.self (added c)));
      late = rw l (takes_early_late _ _ _ _ _ _ _ k.late f (take m.applied_count m.log.items ++ c.insert.new.self) (λ (e, i, n). c.requires.made e i n.0) (taken_more _ _ _ _ _ _ k.logged f c.insert.new.self (added c)));
      idle = k.idle;
    }

pub returns-then-is_new-clause-answer : goal.returns-then-is_new-clause-answer
returns-then-is_new-clause-answer c = (
  early_is_new c.args.self.now c.args.firing.now c.requires.unapplied (unparked c) c.requires.firing c.requires.room,
  rw (they_wait (goal.at.returns-then-is_new-clause-answer c).In_ok-is_new) (parks_takes _ _ _ _ _ _ c.requires.kept.logged c.args.firing.now c.insert.new.self (added c) (one_more c)),
  rw (they_wait (goal.at.returns-then-is_new-clause-answer c).In_ok-is_new) ((added c c.args.firing.now).1 (inr refl)),
  settled_there _ (returns-then-is_new-clause-kept c) c.requires.settled,
)

pub returns-clause-answer : goal.returns-clause-answer
returns-clause-answer c =
    let m = c.args.self.now in
    let same = c.in_ok-is_new.ensures.still (λ t. not_both c.in_ok-is_new.is_new t c.if-is_new.false) in
    let d = (goal.at.returns-clause-answer c).In_ok-is_new in
    let has = (with_it d c.args.firing.now).1 (inr refl) in (
      Contains-append_right (take m.applied_count m.log.items) (parked_of m) c.args.firing.now (rw (waited d) (rw same at has)),
      rw same (settles_itself m c.requires.kept c.requires.settled),
    )
