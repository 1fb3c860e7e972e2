use Rattle.std.proofs.Common.{◌++◌, ◌∷◌, inl, inr, refl, arith, subst}
use Rattle.std.specs.Prelude.{Contains}
use Rattle.u_rule.specs.declared.entry.Entry.{Entry}
use Rattle.u_rule.specs.declared.firing.Firing.{Firing}
use Rattle.u_machine.specs.Invariant.{taken_of}
use Rattle.u_sets.specs.Members.{IsWith}
use Rattle.u_base.proofs.Member.{Contains-head}
use Rattle.u_machine.proofs.Going.{slice_get_below}
use Rattle.u_machine.proofs.Lists.{slice_get_Contains}
use Rattle.u_machine.proofs.LateTokens.{put_late_partitioned, puts_late, same_late, put_back}
use Rattle.u_machine.proofs.Making.{woken_with, untaken_new}
use Rattle.u_machine.proofs.States.{Applies-history}
use Rattle.u_machine.proofs.Steps.{entered}
use Rattle.u_machine.proofs.parts.Parts.put_late.Goals as goal
use Rattle.u_machine.proofs.parts.Parts.put_late.Goals.{After-enter_alone}

with_late : (c : After-enter_alone) → IsWith c.args.self.now.late c.args.entry.now c.insert.new.self
with_late c = subst (λ (e : Entry). IsWith c.args.self.now.late e c.insert.new.self) c.in_ok-copy.ensures c.in_ok-insert.ensures.ok

pub returns-in-Ok-clause-kept : goal.returns-in-Ok-clause-kept
returns-in-Ok-clause-kept c =
    let k = c.requires.kept in
    let m = c.args.self.now in
    let e = c.args.entry.now in
    let more = c.enter_alone.new.self in
    let w = c.in-Ok.ensures.ok in
    let (f, at, from, place, g) = c.requires.gives in
    let fs = c.requires.wakes.first ∷ c.requires.wakes.rest in
    let exact = woken_with m.job.now e m.matcher more fs w c.requires.wakes.exact in
    let fit = λ (h : Firing) (i : Contains k.all_ready h). (k.partitioned.fit h i).0 in
    let free = λ (h : Firing) (i : Contains fs h) (t : Contains (taken_of m) h). untaken_new m k c.requires.unparked e c.requires.new h ((exact h).0 i).0 t in
    record {
      all_ready = k.all_ready ++ fs;
      flight = k.flight;
      logged = entered _ _ _ _ _ _ k.logged f e more (slice_get_Contains _ _ f place) g w;
      partitioned = put_late_partitioned _ _ _ _ _ _ _ k.late e more c.requires.idle c.requires.new w fit fs exact free m.log.items k.partitioned;
      late = puts_late _ _ _ _ _ _ _ k.late e more c.requires.idle c.requires.new w fit fs exact free c.insert.new.self c.requires.wakes.token (with_late (goal.at.returns-in-Ok-clause-kept c).After-enter_alone) (c.requires.wakes.first, Contains-head c.requires.wakes.first c.requires.wakes.rest);
      idle = λ q. let b = slice_get_below m.log.items at f place in absurd (omega (arith, b, q, from));
    }

pub returns-in-Ok-clause-applies : goal.returns-in-Ok-clause-applies
returns-in-Ok-clause-applies c = Applies-history _ _ (λ x k. (c.in-Ok.ensures.ok x).1 (inl k))

pub returns-in-Ok-clause-has : goal.returns-in-Ok-clause-has
returns-in-Ok-clause-has c = (c.in-Ok.ensures.ok c.args.entry.now).1 (inr refl)

pub returns-in-Err-clause-kept : goal.returns-in-Err-clause-kept
returns-in-Err-clause-kept c =
    let k = c.requires.kept in
    let w = with_late (goal.at.returns-in-Err-clause-kept c).After-enter_alone in
    record {
      all_ready = k.all_ready;
      flight = k.flight;
      logged = rw c.in-Err.ensures.err k.logged;
      partitioned = rw c.in-Err.ensures.err k.partitioned;
      late = rw c.in-Err.ensures.err (same_late _ _ _ _ _ _ _ k.late c.remove.new.self (put_back c.args.self.now.late c.args.entry.now c.insert.new.self c.remove.new.self (λ i. c.requires.new (k.late.there c.args.entry.now i)) w c.remove.ensures.without));
      idle = k.idle;
    }
