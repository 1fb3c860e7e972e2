use Rattle.std.proofs.Common.{◌⊎◌, ◌↔◌, inl, inr, [], Contains, subst}
use Rattle.u_rule.specs.declared.entry.Entry.{Entry}
use Rattle.u_rule.specs.declared.firing.Firing.{Firing}
use Rattle.u_sets.proofs.Gathering.{scan_more, scan_all}
use Rattle.u_base.proofs.Member.{Contains-nil}
use Rattle.u_plain.specs.Tries.{FitsFirst}
use Rattle.u_plain.proofs.Growing.{first_enabled}
use Rattle.u_plain.proofs.enabling.enabled.Goals as goal

pub loop-left-preserved : goal.loop-left-preserved
loop-left-preserved c =
    scan_more (FitsFirst c.args.job.now c.args.held.now) [] c.args.held.now c.loop-left.left-index c.left-item.result c.loop-left.found.items c.add_firings.new.found.items c.loop-left-test.true c.loop-left.invariant
    (subst (λ (e : Entry). (f : Firing) → Contains c.add_firings.new.found.items f ↔ (Contains c.loop-left.found.items f ⊎ FitsFirst c.args.job.now c.args.held.now e f)) c.left-item.is c.in_ok-add_firings.ensures)

pub returns : goal.returns
returns c f =
    let all = scan_all (FitsFirst c.args.job.now c.args.held.now) [] c.args.held.now c.loop-left.left-index c.loop-left.found.items c.loop-left-test.false c.loop-left.invariant f in (
      (λ m. elim (all.0 m) [ inl n ↦ absurd (Contains-nil f n) | inr s ↦ (first_enabled c.args.job.now c.args.held.now f).0 s ]),
      (λ en. all.1 (inr ((first_enabled c.args.job.now c.args.held.now f).1 en))),
    )
