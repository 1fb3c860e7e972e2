use Rattle.std.proofs.Common.{◌+◌, length, List, Bool, true, sym, subst}
use Rattle.u_determinate.specs.Guards.{PassedOn}
use Rattle.u_determinate.specs.Flow.{Marked, Swept}
use Rattle.u_determinate.proofs.Rounds.{passed_more}
use Rattle.u_determinate.proofs.PortLaws.{passed_within, written}
use Rattle.u_determinate.proofs.Sweeps.{Settling, settling_first, settling_more, settled}
use Rattle.u_determinate.proofs.marking.Flow.passed.Goals as goal

pub loop-new-init : goal.loop-new-init
loop-new-init c =
    let ss = c.args.self.now.statements.now in
    let F = PassedOn ss c.args.control in
    let old = c.in_ok-passed.passed.items in
    let new = c.mark_passed.new.passed in
    let marked : Marked F old new = subst (λ (x : List Bool). Marked F x new) c.deref_mut.ensures.value c.mark_passed.ensures in
    subst (λ (x : List Bool). Settling F (length ss + 1) x true) (sym (written c.in_ok-passed.passed.len new old c.in_ok-passed.passed.ok.0 marked.count)) (settling_first F (length ss + 1) old new (c.in_ok-passed.ensures.items_if_clones_equal (λ y h. h)) marked)

pub loop-new-preserved : goal.loop-new-preserved
loop-new-preserved c =
    let ss = c.args.self.now.statements.now in
    let F = PassedOn ss c.args.control in
    let old = c.loop-new.passed.items in
    let new = c.sweep_passed-new.new.passed in
    let swept : Swept F old new c.sweep_passed-new.result = subst (λ (x : List Bool). Swept F x new c.sweep_passed-new.result) c.deref_mut-in-loop-new.ensures.value c.sweep_passed-new.ensures in
    subst (λ (x : List Bool). Settling F (length ss + 1) x c.sweep_passed-new.result) (sym (written c.loop-new.passed.len new old c.loop-new.passed.ok.0 swept.count)) (settling_more F (length ss + 1) old new c.loop-new.new c.sweep_passed-new.result c.loop-new.invariant swept)

pub returns : goal.returns
returns c =
    let ss = c.args.self.now.statements.now in
    let F = PassedOn ss c.args.control in
    settled F (passed_more ss c.args.control) (length ss + 1) c.loop-new.passed.items (subst (λ (b : Bool). Settling F (length ss + 1) c.loop-new.passed.items b) c.loop-new-test.false c.loop-new.invariant) (passed_within ss c.args.control c.requires.within)
