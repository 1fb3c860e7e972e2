use Rattle.std.proofs.Common.{◌+◌, length, List, Bool, true, sym, subst}
use Rattle.u_determinate.specs.Guards.{StatementOf}
use Rattle.u_determinate.specs.Flow.{Marked, Swept}
use Rattle.u_determinate.proofs.Rounds.{guards_more}
use Rattle.u_determinate.proofs.PortLaws.{written}
use Rattle.u_determinate.proofs.SidesLaws.{guards_within}
use Rattle.u_determinate.proofs.Sweeps.{Settling, settling_first, settling_more, settled}
use Rattle.u_determinate.proofs.sides.Side.having.Goals as goal

pub loop-new-init : goal.loop-new-init
loop-new-init c =
    let ss = c.args.self.now.flow.statements.now in
    let F = StatementOf ss c.args.self.now.control c.args.self.now.value in
    let old = c.in_ok-marks.marks.items in
    let new = c.mark_all.new.marks in
    let marked : Marked F old new = subst (λ (x : List Bool). Marked F x new) c.deref_mut.ensures.value c.mark_all.ensures in
    subst (λ (x : List Bool). Settling F (length ss + 1) x true) (sym (written c.in_ok-marks.marks.len new old c.in_ok-marks.marks.ok.0 marked.count)) (settling_first F (length ss + 1) old new (c.in_ok-marks.ensures.items_if_clones_equal (λ y h. h)) marked)

pub loop-new-preserved : goal.loop-new-preserved
loop-new-preserved c =
    let ss = c.args.self.now.flow.statements.now in
    let F = StatementOf ss c.args.self.now.control c.args.self.now.value in
    let old = c.loop-new.marks.items in
    let new = c.sweep-new.new.marks in
    let swept : Swept F old new c.sweep-new.result = subst (λ (x : List Bool). Swept F x new c.sweep-new.result) c.deref_mut-in-loop-new.ensures.value c.sweep-new.ensures in
    subst (λ (x : List Bool). Settling F (length ss + 1) x c.sweep-new.result) (sym (written c.loop-new.marks.len new old c.loop-new.marks.ok.0 swept.count)) (settling_more F (length ss + 1) old new c.loop-new.new c.sweep-new.result c.loop-new.invariant swept)

pub returns : goal.returns
returns c =
    let ss = c.args.self.now.flow.statements.now in
    let F = StatementOf ss c.args.self.now.control c.args.self.now.value in
    settled F (guards_more ss c.args.self.now.control c.args.self.now.value) (length ss + 1) c.loop-new.marks.items (subst (λ (b : Bool). Settling F (length ss + 1) c.loop-new.marks.items b) c.loop-new-test.false c.loop-new.invariant) (guards_within ss c.args.self.now.control c.args.self.now.value)
