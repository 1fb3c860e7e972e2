use Rattle.std.proofs.Common.{ℕ, sym, subst, Bool, true, false, List}
use Rattle.std.specs.Prelude.{◌↔◌}
use Rattle.u_determinate.specs.Guards.{HasGuard}
use Rattle.u_determinate.specs.Flow.{IsMarked, arc_of}
use Rattle.u_determinate.proofs.Opposed.{side_of}
use Rattle.u_determinate.proofs.keeps.Guarded.on_side.Goals as goal

pub returns-then-value : goal.returns-then-value
returns-then-value c =
    let ss = c.args.self.now.flow.statements.now in
    let control = c.args.guards.now.control in
    let marks = c.deref-then-value.result.now in
    side_of ss control c.args.value marks
    (subst (λ (v : Bool). (n : ℕ) → IsMarked marks n ↔ HasGuard ss control v n) (sym c.if-value.true) (subst (λ (ms : List Bool). (n : ℕ) → IsMarked ms n ↔ HasGuard ss control true n) (sym c.deref-then-value.ensures.value) c.requires.marks.on_true))
    (arc_of c.args.link.now) c.arc_has.result c.arc_has.ensures

pub returns-else-value : goal.returns-else-value
returns-else-value c =
    let ss = c.args.self.now.flow.statements.now in
    let control = c.args.guards.now.control in
    let marks = c.deref-else-value.result.now in
    side_of ss control c.args.value marks
    (subst (λ (v : Bool). (n : ℕ) → IsMarked marks n ↔ HasGuard ss control v n) (sym c.if-value.false) (subst (λ (ms : List Bool). (n : ℕ) → IsMarked ms n ↔ HasGuard ss control false n) (sym c.deref-else-value.ensures.value) c.requires.marks.on_false))
    (arc_of c.args.link.now) c.arc_has-else-value.result c.arc_has-else-value.ensures
