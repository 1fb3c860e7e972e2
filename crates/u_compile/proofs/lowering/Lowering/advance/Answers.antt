use Rattle.std.proofs.Common.{sym, ◌∙◌, subst}
use Rattle.u_compile.specs.Namings.{KnownParts}
use Rattle.u_compile.specs.Operands.{Operates, lowering}
use Rattle.u_compile.specs.Definitions.{with_names}
use Rattle.u_compile.specs.Steps.{IsItem}
use Rattle.u_compile.specs.Walks.{IsDone}
use Rattle.u_compile.proofs.lowering.Lowering.advance.Goals as goal

pub returns-then-is_item : goal.returns-then-is_item
returns-then-is_item c =
    let l = lowering c.args.self.now in
    let f = c.in_ok-form.form in
    IsDone.item f c.in_ok-form.ensures (sym c.is_item.ensures ∙ c.if-is_item.true) (subst (λ (k : KnownParts). IsItem f c.args.number (with_names l k) (lowering c.advance_item.new.self)) c.set_place.ensures c.in_ok-advance_item.ensures)

pub returns : goal.returns
returns c =
    let l = lowering c.args.self.now in
    let f = c.in_ok-form.form in
    let between = lowering c.advance_operator.new.self in
    IsDone.whole f between c.in_ok-form.ensures (sym c.is_item.ensures ∙ c.if-is_item.false) (subst (λ (k : KnownParts). Operates f (with_names l k) between) c.set_place.ensures c.in_ok-advance_operator.ensures) c.in_ok-advance_whole.ensures
