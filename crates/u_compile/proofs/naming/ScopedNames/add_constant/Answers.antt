use Rattle.std.proofs.Common.{◌∙◌, ap, List}
use Rattle.u_compile.specs.declared.naming.ConstantBinding.{ConstantBinding}
use Rattle.u_compile.specs.Namings.{KnownParts, a_constant, with_constant, made, known}
use Rattle.u_compile.proofs.KnownLaws.{constant_given, learns_constant}
use Rattle.u_compile.proofs.naming.ScopedNames.add_constant.Goals as goal

pub returns-clause-constant : goal.returns-clause-constant
returns-clause-constant c = made (constant_given _ _ _ (known c.args.self.now) (known c.args.self.now) c.args.scope c.in_ok-clock.field-0 c.args.constant.now _ _ c.in_ok-clock.ensures c.in_ok-trigger.ensures.grows c.in_ok-trigger.ensures.named c.in_ok-value.ensures.gives)

pub returns-clause-learns : goal.returns-clause-learns
returns-clause-learns c =
    let is = constant_given _ _ _ (known c.args.self.now) (known c.args.self.now) c.args.scope c.in_ok-clock.field-0 c.args.constant.now _ _ c.in_ok-clock.ensures c.in_ok-trigger.ensures.grows c.in_ok-trigger.ensures.named c.in_ok-value.ensures.gives in
    let k = a_constant c.args.scope c.args.constant.now c.in_ok-value.value in
    let n = known c.note.new.self in
    let pushed = ap (λ (cs : List ConstantBinding). record n { constants = cs }) c.in_ok-push.ensures.items ∙ ap (λ (x : KnownParts). with_constant x k) c.in_ok-note.ensures in
    learns_constant _ _ _ _ _ c.args.scope c.args.constant.now _ _ c.in_ok-value.ensures.gives.adds.grows c.in_ok-trigger.ensures.adds is pushed
