-- Definitions that are made step by step.
use Rattle.std.proofs.Common.{◌≡◌, ℕ, sym, ◌∙◌, subst, Bool, true, false}
use Rattle.u_compile.specs.declared.lowering.Operand.{Operand}
use Rattle.u_compile.specs.Namings.{a_binding, with_binding}
use Rattle.u_compile.specs.Operands.{LoweringParts, GoesOn, HasNoConstant, IsOperand, IsPopped}
use Rattle.u_compile.specs.Definitions.{PopsName, DefinesConstant, yes, no, Defines, constant, value, with_names}

pub defines_constant : (l taken named m : LoweringParts) (node : ℕ) (o : Operand) (b : Bool) → IsPopped l taken o → PopsName taken named → DefinesConstant named m node o b → b ≡ true → Defines l m node
defines_constant l taken named m node o b popped name (yes atom k on is written aliased) e = constant taken named atom k (subst (λ (p : Operand). IsPopped l taken p) is popped) name written aliased
defines_constant l taken named m node o b popped name (no off same none) e = absurd (differ (sym e ∙ off))
  where
    differ : true ≡ false → ⊥
    differ f = cc

kept : (named same : LoweringParts) (node : ℕ) (o : Operand) (b : Bool) → DefinesConstant named same node o b → b ≡ false → same ≡ named
kept named same node o b (yes atom k on is written aliased) e = absurd (differ (sym on ∙ e))
  where
    differ : true ≡ false → ⊥
    differ f = cc
kept named same node o b (no off is none) e = is

none_kept : (named same : LoweringParts) (node : ℕ) (o : Operand) (b : Bool) → DefinesConstant named same node o b → b ≡ false → HasNoConstant named.scene o
none_kept named same node o b (yes atom k on is written aliased) e = absurd (differ (sym on ∙ e))
  where
    differ : true ≡ false → ⊥
    differ f = cc
none_kept named same node o b (no off is none) e = none

pub defines_value : (l taken named same resolved m : LoweringParts) (node : ℕ) (o : Operand) (v : ℕ) (b : Bool) → IsPopped l taken o → PopsName taken named → DefinesConstant named same node o b → b ≡ false → GoesOn same resolved → IsOperand same.scene resolved.drawing o v → m ≡ with_names resolved (with_binding resolved.scene.names (a_binding resolved.scene.scope node v)) → Defines l m node
defines_value l taken named same resolved m node o v b popped name tried e goes is bound =
    let was = kept named same node o b tried e in
    value taken named resolved o v popped name (none_kept named same node o b tried e) (subst (λ (x : LoweringParts). GoesOn x resolved) was goes) (subst (λ (x : LoweringParts). IsOperand x.scene resolved.drawing o v) was is) bound
