use Rattle.std.proofs.Common.{Some, refl, ap, ◌∙◌}
use Rattle.std.proofs.lemmas.Option.{IfSome_then}
use Rattle.u_scope.specs.declared.checked.Meaning.{Meaning}
use Rattle.u_compile.specs.Operands.{procedure, alias}
use Rattle.u_compile.proofs.lowering.Lowering.constant_of.Goals as goal

pub returns-in_ok-name_of-in-Procedure-clause-some : goal.returns-in_ok-name_of-in-Procedure-clause-some
returns-in_ok-name_of-in-Procedure-clause-some c = procedure c.in-Procedure.field-0 c.in_ok-name_of-in-Procedure.field-0 (c.in_ok-meaning.ensures ∙ ap (λ (m : Meaning). Some m) c.in-Procedure.is) c.in_ok-name_of-in-Procedure.ensures refl

pub returns-in-Name-clause-some : goal.returns-in-Name-clause-some
returns-in-Name-clause-some c = IfSome_then c.constant_of.result c.constant_of.ensures.some (λ k h. alias c.in-Name.name (c.in_ok-meaning.ensures ∙ ap (λ (m : Meaning). Some m) c.in-Name.is) h)
