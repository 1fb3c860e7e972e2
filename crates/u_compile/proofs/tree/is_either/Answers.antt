use denote.Enum.Bare.{same_true}
use Rattle.std.proofs.Common.{rules, inl, sym}
use Rattle.u_source.specs.contracts.form.Form.{the_type}
use Rattle.u_compile.proofs.tree.is_either.Goals as goal

pub returns-then-eq : goal.returns-then-eq
returns-then-eq c = (λ e. inl (same_true the_type (search rules) _ _ (sym c.if-eq.ensures)), λ h. c.if-eq.true)
