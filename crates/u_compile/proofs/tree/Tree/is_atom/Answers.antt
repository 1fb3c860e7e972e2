use Rattle.std.proofs.Common.{sym, ap, ◌∙◌}
use Rattle.std.proofs.lemmas.Bool.{false≢true}
use Rattle.u_compile.specs.Trees.{is_atom}
use Rattle.u_compile.proofs.TreeLaws.{form_one, no_form}
use Rattle.u_compile.proofs.tree.Tree.is_atom.Goals as goal

pub returns-in-Ok : goal.returns-in-Ok
returns-in-Ok c = (
  λ e. (c.in-Ok.form, c.in-Ok.ensures, sym c.is_atom.ensures ∙ e),
  λ h. c.is_atom.ensures ∙ (ap is_atom (form_one c.args.self.now c.args.number c.in-Ok.form h.0 c.in-Ok.ensures h.1) ∙ h.2),
)

pub returns-in-Err : goal.returns-in-Err
returns-in-Err c = (λ e. absurd (false≢true e), λ h. absurd (no_form c.args.self.now c.args.number h.0 c.in-Err.ensures h.1))
