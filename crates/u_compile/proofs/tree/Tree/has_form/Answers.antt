use Rattle.std.proofs.Common.{inl, inr, subst}
use Rattle.std.proofs.lemmas.Bool.{false≢true}
use Rattle.u_source.specs.declared.form.Form.{Form}
use Rattle.u_compile.specs.Trees.{HasForm}
use Rattle.u_compile.proofs.TreeLaws.{form_one, no_form}
use Rattle.u_compile.proofs.tree.Tree.has_form.Goals as goal

pub returns-in-Ok : goal.returns-in-Ok
returns-in-Ok c =
    let t = c.args.self.now in
    let n = c.args.number in (
      λ e. elim (c.is_either.ensures.0 e) [
        | inl q ↦ subst (λ (f : Form). HasForm t n f) q c.in-Ok.ensures
        | inr q ↦ subst (λ (f : Form). HasForm t n f) q c.in-Ok.ensures
      ],
      λ h. c.is_either.ensures.1 (inl (form_one t n c.in-Ok.found c.args.form c.in-Ok.ensures h)),
    )

pub returns-in-Err : goal.returns-in-Err
returns-in-Err c = (λ e. absurd (false≢true e), λ h. absurd (no_form c.args.self.now c.args.number c.args.form c.in-Err.ensures h))
