use Rattle.std.proofs.Common.{ℕ, subst, eq-eqb}
use Rattle.std.proofs.lemmas.Bool.{eqb-true}
use Rattle.u_source.specs.declared.form.Form.TheVariants.{Loop, For}
use Rattle.u_compile.specs.Trees.{IsAround}
use Rattle.u_compile.proofs.TreeLaws.{around_one}
use Rattle.u_compile.proofs.tree.Tree.is_variable.Goals as goal

pub returns : goal.returns
returns c =
    let t = c.args.self.now in
    let outer = c.in_ok-outer.outer in (
      λ e. record {
        form = c.in_ok-form.form;
        has = c.in_ok-form.ensures;
        is = c.is_either.ensures.0 c.if-not-is_either.false;
        around = subst (λ (n : ℕ). IsAround t Loop For n c.args.name) (eqb-true outer c.args.whole e) c.in_ok-outer.ensures;
      },
      λ v. eq-eqb outer c.args.whole (around_one t Loop For outer c.args.whole c.args.name c.in_ok-outer.ensures v.around),
    )
