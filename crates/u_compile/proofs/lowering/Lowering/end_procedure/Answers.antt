use Rattle.std.proofs.Common.{ap, subst}
use Rattle.u_source.specs.declared.token.Word.TheVariants as words
use Rattle.u_compile.specs.declared.tree.Tree.{Tree}
use Rattle.u_compile.specs.Trees.{IsAtWord}
use Rattle.u_compile.specs.Operands.{LoweringParts, lowering}
use Rattle.u_compile.proofs.lowering.Lowering.end_procedure.Goals as goal

pub returns : goal.returns
returns c =
    let is = c.in_ok-name.ensures in
    record {
      taken = lowering c.pop_value.new.self;
      value = c.in_ok-value.value;
      pops = c.in_ok-value.ensures;
      named = lowering c.pop_name.new.self;
      node = is.0;
      name_taken = is.1;
      name = c.in_ok-name.name;
      is = subst (λ (t : Tree). IsAtWord t is.0 (words.Name c.in_ok-name.name)) (ap (λ (x : LoweringParts). x.scene.tree) c.in_ok-value.ensures.goes_on.rest) is.2;
      finishes = c.in_ok-finish.ensures;
    }
