use Rattle.std.proofs.Common.{◌∙◌, List, subst}
use Rattle.u_source.specs.declared.form.Node.{Node}
use Rattle.u_compile.specs.Forests.{AreParents, AreWanted}
use Rattle.u_compile.proofs.UseLaws.{made_of}
use Rattle.u_compile.proofs.compiling.program_of.Goals as goal

pub returns-in-Ok-lower-clause-made : goal.returns-in-Ok-lower-clause-made
returns-in-Ok-lower-clause-made c =
    let is = c.in-Ok.ensures in
    made_of c.args.source.now c.args.checked.now c.in-Ok.tree _ (record { tokens = is.tokens ∙ c.tokens.ensures; nodes = is.nodes ∙ c.nodes.ensures.value; meanings = is.meanings ∙ c.meanings.ensures; parents = subst (λ (ns : List Node). AreParents ns c.in-Ok.tree.parents.items) c.nodes.ensures.value is.parents; wanted = subst (λ (ns : List Node). AreWanted ns c.in-Ok.tree.parents.items c.in-Ok.tree.wanted.items) c.nodes.ensures.value is.wanted }) c.in-Ok-lower.ensures.lowered
