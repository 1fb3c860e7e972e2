use Rattle.std.proofs.Common.{◌≡◌, List, ◌++◌, Some, ap, ◌∙◌, subst}
use Rattle.std.specs.Prelude.{slice_get}
use Rattle.std.proofs.lemmas.Result.{IfOk-weaker}
use Rattle.u_compile.specs.declared.graph.Output.{Output}
use Rattle.u_compile.specs.Drawings.{DrawingParts}
use Rattle.u_compile.proofs.DrawingLaws.{merged}
use Rattle.u_compile.proofs.drawing.Drawing.merge.Goals as goal

pub returns : goal.returns
returns c =
    let d = c.args.self.now in
    let there = ap (λ (e : DrawingParts). e.values) c.self.view_is in
    let ones = c.in_ok-outputs_of.field-0.now in
    let others = c.in_ok-outputs_of-2.field-0.now in
    let left : slice_get d.values c.args.left ≡ Some ones = subst (λ (vs : List (List Output)). slice_get vs c.args.left ≡ Some ones) (c.deref.ensures.value ∙ there) c.in_ok-outputs_of.ensures in
    let right : slice_get d.values c.args.right ≡ Some others = subst (λ (vs : List (List Output)). slice_get vs c.args.right ≡ Some others) (c.deref-2.ensures.value ∙ there) c.in_ok-outputs_of-2.ensures in
    let both : c.extend_from_slice-2.new.self.items ≡ ones ++ others = c.in_ok-extend_from_slice-2.ensures.items ∙ ap (λ (os : List Output). os ++ others) (c.in_ok-extend_from_slice.ensures.items ∙ ap (λ (os : List Output). os ++ ones) c.new-outputs.ensures.items) in
    IfOk-weaker c.add_outputs.result _ _ (λ v h. merged d c.add_outputs.new.self c.args.left c.args.right v ones others c.extend_from_slice-2.new.self.items left right both h.0 h.1) c.add_outputs.ensures
