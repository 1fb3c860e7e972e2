use Rattle.std.proofs.Common.{◌≡◌, ℕ, ◌+◌, List, [], ◌∷◌, ◌++◌, length, ap, ◌∙◌, subst}
use Rattle.std.proofs.lemmas.Result.{IfOk-weaker}
use Rattle.u_program.specs.declared.program.Kind.TheVariants.{Apply}
use Rattle.u_compile.specs.Drawings.{Adds}
use Rattle.u_compile.proofs.drawing.Drawing.add_call.Goals as goal

pub returns : goal.returns
returns c =
    let d = c.args.self.now in
    let e = c.add.new.self in
    let ins : c.deref.result.now ≡ c.args.procedure ∷ c.args.arguments.now =
    c.deref.ensures.value ∙ (c.in_ok-extend_from_slice.ensures.items ∙ ap (λ (l : List ℕ). l ++ c.args.arguments.now) (c.in_ok-push.ensures.items ∙ ap (λ (l : List ℕ). l ++ (c.args.procedure ∷ [])) c.new-inputs.ensures.items)) in
    let at : c.in_ok-back.back ≡ length d.statements + 2 = c.in_ok-back.ensures ∙ ap (λ (n : ℕ). n + 2) c.len.ensures in
    let added : Adds d e (Apply c.in_ok-back.back c.in_ok-count.count) c.deref.result.now = c.in_ok-add.ensures.adds in
    let apply : Adds d e (Apply (length d.statements + 2) c.in_ok-count.count) (c.args.procedure ∷ c.args.arguments.now) =
    subst (λ (l : List ℕ). Adds d e (Apply (length d.statements + 2) c.in_ok-count.count) l) ins (subst (λ (n : ℕ). Adds d e (Apply n c.in_ok-count.count) c.deref.result.now) at added) in
    IfOk-weaker c.add_back.result _ _ (λ v h. record { count = c.in_ok-count.count; between = e; apply = apply; back = h }) c.add_back.ensures
