use Rattle.std.proofs.Common.{◌≡◌, ℕ, List, false, Some, subst, sym, ap, ◌∙◌}
use Rattle.std.specs.Prelude.{slice_get, not, ◌==◌, IsTrue}
use Rattle.std.specs.Ordering.{eq_by_cmp}
use lib.Pointwise.{pointwise}
use Rattle.u_name.specs.Context.{Tree}
use Rattle.u_name.specs.ContextOrder.{context_cmp}
use Rattle.u_names.specs.Frames.{FrameParts, FrameKey, frame_key, frame_of}
use Rattle.u_names.proofs.KeyedFrames.{last_number}
use Rattle.u_names.proofs.frames.Frames.last_of.Goals as goal

pub returns-then-eq : goal.returns-then-eq
returns-then-eq c =
    let k : FrameKey = frame_key c.frame.inside.context c.frame.inside.block in
    let t : Tree = c.in_ok-context.context.now in
    let block : false ≡ not (pointwise ◌==◌ k.block c.args.name.now.block) = subst (λ (b : List ℕ). false ≡ not (pointwise ◌==◌ k.block b)) c.block.ensures c.if-ne.ensures in
    let context : IsTrue (eq_by_cmp context_cmp t c.args.name.now.context) = subst (λ (u : Tree). IsTrue (eq_by_cmp context_cmp t u)) c.context.ensures (sym c.if-eq.ensures) in
    subst (λ (fs : List FrameParts). slice_get fs c.self.inside.last ≡ Some (frame_of c.args.name.now)) c.self.view_is
    (last_number c.self.inside.contexts c.self.inside.frames c.self.inside.last k t c.args.name.now (sym c.in_ok-frame.ensures ∙ ap (λ (l : FrameKey). Some l) (sym c.frame.view_is)) (sym c.in_ok-context.ensures) block context)
