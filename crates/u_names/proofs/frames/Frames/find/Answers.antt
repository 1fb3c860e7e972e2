use Rattle.std.proofs.Common.{◌≡◌, ℕ, List, Some, Contains, subst, ap, ◌∙◌}
use Rattle.std.specs.Prelude.{slice_get}
use Rattle.u_name.specs.Context.{Tree}
use Rattle.u_names.specs.Frames.{FrameParts, FrameKey, frame_of}
use Rattle.u_names.proofs.Mapped.{if_some, if_none, if_none_from}
use Rattle.u_names.proofs.KeyedFrames.{no_context_of, no_key, frame_number}
use Rattle.u_names.proofs.frames.Frames.find.Goals as goal

pub returns-in_err-context-clause-none : goal.returns-in_err-context-clause-none
returns-in_err-context-clause-none c =
    if_none c.from_residual.result (Contains c.args.self.now (frame_of c.args.name.now) → ⊥)
    (subst (λ (fs : List FrameParts). Contains fs (frame_of c.args.name.now) → ⊥) c.self.view_is
    (no_context_of c.self.inside.contexts c.self.inside.frames c.self.invariant c.args.name.now (subst (λ (t : Tree). Contains c.self.inside.contexts t → ⊥) c.context.ensures c.in_err-context.ensures.none)))

pub returns-clause-number : goal.returns-clause-number
returns-clause-number c =
    let at : slice_get c.self.inside.contexts c.in_ok-context.context ≡ Some c.args.name.now.context = c.in_ok-context.ensures.number ∙ ap (λ (t : Tree). Some t) c.context.ensures in
    if_some c.place_of.result (λ (i : ℕ). slice_get c.self.inside.frames i ≡ Some c.of.result) (λ (i : ℕ). slice_get c.args.self.now i ≡ Some (frame_of c.args.name.now))
    (λ i e. subst (λ (fs : List FrameParts). slice_get fs i ≡ Some (frame_of c.args.name.now)) c.self.view_is
    (frame_number c.self.inside.contexts c.self.inside.frames c.in_ok-context.context i c.args.name.now at (e ∙ ap (λ (k : FrameKey). Some k) c.of.ensures)))
    c.place_of.ensures.place

pub returns-clause-none : goal.returns-clause-none
returns-clause-none c =
    let at : slice_get c.self.inside.contexts c.in_ok-context.context ≡ Some c.args.name.now.context = c.in_ok-context.ensures.number ∙ ap (λ (t : Tree). Some t) c.context.ensures in
    if_none_from c.place_of.result (Contains c.self.inside.frames c.of.result → ⊥) (Contains c.args.self.now (frame_of c.args.name.now) → ⊥)
    (λ none. subst (λ (fs : List FrameParts). Contains fs (frame_of c.args.name.now) → ⊥) c.self.view_is
    (no_key c.self.inside.contexts c.self.inside.frames c.self.invariant c.in_ok-context.context c.args.name.now at
    (subst (λ (k : FrameKey). Contains c.self.inside.frames k → ⊥) c.of.ensures none)))
    c.place_of.ensures.none
