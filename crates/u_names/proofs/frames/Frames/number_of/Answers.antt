use Rattle.std.proofs.Common.{◌≡◌, List, Some, subst, sym, ap, ◌∙◌}
use Rattle.std.specs.Prelude.{slice_get}
use Rattle.u_base.specs.Firing.{Distinct}
use Rattle.u_name.specs.Context.{Tree}
use Rattle.u_sets.specs.Members.{GoesLast}
use Rattle.u_names.specs.Frames.{FrameParts, FrameKey, frame_key, frame_of, frames_at, AreFrames}
use Rattle.u_names.proofs.Mapped.{on_err}
use Rattle.u_names.proofs.KeyedFrames.{frames_distinct, frames_still, still_frames, more_frames, frame_last, frame_number}
use Rattle.u_names.proofs.frames.Frames.number_of.Goals as goal

pub returns-in-Some-clause-distinct : goal.returns-in-Some-clause-distinct
returns-in-Some-clause-distinct c = subst (λ (fs : List FrameParts). Distinct fs) c.self.view_is (frames_distinct c.self.inside.contexts c.self.inside.frames c.self.invariant)

pub invariant_of-self : goal.invariant_of-self
invariant_of-self c = still_frames c.self.inside.contexts c.number_of.new.self c.self.inside.frames c.self.invariant c.in_err-context.ensures.grows c.in_err-context.ensures.distinct

pub returns-in_err-context-clause-err : goal.returns-in_err-context-clause-err
returns-in_err-context-clause-err c =
    on_err c.from_residual.result (frames_at c.number_of.new.self c.self.inside.frames ≡ c.args.self.now)
    (frames_still c.self.inside.contexts c.number_of.new.self c.self.inside.frames c.self.invariant c.in_err-context.ensures.grows c.in_err-context.ensures.distinct ∙ c.self.view_is)

pub returns-in_err-context-clause-distinct : goal.returns-in_err-context-clause-distinct
returns-in_err-context-clause-distinct c = frames_distinct c.number_of.new.self c.self.inside.frames (invariant_of-self c)

pub invariant_of-self-in_err-number : goal.invariant_of-self-in_err-number
invariant_of-self-in_err-number c =
    subst (λ (ks : List FrameKey). AreFrames c.number_of.new.self ks) (sym c.in_err-number.ensures.err)
    (still_frames c.self.inside.contexts c.number_of.new.self c.self.inside.frames c.self.invariant c.in_ok-context.ensures.grows c.in_ok-context.ensures.distinct)

pub returns-in_err-number-clause-err : goal.returns-in_err-number-clause-err
returns-in_err-number-clause-err c =
    on_err c.from_residual-in_err-number.result (frames_at c.number_of.new.self c.insert.new.self ≡ c.args.self.now)
    (ap (λ (ks : List FrameKey). frames_at c.number_of.new.self ks) c.in_err-number.ensures.err
    ∙ frames_still c.self.inside.contexts c.number_of.new.self c.self.inside.frames c.self.invariant c.in_ok-context.ensures.grows c.in_ok-context.ensures.distinct
    ∙ c.self.view_is)

pub returns-in_err-number-clause-distinct : goal.returns-in_err-number-clause-distinct
returns-in_err-number-clause-distinct c = frames_distinct c.number_of.new.self c.insert.new.self (invariant_of-self-in_err-number c)

pub invariant_of-self-2 : goal.invariant_of-self-2
invariant_of-self-2 c =
    let at : slice_get c.number_of.new.self c.in_ok-context.context ≡ Some c.args.name.now.context = c.in_ok-context.ensures.number ∙ ap (λ (t : Tree). Some t) c.context.ensures in
    let last : GoesLast c.self.inside.frames (frame_key c.in_ok-context.context c.args.name.now.block) c.insert.new.self =
    subst (λ (k : FrameKey). GoesLast c.self.inside.frames k c.insert.new.self) c.of.ensures c.in_ok-number.ensures.ok in
    more_frames c.self.inside.contexts c.number_of.new.self c.self.inside.frames c.self.invariant c.in_ok-context.ensures.grows c.in_ok-context.ensures.distinct c.insert.new.self c.in_ok-context.context c.args.name.now at last c.in_ok-number.ensures.distinct

pub returns-clause-number : goal.returns-clause-number
returns-clause-number c =
    let at : slice_get c.number_of.new.self c.in_ok-context.context ≡ Some c.args.name.now.context = c.in_ok-context.ensures.number ∙ ap (λ (t : Tree). Some t) c.context.ensures in
    frame_number c.number_of.new.self c.insert.new.self c.in_ok-context.context c.in_ok-number.number c.args.name.now at
    (c.in_ok-number.ensures.place ∙ ap (λ (k : FrameKey). Some k) c.of.ensures)

pub returns-clause-ok : goal.returns-clause-ok
returns-clause-ok c =
    let at : slice_get c.number_of.new.self c.in_ok-context.context ≡ Some c.args.name.now.context = c.in_ok-context.ensures.number ∙ ap (λ (t : Tree). Some t) c.context.ensures in
    let last : GoesLast c.self.inside.frames (frame_key c.in_ok-context.context c.args.name.now.block) c.insert.new.self =
    subst (λ (k : FrameKey). GoesLast c.self.inside.frames k c.insert.new.self) c.of.ensures c.in_ok-number.ensures.ok in
    subst (λ (fs : List FrameParts). GoesLast fs (frame_of c.args.name.now) (frames_at c.number_of.new.self c.insert.new.self)) c.self.view_is
    (frame_last c.self.inside.contexts c.number_of.new.self c.self.inside.frames c.self.invariant c.in_ok-context.ensures.grows c.in_ok-context.ensures.distinct c.insert.new.self c.in_ok-context.context c.args.name.now at last)

pub returns-clause-distinct : goal.returns-clause-distinct
returns-clause-distinct c = frames_distinct c.number_of.new.self c.insert.new.self (invariant_of-self-2 c)
