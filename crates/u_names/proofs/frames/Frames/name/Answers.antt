use Rattle.std.proofs.Common.{◌≡◌, ◌<◌, List, Some, length, subst, sym, ap, ◌∙◌}
use Rattle.std.specs.Prelude.{slice_get}
use Rattle.u_name.specs.Context.{Tree}
use Rattle.u_name.specs.Name.{activity}
use Rattle.u_names.specs.Frames.{FrameParts, FrameKey, frame_key}
use Rattle.u_names.specs.Places.{place}
use Rattle.u_names.specs.NameLists.{name_at}
use Rattle.u_names.proofs.Mapped.{member_at, no_number_past}
use Rattle.u_names.proofs.KeyedFrames.{name_there}
use Rattle.u_names.proofs.frames.Frames.name.Goals as goal

pub unreachable-requires-in_default-get : goal.unreachable-requires-in_default-get
unreachable-requires-in_default-get c =
    let below : c.in-Some.frame.now.context < length c.self.inside.contexts =
    c.self.invariant.placed c.in-Some.frame.now (member_at c.self.inside.frames c.args.number c.in-Some.frame.now (sym c.in-Some.ensures)) in
    no_number_past c.self.inside.contexts c.frame.inside.context
    (subst (λ (k : FrameKey). k.context < length c.self.inside.contexts) (sym c.frame.view_is) below)
    (sym c.in_default-get.ensures)

pub returns : goal.returns
returns c =
    let k : FrameKey = frame_key c.frame.inside.context c.frame.inside.block in
    let there : slice_get c.self.inside.frames c.args.number ≡ Some k = sym c.in-Some.ensures ∙ ap (λ (l : FrameKey). Some l) (sym c.frame.view_is) in
    c.new-name.ensures
    ∙ ap (λ (t : Tree). activity t k.block c.args.statement c.args.initiation) c.in_ok-copy.ensures
    ∙ sym (name_there c.self.inside.contexts c.self.inside.frames c.args.number c.args.statement c.args.initiation k c.in-Some-get.context.now there (sym c.in-Some-get.ensures))
    ∙ ap (λ (fs : List FrameParts). name_at fs (place c.args.number c.args.statement c.args.initiation)) c.self.view_is
