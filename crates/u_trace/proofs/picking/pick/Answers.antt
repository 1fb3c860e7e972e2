use Rattle.std.proofs.Common.{◌≡◌, ◌+◌, ◌∙◌, List, Some, sym, subst}
use Rattle.std.specs.Prelude.{slice_get}
use Rattle.std.proofs.lemmas.Bool.{false≢true}
use Rattle.u_rule.specs.declared.firing.Firing.{Firing}
use Rattle.u_machine.proofs.Lists.{slice_get_at}
use Rattle.u_trace.specs.Stories.{AreThoseAt, Below}
use Rattle.u_trace.specs.Marks.{IsMarked}
use Rattle.u_trace.proofs.PickLaws.{picked_more, picked_still}
use Rattle.u_trace.proofs.picking.pick.Goals as goal

pub returns-then-not-is_marked : goal.returns-then-not-is_marked
returns-then-not-is_marked c = picked_still c.args.log.now (IsMarked c.args.marks.now) c.args.place c.args.found.now.items c.requires.before (λ p. false≢true (sym c.if-not-is_marked.true ∙ c.is_marked.ensures.1 p))

pub returns : goal.returns
returns c =
    let at = slice_get_at c.args.log.now c.args.place c.index-log-place.result c.requires.place c.index-log-place.is in
    subst (λ (fs : List Firing). AreThoseAt c.args.log.now (Below (c.args.place + 1) (IsMarked c.args.marks.now)) fs) (sym c.in_ok-push.ensures.items)
    (picked_more c.args.log.now (IsMarked c.args.marks.now) c.args.place c.args.found.now.items c.requires.before c.in_ok-copy.copy (subst (λ (f : Firing). slice_get c.args.log.now c.args.place ≡ Some f) (sym c.in_ok-copy.ensures) at) (c.is_marked.ensures.0 c.if-not-is_marked.false))
