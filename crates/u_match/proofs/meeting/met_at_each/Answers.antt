use Rattle.std.proofs.Common.{◌≡◌, ◌∙◌, ◌+◌, sym, ap, subst, arith, ℕ, List, length}
use Rattle.std.specs.Prelude.{Contains}
use Rattle.u_rule.specs.Parts.{ValueList}
use Rattle.u_sets.specs.Members.{AreThose}
use Rattle.u_match.specs.Keys.{IsMet, AreMetFrom, lent_lists}
use Rattle.u_match.proofs.Choices.{met_more, lent_all, lent_count, length_more}
use Rattle.u_match.proofs.meeting.met_at_each.Goals as goal

pub loop-place-preserved : goal.loop-place-preserved
loop-place-preserved c =
    let more = length_more c.loop-place.lists.items c.met_at.result in
    let count = lent_count c.loop-place.lists.items in
    let so_far = c.loop-place.invariant.0 in
    let pushed = c.in_ok-push.ensures.items in
    let its_length = ap length pushed in
    let port : c.loop-place.place + 1 ≡ 1 + length (lent_lists c.loop-place.lists.items) = omega (arith, count, so_far) in (
      omega (arith, its_length, more, so_far),
      subst (λ (ls : List ValueList). AreMetFrom (Contains c.args.history.now.entries) c.args.token.now 1 ls) (sym (ap lent_lists pushed ∙ lent_all c.loop-place.lists.items c.met_at.result))
          (met_more (Contains c.args.history.now.entries) c.args.token.now 1 (lent_lists c.loop-place.lists.items) c.met_at.result.now c.loop-place.invariant.1
          (subst (λ (n : ℕ). AreThose (IsMet (Contains c.args.history.now.entries) c.args.token.now n) c.met_at.result.now) port
          c.met_at.ensures)),
    )
