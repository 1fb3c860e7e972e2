use Rattle.std.proofs.Common.{◌∙◌, ap, arith, inl, inr, get_or, length, ◌-◌, ◌<◌, List, slice_set}
use Rattle.std.specs.List.{insert}
use Rattle.u_replica.specs.ReplicaState.{ReplicaState}
use Rattle.u_world.proofs.Pairs.{put_back, other_there, IsPlaceOf}
use Rattle.u_world.proofs.Places.{at_read}
use Rattle.u_world.proofs.happening.merge_at.Goals as goal
use Rattle.u_world.proofs.happening.merge_at.Goals.{then-to-from, else-to-from}

pub returns : goal.returns
returns c =
    let a = c.args in
    let rs = a.replicas.now.items in
    let before = c.remove-replica.result in
    let after = c.merge-merged.new.replica in
    let to : c.from.result - 1 < length rs = omega (arith, c.from.ensures, c.requires.number.0, c.requires.number.1) in
    let from : a.other - 1 < length rs = omega (arith, c.requires.other.0, c.requires.other.1) in
    let place : IsPlaceOf (c.from.result - 1) (a.other - 1) c.if-to-from.place = elim c.if-to-from.branch [ then-to-from w ↦ inl (omega (arith, w.if-to-from.true, c.from-2.ensures), w.place-is ∙ ap (λ i. i - 1 - 1) c.from-2.ensures) | else-to-from w ↦ inr ((λ l. omega (arith, l, w.if-to-from.false, c.from-2.ensures)), w.place-is ∙ ap (λ i. i - 1) c.from-2.ensures) ] in
    let put = c.put_back.ensures ∙ ap (λ (xs : List ReplicaState). insert xs (c.from.result - 1) after) c.remove-replica.ensures.items ∙ put_back rs (c.from.result - 1) after to in (
      c.index.result.now,
      (c.requires.other.0, other_there rs c.remove-replica.new.self.items (c.from.result - 1) (a.other - 1) c.if-to-from.place c.index.result.now to from (λ e. c.requires.apart (omega (arith, e, c.from.ensures, c.requires.number.0, c.requires.other.0))) c.remove-replica.ensures.items c.index.ensures place),
      record {
        before = before;
        after = after;
        at = at_read rs a.number before before c.requires.number (c.remove-replica.ensures.value ∙ ap (λ i. get_or rs (i - 1) before) c.from.ensures);
        how = c.merge-merged.ensures.answer;
        holds = c.merge-merged.ensures.holds;
        list = put ∙ ap (λ i. slice_set rs (i - 1) after) c.from.ensures;
      },
    )
