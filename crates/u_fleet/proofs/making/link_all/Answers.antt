use Rattle.std.proofs.Common.{refl, ◌∙◌, length, sym, subst, ◌<◌}
use Rattle.std.proofs.Math.Seq.{map-set_same}
use Rattle.std.proofs.lemmas.List.Elements.{AllWithin-more_set}
use Rattle.u_fleet.specs.Fleets.{self_of, IsLinked}
use Rattle.u_fleet.proofs.Pairs.{length_kept}
use Rattle.u_fleet.proofs.making.link_all.Goals as goal

pub loop-own-preserved : goal.loop-own-preserved
loop-own-preserved g c =
    let inv = c.loop-own.invariant in
    let long = length_kept self_of _ _ inv.0 in (
      map-set_same self_of c.loop-own.pairs c.loop-own.own _ c.index-pairs-own.result refl ∙ inv.0,
      AllWithin-more_set c.loop-own.pairs c.loop-own.own _ (subst (λ n. c.loop-own.own < n) (sym long) c.loop-own-test.true) (IsLinked (length c.args.pairs.now)) inv.1 (c.in_ok-inlets.ensures ∙ long, c.in_ok-places.ensures ∙ c.len.ensures),
    )
