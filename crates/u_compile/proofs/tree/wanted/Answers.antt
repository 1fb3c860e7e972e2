use Rattle.std.proofs.Common.{◌-◌, Bool, List, [], ◌∷◌, ap, sym, subst, arith, length, length-append}
use Rattle.u_compile.specs.Forests.{IsWantedBy}
use Rattle.u_compile.proofs.ForestLaws.{AreWantedSo, wanted_none, wanted_one_more, all_wanted}
use Rattle.u_compile.proofs.tree.wanted.Goals as goal

pub loop-back-init : goal.loop-back-init
loop-back-init c = record {
  many = omega (arith, ap length c.new-wanted.ensures.items);
  so = subst (λ (ws : List Bool). AreWantedSo c.args.nodes.now c.args.parents.now ws) (sym c.new-wanted.ensures.items) (wanted_none c.args.nodes.now c.args.parents.now);
}

pub is_wanted_with-requires : goal.is_wanted_with-requires
is_wanted_with-requires c = omega (arith, c.loop-back.invariant.many)

pub loop-back-preserved : goal.loop-back-preserved
loop-back-preserved c =
    let ns = c.args.nodes.now in
    let n = length ns - 1 - c.loop-back.back in
    let many = c.loop-back.invariant.many in
    let is = subst (λ (ws : List Bool). IsWantedBy ns c.args.parents.now ws n c.in_ok-is_wanted.is_wanted) c.deref.ensures.value c.in_ok-is_wanted.ensures in
    record {
      many = omega (arith, many, ap length c.in_ok-push.ensures.items, length-append c.loop-back.wanted.items (c.in_ok-is_wanted.is_wanted ∷ []));
      so = wanted_one_more ns c.args.parents.now c.loop-back.wanted.items c.push.new.self.items n c.in_ok-is_wanted.is_wanted c.loop-back.invariant.so (omega (arith, c.loop-back-test.true)) (omega (arith, many, c.loop-back-test.true)) is c.in_ok-push.ensures.items;
    }

pub returns : goal.returns
returns c = all_wanted c.args.nodes.now c.args.parents.now c.loop-back.wanted.items c.loop-back.invariant.so (omega (arith, c.loop-back.invariant.many))
