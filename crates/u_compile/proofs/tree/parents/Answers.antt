use Rattle.std.proofs.Common.{◌≡◌, ℕ, List, [], ◌∷◌, ap, sym, subst, arith, length, length-append}
use Rattle.u_compile.specs.Forests.{Adopts}
use Rattle.u_compile.proofs.ForestLaws.{AreFound, found_none, found_more, parents_found}
use Rattle.u_compile.proofs.tree.parents.Goals as goal

pub loop-number-init : goal.loop-number-init
loop-number-init c = record {
  many = omega (arith, ap length c.new-parents.ensures.items);
  found = subst (λ (ps : List ℕ). AreFound c.args.nodes.now ps c.new-roots.result.items) (sym c.new-parents.ensures.items) (subst (λ (rs : List ℕ). AreFound c.args.nodes.now [] rs) (sym c.new-roots.ensures.items) (found_none c.args.nodes.now));
}

pub loop-number-preserved : goal.loop-number-preserved
loop-number-preserved c =
    let a = subst (λ (k : ℕ). Adopts c.loop-number.number k c.loop-number.parents.items c.loop-number.roots.items c.adopt.new.parents.items c.adopt.new.roots.items) c.children.ensures c.in_ok-adopt.ensures in
    let long : c.loop-number.number ≡ length c.loop-number.parents.items = sym c.loop-number.invariant.many in
    record {
      many = omega (arith, ap length c.in_ok-push.ensures.items, length-append c.adopt.new.parents.items (c.loop-number.number ∷ []), a.same, long);
      found = found_more c.args.nodes.now c.in_ok-node.node c.loop-number.number c.loop-number.parents.items c.loop-number.roots.items c.adopt.new.parents.items c.adopt.new.roots.items c.push.new.self.items c.push-in-loop-number.new.self.items c.loop-number.invariant.found long c.in_ok-node.ensures a c.in_ok-push.ensures.items c.in_ok-push-2.ensures.items;
    }

pub returns : goal.returns
returns c = parents_found c.args.nodes.now c.loop-number.parents.items c.loop-number.roots.items c.loop-number.invariant.found (omega arith)
