use Rattle.std.proofs.Common.{◌≡◌, ◌+◌, ap, sym, ◌∙◌, subst, arith, true, false}
use Rattle.u_compile.specs.Graphs.{output, IsGraph}
use Rattle.u_compile.specs.Fanning.{FansOut, none, fanned, IsNoFullLast}
use Rattle.u_compile.proofs.Fans.{FewBefore, none_first, fans_more, few_more, all_few}
use Rattle.u_compile.proofs.graph.Graph.fan_out_all.Goals as goal

pub loop-number-init : goal.loop-number-init
loop-number-init c = record {
  few = none_first c.args.self.now c.len.ensures.graph;
  fans = none;
  from_one = omega arith;
  few_numbers = omega arith;
}

pub loop-number-preserved : goal.loop-number-preserved
loop-number-preserved c =
    let g = c.loop-number.self in
    let n = c.loop-number.number in
    let first : c.fan_out.new.self ≡ fanned (output n false) g = c.in_default.ensures.fanned in
    let then : c.fan_out-in-loop-number.new.self ≡ fanned (output n true) c.fan_out.new.self = c.in_default-fan_out.ensures.fanned in
    let both : c.fan_out-in-loop-number.new.self ≡ fanned (output n true) (fanned (output n false) g) = then ∙ ap (fanned (output n true)) first in
    let is = c.fan_out.ensures.graph in
    let is-2 : IsGraph (fanned (output n false) g) = subst IsGraph first c.fan_out-in-loop-number.ensures.graph in
    let few = c.len-in-loop-number.ensures.graph.few in
    record {
      few = subst (FewBefore (n + 1)) (sym both) (few_more g n is is-2 (omega arith) c.loop-number.invariant.few);
      fans = subst (FansOut c.args.self.now) (sym both) (fans_more c.args.self.now (fanned (output n false) g) (output n true) is-2 (subst (IsNoFullLast (output n true)) first c.in_default-fan_out.ensures.last) (fans_more c.args.self.now g (output n false) is c.in_default.ensures.last c.loop-number.invariant.fans));
      from_one = omega arith;
      few_numbers = omega (arith, few);
    }

pub returns : goal.returns
returns c = (c.loop-number.invariant.fans, all_few c.loop-number.self c.loop-number.number c.len-in-loop-number.ensures.graph (omega arith) c.loop-number.invariant.few)

pub returns-in-Err-fan_out : goal.returns-in-Err-fan_out
returns-in-Err-fan_out c =
    let first : c.fan_out.new.self ≡ fanned (output c.loop-number.number false) c.loop-number.self = c.in_default.ensures.fanned in
    let still : c.fan_out-in-loop-number.new.self ≡ c.fan_out.new.self = c.in-Err-fan_out.ensures.fanned in
    subst (FansOut c.args.self.now) (sym (still ∙ first)) (fans_more c.args.self.now c.loop-number.self (output c.loop-number.number false) c.fan_out.ensures.graph c.in_default.ensures.last c.loop-number.invariant.fans)
