use Rattle.u_compile.proofs.DrawingLaws.{grows_self, grows_then}
use Rattle.u_compile.proofs.ComesLaws.{adds_none, adds_then, named_first, named_then}
use Rattle.u_compile.proofs.naming.ScopedNames.value_of.Goals as goal

pub inwards-init : goal.inwards-init
inwards-init c =
    let is = rw c.deref.ensures.value at c.in_ok-at.ensures.bound in
    record {
      grows = grows_self c.args.drawing.now;
      named = named_first _ _ _ _ _ is;
      adds = adds_none _ _ _;
    }

pub inwards-preserved : goal.inwards-preserved
inwards-preserved c =
    let brings = c.in_ok-value.ensures.brings in
    let now = named_then _ _ _ _ _ _ _ _ c.inwards.invariant.named c.in_ok-at-2.ensures brings in
    record {
      grows = grows_then _ _ _ c.inwards.invariant.grows brings.grows;
      named = now;
      adds = adds_then _ _ _ _ _ _ _ _ c.inwards.invariant.adds brings.grows now c.in_ok-value.ensures.bound;
    }
