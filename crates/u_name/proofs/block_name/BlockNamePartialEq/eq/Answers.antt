use Rattle.std.specs.Prelude.{◌≡◌, ◌==◌, List, ℕ}
use Rattle.std.proofs.Common.{subst}
use lib.Pointwise.{pointwise}
use Rattle.u_name.specs.Block.{name_of}
use Rattle.u_name.proofs.EqualBlocks.{by_bytes}
use Rattle.u_name.proofs.block_name.BlockNamePartialEq.eq.Goals as goal

pub returns : goal.returns
returns c =
    let h = by_bytes c.self.inside c.other.inside c.self.invariant c.other.invariant c.if-self-other.false c.same_bytes.result c.same_bytes.ensures in
    subst (λ (x : List ℕ). c.same_bytes.result ≡ pointwise ◌==◌ x c.args.other.now) c.self.view_is
    (subst (λ (y : List ℕ). c.same_bytes.result ≡ pointwise ◌==◌ (name_of c.self.inside) y) c.other.view_is h)
