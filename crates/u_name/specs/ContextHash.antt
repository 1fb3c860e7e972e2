-- What a context feeds to a hasher.
-- The laws stand here because the impl of Hash for Context cites them.
use Rattle.std.specs.Prelude.{true, IsTrue, ◌≡◌}
use Rattle.std.proofs.Common.{ap}
use Rattle.std.specs.Hash.{HashWrites}
use Rattle.std.specs.Ordering.{eq_by_cmp}
use Rattle.std.specs.Cmp.{Equal-is}
use Rattle.std.specs.Hash as fed
use Rattle.u_name.specs.Context.{Tree}
use Rattle.u_name.specs.Digest.{digest}
use Rattle.u_name.specs.ContextOrder.{context_cmp}
use Rattle.u_name.specs.ContextLaws.{context_cmp_ties}

abbrev pub context_hash : Tree → HashWrites
context_hash t = fed.u64 (digest t)

pub same_context : (x y : Tree) → eq_by_cmp context_cmp x y ≡ true → x ≡ y
same_context x y h = context_cmp_ties x y ((Equal-is (context_cmp x y)).0 h)

pub hashes_alike : (x y : Tree) → IsTrue (eq_by_cmp context_cmp x y) → context_hash x ≡ context_hash y
hashes_alike x y h = ap context_hash (same_context x y h)
