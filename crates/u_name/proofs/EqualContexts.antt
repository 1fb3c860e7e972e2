-- Contexts whose digests differ are not equal.
use Rattle.std.specs.Prelude.{◌≡◌, Bool, true, false, refl}
use Rattle.std.proofs.Common.{ap}
use Rattle.std.specs.Ordering.{eq_by_cmp}
use Rattle.u_name.specs.Context.{Tree}
use Rattle.u_name.specs.ContextOrder.{context_cmp}
use Rattle.u_name.specs.ContextHash.{same_context}
use Rattle.u_name.specs.Digest.{digest}

pub other_digest : (x y : Tree) → (digest x ≡ digest y → ⊥) → false ≡ eq_by_cmp context_cmp x y
other_digest x y h = decide (eq_by_cmp context_cmp x y) refl
  where
    decide : (r : Bool) → eq_by_cmp context_cmp x y ≡ r → false ≡ r
    decide true e = absurd (h (ap digest (same_context x y e)))
    decide false e = refl
