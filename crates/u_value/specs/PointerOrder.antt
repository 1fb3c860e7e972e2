-- The order of references, by name and then by length, and what a reference feeds to a hasher.
-- The laws stand here because the impls of Eq, Ord and Hash for Reference cite them.
use Rattle.std.specs.Prelude.{◌≡◌, true, ◌++◌, IsTrue}
use Rattle.std.proofs.Common.{ap, ◌∙◌}
use Rattle.std.specs.Hash.{HashWrites}
use Rattle.std.specs.Hash as fed
use Rattle.std.specs.Ordering.{ordering_then, nat_cmp, eq_by_cmp}
use Rattle.std.specs.declared.cmp.Ordering.{Ordering}
use Rattle.std.specs.declared.cmp.Ordering.TheVariants.{Equal}
use Rattle.std.specs.Cmp.{IsTotalOrder, Equal-is}
use Rattle.std.specs.FinMap.{nat_cmp-IsAntisymmetric}
use Rattle.std.proofs.lemmas.Cmp.{nat_cmp_total, on_total, then_total}
use Rattle.u_name.specs.ContextLaws.{both}
use Rattle.u_name.specs.NameOrder.{name_cmp, name_cmp_total, name_cmp_ties, name_hash}
use Rattle.u_value.specs.Pointer.{Pointer, pointer}

-- by name, and then by length
abbrev pub pointer_cmp : Pointer → Pointer → Ordering
pointer_cmp p q = ordering_then (name_cmp p.name q.name) (nat_cmp p.length q.length)

pub pointer_cmp_total : IsTotalOrder pointer_cmp
pointer_cmp_total = then_total (on_total (λ (p : Pointer). p.name) name_cmp_total) (on_total (λ (p : Pointer). p.length) nat_cmp_total)

-- references that tie are the same
pub pointer_cmp_ties : (p q : Pointer) → pointer_cmp p q ≡ Equal → p ≡ q
pointer_cmp_ties p q h =
    let u = both _ _ h in
    ap (λ n. pointer n p.length) (name_cmp_ties p.name q.name u.0)
    ∙ ap (λ l. pointer q.name l) (nat_cmp-IsAntisymmetric p.length q.length u.1)

-- equal references are the same
pub same_pointer : (p q : Pointer) → eq_by_cmp pointer_cmp p q ≡ true → p ≡ q
same_pointer p q h = pointer_cmp_ties p q ((Equal-is (pointer_cmp p q)).0 h)

abbrev pub pointer_hash : Pointer → HashWrites
pointer_hash p = name_hash p.name ++ fed.u32 p.length

pub pointers_hash_alike : (p q : Pointer) → IsTrue (eq_by_cmp pointer_cmp p q) → pointer_hash p ≡ pointer_hash q
pointers_hash_alike p q h = ap pointer_hash (same_pointer p q h)
