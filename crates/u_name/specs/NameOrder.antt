-- The order of names, by context, block, statement and initiation, and what a name feeds to a hasher.
-- The laws stand here because the impls of Eq, Ord and Hash for Name cite them.
use Rattle.std.specs.Prelude.{◌≡◌, true, ◌+◌, ◌*◌, ◌%◌, ◌^◌, ◌++◌, IsTrue}
use Rattle.std.proofs.Common.{ap, ◌∙◌}
use Rattle.std.specs.Hash.{HashWrites}
use Rattle.std.specs.Ordering.{ordering_then, nat_cmp, eq_by_cmp}
use Rattle.std.specs.declared.cmp.Ordering.{Ordering}
use Rattle.std.specs.declared.cmp.Ordering.TheVariants.{Equal}
use Rattle.std.specs.Cmp.{IsTotalOrder, Equal-is}
use Rattle.std.specs.Cmp.Lexicographic.{slice_cmp}
use Rattle.std.specs.FinMap.{nat_cmp-IsAntisymmetric, slice_cmp-IsAntisymmetric}
use Rattle.std.proofs.lemmas.Cmp.{nat_cmp_total, nat_list_cmp_total, on_total, then_total}
use Rattle.std.specs.Hash as fed
use Rattle.u_name.specs.ContextOrder.{context_cmp}
use Rattle.u_name.specs.ContextLaws.{context_cmp_total, context_cmp_ties, both}
use Rattle.u_name.specs.ContextHash.{context_hash}
use Rattle.u_name.specs.Name.{Activity, activity}

-- by context, block, statement, initiation
abbrev pub name_cmp : Activity → Activity → Ordering
name_cmp a b =
    ordering_then (context_cmp a.context b.context)
    (ordering_then (slice_cmp nat_cmp a.block b.block)
    (ordering_then (nat_cmp a.statement b.statement) (nat_cmp a.initiation b.initiation)))

pub name_cmp_total : IsTotalOrder name_cmp
name_cmp_total =
    then_total (on_total (λ (n : Activity). n.context) context_cmp_total)
    (then_total (on_total (λ (n : Activity). n.block) nat_list_cmp_total)
    (then_total (on_total (λ (n : Activity). n.statement) nat_cmp_total) (on_total (λ (n : Activity). n.initiation) nat_cmp_total)))

-- names that tie are the same
pub name_cmp_ties : (a b : Activity) → name_cmp a b ≡ Equal → a ≡ b
name_cmp_ties a b h =
    let u = both _ _ h in
    let v = both _ _ u.1 in
    let w = both _ _ v.1 in
    ap (λ c. activity c a.block a.statement a.initiation) (context_cmp_ties a.context b.context u.0)
    ∙ ap (λ c. activity b.context c a.statement a.initiation) (slice_cmp-IsAntisymmetric nat_cmp-IsAntisymmetric a.block b.block v.0)
    ∙ ap (λ c. activity b.context b.block c a.initiation) (nat_cmp-IsAntisymmetric a.statement b.statement w.0)
    ∙ ap (λ c. activity b.context b.block b.statement c) (nat_cmp-IsAntisymmetric a.initiation b.initiation w.1)

-- equal names are the same
pub same_name : (a b : Activity) → eq_by_cmp name_cmp a b ≡ true → a ≡ b
same_name a b h = name_cmp_ties a b ((Equal-is (name_cmp a b)).0 h)

-- the statement in the highest ten bits, and the initiation; what goes beyond 64 bits is lost
abbrev pub name_hash : Activity → HashWrites
name_hash n = context_hash n.context ++ fed.u64 ((n.statement * 2 ^ 54 + n.initiation) % 2 ^ 64)

pub names_hash_alike : (a b : Activity) → IsTrue (eq_by_cmp name_cmp a b) → name_hash a ≡ name_hash b
names_hash_alike a b h = ap name_hash (same_name a b h)
