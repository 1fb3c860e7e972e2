-- Names are equal where their statements, initiations, blocks and contexts are.
use Rattle.std.specs.Prelude.{◌≡◌, ℕ, List, Bool, true, false, ◌==◌, refl}
use Rattle.std.proofs.Common.{sym, ap, subst}
use Rattle.std.specs.Ordering.{is_eq, eq_by_cmp}
use Rattle.std.proofs.lemmas.Cmp.{nat_cmp_total, nat_list_cmp_total, nat_list_eq_equiv, tied_itself}
use Rattle.std.specs.Cmp.Lexicographic.{same_text}
use lib.Pointwise.{pointwise}
use Rattle.u_name.specs.ContextOrder.{context_cmp}
use Rattle.u_name.specs.Name.{Activity}
use Rattle.u_name.specs.NameOrder.{name_cmp, same_name}
use Rattle.u_name.proofs.PathOrder.{then_equal}

unlike : (a b : Activity) → (a ≡ b → ⊥) → false ≡ eq_by_cmp name_cmp a b
unlike a b h = decide (eq_by_cmp name_cmp a b) refl
  where
    decide : (r : Bool) → eq_by_cmp name_cmp a b ≡ r → false ≡ r
    decide true e = absurd (h (same_name a b e))
    decide false e = refl

itself : (xs : List ℕ) → pointwise ◌==◌ xs xs ≡ true
itself xs = nat_list_eq_equiv.refl xs

pub other_block : (a b : Activity) → pointwise ◌==◌ a.block b.block ≡ false → false ≡ eq_by_cmp name_cmp a b
other_block a b h = unlike a b (λ e. absurd (unequal (subst (λ (n : Activity). pointwise ◌==◌ a.block n.block ≡ true) e (itself a.block))))
  where
    unequal : pointwise ◌==◌ a.block b.block ≡ true → ⊥
    unequal t = cc

alike : (a b : Activity) → a.statement ≡ b.statement → a.initiation ≡ b.initiation → a.block ≡ b.block → name_cmp a b ≡ context_cmp a.context b.context
alike a b s i k =
    rw (← s, ← i, ← k, tied_itself nat_list_cmp_total a.block, tied_itself nat_cmp_total a.statement, tied_itself nat_cmp_total a.initiation) (then_equal (context_cmp a.context b.context))

pub same_but_context : (a b : Activity) → a.statement ≡ b.statement → a.initiation ≡ b.initiation → pointwise ◌==◌ a.block b.block ≡ true
    → eq_by_cmp context_cmp a.context b.context ≡ eq_by_cmp name_cmp a b
same_but_context a b s i k = ap is_eq (sym (alike a b s i (same_text a.block b.block (sym k))))
