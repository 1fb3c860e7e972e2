-- Values and fault kinds have total orders in which only a thing itself ties with it. These laws
-- stand here because the impls of `ExactOrd` cite them.
use Rattle.std.proofs.Common.{◌≡◌, ℕ, ℤ, zero, suc, true, false, refl, ap, sym, ◌∙◌}
use Rattle.std.specs.Prelude
use Rattle.std.specs.Cmp.{IsTotalOrder, Equal-is}
use Rattle.std.specs.FinMap.{nat_cmp-IsAntisymmetric}
use Rattle.std.specs.Ordering.{is_eq, ordering_reverse, int_cmp, bool_cmp}
use Rattle.std.specs.declared.cmp.Ordering.{Ordering}
use Rattle.std.proofs.lemmas.Cmp.{tied_itself, nat_cmp_total, on_total}
use Rattle.std.proofs.lemmas.Map.Lookups.{exact_signed}
use Rattle.u_name.specs.ExactOrders.{block_cmp_ties}
use Rattle.std.specs.declared.cmp.Ordering.TheVariants.{Equal}
use Rattle.u_value.specs.PointerOrder.{pointer_cmp_ties}
use Rattle.u_value.specs.Values.{value_cmp}
use Rattle.u_value.specs.FaultKinds.{fault_kind_cmp, fault_kind_place}
use Rattle.u_value.specs.declared.value.Value.{Value}
use Rattle.u_value.specs.declared.value.Value.TheVariants.{Int, Bool, Proc, Ref}
use Rattle.u_value.specs.declared.fault_kind.FaultKind.{FaultKind}
use Rattle.u_value.specs.declared.fault_kind.FaultKind.TheVariants.{Kind, Overflow, Zero, Deep, Initiation, Length, Bounds, Arity}
use Rattle.u_value.specs.contracts.value.ValueOrd.TheImpl as value_ord
use Rattle.u_value.specs.contracts.value.ValuePartialEq.TheImpl as value_eq
use Rattle.u_value.specs.contracts.value.ValueOrd.TheImpl.Laws as value_laws
use Rattle.u_value.specs.contracts.fault_kind.FaultKindOrd.TheImpl as fault_kind_ord

pub derived_value_cmp : (a b : Value) → (value_ord.ghosts).cmp a b ≡ value_cmp a b
derived_value_cmp (Int a) (Int b) = refl
derived_value_cmp (Bool a) (Bool b) = refl
derived_value_cmp (Proc a) (Proc b) = refl
derived_value_cmp (Ref a) (Ref b) = refl
derived_value_cmp a b = refl

pub derived_fault_kind_cmp : (a b : FaultKind) → (fault_kind_ord.ghosts).cmp a b ≡ fault_kind_cmp a b
derived_fault_kind_cmp Kind Kind = refl
derived_fault_kind_cmp Overflow Overflow = refl
derived_fault_kind_cmp Zero Zero = refl
derived_fault_kind_cmp Deep Deep = refl
derived_fault_kind_cmp Initiation Initiation = refl
derived_fault_kind_cmp Length Length = refl
derived_fault_kind_cmp Bounds Bounds = refl
derived_fault_kind_cmp Arity Arity = refl
derived_fault_kind_cmp a b = refl

-- an order that agrees with a total one is total
agreeing_total : {K : Type 0} {R S : K → K → Ordering} → ((x y : K) → R x y ≡ S x y) → IsTotalOrder R → IsTotalOrder S
agreeing_total same total = record {
  antisymm = λ x y. sym (same x y) ∙ total.antisymm x y ∙ ap ordering_reverse (same y x);
  trans = λ x y z p q. sym (same x z) ∙ total.trans x y z (same x y ∙ p) (same y z ∙ q);
  congr = λ x y z p. sym (same x z) ∙ total.congr x y z (same x y ∙ p) ∙ same y z;
}

pub value_cmp_total : IsTotalOrder value_cmp
value_cmp_total = agreeing_total derived_value_cmp value_laws.total-law

pub fault_kind_cmp_total : IsTotalOrder fault_kind_cmp
fault_kind_cmp_total = on_total fault_kind_place nat_cmp_total

int_cmp_ties : (a b : ℤ) → int_cmp a b ≡ Equal → a ≡ b
int_cmp_ties = exact_signed

bool_cmp_ties : (a b : Prelude.Bool) → bool_cmp a b ≡ Equal → a ≡ b
bool_cmp_ties true true h = refl
bool_cmp_ties true false h = cc
bool_cmp_ties false true h = cc
bool_cmp_ties false false h = refl

-- values that tie are the same
pub value_cmp_ties : (a b : Value) → value_cmp a b ≡ Equal → a ≡ b
value_cmp_ties (Int a) (Int b) h = ap (λ z. Int z) (int_cmp_ties a b h)
value_cmp_ties (Bool a) (Bool b) h = ap (λ t. Bool t) (bool_cmp_ties a b h)
value_cmp_ties (Proc a) (Proc b) h = ap (λ n. Proc n) (block_cmp_ties a b h)
value_cmp_ties (Ref a) (Ref b) h = ap (λ p. Ref p) (pointer_cmp_ties a b h)
value_cmp_ties a b h = cc

-- and so for the order that is derived
pub derived_value_ties : (a b : Value) → (value_ord.ghosts).cmp a b ≡ Equal → a ≡ b
derived_value_ties a b h = value_cmp_ties a b (sym (derived_value_cmp a b) ∙ h)

kind_at : ℕ → FaultKind
kind_at zero = Kind
kind_at (suc zero) = Overflow
kind_at (suc (suc zero)) = Zero
kind_at (suc (suc (suc zero))) = Deep
kind_at (suc (suc (suc (suc zero)))) = Initiation
kind_at (suc (suc (suc (suc (suc zero))))) = Length
kind_at (suc (suc (suc (suc (suc (suc zero)))))) = Bounds
kind_at (suc (suc (suc (suc (suc (suc (suc n))))))) = Arity

kind_at_place : (k : FaultKind) → kind_at (fault_kind_place k) ≡ k
unfolding kind_at
kind_at_place Kind = refl
kind_at_place Overflow = refl
kind_at_place Zero = refl
kind_at_place Deep = refl
kind_at_place Initiation = refl
kind_at_place Length = refl
kind_at_place Bounds = refl
kind_at_place Arity = refl

-- kinds that tie are the same
pub fault_kind_cmp_ties : (a b : FaultKind) → fault_kind_cmp a b ≡ Equal → a ≡ b
fault_kind_cmp_ties a b h = sym (kind_at_place a) ∙ ap kind_at (nat_cmp-IsAntisymmetric (fault_kind_place a) (fault_kind_place b) h) ∙ kind_at_place b

-- and so for the order that is derived
pub derived_fault_kind_ties : (a b : FaultKind) → (fault_kind_ord.ghosts).cmp a b ≡ Equal → a ≡ b
derived_fault_kind_ties a b h = fault_kind_cmp_ties a b (sym (derived_fault_kind_cmp a b) ∙ h)

-- what `==` holds of is the same
pub same_value : (a b : Value) → (value_eq.ghosts).eq a b ≡ true → a ≡ b
same_value a b h = value_cmp_ties a b (sym (derived_value_cmp a b) ∙ (Equal-is ((value_ord.ghosts).cmp a b)).0 (sym (value_laws.matches_eq-law a b) ∙ h))

-- and what is the same is equal
pub value_equals_itself : (a : Value) → (value_eq.ghosts).eq a a ≡ true
value_equals_itself a = value_laws.matches_eq-law a a ∙ ap is_eq (derived_value_cmp a a ∙ tied_itself value_cmp_total a)
