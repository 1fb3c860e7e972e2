-- Lists without repeats, and which needs of a firing an entry meets.
use Rattle.std.proofs.Common.{◌≡◌, List, [], ◌∷◌, ◌++◌, ◌⊎◌, inl, inr, subst, sym, ap, ◌↔◌, IsTrue}
use Rattle.std.specs.Prelude.{Contains}
use Rattle.std.proofs.lemmas.List.Elements.{Contains-append_cases}
use Rattle.std.specs.declared.cmp.Ordering.{Ordering}
use Rattle.std.specs.Cmp.{IsTotalOrder, tied_itself, Equal-is}
use Rattle.std.specs.Ordering.{is_eq}
use Rattle.std.specs.declared.cmp.Ordering.TheVariants.{Equal}
use Rattle.u_rule.specs.EntryOrder.{firing_cmp}
use Rattle.u_rule.specs.ExactOrders.{firing_cmp_total, firing_cmp_ties}
use Rattle.u_rule.specs.declared.firing.Firing.{Firing}
use Rattle.u_base.specs.Firing.{System, Enabled, Distinct}
use Rattle.u_sets.specs.Rising.{Rises}
use Rattle.u_sets.proofs.Places.{irreflexive}
use Rattle.u_base.proofs.Member.{Contains-nil, Contains-head, Contains-tail, Contains-cons_cases}

pub Distinct-join : {X : Type 0} (xs ys : List X) → Distinct xs → Distinct ys → ((x : X) → Contains xs x → Contains ys x → ⊥) → Distinct (xs ++ ys)
Distinct-join [] ys p q apart = q
Distinct-join (z ∷ xs) ys p q apart = (
  (λ m. elim (Contains-append_cases xs ys z m) [ inl a ↦ p.0 a | inr b ↦ apart z (Contains-head z xs) b ]),
  Distinct-join xs ys p.1 q (λ x a b. apart x (Contains-tail z x xs a) b),
)

pub Distinct-right : {X : Type 0} (xs ys : List X) → Distinct (xs ++ ys) → Distinct ys
Distinct-right [] ys d = d
Distinct-right (x ∷ xs) ys d = Distinct-right xs ys d.1

pub Distinct-from_Rises : {X : Type 0} (R : X → X → Ordering) (o : IsTotalOrder R) (xs : List X) → Rises R xs → Distinct xs
Distinct-from_Rises R o [] r = tt
Distinct-from_Rises R o (x ∷ xs) r = ((λ m. irreflexive R o x (r.0 x m)), Distinct-from_Rises R o xs r.1)

pub same_firing : (a b : Firing) → IsTrue (is_eq (firing_cmp a b)) ↔ (a ≡ b)
same_firing a b =
    ((λ h. firing_cmp_ties a b ((Equal-is (firing_cmp a b)).0 h)), λ e. ap is_eq (subst (λ (x : Firing). firing_cmp a x ≡ Equal) e (tied_itself firing_cmp_total a)))

module _ {E : Type 0} (P : E → Type 0) (e : E) where
  split : (ns : List E) → ((x : E) → Contains ns x → P x ⊎ (e ≡ x)) → Contains ns e ⊎ ((x : E) → Contains ns x → P x)
  split [] all = inr (λ x m. absurd (Contains-nil x m))
  split (n ∷ ns) all = over (all n (Contains-head n ns)) (split ns (λ x m. all x (Contains-tail n x ns m)))
    where
      each : P n → ((x : E) → Contains ns x → P x) → (x : E) → Contains (n ∷ ns) x → P x
      each p q x m = elim (Contains-cons_cases n x ns m) [ inl k ↦ subst P k p | inr k ↦ q x k ]

      over : P n ⊎ (e ≡ n) → Contains ns e ⊎ ((x : E) → Contains ns x → P x) → Contains (n ∷ ns) e ⊎ ((x : E) → Contains (n ∷ ns) x → P x)
      over (inr k) s = inl (subst (λ (y : E). Contains (n ∷ ns) y) (sym k) (Contains-head n ns))
      over (inl p) (inl m) = inl (Contains-tail n e ns m)
      over (inl p) (inr q) = inr (each p q)

-- what is enabled once e has entered needs e, or was enabled before
pub enabled_with : {E F : Type 0} (s : System E F) (P Q : E → Type 0) (e : E) (f : F) → ((x : E) → Q x → P x ⊎ (e ≡ x)) → Enabled s Q f → Contains (s.needs f) e ⊎ Enabled s P f
enabled_with {E} {F} s P Q e f grown en = over (split P e (s.needs f) (λ x m. grown x (en.1 x m)))
  where
    over : Contains (s.needs f) e ⊎ ((x : E) → Contains (s.needs f) x → P x) → Contains (s.needs f) e ⊎ Enabled s P f
    over (inl m) = inl m
    over (inr q) = inr (en.0, q)
