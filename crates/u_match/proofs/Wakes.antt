-- What the tests of a firing say.
use Rattle.std.proofs.Common.{◌≡◌, ◌↔◌, ◌⊎◌, inl, inr, sym, subst, ap, ◌∙◌, refl, List, Bool, true, IsTrue, Contains}
use Rattle.std.specs.Ordering.{is_eq}
use Rattle.std.specs.Cmp.{tied_itself, Equal-is}
use Rattle.std.specs.declared.cmp.Ordering.TheVariants.{Equal}
use Rattle.u_check.specs.Jobs.{JobParts}
use Rattle.u_rule.specs.Rule.{is_own_of, needs_of}
use Rattle.u_rule.specs.EntryOrder.{entry_cmp}
use Rattle.u_rule.specs.ExactOrders.{entry_cmp_total, entry_cmp_ties}
use Rattle.u_rule.specs.declared.entry.Entry.{Entry}
use Rattle.u_rule.specs.declared.firing.Firing.{Firing}
use Rattle.u_sets.specs.Members.{SomeOf, IsWith, AreThose, Gains}
use Rattle.u_match.specs.Waking.{IsWokenBy}

pub same_entry : (a b : Entry) → IsTrue (is_eq (entry_cmp a b)) ↔ (a ≡ b)
same_entry a b =
    ((λ h. entry_cmp_ties a b ((Equal-is (entry_cmp a b)).0 h)), λ e. ap is_eq (subst (λ (x : Entry). entry_cmp a x ≡ Equal) e (tied_itself entry_cmp_total a)))

-- the firing is added where it passes
pub added : (W : Firing → Type 0) (g : Firing) (old new : List Firing) → W g → Gains old (λ f. g ≡ f) new → Gains old (λ f. (g ≡ f) × W f) new
added W g old new w s f = (
  (λ m. elim ((s f).0 m) [ inl k ↦ inl k | inr e ↦ inr (e, subst W e w) ]),
  (λ t. elim t [ inl k ↦ (s f).1 (inl k) | inr p ↦ (s f).1 (inr p.0) ]),
)

-- and not where it fails
pub left_out : (W : Firing → Type 0) (g : Firing) → (W g → ⊥) → (f : Firing) → (g ≡ f) × W f → ⊥
left_out W g n f p = n (subst W (sym p.0) p.1)

-- some of the list is f, and f passes
pub among : (W : Firing → Type 0) (gs : List Firing) (f : Firing) → SomeOf gs (λ g f. (g ≡ f) × W f) f ↔ (Contains gs f × W f)
among W gs f = ((λ (g, m, (e, w)). (subst (λ (x : Firing). Contains gs x) e m, w)), λ p. (f, p.0, (refl, p.1)))

-- a firing that needs the entry, and whose needs are all held
pub tested : (job : JobParts) (entry : Entry) (H : Entry → Type 0) (f : Firing) (ns first second : List Entry) (h r : Bool) → ns ≡ needs_of f → first ≡ ns → second ≡ ns → IsTrue (is_own_of job f) → h ≡ true → IsTrue h ↔ Contains first entry → IsTrue r ↔ ((x : Entry) → Contains second x → H x) → IsTrue r ↔ IsWokenBy job entry H f
tested job entry H f ns first second h r n x y is t has held = (
  (λ p. (subst (λ (xs : List Entry). Contains xs entry) (x ∙ n) (has.0 t), (is, λ e m. held.0 p e (subst (λ (xs : List Entry). Contains xs e) (sym (y ∙ n)) m)))),
  (λ w. held.1 (λ e m. w.1.1 e (subst (λ (xs : List Entry). Contains xs e) (y ∙ n) m))),
)

-- what is woken over the old set and the entry, is woken over the new one
pub over : (job : JobParts) (entry : Entry) (old new : List Entry) → IsWith old entry new → (f : Firing) → IsWokenBy job entry (λ x. Contains old x ⊎ (entry ≡ x)) f ↔ IsWokenBy job entry (Contains new) f
over job entry old new w f = ((λ k. (k.0, (k.1.0, λ e m. (w e).1 (k.1.1 e m)))), λ k. (k.0, (k.1.0, λ e m. (w e).0 (k.1.1 e m))))

-- of an entry that is there, the set is that with it
pub with_known : (entry : Entry) (es : List Entry) → Contains es entry → IsWith es entry es
with_known entry es m e = ((λ k. inl k), λ s. elim s [ inl k ↦ k | inr h ↦ subst (λ (x : Entry). Contains es x) h m ])

-- the list of those that are woken over the old set and the entry, is that over the new one
pub woken_over : (job : JobParts) (entry : Entry) (old new : List Entry) (found : List Firing) → IsWith old entry new → AreThose (IsWokenBy job entry (λ x. Contains old x ⊎ (entry ≡ x))) found → AreThose (IsWokenBy job entry (Contains new)) found
woken_over job entry old new found w all f =
    let same = over job entry old new w f in
    ((λ m. same.0 ((all f).0 m)), λ k. (all f).1 (same.1 k))
