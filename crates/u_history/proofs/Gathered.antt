-- Lists that are gathered from entries.
use Rattle.std.proofs.Common.{◌≡◌, ◌↔◌, ◌⊎◌, inl, inr, ℕ, ◌+◌, ◌<◌, ◌≤◌, List, [], ◌∷◌, ◌++◌, Ordering, Contains, IsTrue, Bool, length, take, get_or, refl, sym, subst, ◌∙◌, ap, arith}
use Rattle.std.proofs.lemmas.List.{take_more, get_or-map}
use Rattle.std.specs.Prelude.{Result, IfOk}
use Rattle.std.specs.Borrow.{Bor}
use Rattle.u_sets.specs.Members.{SomeOf, IsWith}
use Rattle.u_sets.specs.Rising.{Rises, IsListOf}
use Rattle.u_base.proofs.Member.{Contains-nil}
use Rattle.u_rule.specs.declared.entry.Entry.{Entry}
use Rattle.u_history.specs.Outcomes.{lent}

pub length_lent : (es : List (Bor Entry)) → length (lent es) ≡ length es
length_lent [] = refl
length_lent (e ∷ es) = let h = length_lent es in omega arith

pub lent_below : (es : List (Bor Entry)) (i : ℕ) → i < length es → i < length (lent es)
lent_below es i l = let h = length_lent es in omega arith

pub lent_end : (es : List (Bor Entry)) (i : ℕ) → length es ≤ i → length (lent es) ≤ i
lent_end es i l = let h = length_lent es in omega arith

-- one more of them
pub lent_more : (es : List (Bor Entry)) (i : ℕ) (d : Bor Entry) → i < length es → d ≡ get_or es i d → take (i + 1) (lent es) ≡ take i (lent es) ++ d.now ∷ []
lent_more es i d l e =
    take_more (lent es) i d.now (lent_below es i l)
    ∙ ap (λ (x : Entry). take i (lent es) ++ x ∷ []) (get_or-map (λ (b : Bor Entry). b.now) es i d d.now l ∙ ap (λ (b : Bor Entry). b.now) (sym e))

pub lent_after : (es : List (Bor Entry)) (i : ℕ) (b : Bool) (P : Type 0) → (IsTrue b ↔ ((i + 1 < length es) × P)) → IsTrue b ↔ ((i + 1 < length (lent es)) × P)
lent_after es i b P h =
    let n = length_lent es in
    ((λ t. let k = h.0 t in (let l = k.0 in omega arith, k.1)), λ k. h.1 (let l = k.0 in omega arith, k.1))

-- what is said of one list is said of an equal one
pub along : {T E : Type 0} (r : Result T E) (P : List Entry → T → Type 0) (es fs : List Entry) → es ≡ fs → IfOk r (P es) → IfOk r (P fs)
along r P es fs e h = subst (λ (gs : List Entry). IfOk r (P gs)) e h

module _ {X : Type 0} (K : X → Entry) where
  -- an item that was added is all that is new
  pub added : (inj : (a b : X) → K a ≡ K b → a ≡ b) (e : Entry) (old new : List X) (y : X) → e ≡ K y → IsWith old y new → (x : X) → Contains new x ↔ (Contains old x ⊎ (e ≡ K x))
  added inj e old new y is w x =
      ((λ m. elim ((w x).0 m) [ inl a ↦ inl a | inr q ↦ inr (is ∙ ap K q) ]), λ s. elim s [ inl a ↦ (w x).1 (inl a) | inr q ↦ (w x).1 (inr (inj y x (sym is ∙ q))) ])

  pub added_if : (inj : (a b : X) → K a ≡ K b → a ≡ b) (e : Entry) (old new : List X) (y : X) (b : Bool) → IsTrue b → e ≡ K y → IsWith old y new → (x : X) → Contains new x ↔ (Contains old x ⊎ (IsTrue b × (e ≡ K x)))
  added_if inj e old new y b t is w x =
      ((λ m. elim ((w x).0 m) [ inl a ↦ inl a | inr q ↦ inr (t, is ∙ ap K q) ]), λ s. elim s [ inl a ↦ (w x).1 (inl a) | inr q ↦ (w x).1 (inr (inj y x (sym is ∙ q.1))) ])

  module _ (R : X → X → Ordering) (es : List Entry) (xs : List X) (rises : Rises R xs) where
    -- what was gathered from all entries
    pub listed : ((x : X) → Contains xs x ↔ (Contains [] x ⊎ SomeOf es (λ e y. e ≡ K y) x)) → IsListOf R (λ x. Contains es (K x)) xs
    listed all = record { rises = rises; exact = λ x. (to x, λ m. (all x).1 (inr (K x, m, refl))) }
      where
        to : (x : X) → Contains xs x → Contains es (K x)
        to x m = elim ((all x).0 m) [ inl n ↦ absurd (Contains-nil x n) | inr s ↦ subst (Contains es) s.2 s.1 ]

  -- one step
  pub step_item : (e at : Entry) (old new : List X) → at ≡ e → ((x : X) → Contains new x ↔ (Contains old x ⊎ (e ≡ K x))) → (x : X) → Contains new x ↔ (Contains old x ⊎ (at ≡ K x))
  step_item e at old new is step x =
      ((λ m. elim ((step x).0 m) [ inl a ↦ inl a | inr q ↦ inr (is ∙ q) ]), λ s. elim s [ inl a ↦ (step x).1 (inl a) | inr q ↦ (step x).1 (inr (sym is ∙ q)) ])
