-- Lists that are gathered step by step.
use Rattle.std.proofs.Common.{◌≡◌, inl, inr, subst, ℕ, ◌<◌, ◌+◌, List, [], take, length, get_or, Result, Ok, Err}
use Rattle.std.specs.Prelude.{Contains, ◌↔◌, ◌⊎◌, OnOk}
use Rattle.u_base.proofs.Member.{Contains-nil}
use Rattle.u_sets.specs.Members.{SomeOf, IsWith, Gains}
use Rattle.u_sets.proofs.Gathering.{scan_more}

module _ {X : Type 0} where
  -- nothing more
  pub nothing : (P : X → Type 0) (xs : List X) → ((x : X) → P x → ⊥) → Gains xs P xs
  nothing P xs none x = ((λ m. inl m), λ s. elim s [ inl m ↦ m | inr p ↦ absurd (none x p) ])

  -- the one that has P
  pub the_one : (P : X → Type 0) (y : X) (old new : List X) → P y → ((x : X) → P x → y ≡ x) → IsWith old y new → Gains old P new
  the_one P y old new p one w x = (
    (λ m. elim ((w x).0 m) [ inl k ↦ inl k | inr e ↦ inr (subst P e p) ]),
    (λ s. elim s [ inl k ↦ (w x).1 (inl k) | inr q ↦ (w x).1 (inr (one x q)) ]),
  )

  -- by another name
  pub alike : (P Q : X → Type 0) (old new : List X) → ((x : X) → P x ↔ Q x) → Gains old P new → Gains old Q new
  alike P Q old new same g x = (
    (λ m. elim ((g x).0 m) [ inl k ↦ inl k | inr p ↦ inr ((same x).0 p) ]),
    (λ s. elim s [ inl k ↦ (g x).1 (inl k) | inr q ↦ (g x).1 (inr ((same x).1 q)) ]),
  )

  pub alike_on_ok : {A E : Type 0} (P Q : X → Type 0) (old new : List X) (result : Result A E) → ((x : X) → P x ↔ Q x) → OnOk result (Gains old P new) → OnOk result (Gains old Q new)
  alike_on_ok P Q old new (Ok a) same g = alike P Q old new same g
  alike_on_ok P Q old new (Err e) same g = g

  -- two steps, one after the other
  pub both : (P Q : X → Type 0) (a b c : List X) → Gains a P b → Gains b Q c → Gains a (λ x. P x ⊎ Q x) c
  both P Q a b c p q x = (to, back)
    where
      to : Contains c x → Contains a x ⊎ (P x ⊎ Q x)
      to m = elim ((q x).0 m) [ inl k ↦ elim ((p x).0 k) [ inl n ↦ inl n | inr y ↦ inr (inl y) ] | inr y ↦ inr (inr y) ]

      back : Contains a x ⊎ (P x ⊎ Q x) → Contains c x
      back (inl n) = (q x).1 (inl ((p x).1 (inl n)))
      back (inr (inl y)) = (q x).1 (inl ((p x).1 (inr y)))
      back (inr (inr y)) = (q x).1 (inr y)

  -- one round of a loop
  pub round : {Y : Type 0} (P : Y → X → Type 0) (start old new : List X) (ys : List Y) (i : ℕ) (y : Y) → i < length ys → y ≡ get_or ys i y → Gains start (SomeOf (take i ys) P) old → Gains old (P y) new → Gains start (SomeOf (take (i + 1) ys) P) new
  round P start old new ys i y l e before step = scan_more P start ys i y old new l before (subst (λ z. Gains old (P z) new) e step)

  -- from nothing
  pub from_nothing : (P : X → Type 0) (xs : List X) → Gains [] P xs → (x : X) → Contains xs x ↔ P x
  from_nothing P xs g x = ((λ m. elim ((g x).0 m) [ inl n ↦ absurd (Contains-nil x n) | inr p ↦ p ]), λ p. (g x).1 (inr p))
