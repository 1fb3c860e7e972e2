-- Clusters within one another, one after another.
use Rattle.std.proofs.Common.{◌≡◌, ℕ, zero, suc, ◌-◌, ◌<◌, List, [], ◌∷◌, ◌++◌, sym, ap, refl, ◌∙◌, append_assoc, map, arith}
use Rattle.std.proofs.lemmas.List.{append-nil, map-append}
use Rattle.std.specs.Prelude.{codes}
use Rattle.u_pictures.specs.Dot.{opened, all_opened, all_closed, within}
use Rattle.u_pictures.specs.Clusters.{holder, nest}

pub all_opened-append : (a b : List (List ℕ)) → all_opened (a ++ b) ≡ all_opened a ++ all_opened b
all_opened-append [] b = refl
all_opened-append (x ∷ a) b = ap (λ t. opened x ++ t) (all_opened-append a b) ∙ sym (append_assoc (opened x) (all_opened a) (all_opened b))

pub all_closed-append : (a b : List (List ℕ)) → all_closed (a ++ b) ≡ all_closed a ++ all_closed b
all_closed-append [] b = refl
all_closed-append (x ∷ a) b = ap (λ t. codes " }" ++ t) (all_closed-append a b) ∙ sym (append_assoc (codes " }") (all_closed a) (all_closed b))

nest_shallow : (d r : ℕ) (loops : List ℕ) → d ≡ 0 → nest d loops r ≡ []
nest_shallow d r loops h = ap (λ d. nest d loops r) h

nest_outside : (d r : ℕ) (loops : List ℕ) → r ≡ 0 → nest d loops r ≡ []
nest_outside zero r loops h = refl
nest_outside (suc d) r loops h = ap (λ r. nest (suc d) loops r) h

nest_deeper : (d r : ℕ) (loops : List ℕ) → 0 < d → 0 < r → nest d loops r ≡ nest (d - 1) loops (holder loops r) ++ (r ∷ [])
nest_deeper zero r loops p q = absurd (omega (arith, p))
nest_deeper (suc d) zero loops p q = absurd (omega (arith, q))
nest_deeper (suc d) (suc r) loops p q = ap (λ k. nest k loops (holder loops (suc r)) ++ (suc r ∷ [])) (omega arith)

module _ (name : ℕ → List ℕ) (loops : List ℕ) (d r : ℕ) where
  abbrev names : List (List ℕ)
  names = map name (nest d loops r)

  abbrev outer : List (List ℕ)
  outer = map name (nest (d - 1) loops (holder loops r))

  no_names : nest d loops r ≡ [] → names ≡ []
  no_names h = ap (map name) h

  more_names : 0 < d → 0 < r → names ≡ outer ++ (name r ∷ [])
  more_names p q = ap (map name) (nest_deeper d r loops p q) ∙ map-append name (nest (d - 1) loops (holder loops r)) (r ∷ [])

  pub opened_shallow : (o : List ℕ) → d ≡ 0 → o ≡ o ++ all_opened names
  opened_shallow o h = sym (ap (λ t. o ++ all_opened t) (no_names (nest_shallow d r loops h)) ∙ append-nil o)

  pub opened_outside : (o : List ℕ) → r ≡ 0 → o ≡ o ++ all_opened names
  opened_outside o h = sym (ap (λ t. o ++ all_opened t) (no_names (nest_outside d r loops h)) ∙ append-nil o)

  pub opened_deeper : (o n1 n2 : List ℕ) → 0 < d → 0 < r → n1 ≡ o ++ all_opened outer → n2 ≡ n1 ++ opened (name r) → n2 ≡ o ++ all_opened names
  opened_deeper o n1 n2 p q e f =
      f ∙ ap (λ t. t ++ opened (name r)) e ∙ append_assoc o (all_opened outer) (opened (name r))
      ∙ ap (λ t. o ++ (all_opened outer ++ t)) (sym (append-nil (opened (name r))))
      ∙ ap (λ t. o ++ t) (sym (all_opened-append outer (name r ∷ [])))
      ∙ ap (λ t. o ++ all_opened t) (sym (more_names p q))

  pub closed_shallow : (o : List ℕ) → d ≡ 0 → o ≡ o ++ all_closed names
  closed_shallow o h = sym (ap (λ t. o ++ all_closed t) (no_names (nest_shallow d r loops h)) ∙ append-nil o)

  pub closed_outside : (o : List ℕ) → r ≡ 0 → o ≡ o ++ all_closed names
  closed_outside o h = sym (ap (λ t. o ++ all_closed t) (no_names (nest_outside d r loops h)) ∙ append-nil o)

  pub closed_deeper : (o n1 n2 : List ℕ) → 0 < d → 0 < r → n1 ≡ o ++ all_closed outer → n2 ≡ n1 ++ codes " }" → n2 ≡ o ++ all_closed names
  closed_deeper o n1 n2 p q e f =
      f ∙ ap (λ t. t ++ codes " }") e ∙ append_assoc o (all_closed outer) (codes " }")
      ∙ ap (λ t. o ++ t) (sym (all_closed-append outer (name r ∷ [])))
      ∙ ap (λ t. o ++ all_closed t) (sym (more_names p q))

-- what stands within clusters, in a line
pub framed : (names : List (List ℕ)) (o t n1 n2 n3 : List ℕ) → n1 ≡ o ++ (codes "  " ++ all_opened names) → n2 ≡ n1 ++ t → n3 ≡ n2 ++ (all_closed names ++ (10 ∷ [])) → n3 ≡ o ++ (codes "  " ++ (within names t ++ (10 ∷ [])))
framed names o t n1 n2 n3 p q r = rw (r, q, p) (simp append_assoc)
