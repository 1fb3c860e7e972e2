-- Clusters opened and closed one after another.
use Rattle.std.proofs.Common.{◌≡◌, ℕ, List, [], ◌∷◌, ◌++◌, sym, ap, ◌∙◌, append_assoc}
use Rattle.std.proofs.lemmas.List.{append-nil}
use Rattle.std.specs.Prelude.{codes}
use Rattle.u_pictures.specs.Dot.{Shown, text, opened, all_opened, all_closed}
use Rattle.u_pictures.proofs.Nests.{all_opened-append, all_closed-append}
use Rattle.u_pictures.proofs.Shows.{text-append}

pub one_opened : (name o new : List ℕ) → new ≡ o ++ opened name → new ≡ o ++ all_opened (name ∷ [])
one_opened name o new e = e ∙ ap (λ t. o ++ t) (sym (append-nil (opened name)))

pub two_opened : (a b : List (List ℕ)) (o n1 n2 : List ℕ) → n1 ≡ o ++ all_opened a → n2 ≡ n1 ++ all_opened b → n2 ≡ o ++ all_opened (a ++ b)
two_opened a b o n1 n2 p q =
    q ∙ ap (λ t. t ++ all_opened b) p ∙ append_assoc o (all_opened a) (all_opened b) ∙ ap (λ t. o ++ t) (sym (all_opened-append a b))

pub three_opened : (a b c : List (List ℕ)) (o n1 n2 n3 : List ℕ) → n1 ≡ o ++ all_opened a → n2 ≡ n1 ++ all_opened b → n3 ≡ n2 ++ all_opened c → n3 ≡ o ++ all_opened ((a ++ b) ++ c)
three_opened a b c o n1 n2 n3 p q r = two_opened (a ++ b) c o n2 n3 (two_opened a b o n1 n2 p q) r

pub two_closed : (a b : List (List ℕ)) (o n1 n2 : List ℕ) → n1 ≡ o ++ all_closed a → n2 ≡ n1 ++ all_closed b → n2 ≡ o ++ all_closed (a ++ b)
two_closed a b o n1 n2 p q =
    q ∙ ap (λ t. t ++ all_closed b) p ∙ append_assoc o (all_closed a) (all_closed b) ∙ ap (λ t. o ++ t) (sym (all_closed-append a b))

pub three_closed : (a b : List (List ℕ)) (c : List ℕ) (o n1 n2 n3 : List ℕ) → n1 ≡ o ++ all_closed a → n2 ≡ n1 ++ all_closed b → n3 ≡ n2 ++ codes " }" → n3 ≡ o ++ all_closed ((a ++ b) ++ (c ∷ []))
three_closed a b c o n1 n2 n3 p q r = two_closed (a ++ b) (c ∷ []) o n2 n3 (two_closed a b o n1 n2 p q) r

-- what is shown first stands now, and the rest is still to come
pub shown_first : (a b : List Shown) (all old new : List ℕ) → old ++ text (a ++ b) ≡ all → new ≡ old ++ text a → new ++ text b ≡ all
shown_first a b all old new p q =
    ap (λ t. t ++ text b) q ∙ append_assoc old (text a) (text b) ∙ ap (λ t. old ++ t) (sym (text-append a b)) ∙ p
