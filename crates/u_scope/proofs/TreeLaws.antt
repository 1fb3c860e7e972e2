-- Trees that are left out.
use Rattle.std.proofs.Common.{◌≡◌, ℕ, zero, suc, ◌+◌, ◌<◌, List, [], ◌∷◌, length, reverse, refl, sym, ◌∙◌, subst, arith}
use Rattle.std.proofs.lemmas.List.{length-reverse}
use Rattle.u_source.specs.Trees.{children}
use Rattle.u_scope.specs.declared.kinded.Kinded.{Kinded}
use Rattle.u_scope.specs.Kinds.{without_trees}

-- more trees than there are nodes leave nothing
pub too_many : (n : ℕ) (ks : List Kinded) → length ks < n → without_trees n ks ≡ []
too_many zero [] h = refl
too_many (suc n) [] h = refl
too_many zero (k ∷ ks) h = let wrong : ⊥ = omega arith in elim wrong [ ]
too_many (suc n) (k ∷ ks) h = too_many (n + length (children k.node.form)) ks (omega arith)

pub none_left : (n m : ℕ) (ks ns : List Kinded) → length ks < n → without_trees n (reverse ks) ≡ without_trees m ns → reverse [] ≡ without_trees m ns
none_left n m ks ns h e = sym (too_many n (reverse ks) (subst (λ l. l < n) (sym (length-reverse ks)) h)) ∙ e
