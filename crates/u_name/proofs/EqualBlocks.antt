-- Names of blocks are equal exactly where they lie alike.
use Rattle.std.specs.Prelude.{◌≡◌, ◌==◌, ◌↔◌, Bool, true, false, IsTrue, refl}
use Rattle.std.proofs.Common.{sym, ap, subst, ◌∙◌}
use Rattle.std.specs.Cmp.Lexicographic.{same_text}
use Rattle.std.proofs.lemmas.Cmp.{nat_list_eq_equiv}
use lib.Pointwise.{pointwise}
use Rattle.u_name.specs.declared.block_name.BlockName.TheInside.{Inside}
use Rattle.u_name.specs.Block.{name_of, LiesWell, laid_out}
use Rattle.u_name.specs.BlockLaws.{laid_out-name_of, inside}

abbrev equal : Inside → Inside → Bool
equal a b = pointwise ◌==◌ (name_of a) (name_of b)

alike : (a b : Inside) → LiesWell a → LiesWell b → equal a b ≡ true → a ≡ b
alike a b v w h = sym (laid_out-name_of a v) ∙ ap laid_out (same_text (name_of a) (name_of b) (sym h)) ∙ laid_out-name_of b w

itself : (a b : Inside) → a ≡ b → equal a b ≡ true
itself a b e = subst (λ (x : Inside). equal a x ≡ true) e (nat_list_eq_equiv.refl (name_of a))

unless : (a b : Inside) → (equal a b ≡ true → ⊥) → false ≡ equal a b
unless a b h = decide (equal a b) refl
  where
    decide : (r : Bool) → equal a b ≡ r → false ≡ r
    decide true e = absurd (h e)
    decide false e = refl

pub by_bytes : (a b : Inside) → LiesWell a → LiesWell b → a.len ≡ b.len → (r : Bool) → (IsTrue r ↔ (a.bytes ≡ b.bytes)) → r ≡ pointwise ◌==◌ (name_of a) (name_of b)
by_bytes a b v w e true h = sym (itself a b (ap (λ n. inside a.bytes n) e ∙ ap (λ xs. inside xs b.len) (h.0 refl)))
by_bytes a b v w e false h = unless a b (λ t. no (h.1 (ap (λ (x : Inside). x.bytes) (alike a b v w t))))
  where
    no : IsTrue false → ⊥
    no f = cc
