-- In a list of distinct members each has one place.
use Rattle.std.proofs.Common.{◌≡◌, ℕ, zero, suc, List, [], ◌∷◌, Some, Contains, subst, sym, ap, refl, arith}
use Rattle.std.specs.Prelude.{slice_get}
use Rattle.u_base.specs.Firing.{Distinct}
use Rattle.u_name.specs.Name.{Activity}

at_place : {X : Type 0} (xs : List X) (i : ℕ) (x : X) → slice_get xs i ≡ Some x → Contains xs x
at_place [] i x e = absurd (cc)
at_place (y ∷ ys) zero x e = (0, omega arith, let h : y ≡ x = cc in h)
at_place (y ∷ ys) (suc i) x e = let m = at_place ys i x e in (suc m.0, omega (arith, m.1), m.2)

pub one_place : {X : Type 0} (xs : List X) → Distinct xs → (i j : ℕ) (x : X) → slice_get xs i ≡ Some x → slice_get xs j ≡ Some x → i ≡ j
one_place [] d i j x e f = absurd (cc)
one_place (y ∷ ys) d zero zero x e f = refl
one_place (y ∷ ys) d zero (suc j) x e f = let h : y ≡ x = cc in absurd (d.0 (subst (λ z. Contains ys z) (sym h) (at_place ys j x f)))
one_place (y ∷ ys) d (suc i) zero x e f = let h : y ≡ x = cc in absurd (d.0 (subst (λ z. Contains ys z) (sym h) (at_place ys i x e)))
one_place (y ∷ ys) d (suc i) (suc j) x e f = ap suc (one_place ys d.1 i j x e f)

pub one_number : (names : List Activity) → Distinct names → (i j : ℕ) (n : Activity) → slice_get names i ≡ Some n → slice_get names j ≡ Some n → i ≡ j
one_number names d i j n e f = one_place names d i j n e f
