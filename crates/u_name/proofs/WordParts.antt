-- Second words, which stand only where the first ones say so, are in the order of what they are left out for.
use Rattle.std.specs.Prelude.{◌≡◌, ◌≤◌, ◌<◌, ◌%◌, ◌==◌, ℕ, Bool, true, false, nat_le, min, List, ◌++◌, refl}
use Rattle.std.proofs.Common.{arith}
use Rattle.std.proofs.lemmas.Bool.{leb-true, leb-false, eqb-true}
use Rattle.std.specs.Cmp.{nat_cmp_is}
use Rattle.std.specs.Cmp.Lexicographic.{slice_cmp}
use Rattle.std.specs.FinMap.{nat_cmp-IsAntisymmetric}
use Rattle.std.specs.Ordering.{nat_cmp, ordering_then}
use Rattle.std.specs.declared.cmp.Ordering.{Ordering}
use Rattle.std.specs.declared.cmp.Ordering.TheVariants.{Less, Equal, Greater}
use Rattle.u_name.specs.Words.{low_part, own_part, own_word}

-- where the low words are left out, they are 0
both_low : (h l k : ℕ) (us vs : List ℕ) → (r : Bool) → (h % 256 == 0) ≡ r → (h % 256 ≡ 0 → l ≡ 0) → (h % 256 ≡ 0 → k ≡ 0)
    → slice_cmp nat_cmp (low_part h l ++ us) (low_part h k ++ vs) ≡ ordering_then (nat_cmp l k) (slice_cmp nat_cmp us vs)
both_low h l k us vs true e f g =
    let z : h % 256 ≡ 0 = eqb-true (h % 256) 0 e in
    rw (e, f z, g z) refl
both_low h l k us vs false e f g = rw e refl

pub low_behind : (g h l k : ℕ) (us vs : List ℕ) → (r : Ordering) → nat_cmp g h ≡ r → (g % 256 ≡ 0 → l ≡ 0) → (h % 256 ≡ 0 → k ≡ 0)
    → ordering_then r (slice_cmp nat_cmp (low_part g l ++ us) (low_part h k ++ vs)) ≡ ordering_then r (ordering_then (nat_cmp l k) (slice_cmp nat_cmp us vs))
low_behind g h l k us vs Less e p q = refl
low_behind g h l k us vs Equal e p q =
    let s : g ≡ h = nat_cmp-IsAntisymmetric g h e in
    rw s (both_low h l k us vs (h % 256 == 0) refl (λ z. p (rw s z)) q)
low_behind g h l k us vs Greater e p q = refl

pub own_behind : (i j : ℕ) (us vs : List ℕ)
    → ordering_then (nat_cmp (min i own_word) (min j own_word)) (slice_cmp nat_cmp (own_part i ++ us) (own_part j ++ vs))
    ≡ ordering_then (nat_cmp i j) (slice_cmp nat_cmp us vs)
own_behind i j us vs = decide (nat_le own_word i) (nat_le own_word j) refl refl
  where
    decide : (r s : Bool) → nat_le own_word i ≡ r → nat_le own_word j ≡ s
        → ordering_then (nat_cmp (min i own_word) (min j own_word)) (slice_cmp nat_cmp (own_part i ++ us) (own_part j ++ vs))
        ≡ ordering_then (nat_cmp i j) (slice_cmp nat_cmp us vs)
    decide true true e f =
        let m : own_word ≤ i = leb-true own_word i e in
        let n : own_word ≤ j = leb-true own_word j f in
        let a : min i own_word ≡ own_word = omega arith in
        let b : min j own_word ≡ own_word = omega arith in
        rw (a, b, e, f) refl
    decide true false e f =
        let m : own_word ≤ i = leb-true own_word i e in
        let n : j < own_word = leb-false own_word j f in
        let a : Greater ≡ nat_cmp (min i own_word) (min j own_word) = nat_cmp_is (min i own_word) (min j own_word) Greater (omega arith) in
        let b : Greater ≡ nat_cmp i j = nat_cmp_is i j Greater (omega arith) in
        rw (← a, ← b) refl
    decide false true e f =
        let m : i < own_word = leb-false own_word i e in
        let n : own_word ≤ j = leb-true own_word j f in
        let a : Less ≡ nat_cmp (min i own_word) (min j own_word) = nat_cmp_is (min i own_word) (min j own_word) Less (omega arith) in
        let b : Less ≡ nat_cmp i j = nat_cmp_is i j Less (omega arith) in
        rw (← a, ← b) refl
    decide false false e f =
        let m : i < own_word = leb-false own_word i e in
        let n : j < own_word = leb-false own_word j f in
        let a : min i own_word ≡ i = omega arith in
        let b : min j own_word ≡ j = omega arith in
        rw (a, b, e, f) refl
