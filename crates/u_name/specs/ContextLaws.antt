-- Laws that stand here because the impls of Eq, Ord and Hash for Context cite them: the order of contexts is total, and
-- ties only what is equal.
use Rattle.std.specs.Prelude.{◌≡◌, ℕ, suc, zero, ◌+◌, ◌≤◌, List, [], refl}
use Rattle.std.proofs.Common.{sym, ◌∙◌, ap, arith}
use Rattle.std.specs.Ordering.{on, then_cmp, ordering_then, nat_cmp}
use Rattle.std.specs.declared.cmp.Ordering.{Ordering}
use Rattle.std.specs.declared.cmp.Ordering.TheVariants.{Less, Equal, Greater}
use Rattle.std.specs.Cmp.{IsTotalOrder}
use Rattle.std.specs.Cmp.Lexicographic.{slice_cmp}
use Rattle.std.specs.FinMap.{nat_cmp-IsAntisymmetric, slice_cmp-IsAntisymmetric}
use Rattle.std.proofs.lemmas.Cmp.{nat_cmp_total, nat_list_cmp_total, on_total, then_total, tied_itself}
use Rattle.u_name.specs.Context.{Tree, Top, InLoop, InCall, depth}
use Rattle.u_name.specs.ContextOrder.{context_cmp, parts_cmp}

abbrev kind : Tree → ℕ
kind Top = 0
kind (InLoop o b m i) = 1
kind (InCall o b m i) = 2

abbrev outer : Tree → Tree
outer Top = Top
outer (InLoop o b m i) = o
outer (InCall o b m i) = o

abbrev block : Tree → List ℕ
block Top = []
block (InLoop o b m i) = b
block (InCall o b m i) = b

abbrev number : Tree → ℕ
number Top = 0
number (InLoop o b m i) = m
number (InCall o b m i) = m

abbrev initiation : Tree → ℕ
initiation Top = 0
initiation (InLoop o b m i) = i
initiation (InCall o b m i) = i

-- the order of contexts, as far as this many levels go
abbrev upto : ℕ → Tree → Tree → Ordering
upto zero = on kind nat_cmp
upto (suc n) =
    then_cmp (on kind nat_cmp)
    (then_cmp (on outer (upto n)) (then_cmp (on block (slice_cmp nat_cmp)) (then_cmp (on number nat_cmp) (on initiation nat_cmp))))

upto_total : (n : ℕ) → IsTotalOrder (upto n)
upto_total zero = on_total kind nat_cmp_total
upto_total (suc n) =
    then_total (on_total kind nat_cmp_total)
    (then_total (on_total outer (upto_total n))
    (then_total (on_total block nat_list_cmp_total) (then_total (on_total number nat_cmp_total) (on_total initiation nat_cmp_total))))

upto-Top : (n : ℕ) → upto n Top Top ≡ Equal
upto-Top n = tied_itself (upto_total n) Top

same : (n : ℕ) (a b : Tree) → depth a ≤ n → context_cmp a b ≡ upto n a b
same zero Top Top h = refl
same zero Top (InLoop p c m j) h = refl
same zero Top (InCall p c m j) h = refl
same zero (InLoop o b m i) y h = absurd (omega arith)
same zero (InCall o b m i) y h = absurd (omega arith)
same (suc n) Top Top h = rw upto-Top refl
same (suc n) Top (InLoop p c m j) h = refl
same (suc n) Top (InCall p c m j) h = refl
same (suc n) (InLoop o b m i) Top h = refl
same (suc n) (InLoop o b m i) (InLoop p c k j) h = ap (λ r. ordering_then r (parts_cmp b m i c k j)) (same n o p (omega arith))
same (suc n) (InLoop o b m i) (InCall p c k j) h = refl
same (suc n) (InCall o b m i) Top h = refl
same (suc n) (InCall o b m i) (InLoop p c k j) h = refl
same (suc n) (InCall o b m i) (InCall p c k j) h = ap (λ r. ordering_then r (parts_cmp b m i c k j)) (same n o p (omega arith))

pub context_cmp_total : IsTotalOrder context_cmp
context_cmp_total = record {
  antisymm = λ x y. let n : ℕ = depth x + depth y in rw (same n x y (omega arith), same n y x (omega arith)) ((upto_total n).antisymm x y);
  trans =
      λ x y z p q.
      let n : ℕ = depth x + depth y in
      let f = same n x y (omega arith) in
      let g = same n y z (omega arith) in
      same n x z (omega arith) ∙ (upto_total n).trans x y z (sym f ∙ p) (sym g ∙ q);
  congr =
      λ x y z p.
      let n : ℕ = depth x + depth y in
      let f = same n x y (omega arith) in
      same n x z (omega arith) ∙ (upto_total n).congr x y z (sym f ∙ p) ∙ sym (same n y z (omega arith));
}

pub both : (r s : Ordering) → ordering_then r s ≡ Equal → (r ≡ Equal) × (s ≡ Equal)
both Less s h = cc
both Equal s h = (refl, h)
both Greater s h = cc

-- only equal contexts tie
pub context_cmp_ties : (x y : Tree) → context_cmp x y ≡ Equal → x ≡ y
context_cmp_ties Top Top h = refl
context_cmp_ties Top (InLoop p c k j) h = cc
context_cmp_ties Top (InCall p c k j) h = cc
context_cmp_ties (InLoop o b m i) Top h = cc
context_cmp_ties (InLoop o b m i) (InLoop p c k j) h =
    let u = both (context_cmp o p) (parts_cmp b m i c k j) h in
    let v = both (slice_cmp nat_cmp b c) _ u.1 in
    let w = both (nat_cmp m k) (nat_cmp i j) v.1 in
    let e = context_cmp_ties o p u.0 in
    let f = slice_cmp-IsAntisymmetric nat_cmp-IsAntisymmetric b c v.0 in
    let g = nat_cmp-IsAntisymmetric m k w.0 in
    let l = nat_cmp-IsAntisymmetric i j w.1 in
    cc
context_cmp_ties (InLoop o b m i) (InCall p c k j) h = cc
context_cmp_ties (InCall o b m i) Top h = cc
context_cmp_ties (InCall o b m i) (InLoop p c k j) h = cc
context_cmp_ties (InCall o b m i) (InCall p c k j) h =
    let u = both (context_cmp o p) (parts_cmp b m i c k j) h in
    let v = both (slice_cmp nat_cmp b c) _ u.1 in
    let w = both (nat_cmp m k) (nat_cmp i j) v.1 in
    let e = context_cmp_ties o p u.0 in
    let f = slice_cmp-IsAntisymmetric nat_cmp-IsAntisymmetric b c v.0 in
    let g = nat_cmp-IsAntisymmetric m k w.0 in
    let l = nat_cmp-IsAntisymmetric i j w.1 in
    cc
