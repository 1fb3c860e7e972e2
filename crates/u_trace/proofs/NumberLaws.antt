-- Numbers of activities, as more activities get theirs.
use Rattle.std.proofs.Common.{◌≡◌, ℕ, suc, ◌<◌, ◌≤◌, List, [], ◌∷◌, ◌++◌, ◌⊎◌, inl, inr, refl, subst, ap, length, Bool, true, false, Some, arith}
use Rattle.std.specs.Prelude.{Contains, slice_get, if◌then◌else◌}
use Rattle.std.specs.Cmp.{tied_itself}
use Rattle.std.specs.Ordering.{eq_by_cmp, is_eq}
use Rattle.std.specs.declared.cmp.Ordering.TheVariants.{Equal}
use Rattle.u_base.specs.Firing.{Distinct}
use Rattle.u_base.proofs.Member.{Contains-nil, Contains-head, Contains-tail, Contains-cons_cases}
use Rattle.u_name.specs.Name.{Activity}
use Rattle.u_name.specs.NameOrder.{name_cmp, name_cmp_total, same_name}
use Rattle.u_names.proofs.OneNumber.{one_number}
use Rattle.u_trace.specs.Numbers.{number_in, HaveOneNumber}
use Rattle.u_trace.proofs.Lists.{in_list}

eq_itself : (a b : Activity) → a ≡ b → eq_by_cmp name_cmp a b ≡ true
eq_itself a b e = ap is_eq (subst (λ (n : Activity). name_cmp a n ≡ Equal) e (tied_itself name_cmp_total a))

-- an activity that is in the list stands at its number
pub number_there : (ns : List Activity) (a : Activity) → number_in ns a < length ns → slice_get ns (number_in ns a) ≡ Some a
number_there [] a l = absurd (omega (arith, l))
number_there (b ∷ bs) a l = step (eq_by_cmp name_cmp b a) refl (number_there bs a) l
  where
    step : (r : Bool) → eq_by_cmp name_cmp b a ≡ r → (number_in bs a < length bs → slice_get bs (number_in bs a) ≡ Some a) → (if r then 0 else suc (number_in bs a)) < suc (length bs) → slice_get (b ∷ bs) (if r then 0 else suc (number_in bs a)) ≡ Some a
    step true e more l = ap Some (same_name b a e)
    step false e more l = more (omega (arith, l))

pub number_below : (ns : List Activity) (a : Activity) → Contains ns a → number_in ns a < length ns
number_below [] a m = absurd (Contains-nil a m)
number_below (b ∷ bs) a m = step (eq_by_cmp name_cmp b a) refl (number_below bs a) (Contains-cons_cases b a bs m)
  where
    step : (r : Bool) → eq_by_cmp name_cmp b a ≡ r → (Contains bs a → number_in bs a < length bs) → (b ≡ a) ⊎ Contains bs a → (if r then 0 else suc (number_in bs a)) < suc (length bs)
    step true e more m = omega arith
    step false e more (inl q) = let t = eq_itself b a q in absurd (cc)
    step false e more (inr m) = let l = more m in omega (arith, l)

-- one that is not there has the list's length
pub number_none : (ns : List Activity) (a : Activity) → (Contains ns a → ⊥) → length ns ≡ number_in ns a
number_none [] a n = refl
number_none (b ∷ bs) a n = step (eq_by_cmp name_cmp b a) refl (number_none bs a (λ m. n (Contains-tail b a bs m)))
  where
    step : (r : Bool) → eq_by_cmp name_cmp b a ≡ r → length bs ≡ number_in bs a → suc (length bs) ≡ (if r then 0 else suc (number_in bs a))
    step true e more = absurd (n (subst (Contains (b ∷ bs)) (same_name b a e) (Contains-head b bs)))
    step false e more = ap suc more

pub number_is : (ns : List Activity) (a : Activity) (n : ℕ) → HaveOneNumber ns → slice_get ns n ≡ Some a → n ≡ number_in ns a
number_is ns a n one e = one n (number_in ns a) a e (number_there ns a (number_below ns a (in_list ns n a e)))

-- behind others more get numbers: one that had one keeps it
pub number_grown : (ns rest : List Activity) (a : Activity) → (number_in (ns ++ rest) a ≡ number_in ns a) ⊎ ((length ns ≤ number_in (ns ++ rest) a) × (length ns ≤ number_in ns a))
number_grown [] rest a = inr (omega arith, omega arith)
number_grown (b ∷ bs) rest a = step (eq_by_cmp name_cmp b a) (number_grown bs rest a)
  where
    step : (r : Bool) → (number_in (bs ++ rest) a ≡ number_in bs a) ⊎ ((length bs ≤ number_in (bs ++ rest) a) × (length bs ≤ number_in bs a)) → ((if r then 0 else suc (number_in (bs ++ rest) a)) ≡ (if r then 0 else suc (number_in bs a))) ⊎ ((suc (length bs) ≤ (if r then 0 else suc (number_in (bs ++ rest) a))) × (suc (length bs) ≤ (if r then 0 else suc (number_in bs a))))
    step true more = inl refl
    step false (inl e) = inl (ap suc e)
    step false (inr (l, m)) = inr (omega (arith, l), omega (arith, m))

pub have_one : (ns : List Activity) → Distinct ns → HaveOneNumber ns
have_one ns d i j a e f = one_number ns d i j a e f
