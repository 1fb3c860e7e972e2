-- One more element of a list is in its ranges.
use Rattle.std.specs.Prelude.{◌≡◌, ℕ, ◌+◌, ◌<◌, List, [], ◌∷◌, ◌++◌, length, take}
use Rattle.std.proofs.Common.{sym, ◌∙◌, ap, subst, get_or}
use Rattle.std.proofs.lemmas.List.{take_more}
use Rattle.std.specs.List.{AllByRecursion}
use Rattle.u_value.specs.Reading.{IsValue}
use Rattle.u_value.specs.declared.value.Value.{Value}
use Rattle.u_rule.specs.declared.firing.Firing.{Firing}
use Rattle.u_rule.specs.FiringReading.{AreValues, IsFiring}
use Rattle.u_delta.proofs.LineLaws.{all_append}

next_taken : {A : Type 0} (xs : List A) (i : ℕ) (x : A) → i < length xs → x ≡ get_or xs i x → take (i + 1) xs ≡ take i xs ++ (x ∷ [])
next_taken xs i x h e = take_more xs i x h ∙ ap (λ y. take i xs ++ (y ∷ [])) (sym e)

values_append : (vs : List Value) (v : Value) → AreValues vs → IsValue v → AreValues (vs ++ (v ∷ []))
values_append [] v a b = (b, tt)
values_append (w ∷ vs) v a b = (a.0, values_append vs v a.1 b)

pub values_more : (vs : List Value) (i : ℕ) (v : Value) → i < length vs → v ≡ get_or vs i v → AreValues (take i vs) → IsValue v → AreValues (take (i + 1) vs)
values_more vs i v h e a b = subst AreValues (sym (next_taken vs i v h e)) (values_append (take i vs) v a b)

pub firings_more : (fs : List Firing) (i : ℕ) (f : Firing) → i < length fs → f ≡ get_or fs i f → AllByRecursion IsFiring (take i fs) → IsFiring f → AllByRecursion IsFiring (take (i + 1) fs)
firings_more fs i f h e a b = subst (AllByRecursion IsFiring) (sym (next_taken fs i f h e)) (all_append IsFiring (take i fs) f a b)
