-- Entries by their numbers, which count from 1.
use Rattle.std.proofs.Common.{◌≡◌, ℕ, zero, suc, ◌+◌, ◌-◌, ◌≤◌, refl, sym, ap, ◌∙◌, arith, List, [], ◌∷◌, ◌++◌, length, Some}
use Rattle.std.specs.Prelude.{slice_get}
use Rattle.std.proofs.lemmas.Option.{get_or_from_slice_get}
use Rattle.std.proofs.lemmas.List.{get_or_append_left}
use Rattle.std.proofs.Math.Seq.{get_or-append_seam}
use Rattle.u_compile.specs.Placed.{entry}

pub entry_there : {A : Type 0} (d : A) (xs : List A) (n : ℕ) (x : A) → 1 ≤ n → slice_get xs (n - 1) ≡ Some x → x ≡ entry d xs n
entry_there d xs zero x h e = absurd (omega (arith, h))
entry_there d xs (suc n) x h e =
    let q : suc n - 1 ≡ n = omega arith in
    sym (get_or_from_slice_get xs n x d (ap (slice_get xs) (sym q) ∙ e))

-- what was there keeps its number, and what is added has the next one
pub entry_more : {A : Type 0} (d : A) (xs : List A) (x : A) (n : ℕ) → n ≤ length xs → entry d (xs ++ (x ∷ [])) n ≡ entry d xs n
entry_more d xs x zero h = refl
entry_more d xs x (suc n) h = get_or_append_left xs (x ∷ []) d n (omega (arith, h))

pub entry_last : {A : Type 0} (d : A) (xs : List A) (x : A) → entry d (xs ++ (x ∷ [])) (length xs + 1) ≡ x
entry_last d xs x =
    let q : length xs + 1 ≡ suc (length xs) = omega arith in
    ap (entry d (xs ++ (x ∷ []))) q ∙ get_or-append_seam xs x [] d
