-- Texts put together from their parts.
use Rattle.std.proofs.Common.{◌≡◌, ℕ, List, [], ◌∷◌, ◌++◌, append_assoc}
use Rattle.std.specs.Fmt.{decimal}
use Rattle.u_name.specs.NameText.{name_text}
use Rattle.u_value.specs.Pointer.{Pointer}
use Rattle.u_value.specs.Values.{pointer_text}

pub proc_more : (xs block : List ℕ) → (xs ++ (64 ∷ [])) ++ block ≡ xs ++ (64 ∷ block)
proc_more xs block = simp append_assoc

pub pointer_more : (xs : List ℕ) (p : Pointer) → ((xs ++ (38 ∷ [])) ++ name_text p.name) ++ (35 ∷ decimal p.length) ≡ xs ++ pointer_text p
unfolding pointer_text
pointer_more xs p = simp append_assoc
