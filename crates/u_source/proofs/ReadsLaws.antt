-- Tokens read one behind another.
use Rattle.std.proofs.Common.{ℕ, List, [], ◌∷◌, ◌++◌, refl, subst}
use Rattle.u_source.specs.declared.place.Position.{Position}
use Rattle.u_source.specs.Tokens.{TokenParts}
use Rattle.u_source.specs.Lexing.{IsNext, Reads}

-- one token more
pub reads_more : (p : Position) (bs : List ℕ) (ts : List TokenParts) (q : Position) (cs : List ℕ) (t : TokenParts) (r : Position) (ds : List ℕ) → Reads p bs ts q cs → IsNext q cs t r ds → Reads p bs (ts ++ (t ∷ [])) r ds
reads_more p bs [] q cs t r ds h n =
    let m : IsNext p bs t r ds = subst (λ x. IsNext x bs t r ds) h.0 (subst (λ x. IsNext q x t r ds) h.1 n) in
    (r, ds, m, (refl, refl))
reads_more p bs (x ∷ xs) q cs t r ds h n = (h.0, h.1, h.2, reads_more h.0 h.1 xs q cs t r ds h.3 n)
