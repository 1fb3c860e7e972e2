-- Quoted texts, byte by byte.
use Rattle.std.proofs.Common.{◌≡◌, ℕ, ◌+◌, ◌<◌, List, [], ◌∷◌, ◌++◌, sym, ap, refl, ◌∙◌, append_assoc, length, take, get_or}
use Rattle.std.proofs.lemmas.List.{take_more}
use Rattle.std.specs.Prelude.{◌==◌, ◌||◌, if◌then◌else◌}
use Rattle.u_pictures.specs.Dot.{escaped}

abbrev one : ℕ → List ℕ
one b = if b == 34 || b == 92 then 92 ∷ b ∷ [] else b ∷ []

pub escaped-append : (a b : List ℕ) → escaped (a ++ b) ≡ escaped a ++ escaped b
escaped-append [] b = refl
escaped-append (x ∷ a) b = ap (λ t. one x ++ t) (escaped-append a b) ∙ sym (append_assoc (one x) (escaped a) (escaped b))

-- one byte more
pub escaped_more : (start bs : List ℕ) (i z : ℕ) → i < length bs → (start ++ escaped (take i bs)) ++ escaped (get_or bs i z ∷ []) ≡ start ++ escaped (take (i + 1) bs)
escaped_more start bs i z h =
    append_assoc start (escaped (take i bs)) (escaped (get_or bs i z ∷ []))
    ∙ ap (λ t. start ++ t) (sym (escaped-append (take i bs) (get_or bs i z ∷ [])))
    ∙ ap (λ t. start ++ escaped t) (sym (take_more bs i z h))
