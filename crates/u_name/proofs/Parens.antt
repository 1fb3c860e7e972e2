-- How many `(` stand at the front, byte by byte.
use Rattle.std.proofs.Common.{◌≡◌, ℕ, zero, suc, ◌+◌, ◌-◌, ◌<◌, cond, List, [], ◌∷◌, refl, ◌∙◌, ap, arith, length, eqb}
use Rattle.std.proofs.lemmas.Bool.{ne_eqb}
use Rattle.u_name.specs.NameReader.{paren_span}

pub paren_step : (len c : ℕ) (cs : List ℕ) → len < 65 → c ≡ 40 → paren_span (65 - len) (c ∷ cs) ≡ paren_span (65 - (len + 1)) cs + 1
paren_step len c cs lt h =
    let e : 65 - len ≡ suc (65 - (len + 1)) = omega arith in
    ap (λ n. paren_span n (c ∷ cs)) e ∙ ap (λ i. cond (eqb i 40) (suc (paren_span (65 - (len + 1)) cs)) 0) h ∙ omega arith

pub paren_stop : (room c : ℕ) (cs : List ℕ) → (c ≡ 40 → ⊥) → paren_span room (c ∷ cs) ≡ 0
paren_stop zero c cs h = refl
paren_stop (suc n) c cs h = ap (λ t. cond t (suc (paren_span n cs)) 0) (ne_eqb c 40 h)

pub paren_full : (len : ℕ) (cs : List ℕ) → len ≡ 65 → paren_span (65 - len) cs ≡ 0
paren_full len cs h = ap (λ n. paren_span (65 - n) cs) h

pub paren_empty : (room : ℕ) (cs : List ℕ) → length cs ≡ 0 → paren_span room cs ≡ 0
paren_empty zero cs h = refl
paren_empty (suc n) [] h = refl
paren_empty (suc n) (c ∷ cs) h = absurd (omega arith)
