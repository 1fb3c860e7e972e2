-- Names read whole, and at an offset.
use Rattle.std.proofs.Common.{◌≡◌, ℕ, zero, suc, ◌-◌, ◌≤◌, ◌<◌, Bool, true, false, cond, List, [], ◌∷◌, length, drop, Result, Ok, Err, sym, ◌∙◌, ap, arith, inl, inr}
use Rattle.std.specs.Prelude.{◌==◌, ◌⊎◌}
use Rattle.u_base.specs.Reader.{◌>>=◌}
use Rattle.u_base.specs.Choice.{mapped}
use Rattle.u_base.proofs.PartsLaws.{alike, unlike, same_or}
use Rattle.u_base.proofs.TextAtLaws.{read_within, refused_within, whole_read, refused_whole, left_over, found_at, missing_at, found_within, missing_within}
use Rattle.u_name.specs.Name.{Activity}
use Rattle.u_name.specs.NameReader.{byte, opens_at, to_depth, name_steps, paren_span, dash_at, rest_at}
use Rattle.u_name.proofs.NameReaderLaws.{name_steps_Reads}
use Rattle.u_name.specs.NameReading.{IsNameOf, IsNameErrorOf, IsNameAt, IsNameErrorAt}
use Rattle.u_name.specs.declared.reading.NameTextError.TheVariants.{BadName}

pub name_whole : (bytes : List ℕ) (name : Activity) (rest : List ℕ) → name_steps bytes ≡ Ok (name, rest) → length rest ≡ 0 → IsNameOf bytes name
name_whole = whole_read name_steps_Reads

pub name_left_over : (bytes : List ℕ) (name : Activity) (rest : List ℕ) → paren_span 65 bytes ≤ 64 → name_steps bytes ≡ Ok (name, rest) → 0 < length rest → IsNameErrorOf bytes (BadName (length bytes - length rest))
name_left_over bytes name rest d e z = (left_over name_steps_Reads bytes name rest e z, d)

pub name_refused_whole : (bytes rest : List ℕ) → paren_span 65 bytes ≤ 64 → name_steps bytes ≡ Err rest → IsNameErrorOf bytes (BadName (length bytes - length rest))
name_refused_whole bytes rest d e = (refused_whole name_steps_Reads bytes rest e, d)

pub name_left_within : (bytes : List ℕ) (name : Activity) (rest : List ℕ) → name_steps bytes ≡ Ok (name, rest) → length rest ≤ length bytes
name_left_within = read_within name_steps_Reads

pub name_refused_within : (bytes rest : List ℕ) → name_steps bytes ≡ Err rest → length rest ≤ length bytes
name_refused_within = refused_within name_steps_Reads

pub name_found : (bytes : List ℕ) (offset : ℕ) (name : Activity) (rest : List ℕ) → offset ≤ length bytes → name_steps (drop offset bytes) ≡ Ok (name, rest) → IsNameAt bytes offset name (length bytes - length rest)
name_found = found_at name_steps_Reads

pub name_missing : (bytes : List ℕ) (offset : ℕ) (rest : List ℕ) → offset ≤ length bytes → name_steps (drop offset bytes) ≡ Err rest → paren_span 65 (drop offset bytes) ≤ 64 → IsNameErrorAt bytes offset (BadName (length bytes - length rest))
name_missing bytes offset rest h e d = (missing_at name_steps_Reads bytes offset rest h e, d)

pub name_found_within : (bytes : List ℕ) (offset : ℕ) (name : Activity) (rest : List ℕ) → name_steps (drop offset bytes) ≡ Ok (name, rest) → length rest ≤ length bytes
name_found_within = found_within name_steps_Reads

pub name_missing_within : (bytes : List ℕ) (offset : ℕ) (rest : List ℕ) → name_steps (drop offset bytes) ≡ Err rest → length rest ≤ length bytes
name_missing_within = missing_within name_steps_Reads

-- too many `(`

pub span_within : (room : ℕ) (bs : List ℕ) → paren_span room bs ≤ length bs
span_within zero bs = omega arith
span_within (suc n) [] = omega arith
span_within (suc n) (b ∷ bs) = step (b == 40) (span_within n bs)
  where
    step : (t : Bool) → paren_span n bs ≤ length bs → cond t (suc (paren_span n bs)) 0 ≤ length (b ∷ bs)
    step true h = omega arith
    step false h = omega arith

abbrev R : Type 0 → Type 0
R A = Result A (List ℕ)

no_dash : (n b : ℕ) (bs : List ℕ) → b ≡ 40 → ◌≡◌ {A = R (ℕ × List ℕ)} (mapped {X = Unit {0}} {Z = ℕ} (λ _. n) (byte 45) (b ∷ bs)) (Err (b ∷ bs))
no_dash n b bs e = ap (λ c. mapped {X = Unit {0}} {Z = ℕ} (λ _. n) (byte 45) (c ∷ bs)) e ∙ ap (λ c. Err (c ∷ bs)) (sym e)

pub opens_deep : (n : ℕ) (bs : List ℕ) → n < paren_span (suc n) bs → opens_at n bs ≡ Err (drop n bs)
opens_deep n [] h = absurd (omega arith)
opens_deep zero (b ∷ bs) h = elim (same_or b 40) [ alike e f ↦ no_dash 0 b bs e | unlike e f ↦ absurd (none f) ]
  where
    none : (b == 40) ≡ false → ⊥
    none f = let g : paren_span 1 (b ∷ bs) ≡ 0 = ap (λ t. cond t 1 0) f in omega arith
opens_deep (suc n) (b ∷ bs) h = step (λ k. opens_deep n bs k) (b == 40) h
  where
    step : (n < paren_span (suc n) bs → opens_at n bs ≡ Err (drop n bs)) → (t : Bool) → suc n < cond t (suc (paren_span (suc n) bs)) 0 →
        ◌≡◌ {A = R (ℕ × List ℕ)}
        (◌>>=◌ {A = (ℕ ⊎ Unit {0}) × List ℕ} {B = ℕ × List ℕ} (cond t (mapped {X = ℕ} {Z = ℕ ⊎ Unit {0}} inl (opens_at n) bs) (mapped {X = Unit {0}} {Z = ℕ ⊎ Unit {0}} inr (byte 45) (b ∷ bs))) (λ a. Ok (to_depth a.0, a.1)))
        (Err (drop n bs))
    step ih true h = ap (λ r. ◌>>=◌ {A = (ℕ ⊎ Unit {0}) × List ℕ} {B = ℕ × List ℕ} (◌>>=◌ {A = ℕ × List ℕ} {B = (ℕ ⊎ Unit {0}) × List ℕ} r (λ a. Ok (inl a.0, a.1))) (λ a. Ok (to_depth a.0, a.1))) (ih (omega arith))
    step ih false h = absurd (omega arith)

-- where 65 `(` stand the 65th is the byte that no text allows
pub stuck_deep : (bs : List ℕ) → 64 < paren_span 65 bs → name_steps bs ≡ Err (drop 64 bs)
unfolding dash_at
stuck_deep bs h = ap (λ r. ◌>>=◌ {A = ℕ × List ℕ} {B = Activity × List ℕ} r (λ d. rest_at d.0 d.1)) (opens_deep 64 bs h)

pub deep_within : (bs : List ℕ) → 64 < paren_span 65 bs → 64 ≤ length bs
deep_within bs h = omega (arith, span_within 65 bs)
