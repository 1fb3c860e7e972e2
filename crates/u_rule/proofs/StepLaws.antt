-- One reader after another, once the answer of the first is known.
use Rattle.std.specs.Prelude.{◌≡◌, ℕ, List, Ok, Err, refl}
use Rattle.std.proofs.Common.{◌∙◌, ap}
use Rattle.u_base.specs.Reader.{Reader, ◌>>=◌}
use Rattle.u_base.specs.Parts.{after_byte, lead}
use Rattle.u_base.specs.Then.{both}
use Rattle.u_base.specs.Choice.{mapped}
use Rattle.u_rule.proofs.FirstByteLaws.{ReadOf, turned}

abbrev goes_on : {X Y : Type 0} → (X → Reader Y) → ReadOf X → ReadOf (X × Y)
goes_on {X} {Y} Q r = ◌>>=◌ {A = X × List ℕ} {B = (X × Y) × List ℕ} r (λ a. ◌>>=◌ {A = Y × List ℕ} {B = (X × Y) × List ℕ} (Q a.0 a.1) (λ b. Ok ((a.0, b.0), b.1)))

module _ {X Y Z : Type 0} (P : Reader X) (Q : X → Reader Y) where
  beside : (f : X × Y → Z) (x : X) (r : ReadOf Y) → turned {X = X × Y} {Z = Z} f (◌>>=◌ {A = Y × List ℕ} {B = (X × Y) × List ℕ} r (λ b. Ok ((x, b.0), b.1))) ≡ turned (λ y. f (x, y)) r
  beside f x (Ok b) = refl
  beside f x (Err e) = refl

  pub both_ok : (f : X × Y → Z) (bs : List ℕ) (x : X) (rest : List ℕ) → P bs ≡ Ok (x, rest) → mapped f (both P Q) bs ≡ mapped (λ y. f (x, y)) (Q x) rest
  both_ok f bs x rest h = ap (λ r. turned {X = X × Y} {Z = Z} f (goes_on Q r)) h ∙ beside f x (Q x rest)

  pub both_err : (f : X × Y → Z) (bs rest : List ℕ) → P bs ≡ Err rest → mapped f (both P Q) bs ≡ Err rest
  both_err f bs rest h = ap (λ r. turned {X = X × Y} {Z = Z} f (goes_on Q r)) h

module _ {X Y : Type 0} (c : ℕ) (P : Reader X) (Q : X → Reader Y) where
  led_both : (r : ReadOf (Unit {0})) → ◌≡◌ {A = ReadOf (X × Y)} (◌>>=◌ {A = Unit {0} × List ℕ} {B = (X × Y) × List ℕ} r (λ a. both P Q a.1)) (goes_on Q (◌>>=◌ {A = Unit {0} × List ℕ} {B = X × List ℕ} r (λ a. P a.1)))
  led_both (Ok a) = refl
  led_both (Err e) = refl

  -- a byte before both is one before the first
  pub lead_both : (bs : List ℕ) → lead c (both P Q) bs ≡ both (lead c P) Q bs
  lead_both bs = led_both (after_byte c bs)
