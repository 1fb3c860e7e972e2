-- A choice by the first byte, once that byte is known.
use Rattle.std.specs.Prelude.{◌≡◌, ℕ, ◌⊎◌, cond, List, [], ◌∷◌, Result, Ok, Err, refl}
use Rattle.std.proofs.Common.{◌∙◌, ap, inl, inr}
use Rattle.u_base.specs.Reader.{Reader, ◌>>=◌}
use Rattle.u_base.proofs.PartsLaws.{alike, unlike, same_or}
use Rattle.u_base.specs.Choice.{mapped, choice}

-- an answer of a reader, and one of another value
abbrev pub ReadOf : Type 0 → Type 0
ReadOf A = Result (A × List ℕ) (List ℕ)

abbrev pub turned : {X Z : Type 0} → (X → Z) → ReadOf X → ReadOf Z
turned {X} {Z} f r = ◌>>=◌ {A = X × List ℕ} {B = Z × List ℕ} r (λ a. Ok (f a.0, a.1))

pub twice : {X Y Z : Type 0} (f : X → Y) (g : Y → Z) (r : ReadOf X) → turned g (turned f r) ≡ turned (λ x. g (f x)) r
twice f g (Ok a) = refl
twice f g (Err e) = refl

-- the bytes do not begin with this one
abbrev pub NotBehind : ℕ → List ℕ → Type 0
NotBehind c bs = (cs : List ℕ) → bs ≡ c ∷ cs → ⊥

pub taken : {X Y : Type 0} (c : ℕ) (P : Reader X) (Q : Reader Y) (cs : List ℕ) → choice c P Q (c ∷ cs) ≡ turned inl (P cs)
taken {X} {Y} c P Q cs =
    elim (same_or c c) [
      | alike e f ↦ ap (λ t. cond t (mapped {X = X} {Z = X ⊎ Y} inl P cs) (mapped {X = Y} {Z = X ⊎ Y} inr Q (c ∷ cs))) f
      | unlike e f ↦ absurd (e refl)
    ]

pub skipped : {X Y : Type 0} (c : ℕ) (P : Reader X) (Q : Reader Y) (bs : List ℕ) → NotBehind c bs → choice c P Q bs ≡ turned inr (Q bs)
skipped c P Q [] n = refl
skipped {X} {Y} c P Q (b ∷ bs) n =
    elim (same_or b c) [
      | alike e f ↦ absurd (n bs (ap (λ i. i ∷ bs) e))
      | unlike e f ↦ ap (λ t. cond t (mapped {X = X} {Z = X ⊎ Y} inl P bs) (mapped {X = Y} {Z = X ⊎ Y} inr Q (b ∷ bs))) f
    ]

pub chosen : {X Y Z : Type 0} (c : ℕ) (P : Reader X) (Q : Reader Y) (f : X ⊎ Y → Z) (bs cs : List ℕ) → bs ≡ c ∷ cs → mapped f (choice c P Q) bs ≡ mapped (λ x. f (inl x)) P cs
chosen c P Q f bs cs e = ap (λ t. turned f (choice c P Q t)) e ∙ ap (turned f) (taken c P Q cs) ∙ twice inl f (P cs)

pub passed : {X Y Z : Type 0} (c : ℕ) (P : Reader X) (Q : Reader Y) (f : X ⊎ Y → Z) (bs : List ℕ) → NotBehind c bs → mapped f (choice c P Q) bs ≡ mapped (λ y. f (inr y)) Q bs
passed c P Q f bs n = ap (turned f) (skipped c P Q bs n) ∙ twice inr f (Q bs)

pub begins_with : (b c : ℕ) (bs cs : List ℕ) → bs ≡ b ∷ cs → (b ≡ c → ⊥) → NotBehind c bs
begins_with b c bs cs e n ds f = n (let g : b ≡ c = cc in g)

pub begins_with_none : (c : ℕ) → NotBehind c []
begins_with_none c cs e = cc

-- whether the bytes begin with this one, with the fact
pub data FirstByte (c : ℕ) (bs : List ℕ) : Type 0 where
  behind : (cs : List ℕ) → bs ≡ c ∷ cs → FirstByte c bs
  other : NotBehind c bs → FirstByte c bs

pub first_byte : (c : ℕ) (bs : List ℕ) → FirstByte c bs
first_byte c [] = other (begins_with_none c)
first_byte c (b ∷ bs) =
    elim (same_or b c) [
      | alike e f ↦ behind bs (ap (λ i. i ∷ bs) e)
      | unlike e f ↦ other (begins_with b c (b ∷ bs) bs refl e)
    ]
