-- The readers of nothing, and of a byte in front, read the longest text.
use Rattle.std.specs.Prelude.{◌≡◌, ℕ, ◌⊎◌, Bool, true, false, cond, ◌==◌, List, [], ◌∷◌, ◌++◌, Result, Ok, Err, refl}
use Rattle.std.proofs.Common.{sym, ◌∙◌, ap, inl, inr, arith}
use Rattle.std.proofs.lemmas.Bool.Decides.{nat_tests}
use Rattle.u_base.proofs.ReaderLaws.{Reads, ok_same, ok_err, longer_than_itself}
use Rattle.u_base.specs.Reader.{◌>>=◌}
use Rattle.u_base.specs.Parts.{empty, lead}

abbrev pub NoByte : ℕ → Type 0
NoByte c = ⊥

-- whether two bytes are the same, with the fact
pub data Same (b c : ℕ) : Type 0 where
  alike : b ≡ c → (b == c) ≡ true → Same b c
  unlike : (b ≡ c → ⊥) → (b == c) ≡ false → Same b c

split_same : (b c : ℕ) (t : Bool) → (b == c) ≡ t → Same b c
split_same b c true h = alike (grind (arith, nat_tests)) h
split_same b c false h = unlike (λ e. grind (arith, nat_tests)) h

pub same_or : (b c : ℕ) → Same b c
same_or b c = split_same b c (b == c) refl

pub empty_Reads : {X : Type 0} (x : X) → Reads (λ (z : X). []) (λ z. z ≡ x) NoByte (empty x)
empty_Reads {X} x = record {
  sound = λ bs z rest h. let e = ok_same (x, bs) (z, rest) h in (sym (ap (λ t. t.0) e), ap (λ t. t.1) e);
  stops = λ bs z c r h y u v e. cc;
  viable = λ bs rest h. absurd (ok_err (x, bs) rest h);
  stuck = λ bs p c r h k y u v e. ok_err (x, bs) (c ∷ r) h;
  none = λ bs rest h y r v e. ok_err (x, bs) rest h;
  grows = λ a b c u v w e. cc;
  same = λ a b v w e. v ∙ sym w;
  some = (x, refl);
}

-- more bytes may go on than do
pub widened : {X : Type 0} {text : X → List ℕ} {V : X → Type 0} {More More' : ℕ → Type 0} {P : List ℕ → Result (X × List ℕ) (List ℕ)} → ((c : ℕ) → More c → More' c) → Reads text V More P → Reads text V More' P
widened w p = record {
  sound = p.sound;
  stops = p.stops;
  viable = p.viable;
  stuck = p.stuck;
  none = p.none;
  grows = λ x y c u v k e. w c (p.grows x y c u v k e);
  same = p.same;
  some = p.some;
}

module _ {X : Type 0} {text : X → List ℕ} {V : X → Type 0} {More : ℕ → Type 0} {P : List ℕ → Result (X × List ℕ) (List ℕ)} (c : ℕ) (p : Reads text V More P) where
  abbrev chosen : Bool → List ℕ → List ℕ → Result (X × List ℕ) (List ℕ)
  chosen t bs cs = ◌>>=◌ {A = Unit {0} × List ℕ} {B = X × List ℕ} (cond t (Ok (tt, cs)) (Err bs)) (λ a. P a.1)

  -- what the answer came from
  lead_ok : (bs : List ℕ) (z : X × List ℕ) → lead c P bs ≡ Ok z → (t : List ℕ) × (bs ≡ c ∷ t) × (P t ≡ Ok z)
  lead_ok [] z h = cc
  lead_ok (b ∷ t) z h =
      elim (same_or b c) [
        | alike e f ↦ (t, ap (λ i. i ∷ t) e, ap (λ i. chosen i (b ∷ t) t) (sym f) ∙ h)
        | unlike e f ↦ absurd (ok_err z (b ∷ t) (sym h ∙ ap (λ i. chosen i (b ∷ t) t) f))
      ]

  lead_err : (bs rest : List ℕ) → lead c P bs ≡ Err rest → ((t : List ℕ) × (bs ≡ c ∷ t) × (P t ≡ Err rest)) ⊎ ((bs ≡ rest) × ((u : List ℕ) → bs ≡ c ∷ u → ⊥))
  lead_err [] rest h = inr (cc, λ u e. cc)
  lead_err (b ∷ t) rest h =
      elim (same_or b c) [
        | alike e f ↦ inl (t, ap (λ i. i ∷ t) e, ap (λ i. chosen i (b ∷ t) t) (sym f) ∙ h)
        | unlike e f ↦ let g : ◌≡◌ {A = Result (X × List ℕ) (List ℕ)} (Err (b ∷ t)) (Err rest) = ap (λ i. chosen i (b ∷ t) t) (sym f) ∙ h in inr (cc, λ u k. e cc)
      ]

  abbrev led : X → List ℕ
  led x = c ∷ text x

  lead_viable : (bs rest : List ℕ) → lead c P bs ≡ Err rest → (s : List ℕ) × (y : X) × (t : List ℕ) × (bs ≡ s ++ rest) × V y × (led y ≡ s ++ t)
  lead_viable bs rest h =
      elim (lead_err bs rest h) [
        | inl a ↦ let b = p.viable a.0 rest a.2 in (c ∷ b.0, b.1, b.2, a.1 ∙ ap (λ t. c ∷ t) b.3, b.4, ap (λ t. c ∷ t) b.5)
        | inr a ↦ ([], p.some.0, led p.some.0, a.0, p.some.1, refl)
      ]

  lead_stuck : (bs s : List ℕ) (d : ℕ) (r : List ℕ) → lead c P bs ≡ Err (d ∷ r) → bs ≡ s ++ (d ∷ r) → (y : X) (u : List ℕ) → V y → led y ≡ s ++ (d ∷ u) → ⊥
  lead_stuck bs s d r h k y u v e =
      elim (lead_err bs (d ∷ r) h) [
        | inl a ↦ inside a.0 a.1 a.2 s k e
        | inr a ↦ outside s a.0 a.1 k e
      ]
    where
      inside : (t : List ℕ) → bs ≡ c ∷ t → P t ≡ Err (d ∷ r) → (s : List ℕ) → bs ≡ s ++ (d ∷ r) → led y ≡ s ++ (d ∷ u) → ⊥
      inside t a b [] k e =
          let w = p.viable t (d ∷ r) b in
          let l : r ≡ w.0 ++ (d ∷ r) = cc in
          longer_than_itself w.0 d r l
      inside t a b (i ∷ s) k e = let f : t ≡ s ++ (d ∷ r) = cc in let g : text y ≡ s ++ (d ∷ u) = cc in p.stuck t s d r b f y u v g

      outside : (s : List ℕ) → bs ≡ d ∷ r → ((w : List ℕ) → bs ≡ c ∷ w → ⊥) → bs ≡ s ++ (d ∷ r) → led y ≡ s ++ (d ∷ u) → ⊥
      outside [] a b k e = let f : d ≡ c = cc in b r (a ∙ ap (λ i. i ∷ r) f)
      outside (i ∷ s) a b k e = let f : i ≡ c = cc in b (s ++ (d ∷ r)) (k ∙ ap (λ i. i ∷ (s ++ (d ∷ r))) f)

  pub lead_Reads : Reads led V More (lead c P)
  lead_Reads = record {
    sound = λ bs x rest h. let a = lead_ok bs (x, rest) h in let b = p.sound a.0 x rest a.2 in (b.0, a.1 ∙ ap (λ t. c ∷ t) b.1);
    stops = λ bs x d r h y u v e. let a = lead_ok bs (x, d ∷ r) h in let f : text y ≡ text x ++ (d ∷ u) = cc in p.stops a.0 x d r a.2 y u v f;
    viable = lead_viable;
    stuck = lead_stuck;
    none = λ bs rest h y r v e. elim (lead_err bs rest h) [ inl a ↦ let f : a.0 ≡ text y ++ r = cc in p.none a.0 rest a.2 y r v f | inr a ↦ a.1 (text y ++ r) e ];
    grows = λ x y d u v w e. p.grows x y d u v w (let f : text x ≡ text y ++ (d ∷ u) = cc in f);
    same = λ x y v w e. p.same x y v w (let f : text x ≡ text y = cc in f);
    some = p.some;
  }
