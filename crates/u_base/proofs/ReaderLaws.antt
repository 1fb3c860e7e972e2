-- What it is to read the longest text at the front of some bytes, and how a chain of readers comes to its answer.
use Rattle.std.specs.Prelude.{◌≡◌, ℕ, ◌⊎◌, List, [], ◌∷◌, ◌++◌, Result, Ok, Err, refl}
use Rattle.std.proofs.Common.{sym, ◌∙◌, ap, inl, inr, length, length-append, arith}
use Rattle.u_base.specs.Reader.{◌>>=◌}

-- P reads the language of the texts of the valid values. Only bytes of More can go on behind a whole text.
pub record Reads {X : Type 0} (text : X → List ℕ) (Valid : X → Type 0) (More : ℕ → Type 0) (P : List ℕ → Result (X × List ℕ) (List ℕ)) : Type 0 where
  -- what is read is a value, its text, and the rest
  pub sound : (bs : List ℕ) (x : X) (rest : List ℕ) → P bs ≡ Ok (x, rest) → Valid x × (bs ≡ text x ++ rest)
  -- and no text goes on behind it with the next byte
  pub stops : (bs : List ℕ) (x : X) (c : ℕ) (r : List ℕ) → P bs ≡ Ok (x, c ∷ r) → (y : X) (u : List ℕ) → Valid y → text y ≡ text x ++ (c ∷ u) → ⊥
  -- what comes before a refusal begins a text
  pub viable : (bs rest : List ℕ) → P bs ≡ Err rest → (p : List ℕ) × (y : X) × (s : List ℕ) × (bs ≡ p ++ rest) × Valid y × (text y ≡ p ++ s)
  -- and with the next byte it doesn't
  pub stuck : (bs p : List ℕ) (c : ℕ) (r : List ℕ) → P bs ≡ Err (c ∷ r) → bs ≡ p ++ (c ∷ r) → (y : X) (u : List ℕ) → Valid y → text y ≡ p ++ (c ∷ u) → ⊥
  -- where it refuses, no text stands at the front
  pub none : (bs rest : List ℕ) → P bs ≡ Err rest → (y : X) (r : List ℕ) → Valid y → bs ≡ text y ++ r → ⊥
  -- behind a text another can go on only with a byte of More
  pub grows : (x y : X) (c : ℕ) (u : List ℕ) → Valid x → Valid y → text x ≡ text y ++ (c ∷ u) → More c
  -- one text, one value
  pub same : (x y : X) → Valid x → Valid y → text x ≡ text y → x ≡ y
  pub some : (x : X) × Valid x

-- two ways to cut a list
pub data Cut (a s b t : List ℕ) : Type 0 where
  longer : (c : ℕ) (u : List ℕ) → a ≡ b ++ (c ∷ u) → t ≡ (c ∷ u) ++ s → Cut a s b t
  equal : a ≡ b → s ≡ t → Cut a s b t
  shorter : (c : ℕ) (u : List ℕ) → b ≡ a ++ (c ∷ u) → s ≡ (c ∷ u) ++ t → Cut a s b t

pub heads : (x y : ℕ) (a b : List ℕ) → x ∷ a ≡ y ∷ b → x ≡ y
heads x y a b h = cc

tails : (x y : ℕ) (a b : List ℕ) → x ∷ a ≡ y ∷ b → a ≡ b
tails x y a b h = cc

cut_more : (x y : ℕ) (a s b t : List ℕ) → x ≡ y → Cut a s b t → Cut (x ∷ a) s (y ∷ b) t
cut_more x y a s b t e (longer c u p q) = longer c u (cc) q
cut_more x y a s b t e (equal p q) = equal (cc) q
cut_more x y a s b t e (shorter c u p q) = shorter c u (cc) q

pub cut : (a s b t : List ℕ) → a ++ s ≡ b ++ t → Cut a s b t
cut [] s [] t h = equal refl h
cut [] s (y ∷ b) t h = shorter y b refl h
cut (x ∷ a) s [] t h = longer x a refl (sym h)
cut (x ∷ a) s (y ∷ b) t h = cut_more x y a s b t (heads x y (a ++ s) (b ++ t) h) (cut a s b t (tails x y (a ++ s) (b ++ t) h))

-- how a chain of two readers comes to its answer
pub bind_ok : {A B : Type 0} (r : Result A (List ℕ)) (f : A → Result B (List ℕ)) (y : B) → (r >>= f) ≡ Ok y → (x : A) × (r ≡ Ok x) × (f x ≡ Ok y)
bind_ok (Ok x) f y h = (x, refl, h)
bind_ok (Err e) f y h = cc

pub bind_err : {A B : Type 0} (r : Result A (List ℕ)) (f : A → Result B (List ℕ)) (e : List ℕ) → (r >>= f) ≡ Err e → (r ≡ Err e) ⊎ ((x : A) × (r ≡ Ok x) × (f x ≡ Err e))
bind_err (Ok x) f e h = inr (x, refl, h)
bind_err (Err d) f e h = inl (cc)

pub ok_same : {A : Type 0} (a b : A) → ◌≡◌ {A = Result A (List ℕ)} (Ok a) (Ok b) → a ≡ b
ok_same a b h = cc

pub ok_err : {A : Type 0} (a : A) (e : List ℕ) → ◌≡◌ {A = Result A (List ℕ)} (Ok a) (Err e) → ⊥
ok_err a e h = cc

pub pair : {A B : Type 0} {a c : A} {b d : B} → a ≡ c → b ≡ d → ◌≡◌ {A = A × B} (a, b) (c, d)
pair {A} {B} {a} {c} {b} {d} e f = ap (λ x. (x, b)) e ∙ ap (λ y. (c, y)) f

pub longer_than_itself : (p : List ℕ) (d : ℕ) (r : List ℕ) → r ≡ p ++ (d ∷ r) → ⊥
longer_than_itself p d r h = let e = ap length h in omega (arith, length-append p (d ∷ r))
