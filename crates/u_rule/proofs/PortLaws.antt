-- The reader of ports reads the longest text.
use Rattle.std.specs.Prelude.{◌≡◌, ℕ, ◌+◌, ◌-◌, ◌≤◌, ◌⊎◌, Bool, true, false, List, [], ◌∷◌, ◌++◌, length, decimal, Ok, Err, refl}
use Rattle.std.proofs.Common.{sym, ◌∙◌, ap, inl, inr, arith, length-append}
use Rattle.std.proofs.lemmas.Bool.Decides.{nat_tests}
use Rattle.std.proofs.lemmas.Fmt.{decimal_digit}
use Rattle.u_base.proofs.ReaderLaws.{Reads, ok_same, ok_err}
use Rattle.u_base.proofs.PartsLaws.{NoByte}
use Rattle.u_name.specs.Context.{IsBetween}
use Rattle.u_rule.specs.Parts.{most_ports}
use Rattle.u_rule.specs.EntryReading.{is_port_digit, port_by, port_at}

-- the digit of a port
abbrev IsPortDigit : ℕ → Type 0
IsPortDigit c = IsBetween 49 c (48 + most_ports)

-- by whether the byte is one
record Tried (c : ℕ) (cs : List ℕ) (b : Bool) : Type 0 where
  tried : (IsPortDigit c × (port_by b c cs ≡ Ok (c - 48, cs))) ⊎ ((IsPortDigit c → ⊥) × (port_by b c cs ≡ Err (c ∷ cs)))

tried_as : (c : ℕ) (cs : List ℕ) (b : Bool) → is_port_digit c ≡ b → Tried c cs b
tried_as c cs true h = record { tried = inl ((grind (arith, nat_tests, h), grind (arith, nat_tests, h)), refl) }
tried_as c cs false h = record { tried = inr ((λ i. grind (arith, nat_tests, h, i.0, i.1)), refl) }

tried : (c : ℕ) (cs : List ℕ) → Tried c cs (is_port_digit c)
tried c cs = tried_as c cs (is_port_digit c) refl

-- the text of a port is its digit
spelled : (n : ℕ) → IsBetween 1 n most_ports → decimal n ≡ (48 + n) ∷ []
spelled n v = decimal_digit n (omega (arith, v.1))

one_byte : (n : ℕ) → IsBetween 1 n most_ports → length (decimal n) ≡ 1
one_byte n v = ap length (spelled n v)

nothing_longer : (x y : ℕ) (c : ℕ) (u : List ℕ) → IsBetween 1 x most_ports → IsBetween 1 y most_ports → decimal y ≡ decimal x ++ (c ∷ u) → ⊥
nothing_longer x y c u v w e = omega (arith, one_byte x v, one_byte y w, ap length e, length-append (decimal x) (c ∷ u))

abbrev IsPort : ℕ → Type 0
IsPort n = IsBetween 1 n most_ports

port_sound : (bs : List ℕ) (x : ℕ) (rest : List ℕ) → port_at bs ≡ Ok (x, rest) → IsPort x × (bs ≡ decimal x ++ rest)
port_sound [] x rest h = absurd (ok_err (x, rest) [] (sym h))
port_sound (c ∷ cs) x rest h = elim ((tried c cs).tried) [
  | inl (d, e) ↦ found d (ok_same (c - 48, cs) (x, rest) (sym e ∙ h))
  | inr (d, e) ↦ absurd (ok_err (x, rest) (c ∷ cs) (sym h ∙ e))
]
  where
    found : IsPortDigit c → ◌≡◌ {A = ℕ × List ℕ} (c - 48, cs) (x, rest) → IsPort x × (c ∷ cs ≡ decimal x ++ rest)
    found d e =
        let n : c - 48 ≡ x = ap (λ (p : ℕ × List ℕ). p.0) e in
        let r : cs ≡ rest = ap (λ (p : ℕ × List ℕ). p.1) e in
        let v : IsPort x = (omega (arith, n, d.0, d.1), omega (arith, n, d.0, d.1)) in
        let f : 48 + x ≡ c = omega (arith, n, d.0) in
        (v, ap (λ (b : ℕ). b ∷ cs) (sym f) ∙ ap (λ (t : List ℕ). (48 + x) ∷ t) r ∙ ap (λ (t : List ℕ). t ++ rest) (sym (spelled x v)))

port_refused : (bs rest : List ℕ) → port_at bs ≡ Err rest → rest ≡ bs
port_refused [] rest h = cc
port_refused (c ∷ cs) rest h = elim ((tried c cs).tried) [
  | inl (d, e) ↦ absurd (ok_err (c - 48, cs) rest (sym e ∙ h))
  | inr (d, e) ↦ cc
]

port_read : (n : ℕ) (u : List ℕ) → IsPort n → port_at (decimal n ++ u) ≡ Ok (n, u)
port_read n u v = ap (λ (t : List ℕ). port_at (t ++ u)) (spelled n v) ∙ elim ((tried (48 + n) u).tried) [
  | inl (d, e) ↦ e ∙ ap (λ (m : ℕ). Ok (m, u)) (let k : (48 + n) - 48 ≡ n = omega arith in k)
  | inr (d, e) ↦ absurd (d (omega (arith, v.0), omega (arith, v.1)))
]

port_none : (bs rest : List ℕ) → port_at bs ≡ Err rest → (y : ℕ) (r : List ℕ) → IsPort y → bs ≡ decimal y ++ r → ⊥
port_none bs rest h y r v e = ok_err (y, r) rest (sym (port_read y r v) ∙ ap port_at (sym e) ∙ h)

port_stuck : (bs p : List ℕ) (c : ℕ) (r : List ℕ) → port_at bs ≡ Err (c ∷ r) → bs ≡ p ++ (c ∷ r) → (y : ℕ) (u : List ℕ) → IsPort y → decimal y ≡ p ++ (c ∷ u) → ⊥
port_stuck bs [] c r h e y u v t =
    let k : (48 + y) ∷ [] ≡ c ∷ u = sym (spelled y v) ∙ t in
    let f : 48 + y ≡ c = cc in
    port_none bs (c ∷ r) h y r v (e ∙ ap (λ (b : ℕ). b ∷ r) (sym f) ∙ ap (λ (w : List ℕ). w ++ r) (sym (spelled y v)))
port_stuck bs (q ∷ p) c r h e y u v t = omega (arith, ap length (port_refused bs (c ∷ r) h), ap length e, length-append p (c ∷ r))

pub port_Reads : Reads decimal IsPort NoByte port_at
port_Reads = record {
  sound = port_sound;
  stops = λ bs x c r h y u v e. nothing_longer x y c u (port_sound bs x (c ∷ r) h).0 v e;
  viable = λ bs rest h. ([], 1, decimal 1, sym (port_refused bs rest h), (omega arith, omega arith), refl);
  stuck = port_stuck;
  none = port_none;
  grows = λ x y c u v w e. nothing_longer y x c u w v e;
  same = λ x y v w e. (let k : (48 + x) ∷ [] ≡ (48 + y) ∷ [] = sym (spelled x v) ∙ e ∙ spelled y w in let f : 48 + x ≡ 48 + y = cc in omega (arith, f));
  some = (1, (omega arith, omega arith));
}

-- what the code finds by the first byte

pub digit_read : (bs : List ℕ) (c : ℕ) (cs : List ℕ) → bs ≡ c ∷ cs → 49 ≤ c → c ≤ 48 + most_ports → port_at bs ≡ Ok (c - 48, cs)
digit_read bs c cs e low high = ap port_at e ∙ elim ((tried c cs).tried) [ inl (d, k) ↦ k | inr (d, k) ↦ absurd (d (low, high)) ]

pub other_refused : (bs : List ℕ) (c : ℕ) (cs : List ℕ) → bs ≡ c ∷ cs → ((49 ≤ c) × (c ≤ 48 + most_ports) → ⊥) → port_at bs ≡ Err bs
other_refused bs c cs e not = ap port_at e ∙ elim ((tried c cs).tried) [ inl (d, k) ↦ absurd (not d) | inr (d, k) ↦ k ∙ ap (λ (t : List ℕ). Err t) (sym e) ]
