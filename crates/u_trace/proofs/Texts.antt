-- Texts one after another.
use Rattle.std.proofs.Common.{◌≡◌, ℕ, zero, suc, ◌+◌, ◌-◌, ◌≤◌, ◌<◌, arith, List, [], ◌∷◌, ◌++◌, sym, ap, refl, ◌∙◌, append_assoc, length, take, get_or, map}
use Rattle.std.proofs.lemmas.List.{take_more}
use Rattle.std.proofs.lemmas.List.{append-nil}
use Rattle.u_base.specs.Spaced.{ended}
use Rattle.u_trace.specs.Text.{port_text, ports_from}
use Rattle.u_trace.specs.declared.ports.Ports.{Ports}

pub join2 : (o a b n1 n2 : List ℕ) → n1 ≡ o ++ a → n2 ≡ n1 ++ b → n2 ≡ o ++ (a ++ b)
join2 o a b n1 n2 p q = rw (q, p) (append_assoc o a b)

pub join4 : (o a b c d n1 n2 n3 n4 : List ℕ) → n1 ≡ o ++ a → n2 ≡ n1 ++ b → n3 ≡ n2 ++ c → n4 ≡ n3 ++ d → n4 ≡ o ++ (a ++ (b ++ (c ++ d)))
join4 o a b c d n1 n2 n3 n4 p q r s = rw (s, r, q, p) (simp append_assoc)

module _ {X : Type 0} (f : X → List ℕ) where
  lines_push : (xs : List X) (x : X) → ended (map f (xs ++ x ∷ [])) ≡ ended (map f xs) ++ (f x ++ (10 ∷ []))
  lines_push [] x = refl
  lines_push (y ∷ xs) x = ap (λ (t : List ℕ). f y ++ (10 ∷ t)) (lines_push xs x) ∙ sym (append_assoc (f y) (10 ∷ ended (map f xs)) (f x ++ (10 ∷ [])))

  -- one line more
  pub lines_more : (xs : List X) (i : ℕ) (x : X) (o old mid new : List ℕ) → i < length xs → x ≡ get_or xs i x → old ≡ o ++ ended (map f (take i xs)) → mid ≡ old ++ f x → new ≡ mid ++ (10 ∷ []) → new ≡ o ++ ended (map f (take (i + 1) xs))
  lines_more xs i x o old mid new l at p q r = rw (take_more xs i x l, ← at, lines_push (take i xs) x, r, q, p) (simp append_assoc)

-- the text of one port more
ports_more : (p : Ports) (k n : ℕ) → ports_from p k (suc n) ≡ ports_from p k n ++ port_text p (k + n)
ports_more p k zero = let e : k ≡ k + 0 = omega arith in append-nil (port_text p k) ∙ ap (port_text p) e
ports_more p k (suc n) =
    let e : k + 1 + n ≡ k + suc n = omega arith in
    ap (λ (t : List ℕ). port_text p k ++ t) (ports_more p (k + 1) n ∙ ap (λ (i : ℕ). ports_from p (k + 1) n ++ port_text p i) e) ∙ sym (append_assoc (port_text p k) (ports_from p (k + 1) n) (port_text p (k + suc n)))

pub ports_next : (p : Ports) (o old new : List ℕ) (n : ℕ) → 1 ≤ n → old ≡ o ++ ports_from p 1 (n - 1) → new ≡ old ++ port_text p n → new ≡ o ++ ports_from p 1 (n + 1 - 1)
ports_next p o old new n low is step =
    let e : 1 + (n - 1) ≡ n = omega (arith, low) in
    let f : suc (n - 1) ≡ n + 1 - 1 = omega (arith, low) in
    step ∙ ap (λ (t : List ℕ). t ++ port_text p n) is ∙ append_assoc o (ports_from p 1 (n - 1)) (port_text p n)
    ∙ ap (λ (i : ℕ). o ++ (ports_from p 1 (n - 1) ++ port_text p i)) (sym e)
    ∙ ap (λ (t : List ℕ). o ++ t) (sym (ports_more p 1 (n - 1)))
    ∙ ap (λ (i : ℕ). o ++ ports_from p 1 i) f
