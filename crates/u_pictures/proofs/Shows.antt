-- The lines of what is shown, one after another.
use Rattle.std.proofs.Common.{◌≡◌, ℕ, suc, ◌+◌, ◌<◌, List, [], ◌∷◌, ◌++◌, sym, ap, refl, ◌∙◌, append_assoc, length, take, get_or, map, arith}
use Rattle.std.proofs.lemmas.List.{take_more, append-nil, map-append, length-take-le}
use Rattle.std.specs.List.{flat_map}
use Rattle.u_pictures.specs.Dot.{Attribute, attribute_text, attributes_text, Shown, shown_line, text, numbered}

pub text-append : (a b : List Shown) → text (a ++ b) ≡ text a ++ text b
text-append [] b = refl
text-append (s ∷ a) b = ap (λ t. shown_line s ++ t) (text-append a b) ∙ sym (append_assoc (shown_line s) (text a) (text b))

-- one thing more
pub text_more : (shown : List Shown) (s : Shown) (o old new : List ℕ) → old ≡ o ++ text shown → new ≡ old ++ shown_line s → new ≡ o ++ text (shown ++ (s ∷ []))
text_more shown s o old new p q =
    q ∙ ap (λ t. t ++ shown_line s) p ∙ append_assoc o (text shown) (shown_line s)
    ∙ ap (λ t. o ++ (text shown ++ t)) (sym (append-nil (shown_line s)))
    ∙ ap (λ t. o ++ t) (sym (text-append shown (s ∷ [])))

module _ {X : Type 0} where
  pub numbered-append : (show : ℕ → X → Shown) (n : ℕ) (xs : List X) (x : X) → numbered show n (xs ++ (x ∷ [])) ≡ numbered show n xs ++ (show (n + length xs) x ∷ [])
  numbered-append show n [] x = ap (λ k. show k x ∷ []) (omega arith)
  numbered-append show n (y ∷ xs) x =
      ap (λ t. show n y ∷ t) (numbered-append show (suc n) xs x)
      ∙ ap (λ k. show n y ∷ (numbered show (suc n) xs ++ (show k x ∷ []))) (omega arith)

  pub numbered_more : (show : ℕ → X → Shown) (xs : List X) (i : ℕ) (x : X) (o old new : List ℕ) → i < length xs → take (i + 1) xs ≡ take i xs ++ (x ∷ []) → old ≡ o ++ text (numbered show 1 (take i xs)) → new ≡ old ++ shown_line (show (i + 1) x) → new ≡ o ++ text (numbered show 1 (take (i + 1) xs))
  numbered_more show xs i x o old new l at p q =
      let n : 1 + length (take i xs) ≡ i + 1 = omega (arith, length-take-le i xs (omega arith)) in
      let t : numbered show 1 (take (i + 1) xs) ≡ numbered show 1 (take i xs) ++ (show (i + 1) x ∷ []) =
      ap (numbered show 1) at
      ∙ numbered-append show 1 (take i xs) x
      ∙ ap (λ n. numbered show 1 (take i xs) ++ (show n x ∷ [])) n in
      text_more (numbered show 1 (take i xs)) (show (i + 1) x) o old new p q
      ∙ ap (λ t. o ++ text t) (sym t)

  pub mapped_more : (show : X → Shown) (xs : List X) (i : ℕ) (x : X) (o old new : List ℕ) → take (i + 1) xs ≡ take i xs ++ (x ∷ []) → old ≡ o ++ text (map show (take i xs)) → new ≡ old ++ shown_line (show x) → new ≡ o ++ text (map show (take (i + 1) xs))
  mapped_more show xs i x o old new at p q =
      let t : map show (take (i + 1) xs) ≡ map show (take i xs) ++ (show x ∷ []) =
      ap (map show) at
      ∙ map-append show (take i xs) (x ∷ []) in
      text_more (map show (take i xs)) (show x) o old new p q ∙ ap (λ t. o ++ text t) (sym t)

  flat_map-append : (show : X → List Shown) (xs : List X) (x : X) → flat_map show (xs ++ (x ∷ [])) ≡ flat_map show xs ++ show x
  flat_map-append show [] x = append-nil (show x)
  flat_map-append show (y ∷ xs) x = ap (λ t. show y ++ t) (flat_map-append show xs x) ∙ sym (append_assoc (show y) (flat_map show xs) (show x))

  pub flat_more : (show : X → List Shown) (xs : List X) (i : ℕ) (x : X) (o old new : List ℕ) → take (i + 1) xs ≡ take i xs ++ (x ∷ []) → old ≡ o ++ text (flat_map show (take i xs)) → new ≡ old ++ text (show x) → new ≡ o ++ text (flat_map show (take (i + 1) xs))
  flat_more show xs i x o old new at p q =
      let t : flat_map show (take (i + 1) xs) ≡ flat_map show (take i xs) ++ show x =
      ap (flat_map show) at
      ∙ flat_map-append show (take i xs) x in
      q ∙ ap (λ t. t ++ text (show x)) p ∙ append_assoc o (text (flat_map show (take i xs))) (text (show x))
      ∙ ap (λ t. o ++ t) (sym (text-append (flat_map show (take i xs)) (show x)))
      ∙ ap (λ t. o ++ text t) (sym t)

-- the front with one item more, where the item was lent
pub lent_more : {X : Type 0} (xs : List X) (i : ℕ) (x : X) → i < length xs → x ≡ get_or xs i x → take (i + 1) xs ≡ take i xs ++ (x ∷ [])
lent_more xs i x l at = take_more xs i x l ∙ ap (λ x. take i xs ++ (x ∷ [])) (sym at)

pub text_one : (s : Shown) (o new : List ℕ) → new ≡ o ++ shown_line s → new ≡ o ++ text (s ∷ [])
text_one s o new p = p ∙ ap (λ t. o ++ t) (sym (append-nil (shown_line s)))

pub text_two : (a b : List Shown) (o n1 n2 : List ℕ) → n1 ≡ o ++ text a → n2 ≡ n1 ++ text b → n2 ≡ o ++ text (a ++ b)
text_two a b o n1 n2 p q = q ∙ ap (λ t. t ++ text b) p ∙ append_assoc o (text a) (text b) ∙ ap (λ t. o ++ t) (sym (text-append a b))

pub text_three : (a b c : List Shown) (o n1 n2 n3 : List ℕ) → n1 ≡ o ++ text a → n2 ≡ n1 ++ text b → n3 ≡ n2 ++ text c → n3 ≡ o ++ text (a ++ (b ++ c))
text_three a b c o n1 n2 n3 p q r = text_two a (b ++ c) o n1 n3 p (text_two b c n1 n2 n3 q r)

pub attributes-append : (a b : List Attribute) → attributes_text (a ++ b) ≡ attributes_text a ++ attributes_text b
attributes-append [] b = refl
attributes-append (x ∷ a) b = ap (λ t. attribute_text x ++ t) (attributes-append a b) ∙ sym (append_assoc (attribute_text x) (attributes_text a) (attributes_text b))

pub attributes_two : (a b : List Attribute) (n1 n2 : List ℕ) → n1 ≡ attributes_text a → n2 ≡ n1 ++ attributes_text b → n2 ≡ attributes_text (a ++ b)
attributes_two a b n1 n2 p q = q ∙ ap (λ t. t ++ attributes_text b) p ∙ sym (attributes-append a b)
