-- Texts that are read with a byte behind them, by a reader that reads that byte too: what follows for the texts alone.
use Rattle.std.specs.Prelude.{◌≡◌, ℕ, ◌-◌, ◌<◌, ◌≤◌, List, [], ◌∷◌, ◌++◌, length, take, drop, Result, Ok, Err, refl}
use Rattle.std.proofs.Common.{sym, ◌∙◌, ap, arith, length-append, append_assoc, take-take}
use Rattle.std.proofs.Math.Seq.{take-append_seam}
use Rattle.std.proofs.lemmas.List.{append-nil, take-append-le, take-append-drop, append_cancel_right, length-take}
use Rattle.u_base.proofs.ReaderLaws.{Reads, longer, equal, shorter, cut}
use Rattle.u_base.proofs.PartsLaws.{NoByte}
use Rattle.u_base.proofs.LongestLaws.{is_refused_at}
use Rattle.u_base.specs.TextAt.{IsTextOf, IsNoText}

-- how a list with the byte behind it is cut: within the list, or at its end
pub data EndCut (xs : List ℕ) (e : ℕ) (ys w : List ℕ) : Type 0 where
  within : (v : List ℕ) → xs ≡ ys ++ v → w ≡ v ++ (e ∷ []) → EndCut xs e ys w
  whole : ys ≡ xs ++ (e ∷ []) → w ≡ [] → EndCut xs e ys w

nothing_left : (e c : ℕ) (u w : List ℕ) → e ∷ [] ≡ (c ∷ u) ++ w → (c ≡ e) × (u ≡ []) × (w ≡ [])
nothing_left e c [] [] h = (cc, refl, refl)
nothing_left e c [] (d ∷ w) h = cc
nothing_left e c (d ∷ u) w h = cc

pub end_cut : (xs : List ℕ) (e : ℕ) (ys w : List ℕ) → xs ++ (e ∷ []) ≡ ys ++ w → EndCut xs e ys w
end_cut xs e ys w h =
    elim (cut xs (e ∷ []) ys w h) [
      | longer c u a b ↦ within (c ∷ u) a b
      | equal a b ↦ within [] (a ∙ sym (append-nil ys)) (sym b)
      | shorter c u a b ↦
          let n = nothing_left e c u w b in
          whole (a ∙ ap (λ t. xs ++ (c ∷ t)) n.1 ∙ ap (λ d. xs ++ (d ∷ [])) n.0) n.2
    ]

abbrev pub with_end : ℕ → List ℕ → List ℕ
with_end e bs = bs ++ (e ∷ [])

module _ {X : Type 0} (text : X → List ℕ) {V : X → Type 0} {P : List ℕ → Result (X × List ℕ) (List ℕ)} (e : ℕ) (p : Reads (λ x. with_end e (text x)) V NoByte P) where
  -- what is read to the end is the text's
  pub ended_whole : (bs : List ℕ) (x : X) (rest : List ℕ) → P (with_end e bs) ≡ Ok (x, rest) → length rest ≡ 0 → IsTextOf text V bs x
  ended_whole bs x [] h z =
      let s = p.sound (with_end e bs) x [] h in
      (s.0, append_cancel_right bs (text x) (e ∷ []) (s.1 ∙ append-nil (with_end e (text x))))
  ended_whole bs x (c ∷ r) h z = absurd (omega arith)

  -- no text goes on behind another with the byte
  no_longer : (x y : X) (w : List ℕ) → V x → V y → text y ≡ text x ++ (e ∷ w) → ⊥
  no_longer x y [] v k h = p.grows y x e [] k v (ap (with_end e) h ∙ append_assoc (text x) (e ∷ []) (e ∷ []) ∙ sym (append_assoc (text x) (e ∷ []) (e ∷ [])))
  no_longer x y (c ∷ w) v k h = p.grows y x c (w ++ (e ∷ [])) k v (ap (with_end e) h ∙ append_assoc (text x) (e ∷ (c ∷ w)) (e ∷ []) ∙ sym (append_assoc (text x) (e ∷ []) (c ∷ (w ++ (e ∷ [])))))

  -- where something is left, the text with_end within the bytes, and they are no text
  behind_end : (bs : List ℕ) (x : X) (c : ℕ) (r : List ℕ) → P (with_end e bs) ≡ Ok (x, c ∷ r) → (w : List ℕ) × (bs ≡ text x ++ (e ∷ w)) × (length w ≡ length r)
  behind_end bs x c r h =
      let s = p.sound (with_end e bs) x (c ∷ r) h in
      elim (end_cut bs e (with_end e (text x)) (c ∷ r) s.1) [
        | within v a b ↦ (v, a ∙ append_assoc (text x) (e ∷ []) v, omega (arith, ap length b, length-append v (e ∷ [])))
        | whole a b ↦ cc
      ]

  left_behind : (bs : List ℕ) (x : X) (c : ℕ) (r : List ℕ) → P (with_end e bs) ≡ Ok (x, c ∷ r) → IsNoText text V bs (length bs - length (c ∷ r))
  left_behind bs x c r h =
      let s = p.sound (with_end e bs) x (c ∷ r) h in
      let b = behind_end bs x c r h in
      let n : length bs - length (c ∷ r) ≡ length (text x) = omega (arith, ap length b.1, length-append (text x) (e ∷ b.0), b.2) in
      let front : take (length bs - length (c ∷ r)) bs ≡ text x = ap (λ k. take k bs) n ∙ ap (λ t. take (length (text x)) t) b.1 ∙ take-append_seam (text x) (e ∷ b.0) in
      record {
        none = λ y v k. no_longer x y b.0 s.0 v (sym k ∙ b.1);
        within = omega arith;
        begins = (x, [], s.0, sym (append-nil (text x)) ∙ ap (λ q. q ++ []) (sym front));
        longest = λ j le k. elim (cut (take j bs) (drop j bs) (text x) (e ∷ b.0) (take-append-drop j bs ∙ b.1)) [
          | longer d u a f ↦ let g : d ≡ e = cc in absurd (no_longer x k.0 (u ++ k.1) s.0 k.2 (k.3 ∙ ap (λ t. t ++ k.1) (a ∙ ap (λ i. text x ++ (i ∷ u)) g) ∙ append_assoc (text x) (e ∷ u) k.1))
          | equal a f ↦ omega (arith, ap length a, length-take j bs)
          | shorter d u a f ↦ omega (arith, ap length a, length-append (take j bs) (d ∷ u), length-take j bs)
        ];
      }

  pub ended_left_over : (bs : List ℕ) (x : X) (rest : List ℕ) → P (with_end e bs) ≡ Ok (x, rest) → 0 < length rest → IsNoText text V bs (length bs - length rest)
  ended_left_over bs x [] h z = absurd (omega arith)
  ended_left_over bs x (c ∷ r) h z = left_behind bs x c r h

  pub ended_left_within : (bs : List ℕ) (x : X) (rest : List ℕ) → P (with_end e bs) ≡ Ok (x, rest) → length rest ≤ length bs
  ended_left_within bs x [] h = omega arith
  ended_left_within bs x (c ∷ r) h =
      let b = behind_end bs x c r h in
      omega (arith, ap length b.1, length-append (text x) (e ∷ b.0), b.2)

  -- where it is refused, at a place k that is the refusal's or the end of the bytes
  refused_at : (bs rest : List ℕ) (k : ℕ) → P (with_end e bs) ≡ Err rest → k ≤ length bs → k ≤ length (with_end e bs) - length rest → ((j : ℕ) → j ≤ length bs → j ≤ length (with_end e bs) - length rest → j ≤ k) → IsNoText text V bs k
  refused_at bs rest k h low fit most =
      let r = is_refused_at p (with_end e bs) rest h in
      let b = r.begins in
      let K : ℕ = length (with_end e bs) - length rest in
      let front : take k bs ++ drop k (take K (with_end e bs)) ≡ take K (with_end e bs) =
      ap (λ t. t ++ drop k (take K (with_end e bs))) (sym (take-append-le k bs (e ∷ []) low) ∙ sym (take-take k K (with_end e bs) fit)) ∙ take-append-drop k (take K (with_end e bs)) in
      let w : List ℕ = drop k (take K (with_end e bs)) ++ b.1 in
      let said : with_end e (text b.0) ≡ take k bs ++ w = b.3 ∙ ap (λ t. t ++ b.1) (sym front) ∙ append_assoc (take k bs) (drop k (take K (with_end e bs))) b.1 in
      record {
        none = λ y v f. r.none y [] v (ap (with_end e) f ∙ sym (append-nil (with_end e (text y))));
        within = low;
        begins = elim (end_cut (text b.0) e (take k bs) w said) [
          | within v a c ↦ (b.0, v, b.2, a)
          | whole a c ↦ absurd (r.none b.0 (drop k bs ++ (e ∷ [])) b.2 (ap (with_end e) (sym (take-append-drop k bs)) ∙ append_assoc (take k bs) (drop k bs) (e ∷ []) ∙ ap (λ t. t ++ (drop k bs ++ (e ∷ []))) a))
        ];
        longest = λ j le c. most j le (r.longest j (omega (arith, length-append bs (e ∷ []))) (c.0, c.1 ++ (e ∷ []), c.2, ap (with_end e) c.3 ∙ append_assoc (take j bs) c.1 (e ∷ []) ∙ ap (λ t. t ++ (c.1 ++ (e ∷ []))) (sym (take-append-le j bs (e ∷ []) le))));
      }

  -- the refusal lies within the bytes
  pub ended_refused : (bs rest : List ℕ) → P (with_end e bs) ≡ Err rest → 0 < length rest → IsNoText text V bs (length (with_end e bs) - length rest)
  ended_refused bs rest h z =
      refused_at bs rest (length (with_end e bs) - length rest) h (omega (arith, length-append bs (e ∷ []))) (omega arith) (λ j le n. n)

  -- it lies behind them all
  pub ended_refused_behind : (bs rest : List ℕ) → P (with_end e bs) ≡ Err rest → length rest ≡ 0 → IsNoText text V bs (length bs)
  ended_refused_behind bs rest h z = refused_at bs rest (length bs) h (omega arith) (omega (arith, length-append bs (e ∷ []))) (λ j le n. le)
