-- What a reader answers, said of whole texts and of texts at an offset.
use Rattle.std.specs.Prelude.{◌≡◌, ℕ, ◌-◌, ◌<◌, ◌≤◌, List, [], ◌∷◌, ◌++◌, length, take, drop, Result, Ok, Err}
use Rattle.std.proofs.Common.{sym, ◌∙◌, ap, subst, arith, length-append, length-drop, append_assoc}
use Rattle.std.proofs.lemmas.List.{append-nil, take-append-drop, length-take}
use Rattle.std.proofs.Math.Seq.{take-append_seam}
use Rattle.u_base.proofs.ReaderLaws.{Reads, longer, equal, shorter, cut}
use Rattle.u_base.specs.Longest.{IsLongest, IsRefusedAt}
use Rattle.u_base.proofs.LongestLaws.{is_longest, is_refused_at}
use Rattle.u_base.specs.TextAt.{IsTextOf, IsNoText, IsTextAt, IsNoTextAt}

ends : (bs : List ℕ) (offset left : ℕ) → offset ≤ length bs → left ≤ length (drop offset bs) → (offset ≤ length bs - left) × (length bs - left - offset ≡ length (drop offset bs) - left)
ends bs offset left h k = (omega (arith, length-drop offset bs), omega (arith, length-drop offset bs))

module _ {X : Type 0} {text : X → List ℕ} {V : X → Type 0} {More : ℕ → Type 0} {P : List ℕ → Result (X × List ℕ) (List ℕ)} (p : Reads text V More P) where
  -- what is left is not longer than what there was
  pub read_within : (bs : List ℕ) (x : X) (rest : List ℕ) → P bs ≡ Ok (x, rest) → length rest ≤ length bs
  read_within bs x rest e = let s = p.sound bs x rest e in omega (arith, ap length s.1, length-append (text x) rest)

  pub refused_within : (bs rest : List ℕ) → P bs ≡ Err rest → length rest ≤ length bs
  refused_within bs rest e = let s = p.viable bs rest e in omega (arith, ap length s.3, length-append s.0 rest)

  pub whole_read : (bs : List ℕ) (x : X) (rest : List ℕ) → P bs ≡ Ok (x, rest) → length rest ≡ 0 → IsTextOf text V bs x
  whole_read bs x [] e z = let s = p.sound bs x [] e in (s.0, s.1 ∙ append-nil (text x))
  whole_read bs x (c ∷ r) e z = absurd (omega arith)

  pub refused_whole : (bs rest : List ℕ) → P bs ≡ Err rest → IsNoText text V bs (length bs - length rest)
  refused_whole bs rest h =
      let r = is_refused_at p bs rest h in
      record { none = λ y v e. r.none y [] v (e ∙ sym (append-nil (text y))); within = r.within; begins = r.begins; longest = r.longest }

  left_behind : (bs : List ℕ) (x : X) (c : ℕ) (r : List ℕ) → P bs ≡ Ok (x, c ∷ r) → IsNoText text V bs (length bs - length (c ∷ r))
  left_behind bs x c r h =
      let s = p.sound bs x (c ∷ r) h in
      let n : length bs - length (c ∷ r) ≡ length (text x) = omega (arith, ap length s.1, length-append (text x) (c ∷ r)) in
      let front : take (length bs - length (c ∷ r)) bs ≡ text x = ap (λ k. take k bs) n ∙ ap (λ t. take (length (text x)) t) s.1 ∙ take-append_seam (text x) (c ∷ r) in
      record {
        none = λ y v e. p.stops bs x c r h y r v (sym e ∙ s.1);
        within = omega arith;
        begins = (x, [], s.0, sym (append-nil (text x)) ∙ ap (λ q. q ++ []) (sym front));
        longest = λ j le b. elim (cut (take j bs) (drop j bs) (text x) (c ∷ r) (take-append-drop j bs ∙ s.1)) [
          | longer d u a e ↦ absurd (p.stops bs x d (u ++ drop j bs) (h ∙ ap (λ t. Ok (x, t)) e) b.0 (u ++ b.1) b.2 (b.3 ∙ ap (λ t. t ++ b.1) a ∙ append_assoc (text x) (d ∷ u) b.1))
          | equal a e ↦ omega (arith, ap length a, length-take j bs)
          | shorter d u a e ↦ omega (arith, ap length a, length-append (take j bs) (d ∷ u), length-take j bs)
        ];
      }

  -- what is left behind the longest text is where the bytes go wrong
  pub left_over : (bs : List ℕ) (x : X) (rest : List ℕ) → P bs ≡ Ok (x, rest) → 0 < length rest → IsNoText text V bs (length bs - length rest)
  left_over bs x [] h z = absurd (omega arith)
  left_over bs x (c ∷ r) h z = left_behind bs x c r h

  pub found_at : (bs : List ℕ) (offset : ℕ) (x : X) (rest : List ℕ) → offset ≤ length bs → P (drop offset bs) ≡ Ok (x, rest) → IsTextAt text V bs offset x (length bs - length rest)
  found_at bs offset x rest h e =
      let n = ends bs offset (length rest) h (read_within (drop offset bs) x rest e) in
      (n.0, subst (λ k. IsLongest text V (drop offset bs) x k) (sym n.1) (is_longest p (drop offset bs) x rest e))

  pub missing_at : (bs : List ℕ) (offset : ℕ) (rest : List ℕ) → offset ≤ length bs → P (drop offset bs) ≡ Err rest → IsNoTextAt text V bs offset (length bs - length rest)
  missing_at bs offset rest h e =
      let n = ends bs offset (length rest) h (refused_within (drop offset bs) rest e) in
      (n.0, subst (λ k. IsRefusedAt text V (drop offset bs) k) (sym n.1) (is_refused_at p (drop offset bs) rest e))

  -- the same, of all the bytes
  pub found_within : (bs : List ℕ) (offset : ℕ) (x : X) (rest : List ℕ) → P (drop offset bs) ≡ Ok (x, rest) → length rest ≤ length bs
  found_within bs offset x rest e = omega (arith, read_within (drop offset bs) x rest e, length-drop offset bs)

  pub missing_within : (bs : List ℕ) (offset : ℕ) (rest : List ℕ) → P (drop offset bs) ≡ Err rest → length rest ≤ length bs
  missing_within bs offset rest e = omega (arith, refused_within (drop offset bs) rest e, length-drop offset bs)
