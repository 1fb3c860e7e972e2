-- What a reader of the longest text answers is that text, or where the longest front of one ends.
use Rattle.std.specs.Prelude.{◌≡◌, ℕ, ◌-◌, List, ◌∷◌, ◌++◌, length, take, drop, Result, Ok, Err}
use Rattle.std.proofs.Common.{sym, ◌∙◌, ap, arith, length-append, append_assoc}
use Rattle.std.proofs.lemmas.List.{take-append-drop, length-take}
use Rattle.std.proofs.Math.Seq.{take-append_seam}
use Rattle.u_base.proofs.ReaderLaws.{Reads, longer, equal, shorter, cut}
use Rattle.u_base.specs.Longest.{IsLongest, IsRefusedAt}

module _ {X : Type 0} {text : X → List ℕ} {V : X → Type 0} {More : ℕ → Type 0} {P : List ℕ → Result (X × List ℕ) (List ℕ)} (p : Reads text V More P) where
  before : (bs a rest : List ℕ) → bs ≡ a ++ rest → take (length bs - length rest) bs ≡ a
  before bs a rest e =
      let n : length bs - length rest ≡ length a = omega (arith, ap length e, length-append a rest) in
      ap (λ k. take k bs) n ∙ ap (λ t. take (length a) t) e ∙ take-append_seam a rest

  pub is_longest : (bs : List ℕ) (x : X) (rest : List ℕ) → P bs ≡ Ok (x, rest) → IsLongest text V bs x (length bs - length rest)
  is_longest bs x rest h =
      let s = p.sound bs x rest h in
      let n : length bs - length rest ≡ length (text x) = omega (arith, ap length s.1, length-append (text x) rest) in
      record {
        valid = s.0;
        there = before bs (text x) rest s.1;
        within = omega arith;
        longest = λ y r v e. elim (cut (text x) rest (text y) r (sym s.1 ∙ e)) [
          | longer c u a b ↦ omega (arith, ap length a, length-append (text y) (c ∷ u))
          | equal a b ↦ omega (arith, ap length a)
          | shorter c u a b ↦ absurd (p.stops bs x c (u ++ r) (h ∙ ap (λ t. Ok (x, t)) b) y u v a)
        ];
      }

  pub is_refused_at : (bs rest : List ℕ) → P bs ≡ Err rest → IsRefusedAt text V bs (length bs - length rest)
  is_refused_at bs rest h =
      let a = p.viable bs rest h in
      let n : length bs - length rest ≡ length a.0 = omega (arith, ap length a.3, length-append a.0 rest) in
      let t = before bs a.0 rest a.3 in
      record {
        none = λ y r v e. p.none bs rest h y r v e;
        within = omega arith;
        begins = (a.1, a.2, a.4, a.5 ∙ ap (λ q. q ++ a.2) (sym t));
        longest = λ j le b. elim (cut (take j bs) (drop j bs) a.0 rest (take-append-drop j bs ∙ a.3)) [
          | longer c u d e ↦ absurd (p.stuck bs a.0 c (u ++ drop j bs) (h ∙ ap (λ t. Err t) e) (a.3 ∙ ap (λ t. a.0 ++ t) e) b.0 (u ++ b.1) b.2 (b.3 ∙ ap (λ t. t ++ b.1) d ∙ append_assoc a.0 (c ∷ u) b.1))
          | equal d e ↦ omega (arith, ap length d, length-take j bs)
          | shorter c u d e ↦ omega (arith, ap length d, length-append (take j bs) (c ∷ u), length-take j bs)
        ];
      }
