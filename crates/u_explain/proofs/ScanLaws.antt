-- Lines that were gone over, and the place behind them.
use Rattle.std.specs.Prelude.{◌≡◌, ℕ, ◌+◌, ◌-◌, ◌≤◌, ◌<◌, List, [], ◌∷◌, ◌++◌, length, take, drop, refl}
use Rattle.std.proofs.Common.{sym, ◌∙◌, ap, subst, arith, inl, inr, append_assoc, length-append, length-drop}
use Rattle.std.proofs.lemmas.List.{append-nil, take-append-drop}
use Rattle.std.proofs.Math.Seq.{take-append_seam}
use Rattle.u_base.specs.Pieces.{pieces, lines, IsCutInto}
use Rattle.u_program.specs.Limits.{limits_of}
use Rattle.u_program.specs.Begun.{IsRead}
use Rattle.u_program.specs.FirstBad.{Begins}
use Rattle.u_program.proofs.Lists.{heads, tails}
use Rattle.u_program.proofs.Whole.{read_none, read_more}
use Rattle.u_explain.specs.declared.text_place.TextPlace.{TextPlace}
use Rattle.u_explain.specs.declared.text_place.TextPlace.TheVariants as places
use Rattle.u_explain.specs.Left.{IsLeft, IsLongestFront}
use Rattle.u_explain.specs.Places.{IsAllowed, IsPlace}

-- so many lines were gone over, and where they begin a program the place is that behind them
pub record Scanned (bytes : List ℕ) (count : ℕ) (rest : List ℕ) (place : TextPlace) : Type 0 where
  pub gone : List (List ℕ)
  pub read : IsRead bytes gone rest
  pub many : count ≡ length gone
  pub stands : Begins limits_of gone → IsPlace gone place

pub scanned_none : (bytes : List ℕ) → Scanned bytes 0 bytes places.Header
scanned_none bytes = record { gone = []; read = read_none bytes; many = refl; stands = λ b. refl }

fewer : (ls : List (List ℕ)) (t : List ℕ) → Begins limits_of (ls ++ (t ∷ [])) → Begins limits_of ls
fewer ls t b = record { version = b.version; program = b.program; more = t ∷ b.more; valid = b.valid; there = b.there ∙ append_assoc ls (t ∷ []) b.more }

pub scanned_next : (bytes : List ℕ) (count : ℕ) (rest : List ℕ) (place : TextPlace) (line others : List ℕ) (new : TextPlace) → Scanned bytes count rest place → IsCutInto 10 rest line others → ((before : List (List ℕ)) → IsPlace before place → IsAllowed before line → IsPlace (before ++ (line ∷ [])) new) → Scanned bytes (count + 1) others new
scanned_next bytes count rest place line others new s c h = record {
  gone = s.gone ++ (line ∷ []);
  read = read_more bytes rest line others s.gone s.read c;
  many = omega (arith, s.many, length-append s.gone (line ∷ []));
  stands = λ b. h s.gone (s.stands (fewer s.gone line b)) b;
}

-- two ways to cut a list at the same place
same_cut : (a b c d : List (List ℕ)) → length a ≡ length c → a ++ b ≡ c ++ d → (a ≡ c) × (b ≡ d)
same_cut [] b [] d l e = (refl, e)
same_cut [] b (y ∷ c) d l e = absurd (omega arith)
same_cut (x ∷ a) b [] d l e = absurd (omega arith)
same_cut (x ∷ a) b (y ∷ c) d l e =
    let i = same_cut a b c d (omega arith) (tails e) in
    let h : x ≡ y = heads e in
    (ap (λ z. z ∷ a) h ∙ ap (λ z. y ∷ z) i.0, i.1)

pub scanned_all : (bytes : List ℕ) (count : ℕ) (rest : List ℕ) (place : TextPlace) → Scanned bytes count rest place → (before others : List (List ℕ)) → lines bytes ≡ before ++ others → length before ≡ count → Begins limits_of before → IsPlace before place × (pieces 10 rest ≡ (others, (pieces 10 bytes).1))
scanned_all bytes count rest place s before others e l b =
    let first : lines bytes ≡ s.gone ++ (pieces 10 rest).0 = ap (λ (p : List (List ℕ) × List ℕ). p.0) s.read.all in
    let last : (pieces 10 bytes).1 ≡ (pieces 10 rest).1 = ap (λ (p : List (List ℕ) × List ℕ). p.1) s.read.all in
    let c = same_cut s.gone (pieces 10 rest).0 before others (omega (arith, s.many, l)) (sym first ∙ e) in (
      subst (λ ls. IsPlace ls place) c.0 (s.stands (subst (Begins limits_of) (sym c.0) b)),
      ap (λ ls. (ls, (pieces 10 rest).1)) c.1 ∙ ap (λ t. (others, t)) (sym last),
    )

-- there were fewer lines
pub scanned_short : (bytes : List ℕ) (count : ℕ) (rest : List ℕ) (place : TextPlace) → Scanned bytes count rest place → pieces 10 rest ≡ ([], rest) → (before others : List (List ℕ)) → lines bytes ≡ before ++ others → count < length before → ⊥
scanned_short bytes count rest place s n before others e l =
    let first : lines bytes ≡ s.gone ++ (pieces 10 rest).0 = ap (λ (p : List (List ℕ) × List ℕ). p.0) s.read.all in
    let none : s.gone ++ (pieces 10 rest).0 ≡ s.gone = ap (λ (p : List (List ℕ) × List ℕ). s.gone ++ p.0) n ∙ append-nil s.gone in
    omega (arith, s.many, l, ap length (sym none ∙ sym first ∙ e), length-append before others)

-- the line that is cut off is the line that stands there
pub same_line : (rest line others : List ℕ) (l : List ℕ) (ls : List (List ℕ)) (t : List ℕ) → IsCutInto 10 rest line others → pieces 10 rest ≡ (l ∷ ls, t) → line ≡ l
same_line rest line others l ls t c e = heads (sym (ap (λ (p : List (List ℕ) × List ℕ). p.0) c) ∙ ap (λ (p : List (List ℕ) × List ℕ). p.0) e)

pub no_line : (rest l : List ℕ) (ls : List (List ℕ)) (t : List ℕ) → pieces 10 rest ≡ ([], rest) → pieces 10 rest ≡ (l ∷ ls, t) → ⊥
no_line rest l ls t n e = let f : [] ≡ l ∷ ls = ap (λ (p : List (List ℕ) × List ℕ). p.0) (sym n ∙ e) in cc

-- how long the longest front is

pub left_within : (L : List ℕ → Type 0) (bs rest : List ℕ) → IsLeft L bs rest → length rest ≤ length bs
left_within L bs rest v = omega (arith, ap length v.whole, length-append v.front rest)

pub longest_front : (L : List ℕ → Type 0) (bs rest : List ℕ) → IsLeft L bs rest → IsLongestFront L bs (length bs - length rest)
longest_front L bs rest v =
    let n : length bs - length rest ≡ length v.front = omega (arith, ap length v.whole, length-append v.front rest) in
    let front : take (length bs - length rest) bs ≡ v.front = ap (λ k. take k bs) n ∙ ap (λ t. take (length v.front) t) v.whole ∙ take-append_seam v.front rest in
    record {
      within = omega arith;
      begins = elim v.begins [ inl e ↦ inl (omega (arith, ap length e)) | inr b ↦ inr (b.0, subst (λ p. L (p ++ b.0)) (sym front) b.1) ];
      longest = λ j le b. let f = v.longest (take j bs) (drop j bs) (sym (take-append-drop j bs)) b in omega (arith, f, left_within L bs rest v, length-drop j bs);
    }
