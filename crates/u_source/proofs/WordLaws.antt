-- Whole words and signs at the front of some bytes.
use Rattle.std.specs.Prelude.{IsTrue}
use Rattle.std.proofs.Common.{◌≡◌, ℕ, suc, ◌≤◌, ◌==◌, Bool, true, false, cond, List, [], ◌∷◌, refl, ◌∙◌, ap, arith, length, length-append, ◌++◌, subst, take, drop, Option, Some}
use Rattle.std.proofs.lemmas.Bool.Decides.{Decides-eqb}
use Rattle.std.proofs.lemmas.Slice.Eq.{starts_is}
use Rattle.std.specs.List.{AllByRecursion, starts_with}
use Rattle.u_name.specs.Block.{is_block_byte, IsBlock}
use Rattle.u_name.specs.BlockText.{begins_with_letter}
use Rattle.u_source.specs.declared.mark.Mark.{Mark}
use Rattle.u_source.specs.Marks.{mark_text, sign_among}
use Rattle.u_source.specs.Words.{word_len}

-- a word has at most all bytes
word_fits : (w : List ℕ) → word_len w ≤ length w
word_fits [] = omega arith
word_fits (c ∷ cs) = fits (is_block_byte c) (word_len cs) (length cs) (word_fits cs) where
  fits : (b : Bool) (m n : ℕ) → m ≤ n → cond b (suc m) 0 ≤ suc n
  fits true m n h = omega arith
  fits false m n h = omega arith

short : (b : Bool) (m n : ℕ) → cond b (suc m) 0 ≡ suc n → (b ≡ true) × (m ≡ n)
short true m n h = (refl, omega arith)
short false m n h = absurd (omega arith)

each_byte : (w : List ℕ) → word_len w ≡ length w → AllByRecursion (λ c. IsTrue (is_block_byte c)) w
each_byte [] h = tt
each_byte (c ∷ cs) h = let s = short (is_block_byte c) (word_len cs) (length cs) h in (s.0, each_byte cs s.1)

first_letter : (w : List ℕ) → begins_with_letter w ≡ true → Rattle.u_name.specs.Block.StartsWithLetter w
first_letter [] h = cc
first_letter (c ∷ cs) h = h

-- a word of at most 16 bytes that begins with a letter is a name
pub block_of : (w : List ℕ) → begins_with_letter w ≡ true → word_len w ≡ length w → length w ≤ 16 → IsBlock w
block_of w l e s = record { short = s; first = first_letter w l; each = each_byte w e }

front_of : (b : Bool) (c : ℕ) (cs : List ℕ) → is_block_byte c ≡ b → word_len (take (word_len cs) cs) ≡ length (take (word_len cs) cs) → word_len (take (cond b (suc (word_len cs)) 0) (c ∷ cs)) ≡ length (take (cond b (suc (word_len cs)) 0) (c ∷ cs))
front_of true c cs h e = ap (λ b. cond b (suc (word_len (take (word_len cs) cs))) 0) h ∙ ap suc e
front_of false c cs h e = refl

-- the word at the front is a whole word
pub whole_front : (bs : List ℕ) → word_len (take (word_len bs) bs) ≡ length (take (word_len bs) bs)
whole_front [] = refl
whole_front (c ∷ cs) = front_of (is_block_byte c) c cs refl (whole_front cs)

first_fits : (b : Bool) (x m : Mark) (o : Option Mark) (bs : List ℕ) → b ≡ starts_with ◌==◌ bs (mark_text x) → cond b (Some x) o ≡ Some m → (o ≡ Some m → length (mark_text m) ≤ length bs) → length (mark_text m) ≤ length bs
first_fits true x m o bs e h more =
    let there : bs ≡ mark_text x ++ drop (length (mark_text x)) bs = (starts_is Decides-eqb bs (mark_text x) true e).0 refl in
    let same : x ≡ m = cc in
    subst (λ y. length (mark_text y) ≤ length bs) same (omega (arith, ap length there, length-append (mark_text x) (drop (length (mark_text x)) bs)))
first_fits false x m o bs e h more = more h

-- a sign with which the bytes begin is no longer than they are
pub sign_fits : (ms : List Mark) (bs : List ℕ) (m : Mark) → sign_among ms bs ≡ Some m → length (mark_text m) ≤ length bs
sign_fits [] bs m h = cc
sign_fits (x ∷ xs) bs m h = first_fits (starts_with ◌==◌ bs (mark_text x)) x m (sign_among xs bs) bs refl h (sign_fits xs bs m)
