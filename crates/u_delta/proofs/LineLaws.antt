-- What is told of a text of lines from the lines that were read of it.
use Rattle.std.specs.Prelude.{◌≡◌, ℕ, suc, ◌<◌, ◌⊎◌, List, [], ◌∷◌, ◌++◌, length, refl}
use Rattle.std.proofs.Common.{sym, ◌∙◌, ap, subst, arith, inl, inr, append_assoc}
use Rattle.std.proofs.lemmas.List.{append-nil}
use Rattle.std.specs.List.{AllByRecursion}
use Rattle.u_base.specs.Pieces.{PiecesAndRest, pieces, IsCutInto}
use Rattle.u_base.specs.Spaced.{ended}
use Rattle.u_base.proofs.PiecesLaws.{glued, glued-pieces}
use Rattle.u_base.proofs.SpacedLaws.{AllFree, pieces-ended, glued-ended}
use Rattle.u_delta.specs.Lines.{IsShort, lines_behind, IsLongAhead, StandsBehind, EndsWith, Begins, AreAllowed, IsRefused, IsBadLine, IsTooLong, IsTruncated}

-- what stands ahead is long

pub long_line : (bytes line rest : List ℕ) → IsCutInto 10 bytes line rest → 32768 < length line → IsLongAhead bytes
long_line bytes line rest c h = inl (line, rest, c, h)

pub long_rest : (bytes : List ℕ) → pieces 10 bytes ≡ ([], bytes) → 32768 < length bytes → IsLongAhead bytes
long_rest bytes c h = inr (c, h)

-- what is so of each of two lists is so of each of both
pub all_behind : {A : Type 0} (P : A → Type 0) (xs ys : List A) → AllByRecursion P xs → AllByRecursion P ys → AllByRecursion P (xs ++ ys)
all_behind P [] ys v w = w
all_behind P (x ∷ xs) ys v w = (v.0, all_behind P xs ys v.1 w)

pub all_append : {A : Type 0} (P : A → Type 0) (xs : List A) (x : A) → AllByRecursion P xs → P x → AllByRecursion P (xs ++ (x ∷ []))
all_append P xs x v w = all_behind P xs (x ∷ []) v (w, tt)

-- one more line is read
pub read_more : (ls : List (List ℕ)) (rest line others : List ℕ) → IsCutInto 10 rest line others → lines_behind ls rest ≡ lines_behind (ls ++ (line ∷ [])) others
read_more ls rest line others c =
    ap (λ (p : PiecesAndRest). (ls ++ p.0, p.1)) c ∙ ap (λ t. (t, (pieces 10 others).1)) (sym (append_assoc ls (line ∷ []) (pieces 10 others).0))

-- where all is read, the text is that of the lines
pub read_all : (bytes : List ℕ) (ls : List (List ℕ)) → pieces 10 bytes ≡ (ls, []) → bytes ≡ ended ls
read_all bytes ls h = sym (glued-pieces 10 bytes) ∙ ap (λ (p : PiecesAndRest). glued 10 p.0 p.1) h ∙ glued-ended ls

stands : (ls : List (List ℕ)) (rest line others : List ℕ) → IsCutInto 10 rest line others → StandsBehind (lines_behind ls rest) ls line
stands ls rest line others c = record { others = (pieces 10 others).0; there = ap (λ (p : PiecesAndRest). ls ++ p.0) c }

ends : (ls : List (List ℕ)) (rest : List ℕ) → pieces 10 rest ≡ ([], rest) → EndsWith (lines_behind ls rest) ls rest
ends ls rest c = record { there = ap (λ (p : PiecesAndRest). ls ++ p.0) c ∙ append-nil ls; last = ap (λ (p : PiecesAndRest). p.1) c }

module _ (Document : List (List ℕ) → Type 0) where
  -- the next line is not allowed
  pub bad_line : (ls : List (List ℕ)) (rest line others : List ℕ) → AreAllowed Document ls → IsCutInto 10 rest line others → IsShort line → (Begins Document (ls ++ (line ∷ [])) → ⊥) → IsBadLine Document (lines_behind ls rest) (suc (length ls))
  bad_line ls rest line others a c s n = record { before = ls; line = line; number = refl; allowed = a; short = s; refused = inl (stands ls rest line others c, n) }

  -- bytes without a newline stand behind a whole document
  pub bad_rest : (ls : List (List ℕ)) (rest : List ℕ) → AreAllowed Document ls → pieces 10 rest ≡ ([], rest) → IsShort rest → 0 < length rest → Document ls → IsBadLine Document (lines_behind ls rest) (suc (length ls))
  bad_rest ls rest a c s h d = record { before = ls; line = rest; number = refl; allowed = a; short = s; refused = inr (ends ls rest c, h, d) }

  -- the next line is too long
  pub too_long : (ls : List (List ℕ)) (rest : List ℕ) → AreAllowed Document ls → IsLongAhead rest → IsTooLong Document (lines_behind ls rest) (suc (length ls))
  too_long ls rest a (inl l) = record { before = ls; line = l.0; number = refl; allowed = a; long = l.3; stands = inl (stands ls rest l.0 l.1 l.2) }
  too_long ls rest a (inr r) = record { before = ls; line = rest; number = refl; allowed = a; long = r.1; stands = inr (ends ls rest r.0) }

  -- there is no next line, and the document is not complete
  pub truncated : (ls : List (List ℕ)) (rest : List ℕ) → AreAllowed Document ls → pieces 10 rest ≡ ([], rest) → IsShort rest → (Document ls → ⊥) → IsTruncated Document (lines_behind ls rest)
  truncated ls rest a c s n =
      let e : ls ≡ (lines_behind ls rest).0 = sym (ends ls rest c).there in
      let f : rest ≡ (lines_behind ls rest).1 = sym (ends ls rest c).last in
      record { allowed = subst (λ ls. AreAllowed Document ls) e a; short = subst (λ r. IsShort r) f s; incomplete = λ d. n (subst Document (sym e) d) }

  -- the text of a document, whose lines are free of newlines and short, has no such fault
  module _ (ls : List (List ℕ)) (document : Document ls) (free : AllFree 10 ls) (short : AllByRecursion IsShort ls) (bytes : List ℕ) (text : bytes ≡ ended ls) where
    pieces_are : pieces 10 bytes ≡ (ls, [])
    pieces_are = ap (pieces 10) text ∙ pieces-ended ls free

    lines_are : (pieces 10 bytes).0 ≡ ls
    lines_are = ap (λ (p : PiecesAndRest). p.0) pieces_are

    nothing_behind : (before : List (List ℕ)) (line : List ℕ) → EndsWith (pieces 10 bytes) before line → line ≡ []
    nothing_behind before line e = sym e.last ∙ ap (λ (p : PiecesAndRest). p.1) pieces_are

    pub none_bad : (n : ℕ) → IsBadLine Document (pieces 10 bytes) n → ⊥
    none_bad n b = at b.refused
      where
        at : IsRefused Document (pieces 10 bytes) b.before b.line → ⊥
        at (inl r) =
            let e : ls ≡ b.before ++ (b.line ∷ r.0.others) = sym lines_are ∙ r.0.there in
            r.1 (record { more = r.0.others; document = subst Document (e ∙ sym (append_assoc b.before (b.line ∷ []) r.0.others)) document })
        at (inr r) = omega (arith, r.1, ap (λ (l : List ℕ). length l) (nothing_behind b.before b.line r.0))

    in_all : (before others : List (List ℕ)) (line : List ℕ) → AllByRecursion IsShort (before ++ (line ∷ others)) → IsShort line
    in_all [] others line v = v.0
    in_all (l ∷ before) others line v = in_all before others line v.1

    pub none_long : (n : ℕ) → IsTooLong Document (pieces 10 bytes) n → ⊥
    none_long n b = at b.stands
      where
        at : StandsBehind (pieces 10 bytes) b.before b.line ⊎ EndsWith (pieces 10 bytes) b.before b.line → ⊥
        at (inl r) = omega (arith, b.long, in_all b.before r.others b.line (subst (AllByRecursion IsShort) (sym lines_are ∙ r.there) short))
        at (inr r) = omega (arith, b.long, ap (λ (l : List ℕ). length l) (nothing_behind b.before b.line r))

    pub not_truncated : IsTruncated Document (pieces 10 bytes) → ⊥
    not_truncated t = t.incomplete (subst Document (sym lines_are) document)
