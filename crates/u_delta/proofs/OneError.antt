-- A text of lines has one error at most: which line is refused, and why, is settled by the text.
use Rattle.std.specs.Prelude.{◌≡◌, ℕ, ◌≤◌, ◌<◌, ◌⊎◌, List, [], ◌∷◌, ◌++◌, length, refl}
use Rattle.std.proofs.Common.{sym, ◌∙◌, ap, subst, arith, inl, inr, append_assoc, length-append}
use Rattle.std.specs.List.{AllByRecursion}
use Rattle.u_base.specs.Pieces.{PiecesAndRest}
use Rattle.u_delta.specs.Lines.{IsShort, IsLong, StandsBehind, EndsWith, Begins, AreAllowed, IsRefused, IsBadLine, IsTooLong, IsTruncated}
use Rattle.u_delta.proofs.MessageLaws.{heads_are, tails_are}

-- where the one list is shorter than the other, what stands behind it stands in the other
reaches_into : (a b : List (List ℕ)) (l : List ℕ) (others rest : List (List ℕ)) → a ++ (l ∷ others) ≡ b ++ rest → length a < length b → (more : List (List ℕ)) × (b ≡ a ++ (l ∷ more))
reaches_into [] [] l others rest e h = absurd (omega arith)
reaches_into [] (y ∷ b) l others rest e h = (b, ap (λ t. t ∷ b) (sym (heads_are e)))
reaches_into (x ∷ a) [] l others rest e h = absurd (omega arith)
reaches_into (x ∷ a) (y ∷ b) l others rest e h =
    let r = reaches_into a b l others rest (tails_are e) (omega arith) in
    (r.0, ap (λ t. t ∷ b) (sym (heads_are e)) ∙ ap (λ t. x ∷ t) r.1)

same_place : (a b : List (List ℕ)) (l m : List ℕ) (others rest : List (List ℕ)) → a ++ (l ∷ others) ≡ b ++ (m ∷ rest) → length a ≡ length b → l ≡ m
same_place [] [] l m others rest e h = heads_are e
same_place [] (y ∷ b) l m others rest e h = absurd (omega arith)
same_place (x ∷ a) [] l m others rest e h = absurd (omega arith)
same_place (x ∷ a) (y ∷ b) l m others rest e h = same_place a b l m others rest (tails_are e) (omega arith)

short_in : (a : List (List ℕ)) (l : List ℕ) (more : List (List ℕ)) → AllByRecursion IsShort (a ++ (l ∷ more)) → IsShort l
short_in [] l more v = v.0
short_in (x ∷ a) l more v = short_in a l more v.1

-- these lines stand at the front of the text
abbrev Front : PiecesAndRest → List (List ℕ) → Type 0
Front text ls = (rest : List (List ℕ)) × (text.0 ≡ ls ++ rest)

abbrev Place : PiecesAndRest → List (List ℕ) → List ℕ → Type 0
Place text before line = StandsBehind text before line ⊎ EndsWith text before line

front_of : (text : PiecesAndRest) (before : List (List ℕ)) (line : List ℕ) → Place text before line → Front text before
front_of text before line (inl s) = (line ∷ s.others, s.there)
front_of text before line (inr e) = ([], e.there ∙ sym (nil_behind before))
  where
    nil_behind : (ls : List (List ℕ)) → ls ++ [] ≡ ls
    nil_behind [] = refl
    nil_behind (l ∷ ls) = ap (λ t. l ∷ t) (nil_behind ls)

front_length : (text : PiecesAndRest) (ls : List (List ℕ)) → Front text ls → length ls ≤ length text.0
front_length text ls f = omega (arith, ap (λ (t : List (List ℕ)). length t) f.1, length-append ls f.0)

-- one place has one line
one_line : (text : PiecesAndRest) (a b : List (List ℕ)) (l m : List ℕ) → Place text a l → Place text b m → length a ≡ length b → l ≡ m
one_line text a b l m (inl s) (inl t) h = same_place a b l m s.others t.others (sym s.there ∙ t.there) h
one_line text a b l m (inl s) (inr t) h = absurd (omega (arith, ap (λ (t : List (List ℕ)). length t) s.there, length-append a (l ∷ s.others), ap (λ (t : List (List ℕ)). length t) t.there, h))
one_line text a b l m (inr s) (inl t) h = absurd (omega (arith, ap (λ (t : List (List ℕ)). length t) t.there, length-append b (m ∷ t.others), ap (λ (t : List (List ℕ)). length t) s.there, h))
one_line text a b l m (inr s) (inr t) h = sym s.last ∙ t.last

module _ (Document : List (List ℕ) → Type 0) (text : PiecesAndRest) where
  place_refused : (before : List (List ℕ)) (line : List ℕ) → IsRefused Document text before line → Place text before line
  place_refused before line (inl r) = inl r.0
  place_refused before line (inr r) = inr r.0

  -- no lines that are allowed go on further than those before a line that is refused
  no_further : (before : List (List ℕ)) (line : List ℕ) (ls : List (List ℕ)) → IsRefused Document text before line → AreAllowed Document ls → Front text ls → length before < length ls → ⊥
  no_further before line ls (inl r) a f h =
      let m = reaches_into before ls line r.0.others f.0 (sym r.0.there ∙ f.1) h in
      let e : ls ≡ (before ++ (line ∷ [])) ++ m.0 = m.1 ∙ sym (append_assoc before (line ∷ []) m.0) in
      let b : Begins Document ls = a.begins in
      r.1 (record { more = m.0 ++ b.more; document = subst Document (ap (λ t. t ++ b.more) e ∙ append_assoc (before ++ (line ∷ [])) m.0 b.more) b.document })
  no_further before line ls (inr r) a f h = omega (arith, front_length text ls f, ap (λ (t : List (List ℕ)). length t) r.0.there, h)

  -- nor than those before a line that is too long
  no_longer : (before : List (List ℕ)) (line : List ℕ) (ls : List (List ℕ)) → Place text before line → IsLong line → AreAllowed Document ls → Front text ls → length before < length ls → ⊥
  no_longer before line ls (inl s) l a f h =
      let m = reaches_into before ls line s.others f.0 (sym s.there ∙ f.1) h in
      omega (arith, l, short_in before line m.0 (subst (AllByRecursion IsShort) m.1 a.short))
  no_longer before line ls (inr s) l a f h = omega (arith, front_length text ls f, ap (λ (t : List (List ℕ)). length t) s.there, h)

  pub one_bad : (n m : ℕ) → IsBadLine Document text n → IsBadLine Document text m → n ≡ m
  one_bad n m b c =
      let f = front_of text b.before b.line (place_refused b.before b.line b.refused) in
      let g = front_of text c.before c.line (place_refused c.before c.line c.refused) in
      let p : length b.before < length c.before → ⊥ = no_further b.before b.line c.before b.refused c.allowed g in
      let q : length c.before < length b.before → ⊥ = no_further c.before c.line b.before c.refused b.allowed f in
      omega (arith, b.number, c.number, p, q)

  pub one_long : (n m : ℕ) → IsTooLong Document text n → IsTooLong Document text m → n ≡ m
  one_long n m b c =
      let p : length b.before < length c.before → ⊥ = no_longer b.before b.line c.before b.stands b.long c.allowed (front_of text c.before c.line c.stands) in
      let q : length c.before < length b.before → ⊥ = no_longer c.before c.line b.before c.stands c.long b.allowed (front_of text b.before b.line b.stands) in
      omega (arith, b.number, c.number, p, q)

  -- no text has errors of two sorts

  pub bad_not_long : (n m : ℕ) → IsBadLine Document text n → IsTooLong Document text m → ⊥
  bad_not_long n m b c =
      let r = place_refused b.before b.line b.refused in
      let p : length b.before < length c.before → ⊥ = no_further b.before b.line c.before b.refused c.allowed (front_of text c.before c.line c.stands) in
      let q : length c.before < length b.before → ⊥ = no_longer c.before c.line b.before c.stands c.long b.allowed (front_of text b.before b.line r) in
      let e : length b.before ≡ length c.before = omega (arith, p, q) in
      let l : length b.line ≡ length c.line = ap (λ (t : List ℕ). length t) (one_line text b.before c.before b.line c.line r c.stands e) in
      omega (arith, b.short, c.long, l)

  whole_front : Front text text.0
  whole_front = front_of text text.0 text.1 (inr (record { there = refl; last = refl }))

  pub bad_not_truncated : (n : ℕ) → IsBadLine Document text n → IsTruncated Document text → ⊥
  bad_not_truncated n b t = at b.refused
    where
      at : IsRefused Document text b.before b.line → ⊥
      at (inl r) = no_further b.before b.line text.0 (inl r) t.allowed whole_front (omega (arith, ap (λ (t : List (List ℕ)). length t) r.0.there, length-append b.before (b.line ∷ r.0.others)))
      at (inr r) = t.incomplete (subst Document (sym r.0.there) r.2)

  pub long_not_truncated : (n : ℕ) → IsTooLong Document text n → IsTruncated Document text → ⊥
  long_not_truncated n b t = at b.stands
    where
      at : Place text b.before b.line → ⊥
      at (inl s) = no_longer b.before b.line text.0 (inl s) b.long t.allowed whole_front (omega (arith, ap (λ (t : List (List ℕ)). length t) s.there, length-append b.before (b.line ∷ s.others)))
      at (inr s) = omega (arith, b.long, t.short, ap (λ (t : List ℕ). length t) s.last)
