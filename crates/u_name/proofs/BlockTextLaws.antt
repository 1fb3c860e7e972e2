-- The reader of names of blocks reads the longest one.
use Rattle.std.specs.Prelude.{◌≡◌, ℕ, zero, suc, ◌≤◌, Bool, true, false, cond, List, [], ◌∷◌, ◌++◌, take, drop, length, Result, Ok, Err, IsTrue, refl}
use Rattle.std.proofs.Common.{sym, ◌∙◌, ap, subst, arith, length-append}
use Rattle.std.specs.List.{AllByRecursion}
use Rattle.std.proofs.lemmas.List.{take-append-drop, length-take}
use Rattle.std.proofs.lemmas.Bool.Decides.{nat_tests}
use Rattle.u_base.proofs.ReaderLaws.{Reads, ok_same, ok_err, longer_than_itself}
use Rattle.u_name.specs.Block.{is_letter, is_block_byte, IsBlock, StartsWithLetter}
use Rattle.u_name.specs.BlockText.{block_span, begins_with_letter, block_at}

abbrev pub IsBlockByte : ℕ → Type 0
IsBlockByte c = is_block_byte c ≡ true

abbrev Each : List ℕ → Type 0
Each cs = AllByRecursion (λ c. IsTrue (is_block_byte c)) cs

record Spans (room : ℕ) (cs : List ℕ) (n : ℕ) : Type 0 where
  fits : n ≤ room
  inside : n ≤ length cs
  each : Each (take n cs)
  ends : (c : ℕ) (r : List ℕ) → drop n cs ≡ c ∷ r → IsBlockByte c → n ≡ room

spans : (room : ℕ) (cs : List ℕ) → Spans room cs (block_span room cs)
spans zero cs = record { fits = omega arith; inside = omega arith; each = tt; ends = λ c r e d. refl }
spans (suc room) [] = record { fits = omega arith; inside = omega arith; each = tt; ends = λ c r e d. cc }
spans (suc room) (b ∷ cs) = step (spans room cs) (is_block_byte b) refl
  where
    step : Spans room cs (block_span room cs) → (t : Bool) → is_block_byte b ≡ t → Spans (suc room) (b ∷ cs) (cond t (suc (block_span room cs)) 0)
    step w true h = record { fits = omega (arith, w.fits); inside = omega (arith, w.inside); each = (h, w.each); ends = λ c r e d. ap (λ n. suc n) (w.ends c r e d) }
    step w false h = record { fits = omega arith; inside = omega arith; each = tt; ends = λ c r e d. let g : b ≡ c = cc in cc }

drop-split : (n : ℕ) (xs : List ℕ) → xs ≡ take n xs ++ drop n xs
drop-split n xs = sym (take-append-drop n xs)

letter_is_block_byte : (c : ℕ) → is_letter c ≡ true → is_block_byte c ≡ true
letter_is_block_byte c h = grind (arith, nat_tests)

block_ok : (bs x rest : List ℕ) → block_at bs ≡ Ok (x, rest) → (begins_with_letter bs ≡ true) × (x ≡ take (block_span 16 bs) bs) × (rest ≡ drop (block_span 16 bs) bs)
block_ok bs x rest h = step (begins_with_letter bs) refl h
  where
    step : (t : Bool) → begins_with_letter bs ≡ t → cond {A = Result (List ℕ × List ℕ) (List ℕ)} t (Ok (take (block_span 16 bs) bs, drop (block_span 16 bs) bs)) (Err bs) ≡ Ok (x, rest) → (begins_with_letter bs ≡ true) × (x ≡ take (block_span 16 bs) bs) × (rest ≡ drop (block_span 16 bs) bs)
    step true e h = let o = ok_same (take (block_span 16 bs) bs, drop (block_span 16 bs) bs) (x, rest) h in (e, sym (ap (λ t. t.0) o), sym (ap (λ t. t.1) o))
    step false e h = cc

block_err : (bs rest : List ℕ) → block_at bs ≡ Err rest → (begins_with_letter bs ≡ false) × (bs ≡ rest)
block_err bs rest h = step (begins_with_letter bs) refl h
  where
    step : (t : Bool) → begins_with_letter bs ≡ t → ◌≡◌ {A = Result (List ℕ × List ℕ) (List ℕ)} (cond t (Ok (take (block_span 16 bs) bs, drop (block_span 16 bs) bs)) (Err bs)) (Err rest) → (begins_with_letter bs ≡ false) × (bs ≡ rest)
    step true e h = absurd (ok_err (take (block_span 16 bs) bs, drop (block_span 16 bs) bs) rest h)
    step false e h = (e, cc)

starts : (bs : List ℕ) → begins_with_letter bs ≡ true → StartsWithLetter (take (block_span 16 bs) bs)
starts [] h = cc
starts (c ∷ cs) h = step (is_block_byte c) (letter_is_block_byte c h)
  where
    step : (t : Bool) → t ≡ true → StartsWithLetter (take (cond t (suc (block_span 15 cs)) 0) (c ∷ cs))
    step true e = h
    step false e = cc

starts_true : (bs r : List ℕ) → StartsWithLetter bs → begins_with_letter (bs ++ r) ≡ true
starts_true [] r h = absurd h
starts_true (c ∷ cs) r h = h

last_of : (xs : List ℕ) (c : ℕ) (u : List ℕ) → Each (xs ++ (c ∷ u)) → IsBlockByte c
last_of [] c u h = h.0
last_of (x ∷ xs) c u h = last_of xs c u h.1

block_sound : (bs x rest : List ℕ) → block_at bs ≡ Ok (x, rest) → IsBlock x × (bs ≡ x ++ rest)
block_sound bs x rest h =
    let a = block_ok bs x rest h in
    let s = spans 16 bs in
    let i : IsBlock (take (block_span 16 bs) bs) = record { short = omega (arith, length-take {A = ℕ}, s.fits, s.inside); first = starts bs a.0; each = s.each } in
    let e : bs ≡ x ++ rest = rw (a.1, a.2) (drop-split (block_span 16 bs) bs) in
    (subst IsBlock (sym a.1) i, e)

block_stops : (bs x : List ℕ) (c : ℕ) (r : List ℕ) → block_at bs ≡ Ok (x, c ∷ r) → (y u : List ℕ) → IsBlock y → y ≡ x ++ (c ∷ u) → ⊥
block_stops bs x c r h y u v e =
    let a = block_ok bs x (c ∷ r) h in
    let s = spans 16 bs in
    let b = last_of x c u (subst Each e v.each) in
    let full = s.ends c r (sym a.2) b in
    let l : length x ≡ block_span 16 bs = rw a.1 (omega (arith, length-take {A = ℕ}, s.inside)) in
    let m = ap length e in
    omega (arith, length-append x (c ∷ u), v.short)

block_stuck : (bs p : List ℕ) (c : ℕ) (r : List ℕ) → block_at bs ≡ Err (c ∷ r) → bs ≡ p ++ (c ∷ r) → (y u : List ℕ) → IsBlock y → y ≡ p ++ (c ∷ u) → ⊥
block_stuck bs p c r h k y u v e =
    let a = block_err bs (c ∷ r) h in
    at p (sym k ∙ a.1) (ap begins_with_letter (sym a.1) ∙ a.0) (subst StartsWithLetter e v.first)
  where
    at : (p : List ℕ) → p ++ (c ∷ r) ≡ c ∷ r → is_letter c ≡ false → StartsWithLetter (p ++ (c ∷ u)) → ⊥
    at [] a b f = let g = f in cc
    at (i ∷ p) a b f = let g : r ≡ p ++ (c ∷ r) = cc in longer_than_itself p c r g

pub block_Reads : Reads (λ b. b) IsBlock IsBlockByte block_at
block_Reads = record {
  sound = block_sound;
  stops = block_stops;
  viable = λ bs rest h. ([], 97 ∷ [], 97 ∷ [], (block_err bs rest h).1, record { short = omega arith; first = refl; each = (refl, tt) }, refl);
  stuck = block_stuck;
  none = λ bs rest h y r v e. let a = block_err bs rest h in let b = starts_true y r v.first in let f = ap begins_with_letter e in cc;
  grows = λ x y c u v w e. last_of y c u (subst Each e v.each);
  same = λ x y v w e. e;
  some = (97 ∷ [], record { short = omega arith; first = refl; each = (refl, tt) });
}

pub is_read_block : (bs : List ℕ) → begins_with_letter bs ≡ true → IsBlock (take (block_span 16 bs) bs)
is_read_block bs h =
    let s = spans 16 bs in
    record { short = omega (arith, length-take {A = ℕ}, s.fits, s.inside); first = starts bs h; each = s.each }
