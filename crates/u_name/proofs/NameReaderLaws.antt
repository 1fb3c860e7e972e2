-- The reader of names as the code goes is the one that is put together of parts, so it reads the longest text of a name.
use Rattle.std.specs.Prelude.{◌≡◌, ℕ, zero, suc, ◌≤◌, List, [], ◌∷◌, ◌⊎◌, refl, true, Ok, ◌-◌, ◌<◌, Bool, false, cond, ◌==◌, drop, Result, Err}
use Rattle.std.proofs.Common.{sym, ◌∙◌, ap, subst, inl, inr, arith}
use Rattle.u_base.proofs.ReaderLaws.{Reads}
use Rattle.u_base.specs.Reader.{Reader, ◌>>=◌}
use Rattle.u_base.proofs.NumberLaws.{IsDigit}
use Rattle.u_base.specs.Parts.{after_byte}
use Rattle.u_base.specs.Choice.{mapped}
use Rattle.u_name.specs.Context.{Tree, Top}
use Rattle.u_name.specs.Name.{Activity, activity, IsName}
use Rattle.u_name.specs.NameReader.{Frame, Tail, byte, frame_at, tail_at, to_depth, opens_at, framed, paren_span, frames_from, rest_at, dash_at, name_steps}
use Rattle.u_name.proofs.NameByParts.{frames_at, tree_onto, name_of, name_at, name_Reads}
use Rattle.u_name.specs.NameText.{name_text}

abbrev R : Type 0 → Type 0
R A = Result A (List ℕ)

-- onto the context u, by frames and then at once
onto : ℕ → Tree → Reader Tree
onto d u bs = ◌>>=◌ {A = List Frame × List ℕ} {B = Tree × List ℕ} (frames_at d bs) (λ a. Ok (tree_onto u a.0, a.1))

more : (u : Tree) (f : Frame) (r : R (List Frame × List ℕ)) →
    ◌≡◌ {A = R (Tree × List ℕ)}
    (◌>>=◌ {A = List Frame × List ℕ} {B = Tree × List ℕ} (◌>>=◌ {A = (Frame × List Frame) × List ℕ} {B = List Frame × List ℕ} (◌>>=◌ {A = List Frame × List ℕ} {B = (Frame × List Frame) × List ℕ} r (λ b. Ok ((f, b.0), b.1))) (λ a. Ok (a.0.0 ∷ a.0.1, a.1))) (λ a. Ok (tree_onto u a.0, a.1)))
    (◌>>=◌ {A = List Frame × List ℕ} {B = Tree × List ℕ} r (λ a. Ok (tree_onto (framed u f) a.0, a.1)))
more u f (Ok a) = refl
more u f (Err e) = refl

frames_from-is : (d : ℕ) (u : Tree) (bs : List ℕ) → frames_from d u bs ≡ onto d u bs
unfolding onto
frames_from-is zero u bs = refl
frames_from-is (suc d) u bs = step (λ v cs. frames_from-is d v cs) (frame_at bs)
  where
    step : ((v : Tree) (cs : List ℕ) → frames_from d v cs ≡ onto d v cs) → (r : R (Frame × List ℕ)) →
        ◌≡◌ {A = R (Tree × List ℕ)}
        (◌>>=◌ {A = Frame × List ℕ} {B = Tree × List ℕ} r (λ a. frames_from d (framed u a.0) a.1))
        (◌>>=◌ {A = List Frame × List ℕ} {B = Tree × List ℕ} (◌>>=◌ {A = (Frame × List Frame) × List ℕ} {B = List Frame × List ℕ} (◌>>=◌ {A = Frame × List ℕ} {B = (Frame × List Frame) × List ℕ} r (λ a. ◌>>=◌ {A = List Frame × List ℕ} {B = (Frame × List Frame) × List ℕ} (frames_at d a.1) (λ b. Ok ((a.0, b.0), b.1)))) (λ a. Ok (a.0.0 ∷ a.0.1, a.1))) (λ a. Ok (tree_onto u a.0, a.1)))
    step ih (Ok a) = ih (framed u a.0) a.1 ∙ sym (more u a.0 (frames_at d a.1))
    step ih (Err e) = refl

pub frames_by_parts : (d : ℕ) (bs : List ℕ) → frames_from d Top bs ≡ ◌>>=◌ {A = List Frame × List ℕ} {B = Tree × List ℕ} (frames_at d bs) (λ a. Ok (tree_onto Top a.0, a.1))
unfolding onto
frames_by_parts d bs = frames_from-is d Top bs

-- what the code does in one turn of its loop
pub frames_turn : (d : ℕ) (u : Tree) (bs : List ℕ) (f : Frame) (rest : List ℕ) → 0 < d → frame_at bs ≡ Ok (f, rest) → frames_from d u bs ≡ frames_from (d - 1) (framed u f) rest
frames_turn zero u bs f rest h e = absurd (omega arith)
frames_turn (suc d) u bs f rest h e =
    let n : suc d - 1 ≡ d = omega arith in
    ap (λ r. ◌>>=◌ {A = Frame × List ℕ} {B = Tree × List ℕ} r (λ a. frames_from d (framed u a.0) a.1)) e ∙ ap (λ k. frames_from k (framed u f) rest) (sym n)

pub frames_stuck : (d : ℕ) (u : Tree) (bs rest : List ℕ) → 0 < d → frame_at bs ≡ Err rest → frames_from d u bs ≡ Err rest
frames_stuck zero u bs rest h e = absurd (omega arith)
frames_stuck (suc d) u bs rest h e = ap (λ r. ◌>>=◌ {A = Frame × List ℕ} {B = Tree × List ℕ} r (λ a. frames_from d (framed u a.0) a.1)) e

-- the whole reader, step by step
whole : (d : ℕ) (r : R (List Frame × List ℕ)) →
    ◌≡◌ {A = R (Activity × List ℕ)}
    (◌>>=◌ {A = (ℕ × (List Frame × Tail)) × List ℕ} {B = Activity × List ℕ}
    (◌>>=◌ {A = (List Frame × Tail) × List ℕ} {B = (ℕ × (List Frame × Tail)) × List ℕ}
    (◌>>=◌ {A = List Frame × List ℕ} {B = (List Frame × Tail) × List ℕ} r (λ a. ◌>>=◌ {A = Tail × List ℕ} {B = (List Frame × Tail) × List ℕ} (tail_at a.1) (λ b. Ok ((a.0, b.0), b.1))))
    (λ b. Ok ((d, b.0), b.1)))
    (λ a. Ok (name_of a.0, a.1)))
    (◌>>=◌ {A = Tree × List ℕ} {B = Activity × List ℕ} (◌>>=◌ {A = List Frame × List ℕ} {B = Tree × List ℕ} r (λ a. Ok (tree_onto Top a.0, a.1)))
    (λ c. ◌>>=◌ {A = Tail × List ℕ} {B = Activity × List ℕ} (tail_at c.1) (λ t. Ok (activity c.0 t.0.0 t.0.1.0 t.0.1.1, t.1))))
whole d (Ok a) = last (tail_at a.1)
  where
    last : (r : R (Tail × List ℕ)) →
        ◌≡◌ {A = R (Activity × List ℕ)}
        (◌>>=◌ {A = (ℕ × (List Frame × Tail)) × List ℕ} {B = Activity × List ℕ}
        (◌>>=◌ {A = (List Frame × Tail) × List ℕ} {B = (ℕ × (List Frame × Tail)) × List ℕ} (◌>>=◌ {A = Tail × List ℕ} {B = (List Frame × Tail) × List ℕ} r (λ b. Ok ((a.0, b.0), b.1))) (λ b. Ok ((d, b.0), b.1)))
        (λ a. Ok (name_of a.0, a.1)))
        (◌>>=◌ {A = Tail × List ℕ} {B = Activity × List ℕ} r (λ t. Ok (activity (tree_onto Top a.0) t.0.0 t.0.1.0 t.0.1.1, t.1)))
    last (Ok b) = refl
    last (Err e) = refl
whole d (Err e) = refl

steps_of : (r : R (ℕ × List ℕ)) →
    ◌≡◌ {A = R (Activity × List ℕ)}
    (◌>>=◌ {A = (ℕ × (List Frame × Tail)) × List ℕ} {B = Activity × List ℕ}
    (◌>>=◌ {A = ℕ × List ℕ} {B = (ℕ × (List Frame × Tail)) × List ℕ} r
    (λ d. ◌>>=◌ {A = (List Frame × Tail) × List ℕ} {B = (ℕ × (List Frame × Tail)) × List ℕ}
    (◌>>=◌ {A = List Frame × List ℕ} {B = (List Frame × Tail) × List ℕ} (frames_at d.0 d.1) (λ a. ◌>>=◌ {A = Tail × List ℕ} {B = (List Frame × Tail) × List ℕ} (tail_at a.1) (λ b. Ok ((a.0, b.0), b.1))))
    (λ b. Ok ((d.0, b.0), b.1))))
    (λ a. Ok (name_of a.0, a.1)))
    (◌>>=◌ {A = ℕ × List ℕ} {B = Activity × List ℕ} r (λ d. rest_at d.0 d.1))
unfolding onto
steps_of (Ok d) =
    whole d.0 (frames_at d.0 d.1)
    ∙ ap (λ r. ◌>>=◌ {A = Tree × List ℕ} {B = Activity × List ℕ} r (λ c. ◌>>=◌ {A = Tail × List ℕ} {B = Activity × List ℕ} (tail_at c.1) (λ t. Ok (activity c.0 t.0.0 t.0.1.0 t.0.1.1, t.1)))) (sym (frames_from-is d.0 Top d.1))
steps_of (Err e) = refl

name_at-is : (bs : List ℕ) → name_at bs ≡ name_steps bs
unfolding name_at dash_at
name_at-is bs = steps_of (opens_at 64 bs)

pub name_steps_Reads : Reads name_text IsName IsDigit name_steps
name_steps_Reads = subst (λ (P : List ℕ → Result (Activity × List ℕ) (List ℕ)). Reads name_text IsName IsDigit P) (λ i bs. name_at-is bs i) name_Reads

-- the `(` and the `-`, where there are not too many

abbrev then_dash : ℕ → List ℕ → R (ℕ × List ℕ)
then_dash n bs = ◌>>=◌ {A = Unit {0} × List ℕ} {B = ℕ × List ℕ} (after_byte 45 bs) (λ a. Ok (n, a.1))

relabel : (n : ℕ) (r : R (Unit {0} × List ℕ)) →
    ◌≡◌ {A = R (ℕ × List ℕ)}
    (◌>>=◌ {A = Unit {0} × List ℕ} {B = ℕ × List ℕ} (◌>>=◌ {A = Unit {0} × List ℕ} {B = Unit {0} × List ℕ} r (λ a. Ok (tt, a.1))) (λ a. Ok (n, a.1)))
    (◌>>=◌ {A = Unit {0} × List ℕ} {B = ℕ × List ℕ} r (λ a. Ok (n, a.1)))
relabel n (Ok a) = refl
relabel n (Err e) = refl

abbrev B1 : Type 0
B1 = (ℕ ⊎ Unit {0}) × List ℕ

bump : (m : ℕ) (r : R (Unit {0} × List ℕ)) →
    ◌≡◌ {A = R (ℕ × List ℕ)}
    (◌>>=◌ {A = B1} {B = ℕ × List ℕ} (◌>>=◌ {A = ℕ × List ℕ} {B = B1} (◌>>=◌ {A = Unit {0} × List ℕ} {B = ℕ × List ℕ} r (λ a. Ok (m, a.1))) (λ a. Ok (inl a.0, a.1))) (λ a. Ok (to_depth a.0, a.1)))
    (◌>>=◌ {A = Unit {0} × List ℕ} {B = ℕ × List ℕ} r (λ a. Ok (suc m, a.1)))
bump m (Ok a) = refl
bump m (Err e) = refl

none_more : (r : R (Unit {0} × List ℕ)) →
    ◌≡◌ {A = R (ℕ × List ℕ)}
    (◌>>=◌ {A = B1} {B = ℕ × List ℕ} (◌>>=◌ {A = Unit {0} × List ℕ} {B = B1} (◌>>=◌ {A = Unit {0} × List ℕ} {B = Unit {0} × List ℕ} r (λ a. Ok (tt, a.1))) (λ a. Ok (inr a.0, a.1))) (λ a. Ok (to_depth a.0, a.1)))
    (◌>>=◌ {A = Unit {0} × List ℕ} {B = ℕ × List ℕ} r (λ a. Ok (0, a.1)))
none_more (Ok a) = refl
none_more (Err e) = refl

pub opens_is : (n : ℕ) (bs : List ℕ) → paren_span (suc n) bs ≤ n → opens_at n bs ≡ then_dash (paren_span (suc n) bs) (drop (paren_span (suc n) bs) bs)
opens_is zero [] h = refl
opens_is zero (b ∷ cs) h = step (b == 40) h
  where
    step : (t : Bool) → cond t 1 0 ≤ 0 → ◌≡◌ {A = R (ℕ × List ℕ)} (mapped {X = Unit {0}} {Z = ℕ} (λ x. 0) (byte 45) (b ∷ cs)) (then_dash (cond t 1 0) (drop {A = ℕ} (cond t 1 0) (b ∷ cs)))
    step true h = absurd (omega arith)
    step false h = relabel 0 (after_byte 45 (b ∷ cs))
opens_is (suc n) [] h = refl
opens_is (suc n) (b ∷ cs) h = step (λ k. opens_is n cs k) (b == 40) h
  where
    step : (paren_span (suc n) cs ≤ n → opens_at n cs ≡ then_dash (paren_span (suc n) cs) (drop (paren_span (suc n) cs) cs)) → (t : Bool) → cond t (suc (paren_span (suc n) cs)) 0 ≤ suc n →
        ◌≡◌ {A = R (ℕ × List ℕ)}
        (◌>>=◌ {A = B1} {B = ℕ × List ℕ} (cond t (mapped {X = ℕ} {Z = ℕ ⊎ Unit {0}} inl (opens_at n) cs) (mapped {X = Unit {0}} {Z = ℕ ⊎ Unit {0}} inr (byte 45) (b ∷ cs))) (λ a. Ok (to_depth a.0, a.1)))
        (then_dash (cond t (suc (paren_span (suc n) cs)) 0) (drop {A = ℕ} (cond t (suc (paren_span (suc n) cs)) 0) (b ∷ cs)))
    step ih true h =
        let e = ih (omega arith) in
        ap (λ r. ◌>>=◌ {A = B1} {B = ℕ × List ℕ} (◌>>=◌ {A = ℕ × List ℕ} {B = B1} r (λ a. Ok (inl a.0, a.1))) (λ a. Ok (to_depth a.0, a.1))) e
        ∙ bump (paren_span (suc n) cs) (after_byte 45 (drop (paren_span (suc n) cs) cs))
    step ih false h = none_more (after_byte 45 (b ∷ cs))

pub opens_ok : (bs : List ℕ) (n : ℕ) (u : Unit {0}) (rest : List ℕ) → n ≡ paren_span 65 bs → n ≤ 64 → after_byte 45 (drop n bs) ≡ Ok (u, rest) → dash_at bs ≡ Ok (n, rest)
unfolding dash_at
opens_ok bs n u rest e h k =
    opens_is 64 bs (omega arith) ∙ ap (λ m. then_dash m (drop m bs)) (sym e) ∙ ap (λ r. ◌>>=◌ {A = Unit {0} × List ℕ} {B = ℕ × List ℕ} r (λ a. Ok (n, a.1))) k

pub opens_err : (bs : List ℕ) (n : ℕ) (rest : List ℕ) → n ≡ paren_span 65 bs → n ≤ 64 → after_byte 45 (drop n bs) ≡ Err rest → dash_at bs ≡ Err rest
unfolding dash_at
opens_err bs n rest e h k =
    opens_is 64 bs (omega arith) ∙ ap (λ m. then_dash m (drop m bs)) (sym e) ∙ ap (λ r. ◌>>=◌ {A = Unit {0} × List ℕ} {B = ℕ × List ℕ} r (λ a. Ok (n, a.1))) k
