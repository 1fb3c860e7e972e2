-- The reader of contexts reads their texts, and a name is a context and what stands behind its text.
use Rattle.std.specs.Prelude.{◌≡◌, ℕ, ◌+◌, ◌-◌, ◌≤◌, ◌<◌, List, [], ◌∷◌, ◌++◌, length, take, drop, Result, Ok, Err, refl}
use Rattle.std.proofs.Common.{sym, ◌∙◌, ap, subst, arith}
use Rattle.std.proofs.Math.Seq.{take-append_seam}
use Rattle.std.proofs.lemmas.List.{length-append}
use Rattle.u_base.proofs.ReaderLaws.{Reads, Cut, longer, equal, shorter, cut}
use Rattle.u_base.proofs.PartsLaws.{NoByte}
use Rattle.u_base.proofs.ThenLaws.{both_Reads}
use Rattle.u_base.proofs.ChoiceLaws.{mapped_Reads}
use Rattle.u_base.specs.Then.{AreBoth, both}
use Rattle.u_base.specs.Choice.{mapped}
use Rattle.u_base.specs.Reader.{Reader, ◌>>=◌}
use Rattle.u_name.specs.Context.{Tree, Top, depth, IsContext}
use Rattle.u_name.specs.Name.{Activity}
use Rattle.u_name.specs.NameText.{context_text}
use Rattle.u_name.specs.KeptContext.{IsItsText}
use Rattle.u_name.specs.NameReader.{Frame, opens_at, frames_from, dash_at, context_at, name_in, rest_at, name_steps, paren_span}
use Rattle.u_name.proofs.NameByParts.{frames_at, tree_onto, frames_text, AreFrames, frames_Reads, opens_text, opens_Reads, frames_onto, parens, opens_text-is, length-frames, depth-tree_onto, tree_onto_in, tree_onto-text, tree_onto-frames_onto, frames_onto_in}
use Rattle.u_name.proofs.NameReaderLaws.{frames_by_parts}
use Rattle.u_name.proofs.WholeTexts.{opens_deep}

abbrev R : Type 0 → Type 0
R A = Result A (List ℕ)

-- the depth, and the frames, the outermost first
abbrev Parts : Type 0
Parts = ℕ × List Frame

abbrev parts_at : Reader Parts
parts_at = both (opens_at 64) (λ d. frames_at d)

abbrev ArePart : Parts → Type 0
ArePart = AreBoth (λ d. d ≤ 64) (λ d. AreFrames d)

abbrev parts_text : Parts → List ℕ
parts_text z = opens_text z.0 ++ frames_text z.1

parts_Reads : Reads parts_text ArePart NoByte parts_at
parts_Reads = both_Reads (opens_Reads 64) (λ d _. frames_Reads d) (λ x y c r u v w m e. m)

there : (z : Parts) → ArePart z → IsContext (tree_onto Top z.1)
there z v =
    let len = length-frames z.0 z.1 v.1 in
    let dep = depth-tree_onto Top z.1 in
    record { shallow = omega arith; in_range = tree_onto_in z.0 Top z.1 tt v.1 }

spelled : (z : Parts) → ArePart z → context_text (tree_onto Top z.1) ≡ parts_text z
unfolding context_text
spelled z v =
    let len = length-frames z.0 z.1 v.1 in
    tree_onto-text Top z.1 ∙ ap (λ n. parens n (45 ∷ []) ++ frames_text z.1) len ∙ ap (λ t. t ++ frames_text z.1) (sym (opens_text-is z.0))

abbrev parts_of : Tree → Parts
parts_of t = (depth t, frames_onto t [])

back : (t : Tree) → IsContext t → ArePart (parts_of t)
back t v =
    let e : depth t + 0 ≡ depth t = omega arith in
    (v.shallow, subst (λ d. AreFrames d (frames_onto t [])) e (frames_onto_in 0 t [] v.in_range refl))

by_parts_Reads : Reads context_text IsContext NoByte (mapped (λ (z : Parts). tree_onto Top z.1) parts_at)
by_parts_Reads = mapped_Reads parts_Reads {f = λ z. tree_onto Top z.1} {g = parts_of} (record { there = there; spelled = spelled; back = back; again = λ t v. tree_onto-frames_onto t [] })

-- the code goes step by step
step : (d : ℕ) (r : R (List Frame × List ℕ)) →
    ◌≡◌ {A = R (Tree × List ℕ)}
    (◌>>=◌ {A = Parts × List ℕ} {B = Tree × List ℕ} (◌>>=◌ {A = List Frame × List ℕ} {B = Parts × List ℕ} r (λ b. Ok ((d, b.0), b.1))) (λ z. Ok (tree_onto Top z.0.1, z.1)))
    (◌>>=◌ {A = List Frame × List ℕ} {B = Tree × List ℕ} r (λ a. Ok (tree_onto Top a.0, a.1)))
step d (Ok a) = refl
step d (Err e) = refl

steps_of : (r : R (ℕ × List ℕ)) →
    ◌≡◌ {A = R (Tree × List ℕ)}
    (◌>>=◌ {A = Parts × List ℕ} {B = Tree × List ℕ} (◌>>=◌ {A = ℕ × List ℕ} {B = Parts × List ℕ} r (λ d. ◌>>=◌ {A = List Frame × List ℕ} {B = Parts × List ℕ} (frames_at d.0 d.1) (λ b. Ok ((d.0, b.0), b.1)))) (λ z. Ok (tree_onto Top z.0.1, z.1)))
    (◌>>=◌ {A = ℕ × List ℕ} {B = Tree × List ℕ} r (λ d. frames_from d.0 Top d.1))
steps_of (Ok d) = step d.0 (frames_at d.0 d.1) ∙ sym (frames_by_parts d.0 d.1)
steps_of (Err e) = refl

by_parts-is : (bs : List ℕ) → mapped (λ (z : Parts). tree_onto Top z.1) parts_at bs ≡ context_at bs
unfolding dash_at
by_parts-is bs = steps_of (opens_at 64 bs)

context_Reads : Reads context_text IsContext NoByte context_at
context_Reads = subst (λ (P : List ℕ → Result (Tree × List ℕ) (List ℕ)). Reads context_text IsContext NoByte P) (λ i bs. by_parts-is bs i) by_parts_Reads

-- a text behind which nothing of it can go on is read whatever stands behind it
one_reading : (c d : Tree) (rest s : List ℕ) → IsContext c → IsContext d → Cut (context_text c) rest (context_text d) s → (d ≡ c) × (s ≡ rest)
one_reading c d rest s v w (longer b u p q) = absurd (context_Reads.grows c d b u v w p)
one_reading c d rest s v w (equal p q) = (sym (context_Reads.same c d v w p), sym q)
one_reading c d rest s v w (shorter b u p q) = absurd (context_Reads.grows d c b u w v p)

read_back : (c : Tree) (rest : List ℕ) → IsContext c → (r : R (Tree × List ℕ)) → context_at (context_text c ++ rest) ≡ r → r ≡ Ok (c, rest)
read_back c rest v (Ok x) h =
    let w = context_Reads.sound (context_text c ++ rest) x.0 x.1 h in
    let e = one_reading c x.0 rest x.1 v w.0 (cut (context_text c) rest (context_text x.0) x.1 w.1) in
    ap (λ d. Ok (d, x.1)) e.0 ∙ ap (λ s. Ok (c, s)) e.1
read_back c rest v (Err e) h = absurd (context_Reads.none (context_text c ++ rest) e h c rest v refl)

-- a name is a context, and what stands behind its text
pub then_name : (bs : List ℕ) (r : R (Tree × List ℕ)) → context_at bs ≡ r → name_steps bs ≡ ◌>>=◌ {A = Tree × List ℕ} {B = Activity × List ℕ} r (λ c. name_in c.0 c.1)
then_name bs r h = by (dash_at bs) refl ∙ ap (λ q. ◌>>=◌ {A = Tree × List ℕ} {B = Activity × List ℕ} q (λ c. name_in c.0 c.1)) h
  where
    by : (q : R (ℕ × List ℕ)) → dash_at bs ≡ q →
        ◌≡◌ {A = R (Activity × List ℕ)}
        (◌>>=◌ {A = ℕ × List ℕ} {B = Activity × List ℕ} (dash_at bs) (λ d. rest_at d.0 d.1))
        (◌>>=◌ {A = Tree × List ℕ} {B = Activity × List ℕ} (◌>>=◌ {A = ℕ × List ℕ} {B = Tree × List ℕ} (dash_at bs) (λ d. frames_from d.0 Top d.1)) (λ c. name_in c.0 c.1))
    by (Ok d) e = rw e refl
    by (Err x) e = rw e refl

pub behind_context : (bs : List ℕ) (c : Tree) (rest : List ℕ) → context_at bs ≡ Ok (c, rest) → name_steps bs ≡ name_in c rest
behind_context bs c rest h = then_name bs (Ok (c, rest)) h

pub no_context : (bs rest : List ℕ) → context_at bs ≡ Err rest → name_steps bs ≡ Err rest
no_context bs rest h = then_name bs (Err rest) h

pub behind_front : (bs text : List ℕ) (c : Tree) (rest : List ℕ) → IsItsText c text → bs ≡ text ++ rest → name_steps bs ≡ name_in c rest
behind_front bs text c rest t e =
    let whole : bs ≡ context_text c ++ rest = e ∙ ap (λ s. s ++ rest) t.1 in
    behind_context bs c rest (ap context_at whole ∙ read_back c rest t.0 (context_at (context_text c ++ rest)) refl)

-- the text that was read
taken : (a b : List ℕ) → take (length (a ++ b) - length b) (a ++ b) ≡ a
taken a b =
    let n : length (a ++ b) - length b ≡ length a = omega (arith, length-append a b) in
    ap (λ n. take n (a ++ b)) n ∙ take-append_seam a b

pub front_text : (bs : List ℕ) (c : Tree) (rest : List ℕ) → context_at bs ≡ Ok (c, rest) → IsItsText c (take (length bs - length rest) bs)
front_text bs c rest h =
    let w = context_Reads.sound bs c rest h in
    (w.0, rw w.1 (taken (context_text c) rest))

pub front_within : (bs : List ℕ) (c : Tree) (rest : List ℕ) → context_at bs ≡ Ok (c, rest) → length rest ≤ length bs
front_within bs c rest h =
    let w = context_Reads.sound bs c rest h in
    rw w.1 (omega (arith, length-append (context_text c) rest))

pub deep_context : (bs : List ℕ) → 64 < paren_span 65 bs → context_at bs ≡ Err (drop 64 bs)
unfolding dash_at
deep_context bs h = ap (λ r. ◌>>=◌ {A = ℕ × List ℕ} {B = Tree × List ℕ} r (λ d. frames_from d.0 Top d.1)) (opens_deep 64 bs h)

pub root_text : IsItsText Top (45 ∷ [])
unfolding context_text
root_text = (record { shallow = omega arith; in_range = tt }, refl)
