-- A reader of names that is put together of parts reads the longest text of a name.
use Rattle.std.specs.Prelude.{◌≡◌, ℕ, zero, suc, ◌+◌, ◌≤◌, List, [], ◌∷◌, ◌++◌, ◌⊎◌, length, refl, true, Ok}
use Rattle.std.proofs.Common.{sym, ◌∙◌, ap, subst, inl, inr, append_assoc, arith}
use Rattle.std.proofs.lemmas.List.{append-nil}
use Rattle.std.specs.Fmt.{decimal}
use Rattle.u_base.proofs.ReaderLaws.{Reads, heads}
use Rattle.u_base.specs.Reader.{Reader}
use Rattle.u_base.proofs.PartsLaws.{NoByte, empty_Reads, lead_Reads}
use Rattle.u_base.specs.Parts.{empty}
use Rattle.u_base.proofs.ThenLaws.{after, both_Reads}
use Rattle.u_base.specs.Then.{AreBoth, both}
use Rattle.u_base.proofs.ChoiceLaws.{mapped_Reads, one_text, choice_Reads}
use Rattle.u_base.specs.Choice.{IsOne, mapped}
use Rattle.u_base.specs.Number.{number, IsUpTo}
use Rattle.u_base.proofs.NumberLaws.{IsDigit, number_Reads, number_first}
use Rattle.u_base.specs.Fixed.{IsUnit}
use Rattle.u_name.specs.Block.{is_block_byte}
use Rattle.u_name.specs.Context.{Tree, Top, InLoop, InCall, depth, InRange}
use Rattle.u_name.specs.Name.{Activity, activity, IsName}
use Rattle.u_name.proofs.BlockTextLaws.{IsBlockByte, block_Reads}
use Rattle.u_name.specs.NameReader.{Frame, Tail, byte, linkage_at, frame_at, tail_at, to_depth, opens_at, framed, IsLinkage, IsFrame, IsTail}
use Rattle.u_name.specs.NameText.{context_text, name_text}

-- frames, the outermost first
abbrev pub frames_at : ℕ → Reader (List Frame)
frames_at zero = empty []
frames_at (suc d) = mapped (λ z. z.0 ∷ z.1) (both frame_at (λ _. frames_at d))

-- the context that frames make on another one, the outermost first
abbrev pub tree_onto : Tree → List Frame → Tree
tree_onto u [] = u
tree_onto u (f ∷ fs) = tree_onto (framed u f) fs

abbrev pub Whole : Type 0
Whole = ℕ × (List Frame × Tail)

abbrev pub whole_at : Reader Whole
whole_at = both (opens_at 64) (λ d. both (frames_at d) (λ _. tail_at))

abbrev pub name_of : Whole → Activity
name_of z = activity (tree_onto Top z.1.0) z.1.1.0 z.1.1.1.0 z.1.1.1.1

unfoldable pub name_at : Reader Activity
name_at = mapped name_of whole_at

byte_Reads : (c : ℕ) → Reads (λ (z : Unit {0}). c ∷ []) IsUnit NoByte (byte c)
byte_Reads c = lead_Reads c (empty_Reads tt)

no_dot_in_block : (c : ℕ) (t u : List ℕ) → IsBlockByte c → 46 ∷ t ≡ c ∷ u → ⊥
no_dot_in_block c t u m e = let f : is_block_byte 46 ≡ true = subst IsBlockByte (sym (heads 46 c t u e)) m in cc

no_other_digit : (o c : ℕ) (t u : List ℕ) → o ≤ 47 → IsDigit c → o ∷ t ≡ c ∷ u → ⊥
no_other_digit o c t u low m e = let f = heads o c t u e in omega (arith, m.0)

abbrev initiation_Reads : Reads decimal (IsUpTo 18446744073709551615) IsDigit (number 18446744073709551615)
initiation_Reads = number_Reads 18446744073709551615 (omega arith) (omega arith)

abbrev statement_Reads : Reads decimal (IsUpTo 999) IsDigit (number 999)
statement_Reads = number_Reads 999 (omega arith) (omega arith)

abbrev step_text : ℕ ⊎ ℕ → List ℕ
step_text = one_text 76 decimal decimal

step_Reads : Reads step_text IsLinkage IsDigit linkage_at
step_Reads = choice_Reads 76 (number_Reads 99 (omega arith) (omega arith)) statement_Reads (λ y u v w e. number_first 999 (omega arith) (omega arith) y w 76 u v (omega arith) e)

abbrev end_text : ℕ × Unit {0} → List ℕ
end_text = after decimal (λ _ _. 41 ∷ [])

abbrev frame_text : Frame → List ℕ
frame_text f = 46 ∷ after (λ b. b) (λ _ g. 46 ∷ after step_text (λ _ k. 46 ∷ end_text k) g) f

frame_Reads : Reads frame_text IsFrame NoByte frame_at
frame_Reads =
    lead_Reads 46
    (both_Reads block_Reads
    (λ _ _. lead_Reads 46
    (both_Reads step_Reads
    (λ _ _. lead_Reads 46
    (both_Reads initiation_Reads (λ _ _. byte_Reads 41) (λ x y c r u v w m e. no_other_digit 41 c _ u (omega arith) m e)))
    (λ x y c r u v w m e. no_other_digit 46 c _ u (omega arith) m e)))
    (λ x y c r u v w m e. no_dot_in_block c _ u m e))

abbrev tail_text : Tail → List ℕ
tail_text f = 46 ∷ after (λ b. b) (λ _ g. 46 ∷ after decimal (λ _ i. 46 ∷ decimal i) g) f

tail_Reads : Reads tail_text IsTail IsDigit tail_at
tail_Reads =
    lead_Reads 46
    (both_Reads block_Reads
    (λ _ _. lead_Reads 46
    (both_Reads statement_Reads (λ _ _. lead_Reads 46 initiation_Reads) (λ x y c r u v w m e. no_other_digit 46 c _ u (omega arith) m e)))
    (λ x y c r u v w m e. no_dot_in_block c _ u m e))

-- frames, the outermost first

abbrev pub frames_text : List Frame → List ℕ
frames_text [] = []
frames_text (f ∷ fs) = frame_text f ++ frames_text fs

abbrev pub AreFrames : ℕ → List Frame → Type 0
AreFrames zero fs = fs ≡ []
AreFrames (suc d) [] = ⊥
AreFrames (suc d) (f ∷ fs) = IsFrame f × AreFrames d fs

abbrev some_frame : Frame
some_frame = ([], (inr 0, (0, tt)))

abbrev uncons : List Frame → Frame × List Frame
uncons [] = (some_frame, [])
uncons (f ∷ fs) = (f, fs)

abbrev frames_after : Frame × List Frame → List ℕ
frames_after = after frame_text (λ _ fs. frames_text fs)

uncons_fine : (d : ℕ) (z : List Frame) → AreFrames (suc d) z → AreBoth IsFrame (λ _. AreFrames d) (uncons z)
uncons_fine d [] v = absurd v
uncons_fine d (f ∷ fs) v = v

uncons_again : (d : ℕ) (z : List Frame) → AreFrames (suc d) z → (uncons z).0 ∷ (uncons z).1 ≡ z
uncons_again d [] v = absurd v
uncons_again d (f ∷ fs) v = refl

pub frames_Reads : (d : ℕ) → Reads frames_text (AreFrames d) NoByte (frames_at d)
frames_Reads zero = mapped_Reads (empty_Reads []) {f = λ z. z} {g = λ z. z} (record { there = λ x v. v; spelled = λ x v. ap frames_text v; back = λ z v. v; again = λ z v. refl })
frames_Reads (suc d) =
    mapped_Reads (both_Reads frame_Reads (λ _ _. frames_Reads d) (λ x y c r u v w m e. m))
    {f = λ z. z.0 ∷ z.1} {g = uncons}
    (record { there = λ x v. v; spelled = λ x v. refl; back = uncons_fine d; again = uncons_again d })

-- the `(` and the `-`

abbrev pub opens_text : ℕ → List ℕ
opens_text zero = 45 ∷ []
opens_text (suc d) = 40 ∷ opens_text d

abbrev of_depth : ℕ → ℕ ⊎ Unit {0}
of_depth zero = inr tt
of_depth (suc d) = inl d

abbrev open_text : ℕ ⊎ Unit {0} → List ℕ
open_text = one_text 40 opens_text (λ _. 45 ∷ [])

abbrev IsOpen : ℕ → ℕ ⊎ Unit {0} → Type 0
IsOpen n = IsOne (λ d. d ≤ n) IsUnit

to_depth_fine : (n : ℕ) (x : ℕ ⊎ Unit {0}) → IsOpen n x → to_depth x ≤ suc n
to_depth_fine n (inl d) v = omega arith
to_depth_fine n (inr z) v = omega arith

to_depth_text : (n : ℕ) (x : ℕ ⊎ Unit {0}) → IsOpen n x → opens_text (to_depth x) ≡ open_text x
to_depth_text n (inl d) v = refl
to_depth_text n (inr z) v = refl

of_depth_fine : (n d : ℕ) → d ≤ suc n → IsOpen n (of_depth d)
of_depth_fine n zero v = refl
of_depth_fine n (suc d) v = omega arith

of_depth_again : (n d : ℕ) → d ≤ suc n → to_depth (of_depth d) ≡ d
of_depth_again n zero v = refl
of_depth_again n (suc d) v = refl

pub opens_Reads : (n : ℕ) → Reads opens_text (λ d. d ≤ n) NoByte (opens_at n)
opens_Reads zero = mapped_Reads (byte_Reads 45) {f = λ _. 0} {g = λ _. tt} (record { there = λ x v. omega arith; spelled = λ x v. refl; back = λ z v. refl; again = λ z v. omega arith })
opens_Reads (suc n) =
    mapped_Reads (choice_Reads 40 (opens_Reads n) (byte_Reads 45) (λ y u v w e. let f = heads 45 40 u v e in omega arith))
    {f = to_depth} {g = of_depth}
    (record { there = to_depth_fine n; spelled = to_depth_text n; back = of_depth_fine n; again = of_depth_again n })

-- a whole name

abbrev rest_text : List Frame × Tail → List ℕ
rest_text = after frames_text (λ _ t. tail_text t)

abbrev whole_text : Whole → List ℕ
whole_text = after opens_text (λ _ z. rest_text z)

abbrev IsWhole : Whole → Type 0
IsWhole = AreBoth (λ d. d ≤ 64) (λ d. AreBoth (AreFrames d) (λ _. IsTail))

whole_Reads : Reads whole_text IsWhole IsDigit whole_at
whole_Reads =
    both_Reads (opens_Reads 64)
    (λ d _. both_Reads (frames_Reads d) (λ _ _. tail_Reads) (λ x y c r u v w m e. m))
    (λ x y c r u v w m e. m)

-- from what is read to the name and back

abbrev pub frames_onto : Tree → List Frame → List Frame
frames_onto Top fs = fs
frames_onto (InLoop o b l i) fs = frames_onto o ((b, (inl l, (i, tt))) ∷ fs)
frames_onto (InCall o b s i) fs = frames_onto o ((b, (inr s, (i, tt))) ∷ fs)

abbrev whole_of : Activity → Whole
whole_of n = (depth n.context, (frames_onto n.context [], (n.block, (n.statement, n.initiation))))

abbrev pub parens : ℕ → List ℕ → List ℕ
parens zero t = t
parens (suc n) t = 40 ∷ parens n t

parens-in : (n : ℕ) (t : List ℕ) → parens n (40 ∷ t) ≡ 40 ∷ parens n t
parens-in zero t = refl
parens-in (suc n) t = ap (λ t. 40 ∷ t) (parens-in n t)

parens-append : (n : ℕ) (a b : List ℕ) → parens n (a ++ b) ≡ parens n a ++ b
parens-append zero a b = refl
parens-append (suc n) a b = ap (λ t. 40 ∷ t) (parens-append n a b)

pub opens_text-is : (d : ℕ) → opens_text d ≡ parens d (45 ∷ [])
opens_text-is zero = refl
opens_text-is (suc d) = ap (λ t. 40 ∷ t) (opens_text-is d)

pub length-frames : (d : ℕ) (fs : List Frame) → AreFrames d fs → length fs ≡ d
length-frames zero fs v = ap length v
length-frames (suc d) [] v = absurd v
length-frames (suc d) (f ∷ fs) v = ap (λ n. suc n) (length-frames d fs v.1)

depth-framed : (u : Tree) (b : List ℕ) (s : ℕ ⊎ ℕ) (k : ℕ × Unit {0}) → depth (framed u (b, (s, k))) ≡ depth u + 1
depth-framed u b (inl l) k = refl
depth-framed u b (inr s) k = refl

pub depth-tree_onto : (u : Tree) (fs : List Frame) → depth (tree_onto u fs) ≡ depth u + length fs
depth-tree_onto u [] = omega arith
depth-tree_onto u (f ∷ fs) = omega (arith, depth-tree_onto (framed u f) fs, depth-framed u f.0 f.1.0 f.1.1)

framed_in : (u : Tree) (b : List ℕ) (s : ℕ ⊎ ℕ) (k : ℕ × Unit {0}) → InRange u → IsFrame (b, (s, k)) → InRange (framed u (b, (s, k)))
framed_in u b (inl l) k v w = (v, w.0, w.1.0, w.1.1.0)
framed_in u b (inr s) k v w = (v, w.0, w.1.0, w.1.1.0)

pub tree_onto_in : (d : ℕ) (u : Tree) (fs : List Frame) → InRange u → AreFrames d fs → InRange (tree_onto u fs)
tree_onto_in zero u fs v w = subst (λ fs. InRange (tree_onto u fs)) (sym w) v
tree_onto_in (suc d) u [] v w = v
tree_onto_in (suc d) u (f ∷ fs) v w = tree_onto_in d (framed u f) fs (framed_in u f.0 f.1.0 f.1.1 v w.0) w.1

framed-text : (u : Tree) (b : List ℕ) (s : ℕ ⊎ ℕ) (k : ℕ × Unit {0}) → context_text (framed u (b, (s, k))) ≡ (40 ∷ context_text u) ++ frame_text (b, (s, k))
unfolding context_text
framed-text u b (inl l) k = simp append_assoc
framed-text u b (inr s) k = simp append_assoc

pub tree_onto-text : (u : Tree) (fs : List Frame) → context_text (tree_onto u fs) ≡ parens (length fs) (context_text u) ++ frames_text fs
tree_onto-text u [] = sym (append-nil (context_text u))
tree_onto-text u (f ∷ fs) =
    tree_onto-text (framed u f) fs
    ∙ ap (λ t. parens (length fs) t ++ frames_text fs) (framed-text u f.0 f.1.0 f.1.1)
    ∙ ap (λ t. t ++ frames_text fs) (parens-append (length fs) (40 ∷ context_text u) (frame_text f) ∙ ap (λ t. t ++ frame_text f) (parens-in (length fs) (context_text u)))
    ∙ append_assoc (40 ∷ parens (length fs) (context_text u)) (frame_text f) (frames_text fs)

pub tree_onto-frames_onto : (t : Tree) (fs : List Frame) → tree_onto Top (frames_onto t fs) ≡ tree_onto t fs
tree_onto-frames_onto Top fs = refl
tree_onto-frames_onto (InLoop o b l i) fs = tree_onto-frames_onto o ((b, (inl l, (i, tt))) ∷ fs)
tree_onto-frames_onto (InCall o b s i) fs = tree_onto-frames_onto o ((b, (inr s, (i, tt))) ∷ fs)

pub frames_onto_in : (d : ℕ) (t : Tree) (fs : List Frame) → InRange t → AreFrames d fs → AreFrames (depth t + d) (frames_onto t fs)
frames_onto_in d Top fs v w = let e : d ≡ 0 + d = omega arith in subst (λ n. AreFrames n fs) e w
frames_onto_in d (InLoop o b l i) fs v w =
    let e : depth o + suc d ≡ depth o + 1 + d = omega arith in
    subst (λ n. AreFrames n (frames_onto o ((b, (inl l, (i, tt))) ∷ fs))) e (frames_onto_in (suc d) o ((b, (inl l, (i, tt))) ∷ fs) v.0 ((v.1, (v.2, (v.3, refl))), w))
frames_onto_in d (InCall o b s i) fs v w =
    let e : depth o + suc d ≡ depth o + 1 + d = omega arith in
    subst (λ n. AreFrames n (frames_onto o ((b, (inr s, (i, tt))) ∷ fs))) e (frames_onto_in (suc d) o ((b, (inr s, (i, tt))) ∷ fs) v.0 ((v.1, (v.2, (v.3, refl))), w))

name_there : (z : Whole) → IsWhole z → IsName (name_of z)
name_there z v =
    let len = length-frames z.0 z.1.0 v.1.0 in
    let dep = depth-tree_onto Top z.1.0 in
    record {
      context = record { shallow = omega arith; in_range = tree_onto_in z.0 Top z.1.0 tt v.1.0 };
      block = v.1.1.0;
      statement = v.1.1.1.0;
      initiation = v.1.1.1.1;
    }

name_spelled : (z : Whole) → IsWhole z → name_text (name_of z) ≡ whole_text z
unfolding name_text context_text
name_spelled z v =
    let len = length-frames z.0 z.1.0 v.1.0 in
    ap (λ t. t ++ tail_text z.1.1) (tree_onto-text Top z.1.0 ∙ ap (λ n. parens n (45 ∷ []) ++ frames_text z.1.0) len ∙ ap (λ t. t ++ frames_text z.1.0) (sym (opens_text-is z.0)))
    ∙ append_assoc (opens_text z.0) (frames_text z.1.0) (tail_text z.1.1)

name_back : (n : Activity) → IsName n → IsWhole (whole_of n)
name_back n v =
    let e : depth n.context + 0 ≡ depth n.context = omega arith in
    (v.context.shallow, (subst (λ d. AreFrames d (frames_onto n.context [])) e (frames_onto_in 0 n.context [] v.context.in_range refl), (v.block, (v.statement, v.initiation))))

name_again : (n : Activity) → IsName n → name_of (whole_of n) ≡ n
name_again n v = ap (λ t. activity t n.block n.statement n.initiation) (tree_onto-frames_onto n.context [])

pub name_Reads : Reads name_text IsName IsDigit name_at
unfolding name_at
name_Reads = mapped_Reads whole_Reads {f = name_of} {g = whole_of} (record { there = name_there; spelled = name_spelled; back = name_back; again = name_again })

pub frame_fine : (bs : List ℕ) (f : Frame) (rest : List ℕ) → frame_at bs ≡ Ok (f, rest) → IsFrame f
frame_fine bs f rest h = (frame_Reads.sound bs f rest h).0

pub tail_fine : (bs : List ℕ) (f : Tail) (rest : List ℕ) → tail_at bs ≡ Ok (f, rest) → IsTail f
tail_fine bs f rest h = (tail_Reads.sound bs f rest h).0
