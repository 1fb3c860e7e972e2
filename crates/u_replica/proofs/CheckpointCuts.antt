-- The text of a checkpoint, cut before its last byte, is torn, and says the firings whose lines are there.
use Rattle.std.specs.Prelude.{◌≡◌, ℕ, zero, suc, ◌+◌, ◌-◌, ◌^◌, ◌<◌, ◌≤◌, ◌⊎◌, List, [], ◌∷◌, ◌++◌, length, map, take, drop, Result, Ok, Err, MatchResult, refl}
use Rattle.std.proofs.Common.{sym, ◌∙◌, ap, subst, arith, inl, inr, length-append}
use Rattle.std.proofs.Math.Seq.{take-append-add}
use Rattle.std.proofs.lemmas.List.{take-append-le, take-append-drop}
use Rattle.u_base.specs.Pieces.{PiecesAndRest, pieces}
use Rattle.u_base.specs.Spaced.{ended}
use Rattle.u_base.proofs.PiecesLaws.{Free, glued, pieces_cut, pieces_free}
use Rattle.u_base.proofs.SpacedLaws.{AllFree}
use Rattle.u_base.proofs.WholeWordsLaws.{le_cases}
use Rattle.u_program.specs.declared.program.Version.{Version}
use Rattle.u_rule.specs.declared.firing.Firing.{Firing}
use Rattle.u_rule.specs.FiringText.{firing_text}
use Rattle.u_rule.specs.FiringReading.{IsFiring}
use Rattle.u_delta.specs.Lines.{IsShort, AreAllowed, IsTruncated}
use Rattle.u_delta.proofs.MessageLaws.{heads_are, tails_are}
use Rattle.u_delta.proofs.Same.{firings_free, firings_short}
use Rattle.u_delta.proofs.FiringTextLaws.{firing_free, firing_short}
use Rattle.u_replica.specs.declared.checkpoint.Ending.TheVariants.{Torn}
use Rattle.u_replica.specs.declared.checkpoint.Checkpoint.{Checkpoint}
use Rattle.u_replica.specs.declared.checkpoint.CheckpointError.{CheckpointError}
use Rattle.u_replica.specs.declared.checkpoint.CheckpointError.TheVariants as errors
use Rattle.u_replica.specs.CheckpointText.{first_line, count_line, checkpoint_lines, checkpoint_text}
use Rattle.u_replica.specs.Checkpoints.{AreFirings, MayRead, IsCheckpointLines, SayFirings, IsTornIn, IsFrontOf}
use Rattle.u_replica.specs.CheckpointReading.{IsAnswer}
use Rattle.u_replica.proofs.CheckpointLaws.{not_empty, begins_begun, begins_nothing, not_nothing, not_whole}
use Rattle.u_replica.proofs.CheckpointSame.{first_free, count_free, first_short, count_short, one_reading, no_error}

-- Where a text of lines is cut, these lines stand before the cut, and behind them a part of this line.
record IsCut (ls : List (List ℕ)) (bytes : List ℕ) : Type 0 where
  before : List (List ℕ)
  line : List ℕ
  others : List (List ℕ)
  part : List ℕ
  behind : List ℕ
  lines : before ++ (line ∷ others) ≡ ls
  parts : part ++ behind ≡ line
  there : bytes ≡ glued 10 before part

cut_later : (l : List ℕ) (ls : List (List ℕ)) (bytes : List ℕ) → IsCut ls bytes → IsCut (l ∷ ls) (l ++ (10 ∷ bytes))
cut_later l ls bytes c = record {
  before = l ∷ c.before;
  line = c.line;
  others = c.others;
  part = c.part;
  behind = c.behind;
  lines = ap (λ t. l ∷ t) c.lines;
  parts = c.parts;
  there = ap (λ t. l ++ (10 ∷ t)) c.there;
}

cut_here : (k : ℕ) (l : List ℕ) (ls : List (List ℕ)) → k ≤ length l → IsCut (l ∷ ls) (take k (ended (l ∷ ls)))
cut_here k l ls h = record {
  before = [];
  line = l;
  others = ls;
  part = take k l;
  behind = drop k l;
  lines = refl;
  parts = take-append-drop k l;
  there = take-append-le k l (10 ∷ ended ls) h;
}

reach : (a k : ℕ) → (k ≤ a) ⊎ ((m : ℕ) × (k ≡ a + suc m))
reach a k = elim (le_cases k a) [ inl s ↦ inl s.1 | inr s ↦ inr (k - a - 1, omega arith) ]

cut_line : (l : List ℕ) (ls : List (List ℕ)) (k : ℕ) → k < length (ended (l ∷ ls)) → ((m : ℕ) → m < length (ended ls) → IsCut ls (take m (ended ls))) → (k ≤ length l) ⊎ ((m : ℕ) × (k ≡ length l + suc m)) → IsCut (l ∷ ls) (take k (ended (l ∷ ls)))
cut_line l ls k h later (inl s) = cut_here k l ls s
cut_line l ls k h later (inr m) =
    let e : take k (l ++ (10 ∷ ended ls)) ≡ l ++ (10 ∷ take m.0 (ended ls)) = ap (λ k. take k (l ++ (10 ∷ ended ls))) m.1 ∙ take-append-add l (10 ∷ ended ls) (suc m.0) in
    subst (IsCut (l ∷ ls)) (sym e) (cut_later l ls (take m.0 (ended ls)) (later m.0 (omega (arith, m.1, length-append l (10 ∷ ended ls)))))

is_cut : (ls : List (List ℕ)) (k : ℕ) → k < length (ended ls) → IsCut ls (take k (ended ls))
is_cut [] k h = absurd (omega arith)
is_cut (l ∷ ls) k h = cut_line l ls k h (is_cut ls) (reach (length l) k)

-- the line is a firing's, or it is the one that counts and all firings stand before it
abbrev LineIs : ℕ → List Firing → List (List ℕ) → List ℕ → Type 0
LineIs n gs before line = ((f : Firing) × IsFiring f × (line ≡ firing_text f)) ⊎ ((line ≡ count_line n) × (length gs ≤ length before))

-- Where lines of firings and a count are cut: how many firings stand before the cut, and what line it is in.
record IsPlace (n : ℕ) (gs : List Firing) (before : List (List ℕ)) (line : List ℕ) : Type 0 where
  count : ℕ
  first : before ≡ map firing_text (take count gs)
  next : LineIs n gs before line

place_later : (n : ℕ) (g : Firing) (gs : List Firing) (l : List ℕ) (before : List (List ℕ)) (line : List ℕ) → l ≡ firing_text g → IsPlace n gs before line → IsPlace n (g ∷ gs) (l ∷ before) line
place_later n g gs l before line e p = record {
  count = suc p.count;
  first = ap (λ t. t ∷ before) e ∙ ap (λ t. firing_text g ∷ t) p.first;
  next = elim p.next [ inl f ↦ inl f | inr c ↦ inr (c.0, omega (arith, c.1)) ];
}

is_place : (n : ℕ) (gs : List Firing) (before : List (List ℕ)) (line : List ℕ) (others : List (List ℕ)) → AreFirings gs → before ++ (line ∷ others) ≡ map firing_text gs ++ (count_line n ∷ []) → IsPlace n gs before line
is_place n [] [] line others v e = record { count = 0; first = refl; next = inr (heads_are e, omega arith) }
is_place n [] (l ∷ before) line others v e = absurd (not_empty before line others (sym (tails_are e)))
is_place n (g ∷ gs) [] line others v e = record { count = 0; first = refl; next = inl (g, v.0, heads_are e) }
is_place n (g ∷ gs) (l ∷ before) line others v e = place_later n g gs l before line (heads_are e) (is_place n gs before line others v.1 (tails_are e))

-- such a line is free of newlines and short

abbrev IsPart : List ℕ → Type 0
IsPart line = Free 10 line × IsShort line

line_part : (gs : List Firing) (before : List (List ℕ)) (line : List ℕ) → length before < 2 ^ 64 → LineIs (length gs) gs before line → IsPart line
line_part gs before line h (inl f) = subst IsPart (sym f.2) (firing_free f.0 f.1, omega (arith, firing_short f.0 f.1))
line_part gs before line h (inr c) =
    let few : length gs < 2 ^ 64 = omega (arith, c.1) in
    subst IsPart (sym c.0) (count_free (length gs) few, count_short (length gs) few)

-- lines that say firings

all_taken : (k : ℕ) (fs : List Firing) → AreFirings fs → AreFirings (take k fs)
all_taken zero fs v = tt
all_taken (suc k) [] v = tt
all_taken (suc k) (f ∷ fs) v = (v.0, all_taken k fs v.1)

module _ (version : Version) (fs : List Firing) (v : AreFirings fs) where
  said_free : (ls : List (List ℕ)) → SayFirings version ls fs → AllFree 10 ls
  said_free ls (inl e) = subst (AllFree 10) (sym e.lines) (first_free e.head, firings_free fs v)
  said_free ls (inr e) = subst (AllFree 10) (sym e.0) tt

  said_allowed : (ls : List (List ℕ)) → SayFirings version ls fs → AreAllowed (IsCheckpointLines version) ls
  said_allowed ls (inl e) = subst (AreAllowed (IsCheckpointLines version)) (sym e.lines) (record { short = (first_short e.head, firings_short fs v); begins = begins_begun version e.head e.may fs v })
  said_allowed ls (inr e) = subst (AreAllowed (IsCheckpointLines version)) (sym e.0) (record { short = tt; begins = begins_nothing version })

  said_incomplete : (ls : List (List ℕ)) → SayFirings version ls fs → IsCheckpointLines version ls → ⊥
  said_incomplete ls (inl e) d = not_whole version e.head fs (subst (IsCheckpointLines version) e.lines d)
  said_incomplete ls (inr e) d = not_nothing version (subst (IsCheckpointLines version) e.0 d)

-- the place where a checkpoint's text is cut

module _ (version head : Version) (may : MayRead version head) where
  record IsStop (fs : List Firing) (before : List (List ℕ)) (line : List ℕ) : Type 0 where
    count : ℕ
    said : SayFirings version before (take count fs)
    part : length before < 2 ^ 64 → IsPart line

  stop_behind : (fs : List Firing) (l : List ℕ) (before : List (List ℕ)) (line : List ℕ) → l ≡ first_line head → IsPlace (length fs) fs before line → IsStop fs (l ∷ before) line
  stop_behind fs l before line e p = record {
    count = p.count;
    said = inl (record { head = head; may = may; lines = ap (λ t. t ∷ before) e ∙ ap (λ t. first_line head ∷ t) p.first });
    part = λ h. line_part fs before line (omega arith) p.next;
  }

  is_stop : (fs : List Firing) (before : List (List ℕ)) (line : List ℕ) (others : List (List ℕ)) → AreFirings fs → before ++ (line ∷ others) ≡ checkpoint_lines head fs → IsStop fs before line
  is_stop fs [] line others v e = record { count = 0; said = inr (refl, refl); part = λ h. subst IsPart (sym (heads_are e)) (first_free head, first_short head) }
  is_stop fs (l ∷ before) line others v e = stop_behind fs l before line (heads_are e) (is_place (length fs) fs before line others v (tails_are e))

-- the pieces of the front of a text

free_front : (part behind : List ℕ) → Free 10 (part ++ behind) → Free 10 part
free_front [] behind v = tt
free_front (b ∷ part) behind v = (v.0, free_front part behind v.1)

pieces_glued : (ls : List (List ℕ)) (part : List ℕ) → AllFree 10 ls → Free 10 part → pieces 10 (glued 10 ls part) ≡ (ls, part)
pieces_glued [] part v w = pieces_free 10 part w
pieces_glued (l ∷ ls) part v w = pieces_cut 10 l (glued 10 ls part) v.0 ∙ ap (λ (p : PiecesAndRest). (l ∷ p.0, p.1)) (pieces_glued ls part v.1 w)

glued_few : (ls : List (List ℕ)) (part : List ℕ) → length ls ≤ length (glued 10 ls part)
glued_few [] part = omega arith
glued_few (l ∷ ls) part = omega (arith, glued_few ls part, length-append l (10 ∷ glued 10 ls part))

module _ (version head : Version) (may : MayRead version head) where
  torn_at : (fs : List Firing) (bytes : List ℕ) (c : IsCut (checkpoint_lines head fs) bytes) → length bytes < 2 ^ 64 → AreFirings fs → IsStop version head may fs c.before c.line → (i : ℕ) × IsTornIn version (pieces 10 bytes) (take i fs)
  torn_at fs bytes c h v s =
      let few : length c.before < 2 ^ 64 = omega (arith, glued_few c.before c.part, ap (λ (b : List ℕ). length b) c.there) in
      let line : IsPart c.line = s.part few in
      let free : Free 10 c.part = free_front c.part c.behind (subst (Free 10) (sym c.parts) line.0) in
      let short : IsShort c.part = omega (arith, line.1, length-append c.part c.behind, ap (λ (b : List ℕ). length b) c.parts) in
      let w = all_taken s.count fs v in
      let p : pieces 10 bytes ≡ (c.before, c.part) = ap (pieces 10) c.there ∙ pieces_glued c.before c.part (said_free version (take s.count fs) w c.before s.said) free in
      let torn : IsTruncated (IsCheckpointLines version) (c.before, c.part) = record { allowed = said_allowed version (take s.count fs) w c.before s.said; short = short; incomplete = said_incomplete version (take s.count fs) w c.before s.said } in
      let all : IsTornIn version (c.before, c.part) (take s.count fs) = record { valid = w; torn = torn; lines = s.said } in
      (s.count, subst (λ t. IsTornIn version t (take s.count fs)) (sym p) all)

  -- the firings whose lines are there
  pub cut_torn : (fs : List Firing) (k : ℕ) (bytes : List ℕ) → length bytes < 2 ^ 64 → AreFirings fs → k < length (checkpoint_text head fs) → bytes ≡ take k (checkpoint_text head fs) → (i : ℕ) × IsTornIn version (pieces 10 bytes) (take i fs)
  unfolding checkpoint_text
  cut_torn fs k bytes h v l e =
      let c : IsCut (checkpoint_lines head fs) bytes = subst (IsCut (checkpoint_lines head fs)) (sym e) (is_cut (checkpoint_lines head fs) k l) in
      torn_at fs bytes c h v (is_stop version head may fs c.before c.line c.others v c.lines)

front_read : (version : Version) (fs gs : List Firing) (bytes : List ℕ) (i : ℕ) → IsTornIn version (pieces 10 bytes) (take i fs) → gs ≡ take i fs → IsFrontOf version bytes gs fs
front_read version fs gs bytes i t e = record { count = i; first = e; said = subst (λ gs. SayFirings version (pieces 10 bytes).0 gs) (sym e) t.lines }

-- what is returned for the front of a text
pub read_cut : (version head : Version) (fs : List Firing) (k : ℕ) (bytes : List ℕ) (result : Result Checkpoint CheckpointError) → length bytes < 2 ^ 64 → MayRead version head → AreFirings fs → k < length (checkpoint_text head fs) → bytes ≡ take k (checkpoint_text head fs) → IsAnswer version (pieces 10 bytes) result → MatchResult result (λ c. (c.ending ≡ Torn) × IsFrontOf version bytes c.firings fs) (λ error. error ≡ errors.NoMemory)
read_cut version head fs k bytes (Ok c) h may v l e r =
    let t = cut_torn version head may fs k bytes h v l e in
    let s = one_reading version bytes h c.ending Torn c.firings (take t.0 fs) r t.1 in
    (s.0, front_read version fs c.firings bytes t.0 t.1 s.1)
read_cut version head fs k bytes (Err error) h may v l e r =
    let t = cut_torn version head may fs k bytes h v l e in
    no_error version bytes h Torn (take t.0 fs) error t.1 r
