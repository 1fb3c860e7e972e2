-- The first place where something meets.
use Rattle.std.proofs.Common.{◌≡◌, ℕ, zero, suc, ◌+◌, ◌-◌, ◌<◌, ◌≤◌, inl, inr, refl, sym, ap, ◌∙◌, subst, arith, List, [], ◌∷◌, ◌++◌, length, length-append, get_or, Option, Some, None, below_more, lit≤, ◌↔◌, ◌⊎◌}
use Rattle.std.specs.Prelude.{slice_get, Contains}
use Rattle.std.proofs.lemmas.Bool.{cases_order}
use Rattle.std.proofs.lemmas.Option.{slice_get_within}
use Rattle.u_program.specs.Parts.{StatementParts, BlockParts}
use Rattle.u_check.specs.Rules.{IsChecked}
use Rattle.u_check.proofs.Arcs.{has_number}
use Rattle.u_check.proofs.Blocks.{place_of_member, member_at}
use Rattle.u_check.proofs.Facts.{target_exists, apply_returned}
use Rattle.u_determinate.specs.Breaches.{IsFirstFailing}
use Rattle.u_determinate.proofs.KindFacts.{named_apply}
use Rattle.u_determinate.specs.Determinate.{IsDeterminate}
use Rattle.u_determinate.specs.declared.verdict.Meeting.{Meeting}
use Rattle.u_determinate.specs.declared.verdict.Meeting.TheVariants.{Arcs, Ends, Calls, Turns}
use Rattle.u_determinate.specs.declared.verdict.MeetingPoint.{MeetingPoint}
use Rattle.u_determinate.specs.declared.verdict.Determinacy.{Determinacy}
use Rattle.u_determinate.specs.declared.verdict.Determinacy.TheVariants.{Determinate, Meets}
use Rattle.u_determinate.specs.declared.first_meeting.Found.{Found}
use Rattle.u_determinate.specs.Meetings.{order_of, Asks, MeetsAt, IsFirstMeeting, IsFirstOfAll, IsAnswer}
use Rattle.u_determinate.specs.Findings.{found_of, AreFirst, AreFindings, IsFirstPlace, IsFirstFound}
use Rattle.u_determinate.proofs.Links.{number_within, pushed}
use Rattle.u_determinate.proofs.Stricter.{from_statement}

-- a number past the last statement keeps all
pub asks_nowhere : (m : Meeting) (ss : List StatementParts) (n : ℕ) → length ss < n → Asks m ss n
asks_nowhere Arcs ss n l = λ s e. (let w = number_within ss n s e in absurd (omega (arith, w.1, l)))
asks_nowhere Ends ss n l = λ x. (let w = number_within ss n x.it x.stands in absurd (omega (arith, w.1, l)))
asks_nowhere Calls ss n l = λ x. (let w = number_within ss n x.it x.stands in absurd (omega (arith, w.1, l)))
asks_nowhere Turns ss n l = λ x. (let w = number_within ss n x.it x.stands in absurd (omega (arith, w.1, l)))

pub first_each : (ss : List StatementParts) (f : Found) → IsFirstFailing (Asks Arcs ss) f.arcs → IsFirstFailing (Asks Ends ss) f.ends → IsFirstFailing (Asks Calls ss) f.calls → IsFirstFailing (Asks Turns ss) f.turns → AreFirst ss f
first_each ss f a e k t Arcs = a
first_each ss f a e k t Ends = e
first_each ss f a e k t Calls = k
first_each ss f a e k t Turns = t

-- what is kept of all statements is kept of all numbers
pub asks_all : (m : Meeting) (ss : List StatementParts) (k : ℕ) → length ss + 1 ≤ k → ((n : ℕ) → n < k → Asks m ss n) → (n : ℕ) → Asks m ss n
asks_all m ss k l h n =
    elim (cases_order n k) [
      | inl e ↦ asks_nowhere m ss n (omega (arith, e, l))
      | inr y ↦ elim y [ inl b ↦ h n b | inr b ↦ asks_nowhere m ss n (omega (arith, b, l)) ]
    ]

there : {X : Type 0} (xs : List X) (i : ℕ) → i < length xs → (x : X) × (slice_get xs i ≡ Some x)
there [] i l = absurd (omega (arith, l))
there (x ∷ xs) zero l = (x, refl)
there (x ∷ xs) (suc i) l = there xs i (omega (arith, l))

pub one_there : {X : Type 0} (xs : List X) (i : ℕ) (x y : X) → slice_get xs i ≡ Some x → slice_get xs i ≡ Some y → x ≡ y
one_there xs i x y e q = let z : Some x ≡ Some y = sym e ∙ q in cc

-- what is found, as far as the blocks were gone over
abbrev pub FindingsBelow : List BlockParts → ℕ → List Found → Type 0
FindingsBelow p k fs =
    (length fs ≡ k) × ((i : ℕ) (b : BlockParts) (f : Found) → slice_get p i ≡ Some b → slice_get fs i ≡ Some f → AreFirst b.statements f)

pub findings_none : (p : List BlockParts) → FindingsBelow p 0 []
findings_none p = (refl, λ i b f e q. absurd (let z = q in cc))

pub findings_more : (p : List BlockParts) (k : ℕ) (b : BlockParts) → slice_get p k ≡ Some b → (fs : List Found) (f : Found) → AreFirst b.statements f → FindingsBelow p k fs → FindingsBelow p (k + 1) (fs ++ f ∷ [])
findings_more p k b e fs f a h =
    (omega (arith, length-append fs (f ∷ []), h.0), λ i c g q r. by i c g q (pushed fs f i g r))
  where
    by : (i : ℕ) (c : BlockParts) (g : Found) → slice_get p i ≡ Some c → (slice_get fs i ≡ Some g) ⊎ ((i ≡ length fs) × (f ≡ g)) → AreFirst c.statements g
    by i c g q (inl r) = h.1 i c g q r
    by i c g q (inr (r, z)) =
        let at : slice_get p k ≡ Some c = ap (slice_get p) (sym (r ∙ h.0)) ∙ q in
        subst (λ (x : Found). AreFirst c.statements x) z (subst (λ (x : BlockParts). AreFirst x.statements f) (one_there p k b c e at) a)

-- each statement of each block keeps it
abbrev pub KeepsAll : List BlockParts → Meeting → Type 0
KeepsAll p m = (b : BlockParts) → Contains p b → (n : ℕ) → Asks m b.statements n

pub kept_nowhere : (p : List BlockParts) (m : Meeting) → KeepsAll p m → (b n : ℕ) → MeetsAt p m b n → ⊥
kept_nowhere p m keeps b n w = w.broken (keeps w.it (member_at p (b - 1) w.it w.stands) n)

failing_none : (P : ℕ → Type 0) (o : Option ℕ) → o ≡ None → IsFirstFailing P o → (n : ℕ) → P n
failing_none P o e h = subst (IsFirstFailing P) e h

module _ (p : List BlockParts) (fs : List Found) (are : AreFindings p fs) (m : Meeting) where
  -- a block of which nothing was found keeps it
  block_keeps : (i : ℕ) (b : BlockParts) → slice_get p i ≡ Some b → ((f : Found) → slice_get fs i ≡ Some f → found_of f m ≡ None) → (n : ℕ) → Asks m b.statements n
  block_keeps i b e none =
      let w = slice_get_within p i b e in
      let f = there fs i (omega (arith, w, are.count)) in
      failing_none (Asks m b.statements) (found_of f.0 m) (none f.0 f.1) (are.each i b f.0 e f.1 m)

  pub none_found : IsFirstFound fs m None → KeepsAll p m
  none_found none b c =
      let k = place_of_member p b c in
      block_keeps k.0 b k.1 (none k.0)

  pub some_found : (place : MeetingPoint) → IsFirstPlace fs m place → IsFirstMeeting p m place.block place.at
  some_found place h = record {
    here = record { counts = h.counts; it = b; stands = e; broken = first.0 };
    first = λ c n w x. elim x [
      | inl l ↦
          let k = w.counts in
          w.broken (block_keeps (c - 1) w.it w.stands (λ f q. h.before (c - 1) f (omega (arith, l, k)) q) n)
      | inr y ↦
          let s : slice_get p (place.block - 1) ≡ Some w.it = ap (λ (j : ℕ). slice_get p (j - 1)) (sym y.0) ∙ w.stands in
          w.broken (subst (λ (z : BlockParts). Asks m z.statements n) (one_there p (place.block - 1) b w.it e s) (first.1 n y.1))
    ];
  }
    where
      at : (x : BlockParts) × (slice_get p (place.block - 1) ≡ Some x)
      at = (let w = slice_get_within fs (place.block - 1) h.it h.stands in there p (place.block - 1) (omega (arith, w, are.count)))

      b : BlockParts
      b = at.0

      e : slice_get p (place.block - 1) ≡ Some b
      e = at.1

      first : IsFirstFailing (Asks m b.statements) (Some place.at)
      first = subst (IsFirstFailing (Asks m b.statements)) h.found (are.each (place.block - 1) b h.it e h.stands m)

-- The kinds in order.
abbrev pub in_order : List Meeting
in_order = Arcs ∷ Ends ∷ Calls ∷ Turns ∷ []

place_at : (i : ℕ) (d : Meeting) → i < 4 → order_of (get_or in_order i d) ≡ i
place_at zero d h = refl
place_at (suc zero) d h = refl
place_at (suc (suc zero)) d h = refl
place_at (suc (suc (suc zero))) d h = refl
place_at (suc (suc (suc (suc i)))) d h = absurd (omega arith)

meeting_at : (m d : Meeting) → get_or in_order (order_of m) d ≡ m
meeting_at Arcs d = refl
meeting_at Ends d = refl
meeting_at Calls d = refl
meeting_at Turns d = refl

ordered : (m : Meeting) → order_of m < 4
ordered Arcs = lit≤ tt
ordered Ends = lit≤ tt
ordered Calls = lit≤ tt
ordered Turns = lit≤ tt

same_order : (r s : Meeting) → order_of r ≡ order_of s → r ≡ s
same_order r s e = sym (meeting_at r r) ∙ ap (λ (i : ℕ). get_or in_order i r) e ∙ meeting_at s r

abbrev pub meeting_in : ℕ → Meeting
meeting_in i = get_or in_order i Arcs

module _ (p : List BlockParts) where
  -- the kinds before a place in their order meet nowhere
  abbrev pub KeptKinds : ℕ → Type 0
  KeptKinds i = (m : Meeting) → order_of m < i → KeepsAll p m

  pub next_kind : (i : ℕ) → i < 4 → KeptKinds i → KeepsAll p (meeting_in i) → KeptKinds (i + 1)
  next_kind i l before here m h =
      below_more (λ (k : ℕ). (q : Meeting) → order_of q ≡ k → KeepsAll p q) i (λ k lt q eq. before q (omega arith))
      (λ q eq. subst (λ (r : Meeting). KeepsAll p r) (same_order (meeting_in i) q (place_at i Arcs l ∙ sym eq)) here) (order_of m) h m refl

  pub first_of_all : (i : ℕ) (m : Meeting) (block at : ℕ) → i < 4 → m ≡ meeting_in i → KeptKinds i → IsFirstMeeting p m block at → IsFirstOfAll p m block at
  first_of_all i m block at l is before w = record {
    here = w;
    first_kind = λ k b n v h.
        let e : order_of m ≡ order_of (meeting_in i) = ap order_of is in
        let q = place_at i Arcs l in
        kept_nowhere p k (before k (omega (arith, h, e, q))) b n v;
  }

  pub first_answer : (fs : List Found) → AreFindings p fs → (i : ℕ) (place : MeetingPoint) → i < 4 → KeptKinds i → IsFirstPlace fs (meeting_in i) place → IsAnswer p (Meets place)
  first_answer fs are i place l before h =
      subst (λ (m : Meeting). IsFirstOfAll p m place.block place.at) (sym h.meeting) (first_of_all i (meeting_in i) place.block place.at l refl before (some_found p fs are (meeting_in i) place h))

  pub determinate : IsChecked p → KeptKinds 4 → IsDeterminate p
  determinate c keeps b m = record {
    one_source = λ n port x y ex ey.
        let f = from_statement b.statements x _ ex in
        let i = has_number b.statements x.statement f.it f.stands in
        let g = target_exists p c b m (x.statement - 1) f.it i.1 _ f.sends_there in
        each Arcs n g.it g.stands port x y ex ey;
    one_end = λ i j x y. elim (cases_order i j) [
      | inl e ↦ e
      | inr z ↦ elim z [ inl l ↦ absurd (each Ends j y i l x) | inr l ↦ absurd (each Ends i x j l y) ]
    ];
    one_apply = λ n i j x y.
        let k = has_number b.statements i x.it x.stands in
        let a = named_apply x.it.kind n x.names in
        let r = apply_returned p c b m (i - 1) x.it k.1 n a.0 a.1 in
        each Calls n (record { it = r.it; stands = r.stands; kind = r.is_a_back }) i j x y;
    one_turn = λ i j next last e. each Turns i next j (last, sym e);
  }
    where
      each : (k : Meeting) (n : ℕ) → Asks k b.statements n
      each k n = keeps k (ordered k) b m n

  -- a determinate program keeps each kind
  pub determinate_keeps : IsDeterminate p → (m : Meeting) → KeepsAll p m
  determinate_keeps w Arcs b m = λ n s e port x y ex ey. (w b m).one_source n port x y ex ey
  determinate_keeps w Ends b m = λ n x i l y. let e = (w b m).one_end i n y x in omega (arith, l, e)
  determinate_keeps w Calls b m = λ n x. (w b m).one_apply n
  determinate_keeps w Turns b m = λ n next j l. (w b m).one_turn n j next l.0 (sym l.1)

  pub answer_exact : (d : Determinacy) → IsAnswer p d → (d ≡ Determinate) ↔ IsDeterminate p
  answer_exact Determinate w = (λ e. w, λ k. refl)
  answer_exact (Meets place) w =
      (λ e. absurd (cc), λ k. absurd (kept_nowhere p place.meeting (determinate_keeps k place.meeting) place.block place.at w.here.here))
