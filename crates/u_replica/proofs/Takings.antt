-- Lists of firings that are taken in pieces.
use Rattle.std.proofs.Common.{◌≡◌, ◌∙◌, sym, ap, subst, inl, inr, ◌⊎◌, ℕ, suc, ◌+◌, ◌-◌, ◌≤◌, List, [], ◌∷◌, ◌++◌, length, take, drop, length-append, Ok, Err, arith}
use Rattle.std.specs.Prelude.{Result, Contains, MatchResult, Some, slice_get, false}
use Rattle.std.proofs.Math.Seq.{take-append-add}
use Rattle.std.proofs.lemmas.List.{take-append-drop, take_rest, drop-take, take-append-le, length-take-le}
use Rattle.std.proofs.lemmas.List.Elements.{Contains-append_left, Contains-append_right, Contains-append_cases}
use Rattle.u_machine.proofs.Once.{Distinct-join}
use Rattle.u_base.proofs.Member.{Contains-nil}
use Rattle.u_check.specs.Jobs.{JobParts}
use Rattle.u_rule.specs.Rule.{own_of}
use Rattle.u_rule.specs.declared.firing.Firing.{Firing}
use Rattle.u_machine.specs.State.{State, Taken, IsSound, IsMachine}
use Rattle.u_machine.specs.Calls.{Applies, IsFresh}
use Rattle.u_machine.specs.Taking.{AreFirings, IsFirstOther, IsTooLong, TakesAll, TakeAllAnswer}
use Rattle.u_machine.specs.declared.answer.ListRefusal.{ListRefusal}
use Rattle.u_machine.specs.declared.answer.ListRefusal.TheVariants.{NotAFiring, Full, NoMemory}
use Rattle.u_machine.proofs.States.{Applies-refl, grows_trans}
use Rattle.u_machine.proofs.TakenLists.{takes_none, takes_applies}
use Rattle.u_replica.specs.Restoring.{refusal_behind}
use Rattle.u_replica.specs.Takings.{TookFront, IsTaken, IsUntaken}

-- lists that are taken one after another
pub takes_on : (old mid new : State) (fs gs : List Firing) → TakesAll old fs mid → TakesAll mid gs new → TakesAll old (fs ++ gs) new
takes_on old mid new fs gs p q = record { grows = grows_trans old mid new p.grows q.grows; taken = λ g. (to g, back g) }
  where
    to : (g : Firing) → Taken new g → Taken old g ⊎ Contains (fs ++ gs) g
    to g t =
        elim ((q.taken g).0 t) [
          | inl m ↦ elim ((p.taken g).0 m) [ inl o ↦ inl o | inr c ↦ inr (Contains-append_left fs gs g c) ]
          | inr c ↦ inr (Contains-append_right fs gs g c)
        ]

    back : (g : Firing) → Taken old g ⊎ Contains (fs ++ gs) g → Taken new g
    back g (inl o) = (q.taken g).1 (inl ((p.taken g).1 (inl o)))
    back g (inr c) = elim (Contains-append_cases fs gs g c) [ inl a ↦ (q.taken g).1 (inl ((p.taken g).1 (inr a))) | inr b ↦ (q.taken g).1 (inr b) ]

-- one list of the same members as another
takes_same : (old new : State) (fs gs : List Firing) → ((f : Firing) → Contains fs f → Contains gs f) → ((f : Firing) → Contains gs f → Contains fs f) → TakesAll old fs new → TakesAll old gs new
takes_same old new fs gs there back t = record {
  grows = t.grows;
  taken = λ g. ((λ k. elim ((t.taken g).0 k) [ inl o ↦ inl o | inr c ↦ inr (there g c) ]), (λ s. (t.taken g).1 (elim s [ inl o ↦ inl o | inr c ↦ inr (back g c) ])));
}

firings_of : (a b : State) (fs : List Firing) → b.job ≡ a.job → AreFirings b.job fs → AreFirings a.job fs
firings_of a b fs e = subst (λ (j : JobParts). AreFirings j fs) e

both_firings : (job : JobParts) (fs gs : List Firing) → AreFirings job fs → AreFirings job gs → AreFirings job (fs ++ gs)
both_firings job fs gs p q f c = elim (Contains-append_cases fs gs f c) [ inl a ↦ p f a | inr b ↦ q f b ]

in_take : (fs : List Firing) (k : ℕ) (f : Firing) → Contains (take k fs) f → Contains fs f
in_take fs k f c = subst (λ (xs : List Firing). Contains xs f) (take-append-drop k fs) (Contains-append_left (take k fs) (drop k fs) f c)

in_drop : (fs : List Firing) (k : ℕ) (f : Firing) → Contains (drop k fs) f → Contains fs f
in_drop fs k f c = subst (λ (xs : List Firing). Contains xs f) (take-append-drop k fs) (Contains-append_right (take k fs) (drop k fs) f c)

in_either : (fs : List Firing) (k : ℕ) (f : Firing) → Contains fs f → Contains (take k fs) f ⊎ Contains (drop k fs) f
in_either fs k f c = Contains-append_cases (take k fs) (drop k fs) f (subst (λ (xs : List Firing). Contains xs f) (sym (take-append-drop k fs)) c)

-- a longer front is the shorter one with a piece behind it
longer : (fs : List Firing) (k n : ℕ) → k + n ≤ length fs → take (k + n) fs ≡ take k fs ++ take n (drop k fs)
longer fs k n few =
    let is = sym (take-append-drop k (take (k + n) fs)) ∙ ap (λ (xs : List Firing). take k (take (k + n) fs) ++ xs) (drop-take k n fs) in
    let l = length-take-le (k + n) fs few in
    let front = sym (take-append-le k (take (k + n) fs) (drop (k + n) fs) (omega (arith, l))) ∙ ap (λ (xs : List Firing). take k xs) (take-append-drop (k + n) fs) in
    is ∙ ap (λ (xs : List Firing). xs ++ take n (drop k fs)) front

pub took_none : (m : State) (fs : List Firing) → TookFront m fs 0 m
took_none m fs = record {
  some = [];
  takes = takes_none m m (Applies-refl m);
  within = λ f c. absurd (Contains-nil f c);
  front = λ f c. c;
  firings = λ f c. absurd (Contains-nil f c);
  few = omega arith;
}

module _ (old mid new : State) (fs : List Firing) (count : ℕ) (t : TookFront old fs count mid) where
  same_job : mid.job ≡ old.job
  same_job = t.takes.grows.job

  -- one piece more
  pub took_more : (n m : ℕ) → m ≡ n → count + n ≤ length fs → (u : Unit {0}) → TakeAllAnswer mid (take m (drop count fs)) (Ok u) new → TookFront old fs (count + n) new
  took_more n m same few u answer =
      let is = longer fs count n few in
      let a = subst (λ (k : ℕ). TakeAllAnswer mid (take k (drop count fs)) (Ok u) new) same answer in
      let piece = take n (drop count fs) in
      record {
        some = t.some ++ piece;
        takes = takes_on old mid new t.some piece t.takes a.2;
        within = λ f c. elim (Contains-append_cases t.some piece f c) [ inl s ↦ t.within f s | inr p ↦ in_drop fs count f (in_take (drop count fs) n f p) ];
        front = λ f c. elim (Contains-append_cases (take count fs) piece f (subst (λ (xs : List Firing). Contains xs f) is c)) [ inl s ↦ Contains-append_left t.some piece f (t.front f s) | inr p ↦ Contains-append_right t.some piece f p ];
        firings = subst (AreFirings old.job) (sym is) (both_firings old.job (take count fs) piece t.firings (firings_of old mid piece same_job a.0));
        few = few;
      }

  applied : Applies mid new → TookFront old fs count new
  applied p = record { some = t.some; takes = takes_applies old mid new t.some t.takes p; within = t.within; front = t.front; firings = t.firings; few = t.few }

  -- a piece that is refused changes nothing of that
  pub took_refused : (m : ℕ) (e : ListRefusal) → TakeAllAnswer mid (take m (drop count fs)) (Err e) new → TookFront old fs count new
  took_refused m (NotAFiring place) a = applied a.1.applies
  took_refused m Full a = applied a.2.applies
  took_refused m NoMemory (inl a) = applied a.applies
  took_refused m NoMemory (inr (firings, fits, (k, few, takes))) =
      let piece = take m (drop count fs) in
      record {
        some = t.some ++ take k piece;
        takes = takes_on old mid new t.some (take k piece) t.takes takes;
        within = λ f c. elim (Contains-append_cases t.some (take k piece) f c) [ inl s ↦ t.within f s | inr p ↦ in_drop fs count f (in_take (drop count fs) m f (in_take piece k f p)) ];
        front = λ f c. Contains-append_left t.some (take k piece) f (t.front f c);
        firings = t.firings;
        few = t.few;
      }

  -- the rest is taken, and so all are
  pub took_rest : (u : Unit {0}) → TakeAllAnswer mid (take (length fs - count) (drop count fs)) (Ok u) new → IsTaken old fs new
  took_rest u answer =
      let a = subst (λ (xs : List Firing). TakeAllAnswer mid xs (Ok u) new) (take_rest fs count) answer in
      record {
        firings = λ f c. elim (in_either fs count f c) [ inl p ↦ t.firings f p | inr q ↦ firings_of old mid (drop count fs) same_job a.0 f q ];
        takes = takes_same old new (t.some ++ drop count fs) fs
            (λ f c. elim (Contains-append_cases t.some (drop count fs) f c) [ inl s ↦ t.within f s | inr q ↦ in_drop fs count f q ])
            (λ f c. elim (in_either fs count f c) [ inl p ↦ Contains-append_left t.some (drop count fs) f (t.front f p) | inr q ↦ Contains-append_right t.some (drop count fs) f q ])
            (takes_on old mid new t.some (drop count fs) t.takes a.2);
        settled = a.3;
      }

  too_long : IsFresh old → IsSound mid → IsTooLong mid fs → IsTooLong old fs
  too_long fresh sound (news, are, many) = (
    (mid.log ++ mid.parked) ++ news,
    record {
      once = Distinct-join (mid.log ++ mid.parked) news sound.distinct are.once (λ f a b. (are.found.new f b).1 a);
      found = record {
        new = λ f c. elim (Contains-append_cases (mid.log ++ mid.parked) news f c) [ inl a ↦ (was_taken f ((t.takes.taken f).0 a), untaken f) | inr b ↦ ((are.found.new f b).0, untaken f) ];
        all = λ f c. elim (are.found.all f c) [ inl a ↦ inr (Contains-append_left (mid.log ++ mid.parked) news f a) | inr b ↦ inr (Contains-append_right (mid.log ++ mid.parked) news f b) ];
      };
    },
    let l = length-append (mid.log ++ mid.parked) news in
        let k = length-append mid.log mid.parked in
        let x = t.takes.grows.limit in
        let y = ap length fresh.0 in
        let z = ap length fresh.1 in
        omega (arith, many),
  )
    where
      untaken : (f : Firing) → Taken old f → ⊥
      untaken f c = Contains-nil f (rw (fresh.0, fresh.1) at c)

      was_taken : (f : Firing) → Taken old f ⊎ Contains t.some f → Contains fs f
      was_taken f (inl o) = absurd (untaken f o)
      was_taken f (inr s) = t.within f s

  -- what is answered of all of them is so of a machine that has taken none
  pub took_whole : IsFresh old → IsMachine mid → (r : Result (Unit {0}) ListRefusal) → TakeAllAnswer mid fs r new → MatchResult r (λ u. IsTaken old fs new) (λ e. IsUntaken old fs e)
  took_whole fresh is (Ok u) a = record {
    firings = firings_of old mid fs same_job a.0;
    takes = takes_same old new (t.some ++ fs) fs (λ f c. elim (Contains-append_cases t.some fs f c) [ inl s ↦ t.within f s | inr q ↦ q ]) (λ f c. Contains-append_right t.some fs f c) (takes_on old mid new t.some fs t.takes a.2);
    settled = a.3;
  }
  took_whole fresh is (Err (NotAFiring place)) a = subst (λ (j : JobParts). IsFirstOther j fs place) same_job a.0
  took_whole fresh is (Err Full) a = (firings_of old mid fs same_job a.0, too_long fresh is.sound a.1)
  took_whole fresh is (Err NoMemory) a = tt

drop_front : (xs ys : List Firing) (k : ℕ) → drop (length xs + k) (xs ++ ys) ≡ drop k ys
drop_front [] ys k = let e : 0 + k ≡ k = omega arith in ap (λ (m : ℕ). drop m ys) e
drop_front (x ∷ xs) ys k = let e : length (x ∷ xs) + k ≡ suc (length xs + k) = omega arith in ap (λ (m : ℕ). drop m (x ∷ (xs ++ ys))) e ∙ drop_front xs ys k

get_behind : (xs ys : List Firing) (k : ℕ) (f : Firing) → slice_get ys k ≡ Some f → slice_get (xs ++ ys) (length xs + k) ≡ Some f
get_behind [] ys k f h = let e : 0 + k ≡ k = omega arith in ap (λ (m : ℕ). slice_get ys m) e ∙ h
get_behind (x ∷ xs) ys k f h = let e : length (x ∷ xs) + k ≡ suc (length xs + k) = omega arith in ap (λ (m : ℕ). slice_get (x ∷ (xs ++ ys)) m) e ∙ get_behind xs ys k f h

-- a list behind those that were taken before it
module _ (base mid new : State) (before fs : List Firing) (count : ℕ) (t : TookFront base (before ++ fs) (length before + count) mid) where
  joined : length (before ++ fs) ≡ length before + length fs
  joined = length-append before fs

  in_front : (f : Firing) → Contains before f → Contains (take (length before + count) (before ++ fs)) f
  in_front f c = subst (λ (xs : List Firing). Contains xs f) (sym (take-append-add before fs count)) (Contains-append_left before (take count fs) f c)

  -- one piece more
  pub piece_taken : (n m : ℕ) → m ≡ n → count + n ≤ length fs → (u : Unit {0}) → TakeAllAnswer mid (take m (drop count fs)) (Ok u) new → TookFront base (before ++ fs) (length before + (count + n)) new
  piece_taken n m same few u answer =
      let e : length before + count + n ≡ length before + (count + n) = omega arith in
      subst (λ (k : ℕ). TookFront base (before ++ fs) k new) e
      (took_more base mid new (before ++ fs) (length before + count) t n m same (omega (arith, joined, few)) u (subst (λ (xs : List Firing). TakeAllAnswer mid (take m xs) (Ok u) new) (sym (drop_front before fs count)) answer))

  pub piece_refused : (m : ℕ) (e : ListRefusal) → TakeAllAnswer mid (take m (drop count fs)) (Err e) new → TookFront base (before ++ fs) (length before + count) new
  piece_refused m e answer =
      took_refused base mid new (before ++ fs) (length before + count) t m e (subst (λ (xs : List Firing). TakeAllAnswer mid (take m xs) (Err e) new) (sym (drop_front before fs count)) answer)

  pub rest_taken : (u : Unit {0}) → TakeAllAnswer mid (take (length fs - count) (drop count fs)) (Ok u) new → IsTaken base (before ++ fs) new
  rest_taken u answer =
      took_rest base mid new (before ++ fs) (length before + count) t u
      (subst (λ (xs : List Firing). TakeAllAnswer mid xs (Ok u) new) (take_rest fs count ∙ sym (drop_front before fs count) ∙ sym (take_rest (before ++ fs) (length before + count))) answer)

  -- what is answered of the list is so of it with those before
  pub all_answered : IsFresh base → IsMachine mid → (r : Result (Unit {0}) ListRefusal) → TakeAllAnswer mid fs r new → MatchResult r (λ u. IsTaken base (before ++ fs) new) (λ e. IsUntaken base (before ++ fs) (refusal_behind (length before) e))
  all_answered fresh is (Ok u) a = record {
    firings = λ f c. elim (Contains-append_cases before fs f c) [ inl b ↦ t.firings f (in_front f b) | inr q ↦ firings_of base mid fs (same_job base mid new (before ++ fs) (length before + count) t) a.0 f q ];
    takes = takes_same base new (t.some ++ fs) (before ++ fs)
        (λ f c. elim (Contains-append_cases t.some fs f c) [ inl s ↦ t.within f s | inr q ↦ Contains-append_right before fs f q ])
        (λ f c. elim (Contains-append_cases before fs f c) [ inl b ↦ Contains-append_left t.some fs f (t.front f (in_front f b)) | inr q ↦ Contains-append_right t.some fs f q ])
        (takes_on base mid new t.some fs t.takes a.2);
    settled = a.3;
  }
  all_answered fresh is (Err (NotAFiring place)) a =
      let o = a.0 in
      let e = same_job base mid new (before ++ fs) (length before + count) t in
      record {
        other = o.other;
        at = get_behind before fs place o.other o.at;
        none = subst (λ (j : JobParts). (own_of j).is_firing o.other ≡ false) e o.none;
        before = subst (AreFirings base.job) (sym (take-append-add before fs place))
            (both_firings base.job before (take place fs) (λ f c. t.firings f (in_front f c)) (firings_of base mid (take place fs) e o.before));
      }
  all_answered fresh is (Err Full) (own, (news, are, many), settles) =
      let e = same_job base mid new (before ++ fs) (length before + count) t in (
        both_firings base.job before fs (λ f c. t.firings f (in_front f c)) (firings_of base mid fs e own),
        too_long base mid new (before ++ fs) (length before + count) t fresh is.sound (
          news,
          record {
            once = are.once;
            found = record {
              new = λ f c. (Contains-append_right before fs f (are.found.new f c).0, (are.found.new f c).1);
              all = λ f c. elim (Contains-append_cases before fs f c) [ inl b ↦ inl ((t.takes.taken f).1 (inr (t.front f (in_front f b)))) | inr q ↦ are.found.all f q ];
            };
          },
          many,
        ),
      )
  all_answered fresh is (Err NoMemory) a = tt
