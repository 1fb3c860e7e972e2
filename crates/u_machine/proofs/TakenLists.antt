-- Lists of firings that are taken one after another.
use Rattle.std.proofs.Common.{◌≡◌, ◌<◌, ◌≤◌, ◌+◌, ◌⊎◌, inl, inr, sym, ◌∙◌, subst, arith, ap, length, List, [], ◌∷◌, ◌++◌, length-append, Ok, Err, ℕ, take, get_or}
use Rattle.std.specs.Prelude.{Contains, Result}
use Rattle.std.specs.Result.{IsErrAnd}
use Rattle.std.proofs.lemmas.List.{take_more}
use Rattle.std.proofs.lemmas.List.Elements.{Contains-get_or, Contains-append_left, Contains-append_right, Contains-push, Contains-push_cases}
use Rattle.u_rule.specs.declared.firing.Firing.{Firing}
use Rattle.u_rule.specs.Rule.{own_of}
use Rattle.u_sets.specs.Members.{GoesLast, IsWith}
use Rattle.u_base.proofs.Apart.{Distinct-push}
use Rattle.u_base.proofs.Member.{Contains-nil}
use Rattle.u_machine.specs.declared.answer.Took.{Took}
use Rattle.u_machine.specs.declared.answer.Took.TheVariants as took
use Rattle.u_machine.specs.declared.answer.ListRefusal.{ListRefusal}
use Rattle.u_machine.specs.declared.answer.ListRefusal.TheVariants.{NoMemory}
use Rattle.u_machine.specs.State.{State, Taken, IsSound, IsSettled, count_of}
use Rattle.u_machine.specs.Calls.{Applies, Takes, TakeAnswer}
use Rattle.u_machine.specs.declared.answer.TakeRefusal.TheVariants as untaken
use Rattle.u_machine.proofs.Lists.{Contains-taken}
use Rattle.u_machine.proofs.Settled.{not_both}
use Rattle.u_machine.proofs.States.{grows_trans}
use Rattle.u_machine.specs.Taking.{AreFirings, AreNew, FoundNew, GainsNew, TakesAll, TakesSome, TakeAllAnswer}
use Rattle.u_machine.proofs.Counting.{no_more}

-- what goes last is put in
pub goes_in : (old new : List Firing) (y : Firing) → GoesLast old y new → IsWith old y new
goes_in old new y (inl (m, e)) x = (
  (λ k. inl (subst (λ (xs : List Firing). Contains xs x) e k)),
  λ s. elim s [ inl k ↦ subst (λ (xs : List Firing). Contains xs x) (sym e) k | inr q ↦ subst (λ (xs : List Firing). Contains xs x) (sym e) (subst (Contains old) q m) ],
)
goes_in old new y (inr (n, e)) x = (
  (λ k. Contains-push_cases old y x (subst (λ (xs : List Firing). Contains xs x) e k)),
  λ s. subst (λ (xs : List Firing). Contains xs x) (sym e) (elim s [ inl k ↦ Contains-append_left old (y ∷ []) x k | inr q ↦ subst (Contains (old ++ y ∷ [])) q (Contains-push old y) ]),
)

pub takes_none : (old new : State) → Applies old new → TakesAll old [] new
takes_none old new p = record {
  grows = p.grows;
  taken = λ g. ((λ t. inl ((p.taken g).1 t)), λ s. elim s [ inl t ↦ (p.taken g).0 t | inr n ↦ absurd (Contains-nil g n) ]);
}

module _ (old mid new : State) (fs : List Firing) (r : TakesAll old fs mid) where
  pub takes_applies : Applies mid new → TakesAll old fs new
  takes_applies p = record {
    grows = grows_trans old mid new r.grows p.grows;
    taken = λ g. ((λ t. (r.taken g).0 ((p.taken g).1 t)), λ s. (p.taken g).0 ((r.taken g).1 s));
  }

  -- one more that was taken before
  pub takes_known : (f : Firing) → Taken mid f → Applies mid new → TakesAll old (fs ++ f ∷ []) new
  takes_known f k p = let q = takes_applies p in record { grows = q.grows; taken = λ g. (to g, back g) }
    where
      to : (g : Firing) → Taken new g → Taken old g ⊎ Contains (fs ++ f ∷ []) g
      to g t = elim ((r.taken g).0 ((p.taken g).1 t)) [ inl a ↦ inl a | inr b ↦ inr (Contains-append_left fs (f ∷ []) g b) ]

      back : (g : Firing) → Taken old g ⊎ Contains (fs ++ f ∷ []) g → Taken new g
      back g (inl a) = (p.taken g).0 ((r.taken g).1 (inl a))
      back g (inr b) = elim (Contains-push_cases fs f g b) [ inl a ↦ (p.taken g).0 ((r.taken g).1 (inr a)) | inr e ↦ (p.taken g).0 (subst (λ (h : Firing). Taken mid h) e k) ]

  -- one more that is taken
  pub takes_more : (f : Firing) → Takes mid f new → TakesAll old (fs ++ f ∷ []) new
  takes_more f t = record { grows = grows_trans old mid new r.grows t.grows; taken = λ g. (to g, back g) }
    where
      to : (g : Firing) → Taken new g → Taken old g ⊎ Contains (fs ++ f ∷ []) g
      to g k = over ((t.taken g).0 k)
        where
          over : Taken mid g ⊎ (f ≡ g) → Taken old g ⊎ Contains (fs ++ f ∷ []) g
          over (inl a) = elim ((r.taken g).0 a) [ inl b ↦ inl b | inr b ↦ inr (Contains-append_left fs (f ∷ []) g b) ]
          over (inr e) = inr (subst (λ (h : Firing). Contains (fs ++ f ∷ []) h) e (Contains-push fs f))

      back : (g : Firing) → Taken old g ⊎ Contains (fs ++ f ∷ []) g → Taken new g
      back g (inl a) = (t.taken g).1 (inl ((r.taken g).1 (inl a)))
      back g (inr b) = elim (Contains-push_cases fs f g b) [ inl a ↦ (t.taken g).1 (inl ((r.taken g).1 (inr a))) | inr e ↦ (t.taken g).1 (inr e) ]

  -- what `take` answers on the next one
  pub takes_next : (f : Firing) (t : Took) → TakeAnswer mid f (Ok t) new → TakesAll old (fs ++ f ∷ []) new × IsSettled new
  takes_next f took.Known a = (takes_known f a.0 a.1.applies, a.1.settled)
  takes_next f took.Taken a = (takes_more f a.1, a.3)
  takes_next f took.Parked a = (takes_more f a.1, a.3)

-- there is room for each new one of the list, since those that were taken before it are taken or new too
pub room_for : (start mid : State) (fs front news : List Firing) (f : Firing) → IsSound mid → TakesAll start front mid → AreNew start fs news → ((g : Firing) → Contains front g → Contains fs g) → Contains fs f → (Taken mid f → ⊥) → count_of start + length news ≤ start.limit → count_of mid < mid.limit
room_for start mid fs front news f is r are before m new room =
    let n = no_more ((mid.log ++ mid.parked) ++ f ∷ []) ((start.log ++ start.parked) ++ news) (Distinct-push (mid.log ++ mid.parked) f new is.distinct) within in
    let a = length-append (mid.log ++ mid.parked) (f ∷ []) in
    let b = length-append mid.log mid.parked in
    let c = length-append (start.log ++ start.parked) news in
    let d = length-append start.log start.parked in
    let e = r.grows.limit in
    omega (arith, n, room)
  where
    among : (g : Firing) → Taken start g ⊎ Contains news g → Contains ((start.log ++ start.parked) ++ news) g
    among g (inl t) = Contains-append_left (start.log ++ start.parked) news g t
    among g (inr k) = Contains-append_right (start.log ++ start.parked) news g k

    listed : (g : Firing) → Contains fs g → Contains ((start.log ++ start.parked) ++ news) g
    listed g k = among g (are.found.all g k)

    within : (g : Firing) → Contains ((mid.log ++ mid.parked) ++ f ∷ []) g → Contains ((start.log ++ start.parked) ++ news) g
    within g k =
        elim (Contains-push_cases (mid.log ++ mid.parked) f g k) [
          | inl t ↦ elim ((r.taken g).0 t) [ inl a ↦ among g (inl a) | inr b ↦ listed g (before g b) ]
          | inr e ↦ subst (λ (h : Firing). Contains ((start.log ++ start.parked) ++ news) h) e (listed f m)
        ]

-- those of the list that are new are new before, where taken ones were applied
pub new_before : (old mid : State) (fs news : List Firing) → Applies old mid → AreNew mid fs news → AreNew old fs news
new_before old mid fs news p are = record {
  once = are.once;
  found = record {
    new = λ g k. ((are.found.new g k).0, λ t. (are.found.new g k).1 ((p.taken g).0 t));
    all = λ g k. elim (are.found.all g k) [ inl t ↦ inl ((p.taken g).1 t) | inr n ↦ inr n ];
  };
}

pub found_none : (m : State) (news : List Firing) → news ≡ [] → FoundNew m [] news
found_none m news e = record { new = λ g k. absurd (Contains-nil g (rw e at k)); all = λ g k. absurd (Contains-nil g k) }

pub found_more : (m : State) (fs old new : List Firing) (f : Firing) → FoundNew m fs old → GainsNew m f old new → FoundNew m (fs ++ f ∷ []) new
found_more m fs old new f r p = record {
  new = λ g k. of g (p.within g k);
  all = λ g k. elim (Contains-push_cases fs f g k) [ inl a ↦ elim (r.all g a) [ inl t ↦ inl t | inr n ↦ inr (p.kept g n) ] | inr e ↦ subst (λ (h : Firing). Taken m h ⊎ Contains new h) e p.there ];
}
  where
    of : (g : Firing) → Contains old g ⊎ ((f ≡ g) × (Taken m f → ⊥)) → Contains (fs ++ f ∷ []) g × (Taken m g → ⊥)
    of g (inl k) = (Contains-append_left fs (f ∷ []) g (r.new g k).0, (r.new g k).1)
    of g (inr (e, n)) = (subst (λ (h : Firing). Contains (fs ++ f ∷ []) h) e (Contains-push fs f), subst (λ (h : Firing). Taken m h → ⊥) e n)

-- one more place of the list
pub next_place : (fs : List Firing) (i : ℕ) (f : Firing) → i < length fs → f ≡ get_or fs i f → take (i + 1) fs ≡ take i fs ++ f ∷ []
next_place fs i f l e = take_more fs i f l ∙ ap (λ (g : Firing). take i fs ++ g ∷ []) (sym e)

-- taken ones were applied before
pub takes_after : (old start new : State) (fs : List Firing) → Applies old start → TakesAll start fs new → TakesAll old fs new
takes_after old start new fs p r = record { grows = grows_trans old start new p.grows r.grows; taken = λ g. (to g, back g) }
  where
    to : (g : Firing) → Taken new g → Taken old g ⊎ Contains fs g
    to g t = elim ((r.taken g).0 t) [ inl a ↦ inl ((p.taken g).1 a) | inr b ↦ inr b ]

    back : (g : Firing) → Taken old g ⊎ Contains fs g → Taken new g
    back g (inl a) = (r.taken g).1 (inl ((p.taken g).0 a))
    back g (inr b) = (r.taken g).1 (inr b)

-- the list was taken up to some place
pub part_taken : (start mid new : State) (fs : List Firing) (i : ℕ) (f : Firing) → i < length fs → f ≡ get_or fs i f → TakesAll start (take i fs) mid → TakeAnswer mid f (Err untaken.NoMemory) new → TakesSome start fs new
part_taken start mid new fs i f l e r (inl u) = (i, omega (arith, l), takes_applies start mid new (take i fs) r u.applies)
part_taken start mid new fs i f l e r (inr (is_new, inl p)) = (i, omega (arith, l), takes_applies start mid new (take i fs) r p)
part_taken start mid new fs i f l e r (inr (is_new, inr t)) = (i + 1, omega (arith, l), rw (next_place fs i f l e) (takes_more start mid new (take i fs) r f t))

-- the next one of the list, which is a firing and for which there is room, is not refused
module _ (start mid new : State) (fs news : List Firing) (i : ℕ) (f : Firing) (l : i < length fs) (at : f ≡ get_or fs i f) (is : IsSound mid) (r : TakesAll start (take i fs) mid) (are : AreNew start fs news) where
  listed : Contains fs f
  listed = subst (λ (g : Firing). Contains fs g) (sym at) (Contains-get_or fs i f l)

  pub never_full : count_of start + length news ≤ start.limit → TakeAnswer mid f (Err untaken.Full) new → ⊥
  never_full room a = let n = room_for start mid fs (take i fs) news f is r are (λ g. Contains-taken i fs g) listed a.1 room in let e = a.2 in omega (arith, n)

  pub never_other : AreFirings start.job fs → TakeAnswer mid f (Err untaken.NotAFiring) new → ⊥
  never_other all a = let h = rw r.grows.job at a.0 in not_both ((own_of start.job).is_firing f) (all f listed) h

pub all_no_memory : (old new : State) (fs : List Firing) (r : Result (Unit {0}) ListRefusal) → IsErrAnd r (λ e. e ≡ NoMemory) → TakeAllAnswer old fs (Err NoMemory) new → TakeAllAnswer old fs r new
all_no_memory old new fs (Ok u) h a = absurd h
all_no_memory old new fs (Err e) h a = subst (λ (x : ListRefusal). TakeAllAnswer old fs (Err x) new) (sym h) a
