-- The firings of a list that were not taken.
use Rattle.std.proofs.Common.{◌≡◌, ℕ, ◌<◌, ◌≤◌, ◌+◌, ◌++◌, ◌∙◌, ◌⊎◌, inl, inr, sym, subst, arith, refl, Bool, true, false, length, take, drop, get_or, append_assoc, List, [], ◌∷◌}
use Rattle.std.specs.Prelude.{Contains, IsTrue, ◌↔◌}
use Rattle.std.proofs.lemmas.List.{take-append-drop}
use Rattle.std.proofs.lemmas.List.Elements.{Contains-append_left, Contains-push, Contains-push_cases}
use Rattle.std.specs.Ordering.{is_eq}
use Rattle.std.proofs.lemmas.Bool.{false≢true}
use Rattle.u_rule.specs.EntryOrder.{firing_cmp}
use Rattle.u_rule.specs.declared.firing.Firing.{Firing}
use Rattle.u_base.specs.Firing.{Distinct}
use Rattle.u_base.proofs.Apart.{Distinct-left, Distinct-apart}
use Rattle.u_base.proofs.Member.{Contains-nil, Contains-head, Contains-tail, Contains-cons_cases}
use Rattle.u_machine.specs.State.{State, Taken, count_of}
use Rattle.u_machine.specs.Taking.{AreNew, HasSoManyNew, Fits, IsTooLong}
use Rattle.u_machine.proofs.Once.{same_firing}
use Rattle.u_machine.proofs.Counting.{no_more}
use Rattle.u_machine.proofs.TakenLists.{next_place}

-- a firing is in a list or not
member_more : (x f : Firing) (xs : List Firing) → Contains xs f ⊎ (Contains xs f → ⊥) → Contains (x ∷ xs) f ⊎ (Contains (x ∷ xs) f → ⊥)
member_more x f xs rest = at (is_eq (firing_cmp x f)) refl
  where
    at : (b : Bool) → is_eq (firing_cmp x f) ≡ b → Contains (x ∷ xs) f ⊎ (Contains (x ∷ xs) f → ⊥)
    at true e = inl (subst (λ (y : Firing). Contains (x ∷ xs) y) ((same_firing x f).0 e) (Contains-head x xs))
    at false e = elim rest [
      | inl m ↦ inl (Contains-tail x f xs m)
      | inr n ↦ inr (λ m. elim (Contains-cons_cases x f xs m) [ inl q ↦ false≢true (sym e ∙ (same_firing x f).1 q) | inr k ↦ n k ])
    ]

member : (xs : List Firing) (f : Firing) → Contains xs f ⊎ (Contains xs f → ⊥)
member [] f = inr (Contains-nil f)
member (x ∷ xs) f = member_more x f xs (member xs f)

-- there are the new ones of a list, and they are no more than the list has
pub record NewOnes (m : State) (fs : List Firing) : Type 0 where
  pub news : List Firing
  pub are : AreNew m fs news
  pub few : length news ≤ length fs

-- one that was taken, or is among the new ones already, adds none
known_more : (m : State) (f : Firing) (fs : List Firing) → (r : NewOnes m fs) → Taken m f ⊎ Contains r.news f → NewOnes m (f ∷ fs)
known_more m f fs r k = record {
  news = r.news;
  are = record {
    once = r.are.once;
    found = record {
      new = λ g n. let p = r.are.found.new g n in (Contains-tail f g fs p.0, p.1);
      all = λ g n. elim (Contains-cons_cases f g fs n) [ inl e ↦ subst (λ (h : Firing). Taken m h ⊎ Contains r.news h) e k | inr n' ↦ r.are.found.all g n' ];
    };
  };
  few = let l = r.few in omega (arith, l);
}

-- another one goes to them
new_more : (m : State) (f : Firing) (fs : List Firing) → (r : NewOnes m fs) → (Taken m f → ⊥) → (Contains r.news f → ⊥) → NewOnes m (f ∷ fs)
new_more m f fs r t n = record {
  news = f ∷ r.news;
  are = record {
    once = (n, r.are.once);
    found = record {
      new = λ g k. elim (Contains-cons_cases f g r.news k) [
        | inl e ↦ (subst (λ (h : Firing). Contains (f ∷ fs) h) e (Contains-head f fs), subst (λ (h : Firing). Taken m h → ⊥) e t)
        | inr l ↦ (let p = r.are.found.new g l in (Contains-tail f g fs p.0, p.1))
      ];
      all = λ g k. elim (Contains-cons_cases f g fs k) [
        | inl e ↦ inr (subst (λ (h : Firing). Contains (f ∷ r.news) h) e (Contains-head f r.news))
        | inr l ↦ elim (r.are.found.all g l) [ inl a ↦ inl a | inr b ↦ inr (Contains-tail f g r.news b) ]
      ];
    };
  };
  few = let l = r.few in omega (arith, l);
}

pub new_ones : (m : State) (fs : List Firing) → NewOnes m fs
new_ones m [] = record {
  news = [];
  are = record { once = tt; found = record { new = λ g n. absurd (Contains-nil g n); all = λ g n. absurd (Contains-nil g n) } };
  few = omega arith;
}
new_ones m (f ∷ fs) = elim (member (m.log ++ m.parked) f) [
  | inl t ↦ known_more m f fs (new_ones m fs) (inl t)
  | inr t ↦ elim (member (new_ones m fs).news f) [ inl k ↦ known_more m f fs (new_ones m fs) (inr k) | inr n ↦ new_more m f fs (new_ones m fs) t n ]
]

-- where there is room for the whole list, the new ones fit
pub all_fit : (m : State) (fs : List Firing) → count_of m + length fs ≤ m.limit → Fits m fs
all_fit m fs room =
    let r = new_ones m fs in
    let l = r.few in
    (r.news, r.are, omega (arith, room, l))

pub none_new : (m : State) → HasSoManyNew m [] 0
none_new m = ([], record { once = tt; found = record { new = λ g n. absurd (Contains-nil g n); all = λ g n. absurd (Contains-nil g n) } }, refl)

-- a further one that was taken, or stands before, is not counted
pub known_behind : (m : State) (f : Firing) (fs : List Firing) (count : ℕ) → Taken m f ⊎ Contains fs f → HasSoManyNew m fs count → HasSoManyNew m (fs ++ f ∷ []) count
known_behind m f fs count k (news, are, n) = (news, record { once = are.once; found = record { new = new; all = all } }, n)
  where
    there : Taken m f ⊎ Contains news f
    there = elim k [ inl t ↦ inl t | inr i ↦ are.found.all f i ]

    new : (g : Firing) → Contains news g → Contains (fs ++ f ∷ []) g × (Taken m g → ⊥)
    new g i = let p = are.found.new g i in (Contains-append_left fs (f ∷ []) g p.0, p.1)

    all : (g : Firing) → Contains (fs ++ f ∷ []) g → Taken m g ⊎ Contains news g
    all g i = elim (Contains-push_cases fs f g i) [ inl j ↦ are.found.all g j | inr e ↦ subst (λ (h : Firing). Taken m h ⊎ Contains news h) e there ]

-- any other one is
pub new_behind : (m : State) (f : Firing) (fs : List Firing) (count : ℕ) → (Taken m f → ⊥) → (Contains fs f → ⊥) → HasSoManyNew m fs count → HasSoManyNew m (fs ++ f ∷ []) (count + 1)
new_behind m f fs count untaken other (news, are, n) =
    (f ∷ news, record { once = ((λ i. other (are.found.new f i).0), are.once); found = record { new = new; all = all } }, omega (arith, n))
  where
    new : (g : Firing) → Contains (f ∷ news) g → Contains (fs ++ f ∷ []) g × (Taken m g → ⊥)
    new g i = elim (Contains-cons_cases f g news i) [
      | inl e ↦ subst (λ (h : Firing). Contains (fs ++ f ∷ []) h × (Taken m h → ⊥)) e (Contains-push fs f, untaken)
      | inr j ↦ (let p = are.found.new g j in (Contains-append_left fs (f ∷ []) g p.0, p.1))
    ]

    all : (g : Firing) → Contains (fs ++ f ∷ []) g → Taken m g ⊎ Contains (f ∷ news) g
    all g i = elim (Contains-push_cases fs f g i) [
      | inl j ↦ elim (are.found.all g j) [ inl t ↦ inl t | inr k ↦ inr (Contains-tail f g news k) ]
      | inr e ↦ inr (subst (λ (h : Firing). Contains (f ∷ news) h) e (Contains-head f news))
    ]

-- where so many new ones do not fit, the list is too long; else they fit
pub counted_fit : (m : State) (fs : List Firing) (count : ℕ) → HasSoManyNew m fs count → count_of m + count ≤ m.limit → Fits m fs
counted_fit m fs count (news, are, n) room = (news, are, omega (arith, n, room))

pub counted_long : (m : State) (fs : List Firing) (count : ℕ) → HasSoManyNew m fs count → m.limit < count_of m + count → IsTooLong m fs
counted_long m fs count (news, are, n) room = (news, are, omega (arith, n, room))

-- there are no more new ones than the list has
pub few_new : (m : State) (fs : List Firing) (count : ℕ) → HasSoManyNew m fs count → count ≤ length fs
few_new m fs count (news, are, n) = let l = no_more news fs are.once (λ g k. (are.found.new g k).0) in omega (arith, l, n)

-- one that is not new, by a test, is not counted
pub old_behind : (m : State) (f : Firing) (fs : List Firing) (count : ℕ) (b : Bool) → IsTrue b ↔ ((Taken m f → ⊥) × (Contains fs f → ⊥)) → b ≡ false → HasSoManyNew m fs count → HasSoManyNew m (fs ++ f ∷ []) count
old_behind m f fs count b test fails h = known_behind m f fs count known h
  where
    known : Taken m f ⊎ Contains fs f
    known = elim (member (m.log ++ m.parked) f) [
      | inl t ↦ inl t
      | inr t ↦ elim (member fs f) [ inl k ↦ inr k | inr n ↦ absurd (false≢true (sym fails ∙ test.1 (t, n))) ]
    ]

-- one of a list that has none twice does not stand before itself
pub not_before : (fs : List Firing) (i : ℕ) (f : Firing) → i < length fs → f ≡ get_or fs i f → Distinct fs → Contains (take i fs) f → ⊥
not_before fs i f l e d m =
    let all : Distinct (take (i + 1) fs ++ drop (i + 1) fs) = subst (λ (xs : List Firing). Distinct xs) (sym (take-append-drop (i + 1) fs)) d in
    let front : Distinct (take i fs ++ f ∷ []) = subst (λ (xs : List Firing). Distinct xs) (next_place fs i f l e) (Distinct-left (take (i + 1) fs) (drop (i + 1) fs) all) in
    Distinct-apart (take i fs) (f ∷ []) f front m (Contains-head f [])

-- one behind another list, too
pub not_before_behind : (fs gs rest : List Firing) (f : Firing) → Distinct (fs ++ (gs ++ f ∷ rest)) → Contains (fs ++ gs) f → ⊥
not_before_behind fs gs rest f d m =
    Distinct-apart (fs ++ gs) (f ∷ rest) f (subst (λ (xs : List Firing). Distinct xs) (sym (append_assoc fs gs (f ∷ rest))) d) m (Contains-head f rest)

-- one that does not stand before is counted, unless a test says that it was taken
pub counted_if_new : (m : State) (f : Firing) (fs : List Firing) (count : ℕ) (b : Bool) → IsTrue b ↔ (Taken m f → ⊥) → (Contains fs f → ⊥) → b ≡ true → HasSoManyNew m fs count → HasSoManyNew m (fs ++ f ∷ []) (count + 1)
counted_if_new m f fs count b test other holds h = new_behind m f fs count (test.0 (cc)) other h

pub uncounted_if_old : (m : State) (f : Firing) (fs : List Firing) (count : ℕ) (b : Bool) → IsTrue b ↔ (Taken m f → ⊥) → (Contains fs f → ⊥) → b ≡ false → HasSoManyNew m fs count → HasSoManyNew m (fs ++ f ∷ []) count
uncounted_if_old m f fs count b test other fails h = old_behind m f fs count b ((λ t. (test.0 t, other)), λ p. test.1 p.0) fails h
