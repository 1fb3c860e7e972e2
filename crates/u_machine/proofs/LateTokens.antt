-- Late tokens: which firings are ready, made or not, as a machine goes on.
use Rattle.std.proofs.Common.{◌≡◌, ◌∙◌, ◌<◌, ◌+◌, ℕ, Bool, true, false, IsTrue, [], ◌∷◌, ◌++◌, ◌⊎◌, inl, inr, subst, sym, refl, ap, take, length, get_or}
use Rattle.std.proofs.lemmas.List.{take_more}
use Rattle.std.specs.Prelude.{Contains, ◌↔◌}
use Rattle.std.proofs.lemmas.List.Elements.{Contains-append_left, Contains-append_right, Contains-append_cases, Contains-push, Contains-push_cases}
use Rattle.u_base.specs.Firing.{Enabled, Distinct, Same}
use Rattle.u_base.proofs.Held.{Enabled-mono}
use Rattle.u_base.proofs.Member.{Contains-nil, Contains-head, Contains-cons_cases, Contains-tail}
use Rattle.u_sets.specs.Members.{IsWith, IsWithout, IsUnion, AreThose}
use Rattle.u_check.specs.Jobs.{JobParts}
use Rattle.u_rule.specs.declared.entry.Entry.{Entry}
use Rattle.u_rule.specs.declared.entry.Entry.TheVariants.{Token as token_entry}
use Rattle.u_rule.specs.declared.firing.Firing.{Firing}
use Rattle.u_rule.specs.Parts.{TokenParts}
use Rattle.u_rule.specs.Rule.{own_of}
use Rattle.u_rule.specs.EntryOrder.{FiringList, EntryList}
use Rattle.u_match.specs.Waking.{IsWokenBy}
use Rattle.u_machine.specs.Invariant.{IsPartitioned, HasLate, Waits, GainsSome}
use Rattle.u_machine.proofs.Once.{enabled_with, same_firing}
use Rattle.u_machine.proofs.Lists.{Contains-taken}

decide : (a b : Firing) (c : Bool) → IsTrue c ↔ (a ≡ b) → (a ≡ b) ⊎ (a ≡ b → ⊥)
decide a b true h = inl (h.0 refl)
decide a b false h = inr (λ e. let t = h.1 e in cc)

-- two firings are one, or not
pub one_or_two : (a b : Firing) → (a ≡ b) ⊎ (a ≡ b → ⊥)
one_or_two a b = decide a b _ (same_firing a b)

-- a list without a firing
pub without : (f : Firing) (xs : FiringList) → (ys : FiringList) × IsWithout xs f ys
without f [] = ([], record { less = λ x m. m; gone = Contains-nil f; rest = λ x m. inr m })
without f (y ∷ xs) = over (one_or_two f y) (without f xs)
  where
    over : (f ≡ y) ⊎ (f ≡ y → ⊥) → (ys : FiringList) × IsWithout xs f ys → (ys : FiringList) × IsWithout (y ∷ xs) f ys
    over (inl e) (ys, w) = (
      ys,
      record {
        less = λ x m. Contains-tail y x xs (w.less x m);
        gone = w.gone;
        rest = λ x m. elim (Contains-cons_cases y x xs m) [ inl q ↦ inl (rw e q) | inr k ↦ w.rest x k ];
      },
    )
    over (inr n) (ys, w) = (
      y ∷ ys,
      record {
        less = λ x m. elim (Contains-cons_cases y x ys m) [ inl q ↦ subst (λ (z : Firing). Contains (y ∷ xs) z) q (Contains-head y xs) | inr k ↦ Contains-tail y x xs (w.less x k) ];
        gone = λ m. elim (Contains-cons_cases y f ys m) [ inl q ↦ n (sym q) | inr k ↦ w.gone k ];
        rest = λ x m. elim (Contains-cons_cases y x xs m) [
          | inl q ↦ inr (subst (λ (z : Firing). Contains (y ∷ ys) z) q (Contains-head y ys))
          | inr k ↦ elim (w.rest x k) [ inl e ↦ inl e | inr s ↦ inr (Contains-tail y x ys s) ]
        ];
      },
    )

-- and with it in front
pub with_first : (f : Firing) (xs : FiringList) → IsWith xs f (f ∷ xs)
with_first f xs x = (
  (λ m. elim (Contains-cons_cases f x xs m) [ inl e ↦ inr e | inr k ↦ inl k ]),
  λ t. elim t [ inl k ↦ Contains-tail f x xs k | inr e ↦ subst (λ (z : Firing). Contains (f ∷ xs) z) e (Contains-head f xs) ],
)

module _ (job : JobParts) (taken all_ready ready woken : FiringList) (late history : EntryList) (l : HasLate job taken all_ready ready woken late history) where
  -- what was made is ready
  pub made_is_ready : (f : Firing) → Contains ready f → Contains all_ready f
  made_is_ready f m = (l.whole f).1 (inl m, λ w. l.apart f m w)

  -- where nothing is left to be sorted out, what waits in a late token is ready
  pub waiting_is_ready : woken ≡ [] → (f : Firing) → Waits job late history f → Contains all_ready f
  waiting_is_ready none f w = (l.whole f).1 (inr w, λ m. Contains-nil f (rw none at m))

  -- where besides no token is late, what is ready was made
  pub ready_is_made : woken ≡ [] → late ≡ [] → Same (Contains ready) (Contains all_ready)
  ready_is_made none made f = (made_is_ready f, λ m. elim ((l.whole f).0 m).0 [ inl r ↦ r | inr w ↦ absurd (Contains-nil w.0 (rw made at w.1)) ])

  -- the same firings were taken
  pub same_taken_late : (more : FiringList) → Same (Contains more) (Contains taken) → HasLate job more all_ready ready woken late history
  same_taken_late more e = record { whole = l.whole; apart = l.apart; untaken = λ f w t. l.untaken f w ((e f).0 t); token = l.token; there = l.there; some = l.some }

  -- the same tokens are late
  pub same_late : (now : EntryList) → Same (Contains now) (Contains late) → HasLate job taken all_ready ready woken now history
  same_late now e = record {
    whole = λ f. ((λ m. let p = (l.whole f).0 m in (elim p.0 [ inl r ↦ inl r | inr (x, i, k) ↦ inr (x, (e x).1 i, k) ], p.1)), λ (s, n). (l.whole f).1 (elim s [ inl r ↦ inl r | inr w ↦ inr (before f w) ], n));
    apart = l.apart;
    untaken = λ f w. l.untaken f (before f w);
    token = λ x m. l.token x ((e x).0 m);
    there = λ x m. l.there x ((e x).0 m);
    some = λ x m. l.some x ((e x).0 m);
  }
    where
      before : (f : Firing) → Waits job now history f → Waits job late history f
      before f (x, i, k) = (x, (e x).0 i, k)

  -- a firing is taken that waits in no late token
  pub takes_early_late : (f : Firing) (more : FiringList) → (Waits job late history f → ⊥) → IsWith taken f more → HasLate job more all_ready ready woken late history
  takes_early_late f more free w = record {
    whole = l.whole;
    apart = l.apart;
    untaken = λ g k t. elim ((w g).0 t) [ inl a ↦ l.untaken g k a | inr e ↦ free (subst (λ (h : Firing). Waits job late history h) (sym e) k) ];
    token = l.token;
    there = l.there;
    some = l.some;
  }

  -- a ready firing is taken that waits in no late token
  pub takes_ready_late : (f : Firing) (more less less_all : FiringList) → woken ≡ [] → (Waits job late history f → ⊥) → IsWith taken f more → IsWithout ready f less → IsWithout all_ready f less_all → HasLate job more less_all less woken late history
  takes_ready_late f more less less_all none free w v u = record {
    whole = λ g. (to g, back g);
    apart = λ g _ m. Contains-nil g (rw none at m);
    untaken = λ g k t. elim ((w g).0 t) [ inl a ↦ l.untaken g k a | inr e ↦ other g k e ];
    token = l.token;
    there = l.there;
    some = l.some;
  }
    where
      other : (g : Firing) → Waits job late history g → f ≡ g → ⊥
      other g k e = free (subst (λ (h : Firing). Waits job late history h) (sym e) k)

      to : (g : Firing) → Contains less_all g → (Contains less g ⊎ Waits job late history g) × (Contains woken g → ⊥)
      to g m = (
        elim ((l.whole g).0 (u.less g m)).0 [
          | inl r ↦ elim (v.rest g r) [ inl e ↦ absurd (u.gone (subst (λ (h : Firing). Contains less_all h) (sym e) m)) | inr k ↦ inl k ]
          | inr k ↦ inr k
        ],
        λ k. Contains-nil g (rw none at k),
      )

      back : (g : Firing) → (Contains less g ⊎ Waits job late history g) × (Contains woken g → ⊥) → Contains less_all g
      back g (inl r, n) = elim (u.rest g (made_is_ready g (v.less g r))) [ inl e ↦ absurd (v.gone (subst (λ (h : Firing). Contains less h) (sym e) r)) | inr k ↦ k ]
      back g (inr k, n) = elim (u.rest g (waiting_is_ready none g k)) [ inl e ↦ absurd (other g k e) | inr m ↦ m ]

  -- the next one that is sorted out was not taken: it is ready
  pub sorts_ready_late : (f : Firing) (rest more : FiringList) → woken ≡ f ∷ rest → Distinct woken → IsWith ready f more → HasLate job taken (f ∷ all_ready) more rest late history
  sorts_ready_late f rest more is once w = record {
    whole = λ g. (to g, back g);
    apart = λ g r m. elim ((w g).0 r) [ inl k ↦ l.apart g k (rw is (Contains-tail f g rest m)) | inr e ↦ later g e m ];
    untaken = l.untaken;
    token = l.token;
    there = l.there;
    some = l.some;
  }
    where
      later : (g : Firing) → f ≡ g → Contains rest g → ⊥
      later g e m = (rw is at once).0 (subst (λ (h : Firing). Contains rest h) (sym e) m)

      to : (g : Firing) → Contains (f ∷ all_ready) g → (Contains more g ⊎ Waits job late history g) × (Contains rest g → ⊥)
      to g m = elim (Contains-cons_cases f g all_ready m) [
        | inl e ↦ (inl ((w g).1 (inr e)), later g e)
        | inr k ↦ (
          elim ((l.whole g).0 k).0 [ inl r ↦ inl ((w g).1 (inl r)) | inr t ↦ inr t ],
          λ r. ((l.whole g).0 k).1 (rw is (Contains-tail f g rest r)),
        )
      ]

      behind : (g : Firing) → (f ≡ g → ⊥) → (Contains rest g → ⊥) → Contains woken g → ⊥
      behind g other n m = elim (Contains-cons_cases f g rest (rw is at m)) [ inl e ↦ other e | inr k ↦ n k ]

      back : (g : Firing) → (Contains more g ⊎ Waits job late history g) × (Contains rest g → ⊥) → Contains (f ∷ all_ready) g
      back g (x, n) = elim (one_or_two f g) [
        | inl e ↦ subst (λ (h : Firing). Contains (f ∷ all_ready) h) e (Contains-head f all_ready)
        | inr other ↦ Contains-tail f g all_ready ((l.whole g).1 (
          elim x [ inl r ↦ elim ((w g).0 r) [ inl k ↦ inl k | inr e ↦ absurd (other e) ] | inr t ↦ inr t ],
          behind g other n,
        ))
      ]

  -- the next one that is sorted out was taken
  pub sorts_logged_late : (f : Firing) (rest : FiringList) → woken ≡ f ∷ rest → Contains taken f → HasLate job taken all_ready ready rest late history
  sorts_logged_late f rest is was = record {
    whole = λ g. ((λ m. let p = (l.whole g).0 m in (p.0, λ r. p.1 (rw is (Contains-tail f g rest r)))), λ (x, n). (l.whole g).1 (x, not_woken g x n));
    apart = λ g r m. l.apart g r (rw is (Contains-tail f g rest m));
    untaken = l.untaken;
    token = l.token;
    there = l.there;
    some = l.some;
  }
    where
      neither : Contains ready f ⊎ Waits job late history f → ⊥
      neither (inl r) = l.apart f r (rw is (Contains-head f rest))
      neither (inr k) = l.untaken f k was

      not_woken : (g : Firing) → Contains ready g ⊎ Waits job late history g → (Contains rest g → ⊥) → Contains woken g → ⊥
      not_woken g x n m =
          elim (Contains-cons_cases f g rest (rw is at m))
          [ inl e ↦ neither (subst (λ (h : Firing). Contains ready h ⊎ Waits job late history h) (sym e) x) | inr k ↦ n k ]

  -- firings are made that a late token wakes
  module _ (e : Entry) (fs ready_now : FiringList) (none : woken ≡ []) (is : Contains late e) (exact : AreThose (IsWokenBy job e (Contains history)) fs) (gains : GainsSome ready fs ready_now) where
    from_made : (f : Firing) → Contains ready_now f → Contains all_ready f
    from_made f m = elim ((gains f).1 m) [ inl r ↦ made_is_ready f r | inr k ↦ waiting_is_ready none f (e, is, (exact f).0 k) ]

    -- some of them, or all
    pub makes_some : HasLate job taken all_ready ready_now woken late history
    makes_some = record {
      whole = λ f. (
        (λ m. (elim ((l.whole f).0 m).0 [ inl r ↦ inl ((gains f).0 r) | inr k ↦ inr k ], ((l.whole f).0 m).1)),
        λ (x, n). elim x [ inl r ↦ from_made f r | inr k ↦ waiting_is_ready none f k ],
      );
      apart = λ f _ m. Contains-nil f (rw none at m);
      untaken = l.untaken;
      token = l.token;
      there = l.there;
      some = l.some;
    }

    -- all, and the token is late no more
    pub makes_all : (less : EntryList) → ((f : Firing) → Contains fs f → Contains ready_now f) → IsWithout late e less → HasLate job taken all_ready ready_now woken less history
    makes_all less all v = record {
      whole = λ f. (
        (λ m. (elim ((l.whole f).0 m).0 [ inl r ↦ inl ((gains f).0 r) | inr k ↦ still f k ], ((l.whole f).0 m).1)),
        λ (x, n). elim x [ inl r ↦ from_made f r | inr k ↦ waiting_is_ready none f (before f k) ],
      );
      apart = λ f _ m. Contains-nil f (rw none at m);
      untaken = λ f k. l.untaken f (before f k);
      token = λ x m. l.token x (v.less x m);
      there = λ x m. l.there x (v.less x m);
      some = λ x m. l.some x (v.less x m);
    }
      where
        before : (f : Firing) → Waits job less history f → Waits job late history f
        before f (x, m, k) = (x, v.less x m, k)

        still : (f : Firing) → Waits job late history f → Contains ready_now f ⊎ Waits job less history f
        still f (x, m, k) =
            elim (v.rest x m)
            [ inl q ↦ inl (all f ((exact f).1 (subst (λ (y : Entry). IsWokenBy job y (Contains history) f) (sym q) k))) | inr s ↦ inr (x, s, k) ]

  -- an entry enters
  module _ (e : Entry) (more : EntryList) (none : woken ≡ []) (fresh : Contains history e → ⊥) (w : IsWith history e more) (fit : (f : Firing) → Contains all_ready f → Enabled (own_of job) (Contains history) f) where
    grows : (x : Entry) (f : Firing) → IsWokenBy job x (Contains history) f → IsWokenBy job x (Contains more) f
    grows x f k = (k.0, Enabled-mono (own_of job) (Contains history) (Contains more) (λ y m. (w y).1 (inl m)) f k.1)

    no_need : (f : Firing) → Contains all_ready f → Contains ((own_of job).needs f) e → ⊥
    no_need f m k = fresh ((fit f m).1 e k)

    -- what is enabled now needs it, or was enabled before
    split : (f : Firing) → Enabled (own_of job) (Contains more) f → Contains ((own_of job).needs f) e ⊎ Enabled (own_of job) (Contains history) f
    split f = enabled_with (own_of job) (Contains history) (Contains more) e f (λ x. (w x).0)

    -- what it wakes is to be sorted out, and was not taken while a token is late
    pub enters_late : (woken_now : FiringList) → AreThose (IsWokenBy job e (Contains more)) woken_now → ((f : Firing) (x : Entry) → Contains woken_now f → Contains taken f → Contains late x → ⊥) → HasLate job taken all_ready ready woken_now late more
    enters_late woken_now exact free = record {
      whole = λ f. (to f, back f);
      apart = λ f r m. no_need f (made_is_ready f r) ((exact f).0 m).0;
      untaken = λ f (x, m, k) t. elim (split f k.1) [ inl n ↦ free f x ((exact f).1 (n, k.1)) t m | inr en ↦ l.untaken f (x, m, (k.0, en)) t ];
      token = l.token;
      there = λ x m. (w x).1 (inl (l.there x m));
      some = λ x m. let (f, k) = l.some x m in (f, grows x f k);
    }
      where
        to : (f : Firing) → Contains all_ready f → (Contains ready f ⊎ Waits job late more f) × (Contains woken_now f → ⊥)
        to f m = (
          elim ((l.whole f).0 m).0 [ inl r ↦ inl r | inr (x, i, k) ↦ inr (x, i, grows x f k) ],
          λ k. no_need f m ((exact f).0 k).0,
        )

        back : (f : Firing) → (Contains ready f ⊎ Waits job late more f) × (Contains woken_now f → ⊥) → Contains all_ready f
        back f (inl r, n) = made_is_ready f r
        back f (inr (x, i, k), n) = elim (split f k.1) [ inl q ↦ absurd (n ((exact f).1 (q, k.1))) | inr en ↦ waiting_is_ready none f (x, i, (k.0, en)) ]

    -- it is late, and what it wakes was not taken
    module _ (fs : FiringList) (exact : AreThose (IsWokenBy job e (Contains more)) fs) (free : (f : Firing) → Contains fs f → Contains taken f → ⊥) where
      pub put_late_partitioned : (log : FiringList) → IsPartitioned job log taken all_ready woken history → IsPartitioned job log taken (all_ready ++ fs) woken more
      put_late_partitioned log s = record {
        logged = λ f m. Enabled-mono (own_of job) (Contains history) (Contains more) (λ y k. (w y).1 (inl k)) f (s.logged f m);
        fit = λ f m. elim (Contains-append_cases all_ready fs f m) [
          | inl a ↦ (Enabled-mono (own_of job) (Contains history) (Contains more) (λ y k. (w y).1 (inl k)) f (s.fit f a).0, (s.fit f a).1)
          | inr b ↦ (((exact f).0 b).1, free f b)
        ];
        neither = λ f m. absurd (Contains-nil f (rw none at m));
        once = s.once;
        all = λ f en. elim (split f en) [
          | inl n ↦ inl (Contains-append_right all_ready fs f ((exact f).1 (n, en)))
          | inr k ↦ elim (s.all f k) [ inl a ↦ inl (Contains-append_left all_ready fs f a) | inr b ↦ inr b ]
        ];
      }

      pub puts_late : (late_now : EntryList) → (t : TokenParts) × (e ≡ token_entry t) → IsWith late e late_now → (f : Firing) × Contains fs f → HasLate job taken (all_ready ++ fs) ready woken late_now more
      puts_late late_now is v one = record {
        whole = λ f. (to f, back f);
        apart = λ f _ m. Contains-nil f (rw none at m);
        untaken = λ f (x, m, k) t. elim (split f k.1) [ inl n ↦ free f ((exact f).1 (n, k.1)) t | inr en ↦ l.untaken f (earlier f x m k.0 en) t ];
        token = λ x m. elim ((v x).0 m) [ inl k ↦ l.token x k | inr q ↦ subst (λ (y : Entry). (t : TokenParts) × (y ≡ token_entry t)) q is ];
        there = λ x m. (w x).1 (elim ((v x).0 m) [ inl k ↦ inl (l.there x k) | inr q ↦ inr q ]);
        some = λ x m. elim ((v x).0 m) [
          | inl k ↦ (let (f, i) = l.some x k in (f, grows x f i))
          | inr q ↦ subst (λ (y : Entry). (f : Firing) × IsWokenBy job y (Contains more) f) q (one.0, (exact one.0).0 one.1)
        ];
      }
        where
          -- what needs a late token and was enabled before needs one that was late before
          earlier : (f : Firing) (x : Entry) → Contains late_now x → Contains ((own_of job).needs f) x → Enabled (own_of job) (Contains history) f → Waits job late history f
          earlier f x m n en = elim ((v x).0 m) [ inl k ↦ (x, k, (n, en)) | inr q ↦ absurd (fresh (en.1 e (subst (λ (y : Entry). Contains ((own_of job).needs f) y) (sym q) n))) ]

          to : (f : Firing) → Contains (all_ready ++ fs) f → (Contains ready f ⊎ Waits job late_now more f) × (Contains woken f → ⊥)
          to f m = (
            elim (Contains-append_cases all_ready fs f m) [
              | inl a ↦ elim ((l.whole f).0 a).0 [ inl r ↦ inl r | inr (x, i, k) ↦ inr (x, (v x).1 (inl i), grows x f k) ]
              | inr b ↦ inr (e, (v e).1 (inr refl), (exact f).0 b)
            ],
            λ k. Contains-nil f (rw none at k),
          )

          back : (f : Firing) → (Contains ready f ⊎ Waits job late_now more f) × (Contains woken f → ⊥) → Contains (all_ready ++ fs) f
          back f (inl r, n) = Contains-append_left all_ready fs f (made_is_ready f r)
          back f (inr (x, i, k), n) = elim (split f k.1) [
            | inl q ↦ Contains-append_right all_ready fs f ((exact f).1 (q, k.1))
            | inr en ↦ Contains-append_left all_ready fs f (waiting_is_ready none f (earlier f x i k.0 en))
          ]

-- where no token is late
pub none_late : (job : JobParts) (taken ready : FiringList) (history : EntryList) → HasLate job taken ready ready [] [] history
none_late job taken ready history = record {
  whole = λ f. ((λ m. (inl m, Contains-nil f)), λ (x, n). elim x [ inl r ↦ r | inr w ↦ absurd (Contains-nil w.0 w.1) ]);
  apart = λ f _. Contains-nil f;
  untaken = λ f w. absurd (Contains-nil w.0 w.1);
  token = λ e m. absurd (Contains-nil e m);
  there = λ e m. absurd (Contains-nil e m);
  some = λ e m. absurd (Contains-nil e m);
}

-- a set that gains the first firings of a list, one after another
pub union_none : (old fs : FiringList) → IsUnion old (take 0 fs) old
union_none old fs x = ((λ m. inl m), λ t. elim t [ inl m ↦ m | inr m ↦ absurd (Contains-nil x m) ])

pub union_more : (old mid new fs : FiringList) (i : ℕ) (d : Firing) → i < length fs → d ≡ get_or fs i d → IsUnion old (take i fs) mid → IsWith mid d new → IsUnion old (take (i + 1) fs) new
union_more old mid new fs i d below at u w x = (
  (λ m. elim ((w x).0 m) [
    | inl k ↦ elim ((u x).0 k) [ inl o ↦ inl o | inr t ↦ inr (rw grown (Contains-append_left (take i fs) (d ∷ []) x t)) ]
    | inr e ↦ inr (rw grown (subst (λ (g : Firing). Contains (take i fs ++ d ∷ []) g) e (Contains-push (take i fs) d)))
  ]),
  λ s. (w x).1 (elim s [
    | inl o ↦ inl ((u x).1 (inl o))
    | inr t ↦ elim (Contains-push_cases (take i fs) d x (rw grown at t)) [ inl k ↦ inl ((u x).1 (inr k)) | inr e ↦ inr e ]
  ]),
)
  where
    grown : take (i + 1) fs ≡ take i fs ++ d ∷ []
    grown = take_more fs i d below ∙ ap (λ (g : Firing). take i fs ++ g ∷ []) (sym at)

pub union_part : (old new fs : FiringList) (i : ℕ) → IsUnion old (take i fs) new → GainsSome old fs new
union_part old new fs i u x = ((λ m. (u x).1 (inl m)), λ m. elim ((u x).0 m) [ inl o ↦ inl o | inr t ↦ inr (Contains-taken i fs x t) ])

-- an element that is put in leaves such a part
pub part_more : (old mid new fs : FiringList) (d : Firing) → Contains fs d → GainsSome old fs mid → IsWith mid d new → GainsSome old fs new
part_more old mid new fs d m g w x = (
  (λ k. (w x).1 (inl ((g x).0 k))),
  λ k. elim ((w x).0 k) [ inl t ↦ (g x).1 t | inr e ↦ inr (subst (λ (y : Firing). Contains fs y) e m) ],
)

-- an entry that is put in and taken out again leaves the same entries
pub put_back : (old : EntryList) (e : Entry) (mid new : EntryList) → (Contains old e → ⊥) → IsWith old e mid → IsWithout mid e new → Same (Contains new) (Contains old)
put_back old e mid new n w v x = (
  (λ m. elim ((w x).0 (v.less x m)) [ inl k ↦ k | inr q ↦ absurd (v.gone (subst (λ (y : Entry). Contains new y) (sym q) m)) ]),
  λ m. elim (v.rest x ((w x).1 (inl m))) [ inl q ↦ absurd (n (subst (λ (y : Entry). Contains old y) (sym q) m)) | inr k ↦ k ],
)
