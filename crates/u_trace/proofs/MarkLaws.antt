-- How the places of a story are marked, from the end of the list on.
use Rattle.std.proofs.Common.{◌≡◌, ℕ, zero, suc, ◌+◌, ◌<◌, ◌≤◌, List, [], ◌∷◌, ◌++◌, Bool, true, false, ◌⊎◌, inl, inr, refl, sym, subst, ◌∙◌, ap, length, Option, Some, None, arith}
use Rattle.std.specs.Prelude.{Contains, slice_get, ◌↔◌}
use Rattle.std.proofs.Math.ListN.{set, replicate, length-set}
use Rattle.std.proofs.lemmas.List.Elements.{Contains-append_left, Contains-push, Contains-push_cases}
use Rattle.u_base.specs.Firing.{System, Derivation}
use Rattle.u_sets.specs.Members.{SomeOf}
use Rattle.u_machine.proofs.Lists.{some_at}
use Rattle.u_trace.specs.Stories.{IsGiver, IsSought, itself, need, InStory}
use Rattle.u_trace.specs.Givers.{AreGivers}
use Rattle.u_trace.specs.Marks.{IsMarked, IsWanted, Marks, MarksBehind, LieBelow}
use Rattle.u_trace.proofs.Lists.{below_or_not, get_below, in_list, same_at}
use Rattle.u_trace.proofs.GiverLaws.{one_giver}
use Rattle.u_trace.proofs.StoryLaws.{sought_need, need_below}

pub lie_below : {E F : Type 0} (s : System E F) (log : List F) (at : E → Option ℕ) → AreGivers s log at → LieBelow at (length log)
lie_below s log at g x k e = let p = g.giver x k e in get_below log k p.firing p.at

-- a need of a firing of the story at place k or behind has its giver at place j
pub record Behind {E F : Type 0} (s : System E F) (log : List F) (at : E → Option ℕ) (e : E) (k j : ℕ) : Type 0 where
  pub place : ℕ
  pub firing : F
  pub entry : E
  pub from : k ≤ place
  pub story : InStory s log e place
  pub stands : slice_get log place ≡ Some firing
  pub needs : Contains (s.needs firing) entry
  pub wanted : IsWanted s.start at entry j

-- that, or e itself has
abbrev pub Reached : {E F : Type 0} → System E F → List F → (E → Option ℕ) → E → ℕ → ℕ → Type 0
Reached s log at e k j = IsWanted s.start at e j ⊎ Behind s log at e k j

module _ {E F : Type 0} (s : System E F) (log : List F) (d : Derivation s log) (at : E → Option ℕ) (g : AreGivers s log at) (same : (x y : E) → (x ≡ y) ⊎ (x ≡ y → ⊥)) (e : E) where
  -- a giver has its place
  has_place : (x : E) (j : ℕ) → IsGiver s log x j → at x ≡ Some j
  has_place x j p = over (at x) refl
    where
      over : (o : Option ℕ) → at x ≡ o → at x ≡ Some j
      over None h = absurd (g.none x h p.firing (in_list log j p.firing p.at) p.gives)
      over (Some i) h = h ∙ ap Some (one_giver s log x i j (g.giver x i h) p)

  in_story : (k j : ℕ) → Reached s log at e k j → InStory s log e j
  in_story k j (inl w) = (e, itself w.0, g.giver e j w.1)
  in_story k j (inr b) = (b.entry, sought_need s log d at g same e b.place b.firing b.entry b.story b.stands b.needs b.wanted.0, g.giver b.entry j b.wanted.1)

  reached : (x : E) (j : ℕ) → IsSought s log e x → IsGiver s log x j → Reached s log at e (j + 1) j
  reached x j (itself n) p = inl (n, has_place x j p)
  reached x j (need y _ k t r c n) p = inr (record {
    place = k;
    firing = r.firing;
    entry = x;
    from = (let l = need_below s log d at g same k j r.firing x r.at c n p in omega (arith, l));
    story = (y, t, r);
    stands = r.at;
    needs = c;
    wanted = (n, has_place x j p);
  })

  more : (k i j : ℕ) → k ≤ i → Reached s log at e i j → Reached s log at e k j
  more k i j l (inl w) = inl w
  more k i j l (inr b) = inr (record { place = b.place; firing = b.firing; entry = b.entry; from = (let h = b.from in omega (arith, l, h)); story = b.story; stands = b.stands; needs = b.needs; wanted = b.wanted })

  -- at the end of the list
  pub first_marks : (none new : List Bool) → ((k : ℕ) → IsMarked none k → ⊥) → Marks none (IsWanted s.start at e) new → (n : ℕ) → length log ≤ n → (j : ℕ) → IsMarked new j ↔ Reached s log at e n j
  first_marks none new nobody m n l j = ((λ h. elim ((m.exact j).0 h) [ inl q ↦ absurd (nobody j q) | inr w ↦ inl w ]), back)
    where
      back : Reached s log at e n j → IsMarked new j
      back (inl w) = (m.exact j).1 (inr w)
      back (inr b) = let h = get_below log b.place b.firing b.stands in let f = b.from in absurd (omega (arith, l, h, f))

  module _ (old : List Bool) (k : ℕ) (f : F) (is : slice_get log k ≡ Some f) (all : (j : ℕ) → IsMarked old j ↔ Reached s log at e (k + 1) j) where
    -- a marked firing, whose needs are marked
    pub marks_more : (new : List Bool) → IsMarked old k → Marks old (SomeOf (s.needs f) (IsWanted s.start at)) new → (j : ℕ) → IsMarked new j ↔ Reached s log at e k j
    marks_more new h m j = ((λ q. to ((m.exact j).0 q)), back)
      where
        to : IsMarked old j ⊎ SomeOf (s.needs f) (IsWanted s.start at) j → Reached s log at e k j
        to (inl q) = more k (k + 1) j (omega arith) ((all j).0 q)
        to (inr (y, c, w)) = inr (record { place = k; firing = f; entry = y; from = omega arith; story = in_story (k + 1) k ((all k).0 h); stands = is; needs = c; wanted = w })

        back : Reached s log at e k j → IsMarked new j
        back (inl w) = (m.exact j).1 (inl ((all j).1 (inl w)))
        back (inr b) =
            elim (below_or_not k b.place) [
              | inl l ↦ (m.exact j).1 (inl ((all j).1 (inr (record { place = b.place; firing = b.firing; entry = b.entry; from = omega (arith, l); story = b.story; stands = b.stands; needs = b.needs; wanted = b.wanted }))))
              | inr l ↦ (
                  let h : b.place ≡ k = (let f = b.from in omega (arith, l, f)) in
                  let q : b.firing ≡ f = same_at log k b.firing f (subst (λ (i : ℕ). slice_get log i ≡ Some b.firing) h b.stands) is in
                  (m.exact j).1 (inr (b.entry, subst (λ (x : F). Contains (s.needs x) b.entry) q b.needs, b.wanted))
                  )
            ]

    -- one that is not marked
    pub marks_still : (IsMarked old k → ⊥) → (j : ℕ) → IsMarked old j ↔ Reached s log at e k j
    marks_still h j = ((λ q. more k (k + 1) j (omega arith) ((all j).0 q)), back)
      where
        back : Reached s log at e k j → IsMarked old j
        back (inl w) = (all j).1 (inl w)
        back (inr b) =
            elim (below_or_not k b.place) [
              | inl l ↦ (all j).1 (inr (record { place = b.place; firing = b.firing; entry = b.entry; from = omega (arith, l); story = b.story; stands = b.stands; needs = b.needs; wanted = b.wanted }))
              | inr l ↦ (
                  let q : b.place ≡ k = (let f = b.from in omega (arith, l, f)) in
                  let i = subst (InStory s log e) q b.story in
                  absurd (h ((all k).1 (reached i.0 k i.1 i.2)))
                  )
            ]

  -- either
  pub marks_step : (start : E) → start ≡ s.start → (old new : List Bool) (k : ℕ) → k < length log → length old ≡ length log → ((j : ℕ) → IsMarked old j ↔ Reached s log at e (k + 1) j) → MarksBehind s start log at k old new → (j : ℕ) → IsMarked new j ↔ Reached s log at e k j
  marks_step start q old new k l n all m = over (some_at old k (omega (arith, l, n)))
    where
      over : (b : Bool) × (slice_get old k ≡ Some b) → (j : ℕ) → IsMarked new j ↔ Reached s log at e k j
      over (true, h) =
          let w = some_at log k l in
          marks_more old k w.0 w.1 all new h (subst (λ (x : E). Marks old (SomeOf (s.needs w.0) (IsWanted x at)) new) q (m.marked w.0 w.1 h))
      over (false, h) =
          let no_mark : IsMarked old k → ⊥ = λ h'. let t : Some true ≡ Some false = sym h' ∙ h in cc in
          λ j. subst (λ (bs : List Bool). IsMarked bs j ↔ Reached s log at e k j) (sym (m.other no_mark)) (marks_still old k (some_at log k l).0 (some_at log k l).1 all no_mark j)

  -- at its front
  pub all_marks : (marks : List Bool) → ((j : ℕ) → IsMarked marks j ↔ Reached s log at e 0 j) → (j : ℕ) → IsMarked marks j ↔ InStory s log e j
  all_marks marks all j = ((λ h. in_story 0 j ((all j).0 h)), λ i. (all j).1 (more 0 (j + 1) j (omega arith) (reached i.0 j i.1 i.2)))

-- where nothing is marked
pub none_marked : (n k : ℕ) → IsMarked (replicate n false) k → ⊥
none_marked zero k e = cc
none_marked (suc n) zero e = cc
none_marked (suc n) (suc k) e = none_marked n k e

-- one mark more
pub marked_at : (marks : List Bool) (i k : ℕ) → i < length marks → IsMarked (set marks i true) k ↔ (IsMarked marks k ⊎ (i ≡ k))
marked_at [] i k l = absurd (omega arith)
marked_at (b ∷ marks) zero zero l = ((λ h. inr refl), λ h. refl)
marked_at (b ∷ marks) zero (suc k) l = ((λ h. inl h), λ h. elim h [ inl m ↦ m | inr e ↦ absurd (omega (arith, e)) ])
marked_at (b ∷ marks) (suc i) zero l = ((λ h. inl h), λ h. elim h [ inl m ↦ m | inr e ↦ absurd (omega (arith, e)) ])
marked_at (b ∷ marks) (suc i) (suc k) l =
    let w = marked_at marks i k (omega arith) in
    ((λ h. elim (w.0 h) [ inl m ↦ inl m | inr e ↦ inr (ap suc e) ]), λ h. w.1 (elim h [ inl m ↦ inl m | inr e ↦ inr (let q : i ≡ k = omega (arith, e) in q) ]))

pub mark_none : (marks : List Bool) (P : ℕ → Type 0) → ((k : ℕ) → P k → ⊥) → Marks marks P marks
mark_none marks P none = record { count = refl; exact = λ k. ((λ h. inl h), λ h. elim h [ inl m ↦ m | inr p ↦ absurd (none k p) ]) }

pub mark_one : (marks : List Bool) (i : ℕ) (P : ℕ → Type 0) → i < length marks → ((k : ℕ) → (i ≡ k) ↔ P k) → Marks marks P (set marks i true)
mark_one marks i P l is = record {
  count = length-set marks i true;
  exact = λ k. (let w = marked_at marks i k l in ((λ h. elim (w.0 h) [ inl m ↦ inl m | inr e ↦ inr ((is k).0 e) ]), λ h. w.1 (elim h [ inl m ↦ inl m | inr p ↦ inr ((is k).1 p) ])));
}

-- the place of an entry that is not the start
module _ {E : Type 0} (start e : E) (at : E → Option ℕ) (marks : List Bool) where
  pub marks_wanted : (i : ℕ) → i < length marks → (e ≡ start → ⊥) → at e ≡ Some i → Marks marks (IsWanted start at e) (set marks i true)
  marks_wanted i l n h = mark_one marks i (IsWanted start at e) l (λ k. ((λ q. (n, h ∙ ap Some q)), λ w. let r : Some i ≡ Some k = sym h ∙ w.1 in cc))

  pub marks_unwanted : at e ≡ None → Marks marks (IsWanted start at e) marks
  marks_unwanted h = mark_none marks (IsWanted start at e) (λ k w. let r : None ≡ Some k = sym h ∙ w.1 in cc)

-- the wanted places of one more entry
pub marks_on : {E : Type 0} (P : E → ℕ → Type 0) (xs : List E) (y : E) (a b c : List Bool) → Marks a (SomeOf xs P) b → Marks b (P y) c → Marks a (SomeOf (xs ++ y ∷ []) P) c
marks_on {E} P xs y a b c m n = record { count = n.count ∙ m.count; exact = λ k. (to k, back k) }
  where
    to : (k : ℕ) → IsMarked c k → IsMarked a k ⊎ SomeOf (xs ++ y ∷ []) P k
    to k h = elim ((n.exact k).0 h) [ inl q ↦ elim ((m.exact k).0 q) [ inl o ↦ inl o | inr (x, i, p) ↦ inr (x, Contains-append_left xs (y ∷ []) x i, p) ] | inr p ↦ inr (y, Contains-push xs y, p) ]

    back : (k : ℕ) → IsMarked a k ⊎ SomeOf (xs ++ y ∷ []) P k → IsMarked c k
    back k (inl o) = (n.exact k).1 (inl ((m.exact k).1 (inl o)))
    back k (inr (x, i, p)) = elim (Contains-push_cases xs y x i) [ inl q ↦ (n.exact k).1 (inl ((m.exact k).1 (inr (x, q, p)))) | inr e ↦ (n.exact k).1 (inr (subst (λ (z : E). P z k) (sym e) p)) ]
