-- What a story tells.
use Rattle.std.proofs.Common.{◌≡◌, ℕ, ◌<◌, ◌≤◌, List, [], ◌∷◌, ◌++◌, ◌⊎◌, inl, inr, refl, sym, subst, ◌∙◌, take, Option, Some, None, arith}
use Rattle.std.specs.Prelude.{Contains, slice_get, ◌↔◌, IsSome}
use Rattle.std.specs.List.{AllZip}
use Rattle.std.proofs.lemmas.List.Elements.{Contains-push}
use Rattle.u_base.specs.Firing.{System, Held, Enabled, Derivation}
use Rattle.u_base.proofs.Member.{Contains-nil, Contains-head}
use Rattle.u_trace.specs.Stories.{IsGiver, IsSought, itself, need, InStory, IsStory, GivesFirst, HasGivers, Tells}
use Rattle.u_trace.specs.Givers.{AreGivers}
use Rattle.u_trace.proofs.Lists.{below_or_not, in_take, of_take, in_list, same_at}
use Rattle.u_trace.proofs.PlaceLaws.{zip_place, zip_member, zip_back, zip_earlier, zip_last}
use Rattle.u_trace.proofs.GiverLaws.{one_giver}

-- a derivation, the places of the givers of what it gives, and a test of two entries
module _ {E F : Type 0} (s : System E F) (log : List F) (d : Derivation s log) (at : E → Option ℕ) (g : AreGivers s log at) (same : (x y : E) → (x ≡ y) ⊎ (x ≡ y → ⊥)) where
  -- what a firing of the list gives has a giver
  pub giver_of : (y : E) (f : F) → Contains log f → Contains (s.gives f) y → (j : ℕ) × IsGiver s log y j
  giver_of y f m c = over (at y) refl
    where
      over : (o : Option ℕ) → at y ≡ o → (j : ℕ) × IsGiver s log y j
      over None e = absurd (g.none y e f m c)
      over (Some j) e = (j, g.giver y j e)

  pub held_giver : (y : E) → (y ≡ s.start → ⊥) → Held s log y → (j : ℕ) × IsGiver s log y j
  held_giver y n (inl e) = absurd (n e)
  held_giver y n (inr (f, m, c)) = giver_of y f m c

  -- the giver of a need stands before the firing that needs it
  pub need_giver : (k : ℕ) (f : F) (y : E) → slice_get log k ≡ Some f → Contains (s.needs f) y → (y ≡ s.start → ⊥) → (j : ℕ) × IsGiver s log y j × (j < k)
  need_giver k f y e m n = over ((d.each k f e).1 y m)
    where
      over : Held s (take k log) y → (j : ℕ) × IsGiver s log y j × (j < k)
      over (inl q) = absurd (n q)
      over (inr (h, c, v)) =
          let i = of_take log k h c in
          let w = giver_of y h (in_list log i.0 h i.2) v in
          (w.0, w.1, elim (below_or_not w.0 k) [ inl l ↦ l | inr l ↦ absurd (w.1.first h (in_take log i.0 w.0 h i.2 (let b = i.1 in omega (arith, b, l))) v) ])

  pub need_below : (k j : ℕ) (f : F) (y : E) → slice_get log k ≡ Some f → Contains (s.needs f) y → (y ≡ s.start → ⊥) → IsGiver s log y j → j < k
  need_below k j f y e m n p = let w = need_giver k f y e m n in let q = one_giver s log y j w.0 p w.1 in let l = w.2 in omega (arith, q, l)

  module _ (e : E) where
    not_start : (x : E) → IsSought s log e x → x ≡ s.start → ⊥
    not_start x (itself n) = n
    not_start x (need y _ k t p m n) = n

    start_alone : (x : E) → IsSought s log e x → e ≡ s.start → ⊥
    start_alone x (itself n) h = n h
    start_alone x (need y _ k t p m n) h = start_alone y t h

    -- what a firing of the story needs is sought
    pub sought_need : (k : ℕ) (f : F) (y : E) → InStory s log e k → slice_get log k ≡ Some f → Contains (s.needs f) y → (y ≡ s.start → ⊥) → IsSought s log e y
    sought_need k f y (x, t, p) is m n =
        need x y k t p (subst (λ (h : F). Contains (s.needs h) y) (same_at log k f p.firing is p.at) m) n

    -- no firing of the story stands behind the giver of e
    bound : (x : E) → IsSought s log e x → (k m : ℕ) → IsGiver s log x k → IsGiver s log e m → k ≤ m
    bound x (itself n) k m p q = let h = one_giver s log e k m p q in omega (arith, h)
    bound x (need y _ i t r c n) k m p q =
        let l = need_below i k r.firing x r.at c n p in
        let b = bound y t i m r q in
        omega (arith, l, b)

    -- each list with the givers has each firing of the story
    within : (M : F → Type 0) → HasGivers s log e M → (x : E) → IsSought s log e x → (f : F) → GivesFirst s log x f → M f
    within M h x (itself n) f v = h.own f n v
    within M h x (need y _ k t p c n) f v = h.needed p.firing x f (within M h y t p.firing (k, p, p.at)) c n v

    module _ (held : Held s log e) (fs : List F) (story : IsStory s log e fs) where
      at_place : (i : ℕ) (f : F) → slice_get fs i ≡ Some f → (k : ℕ) × (slice_get story.places i ≡ Some k) × (slice_get log k ≡ Some f)
      at_place i f h = zip_place (λ k f. slice_get log k ≡ Some f) story.places fs story.at i f h

      has : (x : E) (j : ℕ) → IsSought s log e x → IsGiver s log x j → Contains story.places j
      has x j t p = (story.exact j).1 (x, t, p)

      place_of : (f : F) → Contains fs f → (k : ℕ) × InStory s log e k × (slice_get log k ≡ Some f)
      place_of f m = let w = zip_back (λ k f. slice_get log k ≡ Some f) story.places fs story.at f m in (w.0, (story.exact w.0).0 w.1, w.2)

      firing_of : (x : E) (f : F) → IsSought s log e x → GivesFirst s log x f → Contains fs f
      firing_of x f t (j, p, a) =
          let w = zip_member (λ k f. slice_get log k ≡ Some f) story.places fs story.at j (has x j t p) in
          subst (Contains fs) (same_at log j w.0 f w.2 a) w.1

      derivation : Derivation s fs
      derivation = record { each = each }
        where
          each : (i : ℕ) (f : F) → slice_get fs i ≡ Some f → Enabled s (Held s (take i fs)) f
          each i f h = ((d.each k f w.2).0, λ y m. over y m (same y s.start))
            where
              w : (k : ℕ) × (slice_get story.places i ≡ Some k) × (slice_get log k ≡ Some f)
              w = at_place i f h

              k : ℕ
              k = w.0

              over : (y : E) → Contains (s.needs f) y → (y ≡ s.start) ⊎ (y ≡ s.start → ⊥) → Held s (take i fs) y
              over y m (inl q) = inl q
              over y m (inr n) =
                  let r = need_giver w.0 f y w.2 m n in
                  let t = sought_need w.0 f y ((story.exact w.0).0 (in_list story.places i w.0 w.1)) w.2 m n in
                  let u = zip_earlier (λ k f. slice_get log k ≡ Some f) story.places fs story.rise story.at i w.0 r.0 w.1 (has y r.0 t r.1) r.2 in
                  inr (u.0, u.1, subst (λ (x : F). Contains (s.gives x) y) (same_at log r.0 r.1.firing u.0 r.1.at u.2) r.1.gives)

      none : (fs ≡ []) ↔ (e ≡ s.start)
      none = (to, back fs refl)
        where
          to : fs ≡ [] → e ≡ s.start
          to q = over (same e s.start)
            where
              over : (e ≡ s.start) ⊎ (e ≡ s.start → ⊥) → e ≡ s.start
              over (inl h) = h
              over (inr n) =
                  let w = held_giver e n held in
                  absurd (Contains-nil w.1.firing (subst (λ (xs : List F). Contains xs w.1.firing) q (firing_of e w.1.firing (itself n) (w.0, w.1, w.1.at))))

          back : (xs : List F) → fs ≡ xs → e ≡ s.start → fs ≡ []
          back [] q h = q
          back (f ∷ xs) q h =
              let w = place_of f (subst (λ (ys : List F). Contains ys f) (sym q) (Contains-head f xs)) in
              absurd (start_alone w.1.0 w.1.1 h)

      last : (before : List F) (f : F) → fs ≡ before ++ f ∷ [] → Contains (s.gives f) e
      last before f q = over (same e s.start)
        where
          w : (k : ℕ) × Contains story.places k × (slice_get log k ≡ Some f) × ((j : ℕ) → Contains story.places j → j ≤ k)
          w = zip_last (λ k f. slice_get log k ≡ Some f) story.places before f story.rise (subst (λ (ys : List F). AllZip (λ k f. slice_get log k ≡ Some f) story.places ys) q story.at)

          over : (e ≡ s.start) ⊎ (e ≡ s.start → ⊥) → Contains (s.gives f) e
          over (inl h) = absurd (Contains-nil f (subst (λ (ys : List F). Contains ys f) (sym q ∙ none.1 h) (Contains-push before f)))
          over (inr n) =
              let m = held_giver e n held in
              let top = w.3 m.0 (has e m.0 (itself n) m.1) in
              let i = (story.exact w.0).0 w.1 in
              let low = bound i.0 i.1 w.0 m.0 i.2 m.1 in
              let h : m.0 ≡ w.0 = omega (arith, top, low) in
              subst (λ (x : F). Contains (s.gives x) e) (same_at log w.0 m.1.firing f (subst (λ (k : ℕ). slice_get log k ≡ Some m.1.firing) h m.1.at) w.2) m.1.gives

      pub tells : Tells s log e fs
      tells = record {
        derivation = derivation;
        none = none;
        last = last;
        complete = record {
          own = λ f n v. firing_of e f (itself n) v;
          needed = λ h y f m c n v. (let w = place_of h m in firing_of y f (sought_need w.0 h y w.1 w.2 c n) v);
        };
        least = λ gs h f m. (let w = place_of f m in within (Contains gs) h w.1.0 w.1.1 f (w.0, w.1.2, w.2));
      }

-- what is the start or has a giver is held, and nothing else
pub known_held : {E F : Type 0} (s : System E F) (log : List F) (at : E → Option ℕ) → AreGivers s log at → (x : E) → ((x ≡ s.start) ⊎ IsSome (at x)) ↔ Held s log x
known_held {E} {F} s log at g x = (to, back)
  where
    found : (o : Option ℕ) → at x ≡ o → IsSome o → Held s log x
    found None e h = absurd (cc)
    found (Some k) e h = let p = g.giver x k e in inr (p.firing, in_list log k p.firing p.at, p.gives)

    to : (x ≡ s.start) ⊎ IsSome (at x) → Held s log x
    to (inl q) = inl q
    to (inr h) = found (at x) refl h

    there : (o : Option ℕ) → at x ≡ o → (f : F) → Contains log f → Contains (s.gives f) x → IsSome o
    there None e f m c = absurd (g.none x e f m c)
    there (Some k) e f m c = refl

    back : Held s log x → (x ≡ s.start) ⊎ IsSome (at x)
    back (inl q) = inl q
    back (inr (f, m, c)) = inr (there (at x) refl f m c)
