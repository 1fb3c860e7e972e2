-- Lists of events that happen, one longer; and the first one that is refused.
use Rattle.std.specs.Prelude.{◌≡◌, ℕ, suc, zero, ◌+◌, ◌<◌, List, [], ◌∷◌, ◌++◌, length, take, Some, Err, slice_get, refl}
use Rattle.std.proofs.Common.{sym, ◌∙◌, ap, subst, arith, get_or}
use Rattle.std.proofs.lemmas.List.{take_more, length-take-le}
use Rattle.u_world.specs.declared.event.Event.{Event}
use Rattle.u_world.specs.declared.refused.WorldError.{WorldError}
use Rattle.u_world.specs.declared.refused.WorldError.TheVariants as errors
use Rattle.u_world.specs.WorldState.{WorldState}
use Rattle.u_world.specs.Runs.{EventSteps, EventsAnswer}
use Rattle.u_world.proofs.Places.{get_there}
use Rattle.u_pictures.specs.declared.happening.Happening.{Happening}
use Rattle.u_pictures.specs.declared.living.Sent.{Sent}
use Rattle.u_pictures.specs.Living.{Does, Lives, LiveRefused, RefusedOne, error_in}

-- the events of a life happen
pub lives_steps : (row : ℕ) (sent : List Sent) (old : WorldState) (es : List Event) (hs : List Happening) (later : List Sent) (new : WorldState) → Lives row sent old es hs later new → EventSteps old es new
lives_steps row sent old [] hs later new l = l.2
lives_steps row sent old (e ∷ es) hs later new (h, rest, now, mid, is, does, l) = (mid, does.step, lives_steps (suc row) now mid es rest later new l)

lives_push : (row : ℕ) (sent : List Sent) (old : WorldState) (es : List Event) (hs : List Happening) (now : List Sent) (mid : WorldState) (e : Event) (h : Happening) (later : List Sent) (new : WorldState)
    → Lives row sent old es hs now mid → Does (row + length es) now mid e h later new → Lives row sent old (es ++ (e ∷ [])) (hs ++ (h ∷ [])) later new
lives_push row sent old [] hs now mid e h later new (none, stays, same) d =
    let z : row + 0 ≡ row = omega arith in (
      h,
      [],
      later,
      new,
      ap (λ (xs : List Happening). xs ++ (h ∷ [])) none,
      subst (λ (n : ℕ). Does n sent old e h later new) z
          (subst (λ (w : WorldState). Does (row + 0) sent w e h later new) same
          (subst (λ (xs : List Sent). Does (row + 0) xs mid e h later new) stays d)),
      (refl, refl, refl),
    )
lives_push row sent old (x ∷ es) hs now mid e h later new (first, rest, next, then, is, does, l) d =
    let z : row + suc (length es) ≡ suc row + length es = omega arith in (
      first,
      rest ++ (h ∷ []),
      next,
      then,
      ap (λ (xs : List Happening). xs ++ (h ∷ [])) is,
      does,
      lives_push (suc row) next then es rest now mid e h later new l (subst (λ (n : ℕ). Does n now mid e h later new) z d),
    )

-- one event more
pub lives_more : (old : WorldState) (es : List Event) (i : ℕ) (hs : List Happening) (now : List Sent) (mid : WorldState) (e : Event) (h : Happening) (later : List Sent) (new : WorldState) → i < length es → e ≡ get_or es i e
    → Lives 1 [] old (take i es) hs now mid → Does (i + 1) now mid e h later new → Lives 1 [] old (take (i + 1) es) (hs ++ (h ∷ [])) later new
lives_more old es i hs now mid e h later new l is p q =
    let n : i + 1 ≡ 1 + length (take i es) = omega (arith, length-take-le i es (omega (arith, l))) in
    let t : take (i + 1) es ≡ take i es ++ (e ∷ []) = take_more es i e l ∙ ap (λ (x : Event). take i es ++ (x ∷ [])) (sym is) in
    subst (λ (xs : List Event). Lives 1 [] old xs (hs ++ (h ∷ [])) later new) (sym t)
    (lives_push 1 [] old (take i es) hs now mid e h later new p (subst (λ (n : ℕ). Does n now mid e h later new) n q))

-- one event that is refused, behind those that happened
module _ (old : WorldState) (es : List Event) (place : ℕ) (mid : WorldState) (e : Event) (new : WorldState) (l : place < length es) (is : e ≡ get_or es place e) (before : EventSteps old (take place es) mid) where
  there : (x : Event) → Some e ≡ Some x → slice_get es place ≡ Some x
  there x q = get_there es place e l ∙ ap (λ (y : Event). Some y) (sym is) ∙ q

  so_far : (w : WorldState) → w ≡ mid → EventSteps old (take place es) w
  so_far w q = subst (λ (v : WorldState). EventSteps old (take place es) v) (sym q) before

  bad : (at : ℕ) → EventsAnswer mid (e ∷ []) (Err (errors.BadEvent at)) new → EventsAnswer old es (Err (errors.BadEvent place)) new
  bad zero s = record { mid = s.mid; event = s.event; at = there s.event s.at; before = so_far s.mid s.before; last = s.last }
  bad (suc at) s = let a = s.at in absurd (cc)

  full : (at : ℕ) → EventsAnswer mid (e ∷ []) (Err (errors.Full at)) new → EventsAnswer old es (Err (errors.Full place)) new
  full zero s = record { mid = s.mid; event = s.event; at = there s.event s.at; before = so_far s.mid s.before; last = s.last }
  full (suc at) s = let a = s.at in absurd (cc)

  pub refused_later : (error : WorldError) → RefusedOne mid e error new → LiveRefused old es (error_in error place) new
  refused_later (errors.BadEvent n) r = bad n r
  refused_later (errors.Full n) r = full n r
  refused_later (errors.NoMemory n) r = tt
