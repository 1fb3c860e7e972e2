-- Lists of events, one longer.
use Rattle.std.specs.Prelude.{◌≡◌, ℕ, ◌+◌, ◌<◌, List, [], ◌∷◌, ◌++◌, length, take, Ok, Err, Some, refl}
use Rattle.std.proofs.Common.{sym, ◌∙◌, ap, subst, inl, inr, get_or}
use Rattle.std.proofs.lemmas.List.{take_more}
use Rattle.u_world.specs.declared.event.Event.{Event}
use Rattle.u_world.specs.declared.refused.Refused.{Refused}
use Rattle.u_world.specs.declared.refused.Refused.TheVariants.{BadEvent, Full, NoMemory}
use Rattle.u_world.specs.Refusals.{error_at}
use Rattle.u_world.specs.WorldState.{WorldState}
use Rattle.u_world.specs.Happenings.{EventAnswer, EventStep}
use Rattle.u_world.specs.Runs.{EventSteps, StopsAt, EventsAnswer}
use Rattle.u_world.proofs.Places.{get_there}

-- an event that was not refused happened
pub happened : (old : WorldState) (e : Event) (u : Unit {0}) (new : WorldState) → EventAnswer old e (Ok u) new → EventStep old e new
happened old e u new (inl a) = absurd (let q = a.1 in cc)
happened old e u new (inr h) = h

steps_push : (old : WorldState) (es : List Event) (mid : WorldState) (e : Event) (new : WorldState) → EventSteps old es mid → EventStep mid e new → EventSteps old (es ++ (e ∷ [])) new
steps_push old [] mid e new p q = (new, subst (λ (w : WorldState). EventStep w e new) p q, refl)
steps_push old (x ∷ es) mid e new (n, a, b) q = (n, a, steps_push n es mid e new b q)

-- one more event
pub steps_more : (old : WorldState) (es : List Event) (i : ℕ) (mid : WorldState) (e : Event) (new : WorldState) → i < length es → e ≡ get_or es i e → EventSteps old (take i es) mid → EventStep mid e new → EventSteps old (take (i + 1) es) new
steps_more old es i mid e new l is p q = rw (take_more es i e l) (steps_push old (take i es) mid (get_or es i e) new p (subst (λ x. EventStep mid x new) is q))

-- the first one that is refused
pub stops : (old : WorldState) (es : List Event) (place : ℕ) (mid : WorldState) (e : Event) (refused : Refused) (new : WorldState) → place < length es → e ≡ get_or es place e → EventSteps old (take place es) mid → EventAnswer mid e (Err refused) new → EventsAnswer old es (Err (error_at refused place)) new
stops old es place mid e refused new l is p q = at refused (record { mid = mid; event = e; at = get_there es place e l ∙ ap (λ x. Some x) (sym is); before = p; last = q })
  where
    at : (r : Refused) → StopsAt old es place r new → EventsAnswer old es (Err (error_at r place)) new
    at BadEvent s = s
    at Full s = s
    at NoMemory s = s
