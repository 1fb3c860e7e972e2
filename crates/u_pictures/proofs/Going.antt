-- One event that happens, and one that is refused.
use Rattle.std.specs.Prelude.{◌≡◌, ℕ, List, [], ◌∷◌, length, Option, Err, slice_get}
use Rattle.std.proofs.Common.{sym, ◌∙◌, ap, subst}
use Rattle.u_rule.specs.declared.firing.Firing.{Firing}
use Rattle.u_world.specs.declared.event.Event.{Event}
use Rattle.u_world.specs.declared.refused.WorldError.{WorldError}
use Rattle.u_world.specs.declared.refused.WorldError.TheVariants as errors
use Rattle.u_world.specs.WorldState.{WorldState, Has}
use Rattle.u_world.specs.Worlds.{IsWorld}
use Rattle.u_world.specs.Happenings.{EventStep}
use Rattle.u_world.specs.Runs.{EventSteps, EventsAnswer}
use Rattle.u_pictures.specs.declared.happening.Deed.{Deed}
use Rattle.u_pictures.specs.declared.living.Sent.{Sent}
use Rattle.u_pictures.specs.Living.{taken_in, log_in, first_more, IsKnown, IsDoer, IsDeed, Agree, Goes, sent_by, RefusedOne}
use Rattle.u_pictures.proofs.Noting.{known, has_doer, still_has, posts, posts_agree}

-- the one event of a list that happened
one_step : (old new : WorldState) (e : Event) (es : List Event) → es ≡ e ∷ [] → EventSteps old es new → EventStep old e new
one_step old new e es p s = at (subst (λ (xs : List Event). EventSteps old xs new) p s)
  where
    at : EventSteps old (e ∷ []) new → EventStep old e new
    at (mid, step, same) = subst (λ (w : WorldState). EventStep old e w) (sym same) step

module _ (old new : WorldState) (is : IsWorld old) (sent : List Sent) (agree : Agree sent old.messages) (e : Event) where
  pub goes : (es : List Event) → es ≡ e ∷ [] → EventSteps old es new → (k : ℕ) → (IsKnown sent e → IsDoer sent e k)
      → (applied had has : ℕ) → (Has old k → applied ≡ length (log_in old k)) → (Has old k → had ≡ taken_in old k) → (Has new k → has ≡ taken_in new k)
      → (first : Option Firing) → (Has new k → first ≡ slice_get (log_in new k) applied) → (d : Deed) → (IsKnown sent e → IsDeed sent e had has first d)
      → (row : ℕ) → Goes row sent old e (record { replica = k; deed = d }) new
  goes es one steps k doer applied had has a h n first f d deed row =
      let step = one_step old new e es one steps in
      let there = known old new is sent agree e step in
      let by = doer there in
      let was = has_doer old new is sent agree e k step by in
      let now = still_has old new is sent agree e k step was in
      let ps = posts old new is sent agree row e step in
      let first_is : first ≡ first_more old new k = f now ∙ ap (λ (i : ℕ). slice_get (log_in new k) i) (a was) in
      let what =
      subst (λ (i : ℕ). IsDeed sent e i (taken_in new k) (first_more old new k) d) (h was)
      (subst (λ (i : ℕ). IsDeed sent e had i (first_more old new k) d) (n now)
      (subst (λ (o : Option Firing). IsDeed sent e had has o d) first_is (deed there))) in
      (record { step = step; done = record { doer = by; deed = what }; posts = ps }, posts_agree row old new sent (sent_by row e sent) agree ps)

-- the one event of a list that is refused
pub refused_one : (old new : WorldState) (e : Event) (es : List Event) → es ≡ e ∷ [] → (error : WorldError) → EventsAnswer old es (Err error) new → RefusedOne old e error new
refused_one old new e es p (errors.BadEvent n) a = subst (λ (xs : List Event). EventsAnswer old xs (Err (errors.BadEvent n)) new) p a
refused_one old new e es p (errors.Full n) a = subst (λ (xs : List Event). EventsAnswer old xs (Err (errors.Full n)) new) p a
refused_one old new e es p (errors.NoMemory n) a = tt
