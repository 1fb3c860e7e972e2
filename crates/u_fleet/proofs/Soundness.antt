-- Firings of derivations are sound, and a machine that takes sound firings has sound ones.
use Rattle.std.proofs.Common.{IfErr, ◌≡◌, ℕ, zero, suc, List, [], ◌∷◌, ◌++◌, inl, inr, sym, subst, ◌∙◌, take, Some, ⊎_elim, arith, Result, Ok, Err, All}
use Rattle.std.specs.Prelude.{Contains, slice_get, slice_index_or, drop, false, true}
use Rattle.std.proofs.lemmas.List.{length-append, take-append-drop}
use Rattle.std.proofs.lemmas.List.Elements.{All-contains, All-drop, All-take, Contains-append_cases, Contains-append_left}
use Rattle.std.proofs.lemmas.Option.{slice_get-get_or}
use Rattle.u_base.specs.Firing.{System, Held, Enabled, Derivation, Cl, Whole, Follows}
use Rattle.u_base.proofs.Held.{Enabled-mono, Follows-from_Derivation, Derivation-from_Follows}
use Rattle.u_base.proofs.Closure.{Cl-whole}
use Rattle.u_check.specs.Jobs.{JobParts}
use Rattle.u_rule.specs.Rule.{own_of}
use Rattle.u_rule.specs.declared.firing.Firing.{Firing}
use Rattle.u_machine.specs.State.{State, Taken, IsMachine}
use Rattle.u_machine.specs.Calls.{Grows, Applies}
use Rattle.u_machine.specs.Taking.{IsFirstOther, IsTooLong, TakesAll, TakesSome, TakeAllAnswer}
use Rattle.u_machine.specs.declared.answer.ListRefusal.{ListRefusal}
use Rattle.u_machine.specs.declared.answer.ListRefusal.TheVariants as lists
use Rattle.u_machine.proofs.Once.{Distinct-join}
use Rattle.u_machine.proofs.States.{grows_refl}
use Rattle.u_machine.proofs.TakenLists.{takes_none}
use Rattle.u_machine.proofs.Lists.{slice_get_Contains}
use Rattle.u_outlet.specs.Sound.{IsSound}
use Rattle.u_fleet.specs.Gains.{TookSound, Gains, MayBeFull, MayRefuse}
use Rattle.u_fleet.specs.Headline.{AreSound}

module _ {E F : Type 0} (s : System E F) where
  Follows-take : (done fs : List F) (k : ℕ) → Follows s done fs → Follows s done (take k fs)
  Follows-take done [] zero d = tt
  Follows-take done [] (suc k) d = tt
  Follows-take done (f ∷ fs) zero d = tt
  Follows-take done (f ∷ fs) (suc k) d = (d.0, Follows-take (done ++ f ∷ []) fs k d.1)

  -- the front of a derivation is one
  pub Derivation-take : (fs : List F) (k : ℕ) → Derivation s fs → Derivation s (take k fs)
  Derivation-take fs k d = Derivation-from_Follows s (take k fs) (Follows-take [] fs k (Follows-from_Derivation s fs d))

  -- each firing of a derivation needs what some run holds
  pub Derivation-at : (fs : List F) (k : ℕ) (f : F) → Derivation s fs → slice_get fs k ≡ Some f → Enabled s (Whole s) f
  Derivation-at fs k f d at = Enabled-mono s (Held s (take k fs)) (Whole s) (λ e h. (take k fs, Derivation-take fs k d, h)) f (d.each k f at)

-- each firing of a run of the job is sound
pub run_sound : (job : JobParts) (fs : List Firing) → Derivation (own_of job) fs → All (IsSound job) fs
run_sound job fs d k fallback h = Derivation-at (own_of job) fs k (slice_index_or fs k fallback) d (slice_get-get_or fs k fallback h)

-- the log of a machine is sound, and so is each part of it
pub part_sound : (job : JobParts) (m : State) (log : List Firing) (place n : ℕ) → IsMachine m → m.job ≡ job → log ≡ m.log → All (IsSound job) (take n (drop place log))
part_sound job m log place n is same e =
    subst (λ xs. All (IsSound job) (take n (drop place xs))) (sym e) (All-take (IsSound job) n (drop place m.log) (All-drop (IsSound job) place m.log
    (subst (λ j. All (IsSound j) m.log) same (run_sound m.job m.log is.sound.derivation))))

pub from_all : (job : JobParts) (fs : List Firing) → All (IsSound job) fs → AreSound job fs
from_all job fs all f m = All-contains (IsSound job) fs f all m

-- soundness is of the job alone
pub other_job : (old new : State) (fs : List Firing) → new.job ≡ old.job → ((f : Firing) → Contains fs f → IsSound old.job f) → (f : Firing) → Contains fs f → IsSound new.job f
other_job old new fs same all f m = subst (λ j. IsSound j f) (sym same) (all f m)

pub gains_by : (old new : State) → Grows old new → (TookSound old → (f : Firing) → Taken new f → IsSound old.job f) → Gains old new
gains_by old new grows sound = record { grows = grows; sound = λ all f m. subst (λ j. IsSound j f) (sym grows.job) (sound all f m) }

pub gains_same : (m : State) → Gains m m
gains_same m = record { grows = grows_refl m; sound = λ all. all }

pub applies_gains : (old new : State) → Applies old new → Gains old new
applies_gains old new a = gains_by old new a.grows (λ all f m. all f ((a.taken f).1 m))

pub takes_gains : (old new : State) (fs : List Firing) → TakesAll old fs new → AreSound old.job fs → Gains old new
takes_gains old new fs t s = gains_by old new t.grows (λ all f m. ⊎_elim (λ (h : Taken old f). all f h) (λ (h : Contains fs f). s f h) ((t.taken f).0 m))

pub answer_gains : (old new : State) (fs : List Firing) (r : Result (Unit {0}) ListRefusal) → All (IsSound old.job) fs → TakeAllAnswer old fs r new → Gains old new
answer_gains old new fs (Ok u) all (firings, fits, takes, settled) = takes_gains old new fs takes (from_all old.job fs all)
answer_gains old new fs (Err (lists.NotAFiring place)) all (other, settles) = applies_gains old new settles.applies
answer_gains old new fs (Err lists.Full) all (firings, long, settles) = applies_gains old new settles.applies
answer_gains old new fs (Err lists.NoMemory) all (inl u) = applies_gains old new u.applies
answer_gains old new fs (Err lists.NoMemory) all (inr (firings, fits, some)) =
    takes_gains old new (take some.0 fs) some.2 (λ f m. from_all old.job fs all f (subst (λ xs. Contains xs f) (take-append-drop some.0 fs) (Contains-append_left (take some.0 fs) (drop some.0 fs) f m)))

-- no list of sound firings has one that is none of the job
none_other : (old : State) (fs : List Firing) (place : ℕ) → All (IsSound old.job) fs → IsFirstOther old.job fs place → ⊥
none_other old fs place all other =
    let yes : (own_of old.job).is_firing other.other ≡ true = (from_all old.job fs all other.other (slice_get_Contains fs place other.other other.at)).0 in
    let no : (own_of old.job).is_firing other.other ≡ false = other.none in
    let bad : true ≡ false = sym yes ∙ no in cc

-- where a list is too long more firings are sound than may be taken
pub too_many : (m : State) (fs : List Firing) → IsMachine m → AreSound m.job fs → IsTooLong m fs → MayBeFull m
too_many m fs is all (news, new, more) took = (
  (m.log ++ m.parked) ++ news,
  Distinct-join (m.log ++ m.parked) news is.sound.distinct new.once (λ f taken n. (new.found.new f n).1 taken),
  (λ f c. ⊎_elim (λ (h : Taken m f). took f h) (λ (h : Contains news f). all f (new.found.new f h).0) (Contains-append_cases (m.log ++ m.parked) news f c)),
  omega (arith, length-append (m.log ++ m.parked) news, length-append m.log m.parked, more),
)

pub answer_refused : (old new : State) (fs : List Firing) (r : Result (Unit {0}) ListRefusal) → IsMachine old → All (IsSound old.job) fs → TakeAllAnswer old fs r new → IfErr r (MayRefuse old)
answer_refused old new fs (Ok u) is all a = tt
answer_refused old new fs (Err (lists.NotAFiring place)) is all (other, settles) = none_other old fs place all other
answer_refused old new fs (Err lists.Full) is all (firings, long, settles) = too_many old fs is (from_all old.job fs all) long
answer_refused old new fs (Err lists.NoMemory) is all a = tt

-- where there is no memory the first ones are taken
pub takes_first : (old new : State) (fs : List Firing) → TakeAllAnswer old fs (Err lists.NoMemory) new → TakesSome old fs new
takes_first old new fs (inl u) = (0, omega arith, takes_none old new u.applies)
takes_first old new fs (inr (firings, fits, some)) = some

-- what is enabled over what any firings reach is sound
pub reached_sound : (job : JobParts) (M : Firing → Type 0) (f : Firing) → Enabled (own_of job) (Cl (own_of job) M) f → IsSound job f
reached_sound job M f = Enabled-mono (own_of job) (Cl (own_of job) M) (Whole (own_of job)) (Cl-whole (own_of job) M) f
