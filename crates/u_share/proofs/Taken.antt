-- What taking a firing does.
use Rattle.std.specs.Prelude.{◌≡◌, ℕ, ◌≤◌, ◌<◌, length, true, List, [], Ok, Err, Some, None, Result, Option, refl}
use Rattle.std.proofs.Common.{sym, ◌∙◌, subst, inl, inr, arith}
use Rattle.std.proofs.lemmas.Bool.{false≢true}
use Rattle.u_check.specs.Jobs.{JobParts}
use Rattle.u_rule.specs.FiringReading.{IsFiringOf}
use Rattle.u_rule.specs.Rule.{own_of}
use Rattle.u_rule.specs.declared.firing.Firing.{Firing}
use Rattle.u_machine.specs.State.{State, Taken, IsMachine}
use Rattle.u_machine.specs.Calls.{Applies, Takes, TakeAnswer}
use Rattle.u_machine.specs.declared.answer.Took.{Took}
use Rattle.u_machine.specs.declared.answer.Took.TheVariants as took
use Rattle.u_machine.specs.declared.answer.TakeRefusal.TheVariants as untaken
use Rattle.u_share.specs.Lines.{longest, IsLineOf}
use Rattle.u_share.specs.Headline.{Gains}
use Rattle.u_share.specs.Calls.{Stays, FiringAnswer, LineAnswer}
use Rattle.u_share.specs.declared.line_fault.LineFault.{LineFault}
use Rattle.u_share.specs.declared.line_fault.LineFault.TheVariants.{TooLong, NotAllowed, NotOfThisJob, CutShort}
use Rattle.u_share.specs.declared.fault.ShareFault.{ShareFault}
use Rattle.u_share.specs.declared.fault.ShareFault.TheVariants as faults
use Rattle.u_share.proofs.Going.{gains_same}
use Rattle.u_share.proofs.Quieted.{same_firing, no_empty_firing}

applies_stays : (old new : State) → Applies old new → Stays old new
applies_stays old new p = record {
  job = p.grows.job;
  limit = p.grows.limit;
  taken = λ g. ((λ t. inl ((p.taken g).1 t)), λ s. elim s [ inl t ↦ (p.taken g).0 t | inr n ↦ absurd n ]);
}

known_gains : (old new : State) (f : Firing) → Taken old f → Applies old new → Gains old (λ g. f ≡ g) new
known_gains old new f k p = record {
  job = p.grows.job;
  limit = p.grows.limit;
  taken = λ g. ((λ t. inl ((p.taken g).1 t)), λ s. elim s [ inl t ↦ (p.taken g).0 t | inr e ↦ (p.taken g).0 (subst (Taken old) e k) ]);
}

takes_gains : (old new : State) (f : Firing) → Takes old f new → Gains old (λ g. f ≡ g) new
takes_gains old new f p = record { job = p.grows.job; limit = p.grows.limit; taken = p.taken }

pub firing_taken : (old new : State) (f : Firing) (t : Took) → IsMachine old → TakeAnswer old f (Ok t) new → FiringAnswer old f (Ok None) new
firing_taken old new f took.Known is (k, p) = (is.sound.firings f k, known_gains old new f k p.applies)
firing_taken old new f took.Taken is a = (a.0.firing, takes_gains old new f a.1)
firing_taken old new f took.Parked is a = (a.0.firing, takes_gains old new f a.1)

pub firing_of_another : (old new : State) (f : Firing) → TakeAnswer old f (Err untaken.NotAFiring) new → FiringAnswer old f (Ok (Some NotOfThisJob)) new
firing_of_another old new f (n, p) = (n, applies_stays old new p.applies)

pub firing_full : (old new : State) (f : Firing) → TakeAnswer old f (Err untaken.Full) new → FiringAnswer old f (Err faults.Full) new
firing_full old new f a =
    let p = a.3.applies in (
      a.0,
      applies_stays old new p,
      record { full = p.count ∙ a.2 ∙ sym p.grows.limit; new = λ t. a.1 ((p.taken f).1 t) },
    )

-- a line that is no firing of the job

pub nothing_gained : (m : State) (line : List ℕ) → ((f : Firing) → IsLineOf m.job line f → ⊥) → Gains m (IsLineOf m.job line) m
nothing_gained m line n = record {
  job = refl;
  limit = refl;
  taken = λ f. ((λ t. inl t), λ s. elim s [ inl t ↦ t | inr p ↦ absurd (n f p) ]);
}

pub empty_gains : (m : State) (line : List ℕ) → line ≡ [] → Gains m (IsLineOf m.job line) m
empty_gains m line e = nothing_gained m line (λ f p. no_empty_firing line f e p.text)

pub long_gains : (m : State) (line : List ℕ) → longest < length line → Gains m (IsLineOf m.job line) m
long_gains m line l = nothing_gained m line (λ f p. let s = p.short in omega (arith, l, s))

pub unread_gains : (m : State) (line : List ℕ) → ((f : Firing) → IsFiringOf line f → ⊥) → Gains m (IsLineOf m.job line) m
unread_gains m line n = nothing_gained m line (λ f p. n f p.text)

-- a line that is a firing's text
pub line_seen : (old new : State) (line : List ℕ) (f : Firing) (r : Result (Option LineFault) ShareFault) → length line ≤ longest → IsFiringOf line f → FiringAnswer old f r new → LineAnswer old line r new
line_seen old new line f (Ok None) s t (is, gains) =
    let here : IsLineOf old.job line f = record { short = s; text = t; of_job = is } in
    (inr (f, here), gains_same old new (λ g. f ≡ g) (IsLineOf old.job line) gains (λ g p. same_firing line f g t p.text) (λ g e. subst (λ (x : Firing). IsLineOf old.job line x) e here))
line_seen old new line f (Ok (Some NotOfThisJob)) s t (is, stays) =
    ((s, (f, t, is)), gains_same old new (λ g. ⊥) (IsLineOf old.job line) stays (λ g p. clash g p) (λ g n. absurd n))
  where
    clash : (g : Firing) → IsLineOf old.job line g → ⊥
    clash g p = false≢true (sym is ∙ subst (λ (x : Firing). (own_of old.job).is_firing x ≡ true) (same_firing line g f p.text t) p.of_job)
line_seen old new line f (Ok (Some TooLong)) s t a = absurd a
line_seen old new line f (Ok (Some NotAllowed)) s t a = absurd a
line_seen old new line f (Ok (Some CutShort)) s t a = absurd a
line_seen old new line f (Err faults.Full) s t (is, stays, room) =
    (stays, (f, subst (λ (j : JobParts). IsLineOf j line f) (sym stays.job) (record { short = s; text = t; of_job = is }), room))
line_seen old new line f (Err faults.NotReadable) s t a = absurd a
line_seen old new line f (Err faults.NotWritten) s t a = absurd a
line_seen old new line f (Err faults.NoMemory) s t a = tt
