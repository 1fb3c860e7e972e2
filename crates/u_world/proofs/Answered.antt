-- What the calls of a world answer, put together.
use Rattle.std.specs.Prelude.{◌≡◌, ℕ, zero, suc, ◌+◌, ◌-◌, ◌^◌, ◌<◌, ◌⊎◌, List, [], ◌∷◌, ◌++◌, length, take, map, Result, Ok, Err, slice_get, Some, refl}
use Rattle.std.proofs.Common.{sym, ◌∙◌, ap, subst, arith, inl, inr, get_or, length-append}
use Rattle.std.proofs.lemmas.List.{take_all}
use Rattle.u_base.specs.Spaced.{ended}
use Rattle.u_base.proofs.WholeWordsLaws.{le_cases}
use Rattle.u_program.specs.declared.program.Version.{Version}
use Rattle.u_rule.specs.declared.firing.Firing.{Firing}
use Rattle.u_rule.specs.FiringText.{firing_text}
use Rattle.u_delta.specs.declared.message.Message.{Message}
use Rattle.u_machine.proofs.Lists.{slice_get_Contains}
use Rattle.u_replica.specs.declared.checkpoint.Ending.{Ending}
use Rattle.u_replica.specs.declared.answer.RestoreError.{RestoreError}
use Rattle.u_replica.specs.declared.answer.RestoreError.TheVariants as restores
use Rattle.u_replica.specs.Merging.{all_of}
use Rattle.u_replica.specs.CheckpointText.{first_line, count_line, checkpoint_text}
use Rattle.u_replica.specs.ReplicaState.{ReplicaState, HoldsAlways}
use Rattle.u_replica.proofs.CheckpointLaws.{reads_own}
use Rattle.u_replica.specs.Restoring.{IsRestored, IsNoRoom, RestoresWhole, RestoresFront}
use Rattle.u_world.specs.declared.event.Event.TheVariants as events
use Rattle.u_world.specs.declared.refused.Refused.{Refused}
use Rattle.u_world.specs.declared.refused.Refused.TheVariants as refusals
use Rattle.u_world.specs.Refusals.{of_restore}
use Rattle.u_world.specs.WorldState.{WorldState, At, Has}
use Rattle.u_world.specs.Worlds.{IsSent, IsSaved, IsWorld}
use Rattle.u_world.specs.Happenings.{StartsAgain, TakesBytes, Arrives, EventAnswer}
use Rattle.u_world.proofs.Places.{at_one, at_read}
use Rattle.u_world.proofs.Moves.{put, one_changed}

-- a message of the list was sent in the world
pub was_sent : (w : WorldState) (i : ℕ) (m : Message) → IsWorld w → slice_get w.messages i ≡ Some m → IsSent w m
was_sent w i m is e = is.sent m (slice_get_Contains w.messages i m e)

-- the firings of a delta's text were taken, or refused
pub arrived : (k : ℕ) (bytes : List ℕ) (result : Result (Unit {0}) Refused) (old new : WorldState) → TakesBytes k bytes result old new → Arrives k bytes result old new
arrived k bytes (Ok u) old new t = inr t
arrived k bytes (Err e) old new t = inr t

-- a replica started again
pub restarted : (w : WorldState) (is : IsWorld w) (k n keep life : ℕ) (read before after next : ReplicaState) (saved bytes : List ℕ) (ending : Ending) → Has w k → n ≡ k → read ≡ get_or w.replicas (n - 1) read → before ≡ get_or w.replicas (n - 1) before → saved ≡ get_or w.saves (n - 1) saved → life ≡ read.life + 1 → life < 2 ^ 64 → bytes ≡ take keep saved → IsRestored w.job w.limit k life bytes ending next → after ≡ next → HoldsAlways after → EventAnswer w (events.Restart k keep) (Ok tt) (put w n after)
restarted w is k n keep life read before after next saved bytes ending has e r b s l small t restored same holds =
    let read_at : At w.replicas k read = at_read w.replicas k read read has (r ∙ ap (λ i. get_or w.replicas (i - 1) read) e) in
    let before_at : At w.replicas k before = at_read w.replicas k before before has (b ∙ ap (λ i. get_or w.replicas (i - 1) before) e) in
    let one : read ≡ before = at_one w.replicas k before read before_at read_at in
    let saves : At w.saves k saved = at_read w.saves k saved saved (has.0, (let c = is.save_count in omega (arith, has.1, c))) (s ∙ ap (λ i. get_or w.saves (i - 1) saved) e) in
    let number = (is.members k before before_at).number in
    let lives : life ≡ before.life + 1 = l ∙ ap (λ (r : ReplicaState). r.life + 1) one in
    let by_number = subst (λ i. IsRestored w.job w.limit i life bytes ending next) (sym number) restored in
    let by_life = subst (λ i. IsRestored w.job w.limit before.number i bytes ending next) lives by_number in
    let by_bytes = subst (λ b. IsRestored w.job w.limit before.number (before.life + 1) b ending next) t by_life in
    let again : StartsAgain w (take keep saved) before after = (ending, subst (λ r. IsRestored w.job w.limit before.number (before.life + 1) (take keep saved) ending r) (sym same) by_bytes) in
    inr ((read, read_at, omega (arith, l, small)), (saved, saves, one_changed w k n (StartsAgain w (take keep saved)) before after has e b again holds))

text_some : (version : Version) (fs : List Firing) → 0 < length (checkpoint_text version fs)
unfolding checkpoint_text
text_some version fs = omega (arith, length-append (first_line version) (10 ∷ ended (map firing_text fs ++ (count_line (length fs) ∷ []))))

take_nothing : (k : ℕ) → take {A = ℕ} k [] ≡ []
take_nothing zero = refl
take_nothing (suc k) = refl

-- of what was saved a replica is refused for want of memory alone
module _ (w : WorldState) (is : IsWorld w) (k keep : ℕ) (saved bytes : List ℕ) (error : RestoreError) (at : At w.saves k saved) (t : bytes ≡ take keep saved) (whole : RestoresWhole w.job w.limit bytes (Err error)) (front : RestoresFront w.job w.limit bytes (Err error)) where
  abbrev version : Version
  version = w.job.program.version

  room : (s : IsSaved w saved) → IsNoRoom s.saver w.limit error → error ≡ restores.NoMemory
  room s (inl e) = e
  room s (inr (e, l)) = absurd (let n = s.may.0.sound.within in let m = s.limit in omega (arith, l, n, m))

  refused_of : (s : IsSaved w saved) → (saved ≡ []) ⊎ (saved ≡ checkpoint_text w.job.program.version (all_of s.saver)) → error ≡ restores.NoMemory
  refused_of s (inl e) = room s (front version s.saver 0 (reads_own version) s.may (text_some version (all_of s.saver)) (t ∙ ap (take keep) e ∙ take_nothing keep))
  refused_of s (inr e) =
      let text = checkpoint_text version (all_of s.saver) in
      elim (le_cases (length text) keep) [
        | inl l ↦ room s (whole s.saver s.may (t ∙ ap (take keep) e ∙ take_all keep text l.1))
        | inr l ↦ room s (front version s.saver keep (reads_own version) s.may (omega (arith, l)) (t ∙ ap (take keep) e))
      ]

  pub not_restored : of_restore error ≡ refusals.NoMemory
  not_restored = let s = is.saved k saved at in ap of_restore (refused_of s s.text)

-- a replica did not start again
pub not_again : (w : WorldState) (is : IsWorld w) (k n keep life : ℕ) (read : ReplicaState) (saved bytes : List ℕ) (error : RestoreError) (refused : Refused) → Has w k → n ≡ k → read ≡ get_or w.replicas (n - 1) read → saved ≡ get_or w.saves (n - 1) saved → life ≡ read.life + 1 → life < 2 ^ 64 → bytes ≡ take keep saved → RestoresWhole w.job w.limit bytes (Err error) → RestoresFront w.job w.limit bytes (Err error) → refused ≡ of_restore error → EventAnswer w (events.Restart k keep) (Err refused) w
not_again w is k n keep life read saved bytes error refused has e r s l small t whole front same =
    let read_at : At w.replicas k read = at_read w.replicas k read read has (r ∙ ap (λ i. get_or w.replicas (i - 1) read) e) in
    let saves : At w.saves k saved = at_read w.saves k saved saved (has.0, (let c = is.save_count in omega (arith, has.1, c))) (s ∙ ap (λ i. get_or w.saves (i - 1) saved) e) in
    inr ((read, read_at, omega (arith, l, small)), (same ∙ not_restored w is k keep saved bytes error saves t whole front, refl))
