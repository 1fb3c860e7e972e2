-- What a replica takes that starts again from a checkpoint.
use Rattle.std.proofs.Common.{arith, inl, inr, refl, sym, ◌∙◌, ap, subst, ◌≡◌, ◌<◌, ◌≤◌, ◌^◌, ℕ, List, [], take, length}
use Rattle.std.specs.Prelude.{Contains, Result, Ok, Err, MatchResult, IsTrue, true, false}
use Rattle.std.specs.Result.{IsErrAnd}
use Rattle.std.proofs.Common.{length-append}
use Rattle.std.proofs.lemmas.List.{length-take}
use Rattle.u_base.specs.Firing.{Same}
use Rattle.u_base.proofs.Member.{Contains-nil, Contains-cons_cases}
use Rattle.u_check.specs.Jobs.{JobParts}
use Rattle.u_rule.specs.Rule.{own_of}
use Rattle.u_program.specs.declared.program.Version.{Version}
use Rattle.u_rule.specs.declared.firing.Firing.{Firing}
use Rattle.u_machine.specs.State.{State, Taken, IsSettled, count_of}
use Rattle.u_machine.specs.Taking.{AreFirings, IsTooLong, TakesAll}
use Rattle.u_machine.specs.declared.answer.ListRefusal.{ListRefusal}
use Rattle.u_machine.specs.declared.answer.ListRefusal.TheVariants as lists
use Rattle.u_machine.proofs.Lists.{slice_get_Contains, Contains-taken}
use Rattle.u_machine.proofs.Counting.{no_more}
use Rattle.u_replica.specs.declared.checkpoint.Ending.{Ending}
use Rattle.u_replica.specs.declared.checkpoint.Ending.TheVariants.{Whole, Torn}
use Rattle.u_replica.specs.declared.checkpoint.Checkpoint.{Checkpoint}
use Rattle.u_replica.specs.declared.checkpoint.CheckpointError.{CheckpointError}
use Rattle.u_replica.specs.declared.checkpoint.CheckpointError.TheVariants as checkpoints
use Rattle.u_replica.specs.declared.answer.RestoreError.{RestoreError}
use Rattle.u_replica.specs.declared.answer.RestoreError.TheVariants as restores
use Rattle.u_replica.specs.Marking.{fresh_marks}
use Rattle.u_replica.specs.Merging.{all_of}
use Rattle.u_replica.specs.ReplicaState.{ReplicaState, replica}
use Rattle.u_replica.specs.CheckpointText.{checkpoint_text}
use Rattle.u_replica.specs.Checkpoints as ranges
use Rattle.u_replica.specs.Checkpoints.{MayRead, IsCheckpointOf, IsCheckpointErrorOf, IsFrontOf}
use Rattle.u_replica.proofs.CheckpointLaws.{reads_own}
use Rattle.u_replica.proofs.CheckpointSame.{read_back}
use Rattle.u_replica.proofs.CheckpointCuts.{read_cut}
use Rattle.u_replica.specs.CheckpointReading.{IsAnswer}
use Rattle.u_replica.specs.Takings.{IsTaken, IsUntaken}
use Rattle.u_base.specs.Pieces.{pieces}
use Rattle.u_replica.specs.Restoring.{blank, IsRestored, IsRestoreError, RestoreAnswer, error_of_reading, error_of_taking, IsNoRoom, IsNoRoomFor, MaySave, MayWrite, RestoresWritten, RestoresWhole, RestoresFront}

-- what reading a checkpoint says of a text that was written, and of a front of it
abbrev pub ReadsWhole : Version → List ℕ → Result Checkpoint CheckpointError → Type 0
ReadsWhole version bytes r = (head : Version) (fs : List Firing) → MayRead version head → ranges.AreFirings fs → bytes ≡ checkpoint_text head fs → MatchResult r (λ c. (c.ending ≡ Whole) × (c.firings ≡ fs)) (λ error. error ≡ checkpoints.NoMemory)

abbrev pub ReadsFront : Version → List ℕ → Result Checkpoint CheckpointError → Type 0
ReadsFront version bytes r = (head : Version) (fs : List Firing) (k : ℕ) → MayRead version head → ranges.AreFirings fs → k < length (checkpoint_text head fs) → bytes ≡ take k (checkpoint_text head fs) → MatchResult r (λ c. (c.ending ≡ Torn) × IsFrontOf version bytes c.firings fs) (λ error. error ≡ checkpoints.NoMemory)

-- a machine took these, and nothing else
took : (job : JobParts) (limit : ℕ) (fs : List Firing) (new : State) → TakesAll (blank job limit) fs new → Same (Taken new) (Contains fs)
took job limit fs new t f = (
  λ k. elim ((t.taken f).0 k) [ inl x ↦ absurd (Contains-nil f x) | inr x ↦ x ],
  λ k. (t.taken f).1 (inr k),
)

same_length : (saved : State) → length (all_of saved) ≡ count_of saved
same_length saved = length-append saved.log saved.parked

-- a machine of the job

module _ (job : JobParts) (saved : State) (m : MaySave job saved) where
  -- what it took may be written
  may_write : MayWrite job (all_of saved)
  may_write = (m.2, λ f k. subst (λ j. IsTrue ((own_of j).is_firing f)) m.1 (m.0.sound.firings f k))

  -- no more firings than it took are too many only where it took more than the limit
  no_room_saved : (limit : ℕ) (fs : List Firing) (e : RestoreError) → length fs ≤ count_of saved → IsNoRoomFor job limit fs e → IsNoRoom saved limit e
  no_room_saved limit fs e few (inl x) = inl x
  no_room_saved limit fs e few (inr x) =
      let long : IsTooLong (blank job limit) fs = x.1 in
      let n = no_more long.0 fs long.1.once (λ f k. (long.1.found.new f k).0) in
      inr (x.0, omega (arith, long.2, n, few))

module _ (job : JobParts) (limit number life : ℕ) (bytes : List ℕ) where
  -- what was saved was written
  pub whole_of_written : (r : Result (ReplicaState × Ending) RestoreError) → RestoresWritten job limit bytes r → RestoresWhole job limit bytes r
  whole_of_written (Ok p) h saved m text =
      let w = h job.program.version (all_of saved) (reads_own job.program.version) (may_write job saved m) text in
      (w.0, took job limit (all_of saved) p.0.machine w.1)
  whole_of_written (Err e) h saved m text =
      no_room_saved job saved m limit (all_of saved) e (omega (arith, same_length saved)) (h job.program.version (all_of saved) (reads_own job.program.version) (may_write job saved m) text)

  -- the bytes were not read

  pub unread_error : (e : CheckpointError) → IsCheckpointErrorOf job.program.version bytes e → IsRestoreError job limit bytes (error_of_reading e)
  unread_error (checkpoints.BadLine n) h = h
  unread_error (checkpoints.TooLong n) h = h
  unread_error checkpoints.NoMemory h = tt

  pub unread_written : (e : CheckpointError) → ReadsWhole job.program.version bytes (Err e) → RestoresWritten job limit bytes (Err (error_of_reading e))
  unread_written e h head fs may m t = inl (ap error_of_reading (h head fs may m.0 t))

  pub unread_whole : (e : CheckpointError) → ReadsWhole job.program.version bytes (Err e) → RestoresWhole job limit bytes (Err (error_of_reading e))
  unread_whole e h = whole_of_written (Err (error_of_reading e)) (unread_written e h)

  pub unread_front : (e : CheckpointError) → ReadsFront job.program.version bytes (Err e) → RestoresFront job limit bytes (Err (error_of_reading e))
  unread_front e h head saved k may m l t = inl (ap error_of_reading (h head (all_of saved) k may m.2 l t))

  -- there was no memory for a machine

  pub no_machine : (r : Result (ReplicaState × Ending) RestoreError) → IsErrAnd r (λ e. e ≡ restores.NoMemory) → RestoreAnswer job limit number life bytes r
  no_machine (Ok u) h = absurd h
  no_machine (Err e) h = subst (λ e. IsRestoreError job limit bytes e) (sym h) tt

  pub no_machine_written : (r : Result (ReplicaState × Ending) RestoreError) → IsErrAnd r (λ e. e ≡ restores.NoMemory) → RestoresWritten job limit bytes r
  no_machine_written (Ok u) h head fs may m t = absurd h
  no_machine_written (Err e) h head fs may m t = inl h

  pub no_machine_whole : (r : Result (ReplicaState × Ending) RestoreError) → IsErrAnd r (λ e. e ≡ restores.NoMemory) → RestoresWhole job limit bytes r
  no_machine_whole r h = whole_of_written r (no_machine_written r h)

  pub no_machine_front : (r : Result (ReplicaState × Ending) RestoreError) → IsErrAnd r (λ e. e ≡ restores.NoMemory) → RestoresFront job limit bytes r
  no_machine_front (Ok u) h head saved k may m l t = absurd h
  no_machine_front (Err e) h head saved k may m l t = inl h

  -- the firings that were read were not taken

  module _ (c : Checkpoint) where
    pub untaken_error : (r : ListRefusal) → IsCheckpointOf job.program.version bytes c.ending c.firings → IsUntaken (blank job limit) c.firings r → IsRestoreError job limit bytes (error_of_taking r)
    untaken_error (lists.NotAFiring place) h t = record { firings = c.firings; ending = c.ending; read = h; so = t }
    untaken_error lists.Full h t = record { firings = c.firings; ending = c.ending; read = h; so = t }
    untaken_error lists.NoMemory h t = tt

    -- where all of them are firings of the job
    no_room : (r : ListRefusal) → AreFirings job c.firings → IsUntaken (blank job limit) c.firings r → IsNoRoomFor job limit c.firings (error_of_taking r)
    no_room (lists.NotAFiring place) own f =
        let there : IsTrue ((own_of job).is_firing f.other) = own f.other (slice_get_Contains c.firings place f.other f.at) in
        absurd (let n : true ≡ false = sym there ∙ f.none in cc)
    no_room lists.Full own t = inr (refl, t.1)
    no_room lists.NoMemory own t = inl refl

    pub untaken_written : (r : ListRefusal) → ReadsWhole job.program.version bytes (Ok c) → IsUntaken (blank job limit) c.firings r → RestoresWritten job limit bytes (Err (error_of_taking r))
    untaken_written r h t head gs may m text =
        let e = (h head gs may m.0 text).1 in
        let own : AreFirings job c.firings = subst (λ (fs : List Firing). AreFirings job fs) (sym e) m.1 in
        subst (λ (fs : List Firing). IsNoRoomFor job limit fs (error_of_taking r)) e (no_room r own t)

    pub untaken_front : (r : ListRefusal) → ReadsFront job.program.version bytes (Ok c) → IsUntaken (blank job limit) c.firings r → RestoresFront job limit bytes (Err (error_of_taking r))
    untaken_front r h t head saved k may m l text =
        let e = (h head (all_of saved) k may m.2 l text).1 in
        let own : AreFirings job c.firings = λ f k. (may_write job saved m).1 f (Contains-taken e.count (all_of saved) f (subst (λ (fs : List Firing). Contains fs f) e.first k)) in
        let few : length c.firings ≤ count_of saved = omega (arith, ap (λ (fs : List Firing). length fs) e.first, length-take e.count (all_of saved), same_length saved) in
        no_room_saved job saved m limit c.firings (error_of_taking r) few (no_room r own t)

    -- they were taken

    module _ (new : State) (t : IsTaken (blank job limit) c.firings new) where
      abbrev Restored : ReplicaState
      Restored = replica new number life fresh_marks

      pub restored : IsCheckpointOf job.program.version bytes c.ending c.firings → IsRestored job limit number life bytes c.ending Restored
      restored h = record { firings = c.firings; read = h; of_job = t.firings; takes = t.takes; settled = t.settled; beside = refl }

      pub restored_written : ReadsWhole job.program.version bytes (Ok c) → RestoresWritten job limit bytes (Ok (Restored, c.ending))
      restored_written h head gs may m text =
          let e = h head gs may m.0 text in
          (e.0, subst (λ (fs : List Firing). TakesAll (blank job limit) fs new) e.1 t.takes)

      pub restored_front : ReadsFront job.program.version bytes (Ok c) → RestoresFront job limit bytes (Ok (Restored, c.ending))
      restored_front h head saved k may m l text =
          let e = h head (all_of saved) k may m.2 l text in
          (e.0, record { firings = c.firings; front = e.1; taken = took job limit c.firings new t.takes })

-- what reading says of a text, where it was cut into lines
module _ (version : Version) (bytes : List ℕ) (l : length bytes < 2 ^ 64) (r : Result Checkpoint CheckpointError) (a : IsAnswer version (pieces 10 bytes) r) where
  pub reads_whole : ReadsWhole version bytes r
  reads_whole head fs may valid text = read_back version bytes l head fs r a may valid text

  pub reads_front : ReadsFront version bytes r
  reads_front head fs k may valid inside text = read_cut version head fs k bytes r l may valid inside text a

-- nothing was taken yet, and so nothing is left to be applied
pub blank_settled : (job : JobParts) (limit : ℕ) → IsSettled (blank job limit)
blank_settled job limit = record { held = λ e k. elim (Contains-cons_cases (own_of job).start e [] k) [ inl p ↦ inl (sym p) | inr n ↦ absurd (Contains-nil e n) ]; none = λ f k. absurd (Contains-nil f k) }
