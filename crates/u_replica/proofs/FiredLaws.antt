-- Lines whose firings a machine fires by itself, and what is read and taken behind them.
use Rattle.std.specs.Prelude.{◌≡◌, ℕ, ◌+◌, ◌^◌, ◌<◌, ◌⊎◌, List, [], ◌∷◌, ◌++◌, length, map, Result, Ok, Err, refl}
use Rattle.std.proofs.Common.{sym, ◌∙◌, ap, subst, inl, inr, arith, append-nil, append_assoc, length-append}
use Rattle.std.proofs.lemmas.List.{map-append}
use Rattle.u_base.specs.Pieces.{pieces}
use Rattle.u_program.specs.Parts.{ProgramParts}
use Rattle.u_sets.proofs.Places.{irreflexive}
use Rattle.u_program.specs.declared.program.Version.{Version}
use Rattle.u_check.specs.Jobs.{JobParts}
use Rattle.u_rule.specs.EntryOrder.{firing_cmp}
use Rattle.u_rule.specs.ExactOrders.{firing_cmp_total}
use Rattle.u_rule.specs.declared.firing.Firing.{Firing}
use Rattle.u_rule.specs.FiringReading.{IsFiring, IsFiringOf}
use Rattle.u_rule.specs.FiringText.{firing_text}
use Rattle.u_delta.specs.Lines.{IsShort, IsLineAhead, lines_behind}
use Rattle.u_delta.proofs.LineLaws.{all_append, all_behind, read_more}
use Rattle.u_machine.specs.State.{State, Taken, IsPick}
use Rattle.u_machine.specs.Calls.{FireAnswer, Runs, IsFresh, firing_le}
use Rattle.u_machine.specs.declared.answer.Step.TheVariants as step
use Rattle.u_machine.proofs.Lists.{slice_get_Contains}
use Rattle.u_machine.proofs.States.{Applies-refl}
use Rattle.u_machine.proofs.Runs.{picked_first, Runs-nil, Runs-push, takes_alone}
use Rattle.u_replica.specs.declared.checkpoint.Checkpoint.{Checkpoint}
use Rattle.u_replica.specs.declared.checkpoint.CheckpointError.{CheckpointError}
use Rattle.u_replica.specs.CheckpointText.{first_line, begun_lines}
use Rattle.u_replica.specs.CheckpointReading.{AreRead, IsAnswer}
use Rattle.u_replica.specs.declared.checkpoint_reading.ReadBehind.{ReadBehind}
use Rattle.u_replica.specs.FiredLines.{FiresLine, AreLines, AreFired, behind, IsReadBehind}
use Rattle.u_replica.specs.Takings.{TookFront, IsTaken, IsUntaken}
use Rattle.u_machine.specs.declared.answer.ListRefusal.{ListRefusal}
use Rattle.u_machine.specs.declared.answer.ListRefusal.TheVariants as lists
use Rattle.std.proofs.lemmas.Option.{slice_get_within}
use Rattle.u_replica.specs.Checkpoints.{IsCheckpointOf}
use Rattle.u_replica.specs.Marking.{fresh_marks}
use Rattle.u_replica.specs.ReplicaState.{replica}
use Rattle.u_replica.specs.Restoring.{blank, IsRestored, IsRestoreError, RestoresWritten, RestoresFront, refusal_behind, FitsBehind, error_of_reading, error_of_taking}
use Rattle.u_replica.proofs.CheckpointSame.{read_whole, first_short}
use Rattle.u_replica.proofs.RestoreLaws.{ReadsWhole, ReadsFront, reads_whole, reads_front, unread_written, unread_front, untaken_error, untaken_written, untaken_front, restored, restored_written, restored_front}

-- one firing is the next
pub next_unique : (m : State) (f g : Firing) → IsPick m 0 f → IsPick m 0 g → f ≡ g
next_unique m f g p q = over ((picked_first m f p).1 g (picked_first m g q).0.0) ((picked_first m g q).1 f (picked_first m f p).0.0)
  where
    over : Taken m g ⊎ firing_le f g → Taken m f ⊎ firing_le g f → f ≡ g
    over (inl t) y = absurd ((picked_first m g q).0.1 t)
    over (inr (inr e)) y = e
    over (inr (inl l)) (inl t) = absurd ((picked_first m f p).0.1 t)
    over (inr (inl l)) (inr (inr e)) = sym e
    over (inr (inl l)) (inr (inl k)) = absurd (irreflexive firing_cmp firing_cmp_total f (firing_cmp_total.trans f g f l k))

-- the firing of the line was fired
pub fires_line : (old new : State) (bytes line rest : List ℕ) (f : Firing) (place : ℕ) → IsLineAhead bytes line rest → IsFiringOf line f → IsPick old 0 f → FireAnswer old 0 (Ok (step.Fired place)) new → FiresLine old bytes rest new
fires_line old new bytes line rest f place ahead said picked (g, may, takes, settled, at) =
    let e : g ≡ f = next_unique old g f may.0 picked in
    record {
      firing = g;
      line = line;
      ahead = ahead;
      said = subst (λ (x : Firing). IsFiringOf line x) (sym e) said;
      picked = may.0;
      takes = takes;
      logged = slice_get_Contains new.log place g at;
      settled = settled;
    }

-- lines at the front of some bytes
pub lines_none : (bytes : List ℕ) → AreLines bytes bytes []
lines_none bytes = record { short = tt; text = λ before. ap (λ (ls : List (List ℕ)). lines_behind ls bytes) (sym (append-nil before)) }

pub lines_more : (bytes rest line others : List ℕ) (ls : List (List ℕ)) → AreLines bytes rest ls → IsLineAhead rest line others → AreLines bytes others (ls ++ line ∷ [])
lines_more bytes rest line others ls are ahead = record {
  short = all_append IsShort ls line are.short ahead.1;
  text = λ before. are.text before ∙ read_more (before ++ ls) rest line others ahead.0 ∙ ap (λ (xs : List (List ℕ)). lines_behind xs others) (append_assoc before ls (line ∷ []));
}

lines_both : (bytes rest others : List ℕ) (ls ks : List (List ℕ)) → AreLines bytes rest ls → AreLines rest others ks → AreLines bytes others (ls ++ ks)
lines_both bytes rest others ls ks a b = record {
  short = all_behind IsShort ls ks a.short b.short;
  text = λ before. a.text before ∙ b.text (before ++ ls) ∙ ap (λ (xs : List (List ℕ)). lines_behind xs others) (append_assoc before ls ks);
}

-- lines of firings are read behind each head
module _ (bytes rest : List ℕ) (fs : List Firing) (are : AreFired bytes rest fs) (head : Version) where
  pub fired_read : AreRead head fs
  fired_read = record { valid = are.valid; short = (first_short head, are.lines.short) }

  pub fired_text : lines_behind (first_line head ∷ []) bytes ≡ lines_behind (begun_lines head fs) rest
  fired_text = are.lines.text (first_line head ∷ [])

-- where nothing was fired yet
pub fired_none : (bytes : List ℕ) → AreFired bytes bytes []
fired_none bytes = record { valid = tt; lines = lines_none bytes }

pub none_fired : (m : State) (bytes : List ℕ) → IsFresh m → AreFired bytes bytes m.log
none_fired m bytes fresh = subst (λ (fs : List Firing). AreFired bytes bytes fs) (sym fresh.0) (fired_none bytes)

pub none_ran : (m : State) → IsFresh m → Runs m m.log m
none_ran m fresh = subst (λ (fs : List Firing). Runs m fs m) (sym fresh.0) (Runs-nil m m (Applies-refl m))

-- those that were fired first, and others
pub fired_both : (bytes rest others : List ℕ) (fs gs : List Firing) → AreFired bytes rest fs → AreFired rest others gs → AreFired bytes others (fs ++ gs)
fired_both bytes rest others fs gs a b = record {
  valid = all_behind IsFiring fs gs a.valid b.valid;
  lines = subst (λ (xs : List (List ℕ)). AreLines bytes others xs) (sym (map-append firing_text fs gs)) (lines_both bytes rest others (map firing_text fs) (map firing_text gs) a.lines b.lines);
}

-- one more was fired
module _ (old mid new : State) (rest others : List ℕ) (fresh : IsFresh old) (runs : Runs old mid.log mid) (l : FiresLine mid rest others new) where
  pushed : new.log ≡ mid.log ++ l.firing ∷ []
  pushed = (takes_alone mid new l.firing l.takes (picked_first mid l.firing l.picked).0.1 l.logged (runs.alone fresh.1).1).0

  pub one_ran : Runs old new.log new
  one_ran = subst (λ (fs : List Firing). Runs old fs new) (sym pushed) (Runs-push old mid new mid.log l.firing runs l.picked l.takes l.logged)

  pub one_fired : (bytes : List ℕ) → AreFired bytes rest mid.log → AreFired bytes others new.log
  one_fired bytes are =
      subst (λ (fs : List Firing). AreFired bytes others fs) (sym pushed)
      (record {
        valid = all_append IsFiring mid.log l.firing are.valid l.said.0;
        lines = subst (λ (xs : List (List ℕ)). AreLines bytes others xs) (sym (map-append firing_text mid.log (l.firing ∷ [])))
            (subst (λ (x : List ℕ). AreLines bytes others (map firing_text mid.log ++ x ∷ [])) l.said.1 (lines_more bytes rest l.line others (map firing_text mid.log) are.lines l.ahead));
      })

-- what is read behind none is what is read
pub behind_none : (r : Result Checkpoint CheckpointError) → behind [] r ≡ r
behind_none (Ok c) = refl
behind_none (Err e) = refl

-- the place of a refusal behind the fired ones fits
pub fits_behind : (base : State) (before fs : List Firing) (r : ListRefusal) → length before + length fs < 2 ^ 64 → IsUntaken base (before ++ fs) (refusal_behind (length before) r) → FitsBehind (length before) r
fits_behind base before fs (lists.NotAFiring place) l u = let w = slice_get_within (before ++ fs) (length before + place) u.other u.at in omega (arith, length-append before fs, w, l)
fits_behind base before fs lists.Full l u = tt
fits_behind base before fs lists.NoMemory l u = tt

-- a version that was asked for is that of the job's own program
pub own_version : {version : Version} {p q : ProgramParts} → version ≡ p.version → p ≡ q → version ≡ q.version
own_version e f = e ∙ ap (λ (r : ProgramParts). r.version) f

-- nothing was read
module _ (job : JobParts) (limit : ℕ) (bytes : List ℕ) (error : CheckpointError) {version : Version} (own : version ≡ job.program.version) (short : length bytes < 2 ^ 64) (a : IsAnswer version (pieces 10 bytes) (Err error)) where
  nothing : IsAnswer job.program.version (pieces 10 bytes) (Err error)
  nothing = subst (λ v. IsAnswer v (pieces 10 bytes) (Err error)) own a

  pub nothing_written : RestoresWritten job limit bytes (Err (error_of_reading error))
  nothing_written = unread_written job limit 0 0 bytes error (reads_whole job.program.version bytes short (Err error) nothing)

  pub nothing_front : RestoresFront job limit bytes (Err (error_of_reading error))
  nothing_front = unread_front job limit 0 0 bytes error (reads_front job.program.version bytes short (Err error) nothing)

-- a machine fired some of the firings that were read, and was to take those behind them
pub record ReadRestart (job : JobParts) (limit : ℕ) (bytes : List ℕ) (mid : State) (r : ReadBehind) (fs : List Firing) : Type 0 where
  pub short : length bytes < 2 ^ 64
  pub is : IsReadBehind (blank job limit) job.program.version (pieces 10 bytes) r mid
  pub same : fs ≡ r.checkpoint.firings

module _ {job : JobParts} {limit : ℕ} {bytes : List ℕ} {base mid : State} {r : ReadBehind} {fs : List Firing} {version : Version} where
  pub read_restart : version ≡ job.program.version → base ≡ blank job limit → length bytes < 2 ^ 64 → IsReadBehind base version (pieces 10 bytes) r mid → fs ≡ r.checkpoint.firings → ReadRestart job limit bytes mid r fs
  read_restart own new short is same = record {
    short = short;
    is = subst (λ (v : Version). IsReadBehind (blank job limit) v (pieces 10 bytes) r mid) own (subst (λ (m : State). IsReadBehind m version (pieces 10 bytes) r mid) new is);
    same = same;
  }

module _ {job : JobParts} {limit : ℕ} {bytes : List ℕ} {mid : State} {r : ReadBehind} {fs : List Firing} (read : ReadRestart job limit bytes mid r fs) where
  abbrev before : List Firing
  before = read.is.before

  abbrev all : Checkpoint
  all = record r.checkpoint { firings = before ++ r.checkpoint.firings }

  all_read : IsCheckpointOf job.program.version bytes r.checkpoint.ending all.firings
  all_read = read_whole job.program.version bytes (Ok all) read.is.read

  all_whole : ReadsWhole job.program.version bytes (Ok all)
  all_whole = reads_whole job.program.version bytes read.short (Ok all) read.is.read

  all_front : ReadsFront job.program.version bytes (Ok all)
  all_front = reads_front job.program.version bytes read.short (Ok all) read.is.read

  taken_before : TookFront (blank job limit) (before ++ fs) (length before) mid
  taken_before = subst (λ (gs : List Firing). TookFront (blank job limit) (before ++ gs) (length before) mid) (sym read.same) read.is.took

  -- they were not taken
  module _ (e : ListRefusal) (t : (base : State) (before : List Firing) → IsFresh base → TookFront base (before ++ fs) (length before) mid → IsUntaken base (before ++ fs) (refusal_behind (length before) e)) where
    untaken_all : IsUntaken (blank job limit) (before ++ fs) (refusal_behind (length before) e)
    untaken_all = t (blank job limit) before (refl, refl) taken_before

    pub refused_fits : r.fired + length fs < 2 ^ 64 → FitsBehind r.fired e
    refused_fits few = subst (λ (n : ℕ). FitsBehind n e) (sym read.is.counted) (fits_behind (blank job limit) before fs e (omega (arith, few, read.is.counted)) untaken_all)

    refused : IsUntaken (blank job limit) all.firings (refusal_behind r.fired e)
    refused =
        subst (λ (n : ℕ). IsUntaken (blank job limit) all.firings (refusal_behind n e)) (sym read.is.counted)
        (subst (λ (gs : List Firing). IsUntaken (blank job limit) (before ++ gs) (refusal_behind (length before) e)) read.same untaken_all)

    pub refused_error : IsRestoreError job limit bytes (error_of_taking (refusal_behind r.fired e))
    refused_error = untaken_error job limit 0 0 bytes all (refusal_behind r.fired e) all_read refused

    pub refused_written : RestoresWritten job limit bytes (Err (error_of_taking (refusal_behind r.fired e)))
    refused_written = untaken_written job limit 0 0 bytes all (refusal_behind r.fired e) all_whole refused

    pub refused_front : RestoresFront job limit bytes (Err (error_of_taking (refusal_behind r.fired e)))
    refused_front = untaken_front job limit 0 0 bytes all (refusal_behind r.fired e) all_front refused

  -- they were taken
  module _ (number life : ℕ) (new : State) (t : (base : State) (before : List Firing) → IsFresh base → TookFront base (before ++ fs) (length before) mid → IsTaken base (before ++ fs) new) where
    taken : IsTaken (blank job limit) all.firings new
    taken = subst (λ (gs : List Firing). IsTaken (blank job limit) (before ++ gs) new) read.same (t (blank job limit) before (refl, refl) taken_before)

    pub all_restored : IsRestored job limit number life bytes r.checkpoint.ending (replica new number life fresh_marks)
    all_restored = restored job limit number life bytes all new taken all_read

    pub all_written : RestoresWritten job limit bytes (Ok (replica new number life fresh_marks, r.checkpoint.ending))
    all_written = restored_written job limit number life bytes all new taken all_whole

    pub all_fronted : RestoresFront job limit bytes (Ok (replica new number life fresh_marks, r.checkpoint.ending))
    all_fronted = restored_front job limit number life bytes all new taken all_front
