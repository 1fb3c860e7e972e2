-- How a life of a worker goes on, and how it ends.
use Rattle.std.proofs.Common.{◌≡◌, ℕ, List, [], ◌++◌, refl, sym, subst, ap, ◌∙◌, take, Some, length, ◌≤◌, arith, ⊎_elim, Result, Ok, Err, Vec, IfOk}
use Rattle.std.specs.Global.{Global}
use Rattle.core.specs.declared.alloc.AllocError.{AllocError}
use Rattle.std.specs.Prelude.{Contains, drop, MatchResult}
use Rattle.std.proofs.lemmas.List.{length-append, take-append-le, take_all, take-append-drop, append-nil}
use Rattle.std.proofs.lemmas.List.Elements.{Contains-append_cases, Contains-append_left, Contains-append_right}
use Rattle.std.proofs.lemmas.Option.{slice_get-get_or}
use Rattle.u_base.specs.Firing.{Held, Enabled, Derivation, Cl, Same, Distinct}
use Rattle.u_base.specs.Firing as systems
use Rattle.u_base.proofs.Held.{Enabled-mono}
use Rattle.u_base.proofs.Closure.{Derivation-append, Derivation-nil, Quiet-whole}
use Rattle.u_base.proofs.Member.{Contains-nil}
use Rattle.u_check.specs.Jobs.{JobParts}
use Rattle.u_rule.specs.Rule.{own_of}
use Rattle.u_program.specs.declared.program.Version.{Version}
use Rattle.u_rule.specs.declared.firing.Firing.{Firing}
use Rattle.u_machine.specs.State.{State, Taken, IsMachine, IsSettled, NothingReady}
use Rattle.u_machine.specs.Calls.{Fires, RunAnswer}
use Rattle.u_machine.specs.Taking.{TakesAll, IsTooLong}
use Rattle.u_machine.specs.declared.answer.Ran.{Ran}
use Rattle.u_machine.specs.declared.answer.Ran.TheVariants as ran
use Rattle.u_machine.specs.declared.answer.Refusal.{Refusal}
use Rattle.u_machine.specs.declared.answer.Refusal.TheVariants as refusals
use Rattle.u_machine.proofs.States.{settled_is_Cl, quiet_whole}
use Rattle.u_replica.specs.ReplicaState.{ReplicaState, fresh}
use Rattle.u_replica.specs.CheckpointText.{checkpoint_text}
use Rattle.u_replica.proofs.CheckpointLaws.{reads_own}
use Rattle.u_replica.specs.Checkpoints as ranges
use Rattle.u_replica.specs.Merging.{all_of}
use Rattle.u_replica.specs.Restoring.{blank, MayWrite, IsNoRoomFor, RestoresWritten}
use Rattle.u_replica.specs.declared.checkpoint.Ending.{Ending}
use Rattle.u_replica.specs.declared.checkpoint.Ending.TheVariants.{Whole}
use Rattle.u_replica.specs.declared.answer.RestoreError.{RestoreError}
use Rattle.u_replica.specs.declared.answer.RestoreError.TheVariants as restores
use Rattle.u_outlet.specs.Sound.{IsSound}
use Rattle.u_fleet.specs.Gains.{TookSound, Gains, MayBeFull}
use Rattle.u_fleet.specs.Headline.{AreSound, MoreThan, IsWholeList, HasEnded}
use Rattle.u_fleet.specs.Workers.{IsSoundText, IsSaved, Lives, LivesOn, MayFail, LastAnswer, LastEnd}
use Rattle.u_fleet.specs.declared.gate.Turn.{Turn}
use Rattle.u_fleet.specs.declared.plan.End.{End}
use Rattle.u_fleet.specs.declared.plan.End.TheVariants.{Done, Stopped, Full, NoMemory}
use Rattle.u_fleet.specs.declared.worker.Saved.{Saved}
use Rattle.u_fleet.specs.declared.worker.Saved.TheVariants.{Front, Text}
use Rattle.u_fleet.specs.declared.worker.Life.{Life}
use Rattle.u_fleet.proofs.Soundness.{Derivation-take, takes_gains, reached_sound}
use Rattle.u_fleet.proofs.Firings.{full_before, ready_beyond}

-- what is fired is sound
fires_gains : (old new : State) (gs : List Firing) → Fires old gs new → Gains old new
fires_gains old new gs r =
    takes_gains old new gs (record { grows = r.grows; taken = r.taken }) (λ g m. reached_sound old.job _ g (r.each m.0 g (slice_get-get_or gs m.0 g m.1 ∙ ap (λ x. Some x) m.2)).enabled)

pub run_gains : (old new : State) (budget : ℕ) (r : Result Ran Refusal) → RunAnswer old budget r new → Gains old new
run_gains old new budget (Ok ran.Quiet) (gs, runs, few, settled, none, whole) = fires_gains old new gs runs.fires
run_gains old new budget (Ok ran.Paused) (gs, runs, full, settled, ready) = fires_gains old new gs runs.fires
run_gains old new budget (Err refusals.Full) (gs, runs, few, settled, ready, count) = fires_gains old new gs runs.fires
run_gains old new budget (Err refusals.NoMemory) (gs, fires, few) = fires_gains old new gs fires

-- how a last run ends
pub run_last : (old new : State) (budget : ℕ) (end : Ran) → IsMachine new → RunAnswer old budget (Ok end) new → LastAnswer budget new end
run_last old new budget ran.Quiet is (gs, runs, few, settled, none, whole) = (settled, none)
run_last old new budget ran.Paused is (gs, runs, full, settled, ready) = λ small. ready_beyond new ready.0 is ready.1 (let count = runs.fires.count in omega (arith, count, full, small))

pub run_fails : (old new : State) (budget : ℕ) (r : Result Ran Refusal) → IsMachine new → RunAnswer old budget r new → r ≡ Err refusals.Full → MayBeFull old
run_fails old new budget (Err refusals.Full) is (gs, runs, few, settled, ready, count) same =
    full_before old new (fires_gains old new gs runs.fires) (ready_beyond new ready.0 is ready.1 (omega (arith, count)))
run_fails old new budget (Err refusals.NoMemory) is answer same = absurd (cc)
run_fails old new budget (Ok end) is answer same = absurd (cc)

-- what fails at a later machine fails at an earlier one
pub fails_since : (old new : State) (end : End) → Gains old new → MayFail new end → MayFail old end
fails_since old new Done gains fails = fails
fails_since old new Stopped gains fails = fails
fails_since old new Full gains fails = full_before old new gains fails
fails_since old new NoMemory gains fails = tt

saved_on : (job : JobParts) (old new : State) (saved : Saved) → Gains old new → IsSaved job old saved → IsSaved job new saved
saved_on job old new (Front count) gains low = let on = gains.grows.log in rw (on.1, length-append old.log on.0) (omega (arith, low))
saved_on job old new (Text bytes) gains is = is

-- the machine goes on, and nothing is published
pub lives_on : (job : JobParts) (life : Life) (r : ReplicaState) (published : List Firing) → Gains life.replica.machine r.machine → Lives job life published
    → Lives job (record { replica = r; sent = life.sent; saved = life.saved }) published
lives_on job life r published gains lives = record {
  job_is = gains.grows.job ∙ lives.job_is;
  sound = gains.sound lives.sound;
  before = lives.before;
  run = lives.run;
  lists = lives.lists ∙ ap (λ front. lives.before ++ front) (sym same);
  within = let low = lives.within in rw (on.1, length-append life.replica.machine.log on.0) (omega (arith, low));
  saved = saved_on job life.replica.machine r.machine life.saved gains lives.saved;
}
  where
    on : (rest : List Firing) × (r.machine.log ≡ life.replica.machine.log ++ rest)
    on = gains.grows.log

    same : take life.sent r.machine.log ≡ take life.sent life.replica.machine.log
    same = rw on.1 (take-append-le life.sent life.replica.machine.log on.0 lives.within)

-- all that a worker published is one run of the job
pub lives_run : (job : JobParts) (life : Life) (published : List Firing) → IsMachine life.replica.machine → Lives job life published → Derivation (own_of job) published
lives_run job life published is lives =
    subst (λ fs. Derivation (own_of job) fs) (sym lives.lists) (Derivation-append (own_of job) lives.before (take life.sent life.replica.machine.log) lives.run
    (Derivation-take (own_of job) life.replica.machine.log life.sent (subst (λ j. Derivation (own_of j) life.replica.machine.log) lives.job_is is.sound.derivation)))

-- where nothing is ready each sound firing is applied
all_applied : (m : State) → IsMachine m → IsSettled m → NothingReady m → (f : Firing) → IsSound m.job f → Contains m.log f
all_applied m is settled none f sound =
    ⊎_elim (λ (a : Contains m.log f). a) (λ (b : Contains m.parked f). absurd (settled.none f b over)) (Contains-append_cases m.log m.parked f (none f reached))
  where
    over : Enabled (own_of m.job) (Contains m.history) f
    over = Enabled-mono (own_of m.job) (systems.Whole (own_of m.job)) (Contains m.history) (λ e. ((quiet_whole m is.sound settled none).1 e).1) f sound

    reached : Enabled (own_of m.job) (Cl (own_of m.job) (Taken m)) f
    reached = Enabled-mono (own_of m.job) (Contains m.history) (Cl (own_of m.job) (Taken m)) (λ e. ((settled_is_Cl m is.sound settled).0 e).0) f over

-- and a run that has all of these is whole
whole_list : (job : JobParts) (fs : List Firing) → Derivation (own_of job) fs → ((f : Firing) → IsSound job f → Contains fs f) → IsWholeList job fs
whole_list job fs run all = record {
  held = Quiet-whole (own_of job) fs run (λ f en. all f (Enabled-mono (own_of job) (Held (own_of job) fs) (systems.Whole (own_of job)) (λ e h. (fs, run, h)) f en));
  all = all;
}

-- what a worker has published that is done
pub done_whole : (job : JobParts) (life : Life) (published : List Firing) → IsMachine life.replica.machine → IsSettled life.replica.machine → NothingReady life.replica.machine
    → life.sent ≡ length life.replica.machine.log → Lives job life published → IsWholeList job published
done_whole job life published is settled none sent lives = whole_list job published (lives_run job life published is lives) all
  where
    all : (f : Firing) → IsSound job f → Contains published f
    all f sound =
        let there : Contains life.replica.machine.log f = all_applied life.replica.machine is settled none f (subst (λ j. IsSound j f) (sym lives.job_is) sound) in
        let log_is : take life.sent life.replica.machine.log ≡ life.replica.machine.log = rw sent (take_all (length life.replica.machine.log) life.replica.machine.log (omega arith)) in
        subst (λ fs. Contains fs f) (sym lives.lists) (Contains-append_right lives.before (take life.sent life.replica.machine.log) f (subst (λ fs. Contains fs f) (sym log_is) there))

-- what a worker leaves that cannot go on
pub failed : (may : ℕ → ℕ → Turn → Type 0) (job : JobParts) (limit rounds worker : ℕ) (m : State) (published : List Firing) (end : End) → Derivation (own_of job) published
    → m.job ≡ job → m.limit ≡ limit → TookSound m → MayFail m end → HasEnded may job limit rounds worker published end
failed may job limit rounds worker m published Done run job_is limit_is took fails = absurd fails
failed may job limit rounds worker m published Stopped run job_is limit_is took fails = absurd fails
failed may job limit rounds worker m published Full run job_is limit_is took fails = record {
  run = run;
  ends = subst (λ j. MoreThan j limit) job_is (subst (λ n. MoreThan m.job n) limit_is (fails took));
}
failed may job limit rounds worker m published NoMemory run job_is limit_is took fails = record { run = run; ends = tt }

-- after the last run, all of the log is published
pub ended_whole : (job : JobParts) (life : Life) (r : ReplicaState) (budget : ℕ) (end : Ran) (published : List Firing) → IsMachine r.machine → LastAnswer budget r.machine end → end ≡ ran.Quiet
    → life.replica ≡ r → life.sent ≡ length life.replica.machine.log → Lives job life published → IsWholeList job published
ended_whole job life r budget end published is answer quiet same sent lives =
    let last : IsSettled r.machine × NothingReady r.machine = subst (λ x. LastAnswer budget r.machine x) quiet answer in
    done_whole job life published (subst (λ x. IsMachine x.machine) (sym same) is) (subst (λ x. IsSettled x.machine) (sym same) last.0) (subst (λ x. NothingReady x.machine) (sym same) last.1) sent lives

pub ended_full : (life : Life) (r : ReplicaState) (budget : ℕ) (end : Ran) → LastAnswer budget r.machine end → end ≡ ran.Paused → life.replica ≡ r → life.replica.machine.limit ≤ budget → MayBeFull life.replica.machine
ended_full life r budget end answer paused same =
    let last : r.machine.limit ≤ budget → MayBeFull r.machine = subst (λ x. LastAnswer budget r.machine x) paused answer in
    subst (λ (x : ReplicaState). x.machine.limit ≤ budget → MayBeFull x.machine) (sym same) last

-- a text is saved of all that the machine took
pub text_lives : (job : JobParts) (life : Life) (published : List Firing) (bytes : Vec ℕ Global) → bytes.items ≡ checkpoint_text life.replica.machine.job.program.version (all_of life.replica.machine) → ranges.AreFirings (all_of life.replica.machine)
    → Lives job life published → Lives job (record { replica = life.replica; sent = life.sent; saved = Text bytes }) published
text_lives job life published bytes text valid lives = record {
  job_is = lives.job_is;
  sound = lives.sound;
  before = lives.before;
  run = lives.run;
  lists = lives.lists;
  within = lives.within;
  saved = record {
    firings = all_of life.replica.machine;
    text = subst (λ j. bytes.items ≡ checkpoint_text j.program.version (all_of life.replica.machine)) lives.job_is text;
    valid = valid;
    sound = λ f m. subst (λ j. IsSound j f) lives.job_is (lives.sound f m);
  };
}

-- a worker starts again from the text of sound firings, and nothing of the new log is published
pub restarts : (job : JobParts) (life : Life) (r : ReplicaState) (bytes : Vec ℕ Global) (limit : ℕ) → IsMachine life.replica.machine → (text : IsSoundText job bytes.items)
    → TakesAll (blank job limit) text.firings r.machine → (published : List Firing) → Lives job life published → Lives job (record { replica = r; sent = 0; saved = Text bytes }) published
restarts job life r bytes limit is text takes published lives = record {
  job_is = takes.grows.job;
  sound = λ f t. subst (λ j. IsSound j f) (sym takes.grows.job)
      (⊎_elim (λ (n : Taken (blank job limit) f). absurd (Contains-nil f n)) (λ (h : Contains text.firings f). text.sound f h) ((takes.taken f).0 t));
  before = published;
  run = lives_run job life published is lives;
  lists = sym (append-nil published);
  within = omega arith;
  saved = text;
}

-- whatever holds of a life is said of one job
pub restarts_on : (job : JobParts) (life new : Life) → life.replica.machine.job ≡ job → ((published : List Firing) → Lives job life published → Lives job new published) → LivesOn life new
restarts_on job life new job_is on other published lives =
    let same : job ≡ other = sym job_is ∙ lives.job_is in
    subst (λ j. Lives j new published) same (on published (subst (λ j. Lives j life published) (sym same) lives))

-- sound firings that are more than may be taken
pub too_long_text : (m : State) (job : JobParts) (limit : ℕ) (fs : List Firing) → m.job ≡ job → m.limit ≡ limit → AreSound job fs → IsTooLong (blank job limit) fs → MayBeFull m
too_long_text m job limit fs job_is limit_is all (news, new, more) took =
    subst (λ j. MoreThan j m.limit) (sym job_is) (subst (λ n. MoreThan job n) (sym limit_is) (news, new.once, (λ f c. all f (new.found.new f c).0), omega (arith, more)))

-- a front of the log is saved
pub front_saved : (job : JobParts) (m : State) (count : ℕ) (bytes : List ℕ) → m.job ≡ job → TookSound m → bytes ≡ checkpoint_text m.job.program.version (take count m.log) → ranges.AreFirings (take count m.log) → IsSoundText job bytes
front_saved job m count bytes job_is took text valid = record {
  firings = take count m.log;
  text = subst (λ j. bytes ≡ checkpoint_text j.program.version (take count m.log)) job_is text;
  valid = valid;
  sound = λ f c. subst (λ j. IsSound j f) job_is (took f (Contains-append_left m.log m.parked f (subst (λ xs. Contains xs f) (take-append-drop count m.log) (Contains-append_left (take count m.log) (drop count m.log) f c))));
}

-- what is written of sound firings
pub may_write : (job : JobParts) (bytes : List ℕ) (text : IsSoundText job bytes) → MayWrite job text.firings
may_write job bytes text = (text.valid, λ f c. (text.sound f c).0)

pub front_text_saved : (job : JobParts) (m : State) (version : Version) (log : List Firing) (count : ℕ) (r : Result (Vec ℕ Global) AllocError) → m.job ≡ job → TookSound m → version ≡ m.job.program.version → log ≡ m.log
    → IfOk r (λ bytes. bytes.items ≡ checkpoint_text version (take count log)) → IfOk r (λ _. ranges.AreFirings (take count log)) → IfOk r (λ bytes. IsSoundText job bytes.items)
front_text_saved job m version log count (Ok bytes) job_is took version_is same text valid =
    front_saved job m count bytes.items job_is took (text ∙ ap (λ fs. checkpoint_text version (take count fs)) same ∙ ap (λ v. checkpoint_text v (take count m.log)) version_is) (subst (λ fs. ranges.AreFirings (take count fs)) same valid)
front_text_saved job m version log count (Err e) job_is took version_is same text valid = tt

-- what a worker leaves after its last run
pub last_worked : (may : ℕ → ℕ → Turn → Type 0) (job : JobParts) (limit rounds worker : ℕ) (m : State) (published : List Firing) (end : End) → Derivation (own_of job) published
    → m.job ≡ job → m.limit ≡ limit → TookSound m → LastEnd job limit m published end → HasEnded may job limit rounds worker published end
last_worked may job limit rounds worker m published Done run job_is limit_is took ended = record { run = run; ends = ended }
last_worked may job limit rounds worker m published Stopped run job_is limit_is took ended = absurd ended
last_worked may job limit rounds worker m published Full run job_is limit_is took ended = record {
  run = run;
  ends = subst (λ j. MoreThan j limit) job_is (subst (λ n. MoreThan m.job n) limit_is (ended (omega (arith, limit_is)) took));
}
last_worked may job limit rounds worker m published NoMemory run job_is limit_is took ended = absurd ended

-- what a worker has that starts again from the text of its last save
module _ (J job : JobParts) (limit : ℕ) (life : Life) (bytes : Vec ℕ Global) (slice : List ℕ) (job_is : job ≡ J) (same : slice ≡ bytes.items) (of : life.replica.machine.job ≡ J) (text : IsSoundText J bytes.items) where
  wrote : (r : Result (ReplicaState × Ending) RestoreError) → RestoresWritten job limit slice r → MatchResult r (λ p. (p.1 ≡ Whole) × TakesAll (blank J limit) text.firings p.0.machine) (IsNoRoomFor J limit text.firings)
  wrote r written = subst (λ j. RestoresWritten j limit slice r) job_is written J.program.version text.firings (reads_own J.program.version) (may_write J bytes.items text) (same ∙ text.text)

  pub restored_lives : (r kept : ReplicaState) (ending : Ending) (saved : Saved) → IsMachine life.replica.machine → RestoresWritten job limit slice (Ok (r, ending)) → kept ≡ r → saved ≡ Text bytes
      → LivesOn life (record { replica = kept; sent = 0; saved = saved })
  restored_lives r kept ending saved is written kept_is saved_is =
      subst (λ x. LivesOn life (record { replica = x; sent = 0; saved = saved })) (sym kept_is)
      (subst (λ x. LivesOn life (record { replica = r; sent = 0; saved = x })) (sym saved_is)
      (restarts_on J life (record { replica = r; sent = 0; saved = Text bytes }) of (restarts J life r bytes limit is text (wrote (Ok (r, ending)) written).1)))

  pub restored_full : (e : RestoreError) → e ≡ restores.Full → life.replica.machine.limit ≡ limit → RestoresWritten job limit slice (Err e) → MayBeFull life.replica.machine
  restored_full e is limit_is written =
      ⊎_elim (λ (other : e ≡ restores.NoMemory). let bad : restores.Full ≡ restores.NoMemory = sym is ∙ other in absurd (cc))
      (λ (t : (e ≡ restores.Full) × IsTooLong (blank J limit) text.firings). too_long_text life.replica.machine J limit text.firings of limit_is text.sound t.1)
      (wrote (Err e) written)

  -- it is refused for no other reason
  pub restored_other : (e : RestoreError) → RestoresWritten job limit slice (Err e) → (e ≡ restores.Full → ⊥) → (e ≡ restores.NoMemory → ⊥) → ⊥
  restored_other e written full memory =
      ⊎_elim memory
      (λ (t : (e ≡ restores.Full) × IsTooLong (blank J limit) text.firings). full t.0)
      (wrote (Err e) written)

-- a worker's first life
pub first_lives : (job : JobParts) (limit number : ℕ) → Lives job (record { replica = fresh job limit number; sent = 0; saved = Front 0 }) []
first_lives job limit number = record {
  job_is = refl;
  sound = λ f t. absurd (Contains-nil f t);
  before = [];
  run = Derivation-nil (own_of job);
  lists = refl;
  within = omega arith;
  saved = omega arith;
}
