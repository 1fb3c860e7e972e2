-- What a new machine that ran saves of its job.
use Rattle.std.proofs.Common.{◌≡◌, ◌∙◌, ap, subst, refl, ℕ, List, [], ◌++◌, append-nil}
use Rattle.u_program.specs.declared.program.Version.{Version}
use Rattle.u_check.specs.Jobs.{JobParts}
use Rattle.u_rule.specs.EntryOrder.{FiringList}
use Rattle.u_machine.specs.State.{State}
use Rattle.u_history.specs.declared.report.Ending.{Ending}
use Rattle.u_replica.specs.CheckpointText.{checkpoint_text}
use Rattle.u_replica.specs.Checkpoints.{AreFirings}
use Rattle.u_commands.specs.Runs.{RanTo}
use Rattle.u_commands.specs.Saves.{SavesRunOfJob}

pub saved_run : (job : JobParts) (firings : ℕ) (end : Ending) (m : State) (version : Version) (applied parked : FiringList) (none bytes : List ℕ) → RanTo job firings end m
    → version ≡ job.program.version → applied ≡ m.log → parked ≡ m.parked → none ≡ []
    → bytes ≡ none ++ checkpoint_text version (applied ++ parked) → AreFirings (applied ++ parked) → SavesRunOfJob job firings bytes 0
saved_run job firings end m version applied parked none bytes ran of log rest empty text valid =
    let alone : parked ≡ [] = rest ∙ ran.parked in
    let all : applied ++ parked ≡ m.log = ap (λ (fs : FiringList). applied ++ fs) alone ∙ append-nil applied ∙ log in
    record {
      fs = m.log;
      plain = ran.run.plain;
      valid = subst AreFirings all valid;
      text = text ∙ ap (λ (xs : List ℕ). xs ++ checkpoint_text version (applied ++ parked)) empty ∙ ap (λ (v : Version). checkpoint_text v (applied ++ parked)) of ∙ ap (λ (fs : FiringList). checkpoint_text job.program.version fs) all;
      ended = refl;
    }
