-- What the refusals of a replica's calls are as those of events.
use Rattle.std.specs.Prelude.{ℕ}
use Rattle.u_machine.specs.declared.answer.Refusal.{Refusal}
use Rattle.u_machine.specs.declared.answer.Refusal.TheVariants as unfired
use Rattle.u_machine.specs.declared.answer.TakeRefusal.{TakeRefusal}
use Rattle.u_machine.specs.declared.answer.TakeRefusal.TheVariants as untaken
use Rattle.u_machine.specs.declared.answer.ListRefusal.{ListRefusal}
use Rattle.u_machine.specs.declared.answer.ListRefusal.TheVariants as unlisted
use Rattle.u_replica.specs.declared.answer.MergeRefusal.{MergeRefusal}
use Rattle.u_replica.specs.declared.answer.MergeRefusal.TheVariants as unmerged
use Rattle.u_replica.specs.declared.answer.RestoreError.{RestoreError}
use Rattle.u_replica.specs.declared.answer.RestoreError.TheVariants as unrestored
use Rattle.u_world.specs.declared.refused.Refused.{Refused}
use Rattle.u_world.specs.declared.refused.Refused.TheVariants.{BadEvent, Full, NoMemory}
use Rattle.u_world.specs.declared.refused.WorldError.{WorldError}
use Rattle.u_world.specs.declared.refused.WorldError.TheVariants as errors

abbrev pub of_fire : Refusal → Refused
of_fire unfired.Full = Full
of_fire unfired.NoMemory = NoMemory

abbrev pub of_take : TakeRefusal → Refused
of_take untaken.NotAFiring = BadEvent
of_take untaken.Full = Full
of_take untaken.NoMemory = NoMemory

abbrev pub of_list : ListRefusal → Refused
of_list (unlisted.NotAFiring place) = BadEvent
of_list unlisted.Full = Full
of_list unlisted.NoMemory = NoMemory

abbrev pub of_merge : MergeRefusal → Refused
of_merge unmerged.OtherJob = BadEvent
of_merge unmerged.Full = Full
of_merge unmerged.NoMemory = NoMemory

abbrev pub of_restore : RestoreError → Refused
of_restore (unrestored.BadLine line) = BadEvent
of_restore (unrestored.TooLong line) = BadEvent
of_restore (unrestored.NotAFiring place) = BadEvent
of_restore unrestored.Full = Full
of_restore unrestored.NoMemory = NoMemory

-- the refusal of the event at that place of a list
abbrev pub error_at : Refused → ℕ → WorldError
error_at BadEvent place = errors.BadEvent place
error_at Full place = errors.Full place
error_at NoMemory place = errors.NoMemory place
