-- What `share` tells of a job and a bus.
use Rattle.std.specs.Prelude.{◌≡◌, ℕ, List, ◌⊎◌}
use Rattle.u_check.specs.Jobs.{JobParts}
use Rattle.u_machine.specs.State.{State, IsMachine}
use Rattle.u_history.specs.declared.report.Ending.TheVariants.{Quiet}
use Rattle.u_share.specs.Headline.{Streams, newcomer, Shares, StopsSo}
use Rattle.u_share.specs.declared.ended.Ended.{Ended}
use Rattle.u_share.specs.declared.fault.ShareFault.{ShareFault}
use Rattle.u_share.specs.declared.fault.ShareFault.TheVariants as share_faults
use Rattle.u_commands.specs.Runs.{ReportsMachine}
use Rattle.u_commands.specs.declared.command_error.CommandError.{CommandError}
use Rattle.u_commands.specs.declared.command_error.CommandError.TheVariants as faults

-- how many firings a member takes at most
abbrev pub most_shared : ℕ
most_shared = 1000000

-- the fault that is told of a member that ends before its report
abbrev pub share_fault : ShareFault → CommandError
share_fault share_faults.Full = faults.Full
share_fault share_faults.NotReadable = faults.NotReadable
share_fault share_faults.NotWritten = faults.NotWritten
share_fault share_faults.NoMemory = faults.NoMemory

-- The report and the status of a member's machine, which took the firings of the job among the lines that it read,
-- and those that it printed, each once, so its counts are exact. Nothing is ready in it, and its history is the whole one of the job.
pub record IsShared (job : JobParts) (limit : ℕ) (before : Streams) (report : List ℕ) (status : ℕ) (after : Streams) : Type 0 where
  pub machine : State
  pub end : Ended
  pub is : IsMachine machine
  pub shares : Shares job limit before after machine end
  pub reported : ReportsMachine machine Quiet report status

-- a member stopped at the fault; or there is no memory for its report
abbrev pub IsNotShared : JobParts → ℕ → Streams → CommandError → Streams → Type 0
IsNotShared job limit before fault after =
    ((f : ShareFault) × (share_fault f ≡ fault) × StopsSo (newcomer job limit) before after f)
    ⊎ ((fault ≡ faults.NoMemory) × (m : State) × (end : Ended) × Shares job limit before after m end)
