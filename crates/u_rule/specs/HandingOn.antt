-- What a statement made, as a result; and when a statement can hand on what it made.
use Rattle.std.specs.Prelude.{◌≡◌, IsTrue, is_some, List, Some, Result, Ok, Err}
use Rattle.u_name.specs.Context.{Tree, Top, InLoop, InCall}
use Rattle.u_name.specs.Name.{Activity, IsInLoop}
use Rattle.u_name.specs.declared.name.NameError.{NameError}
use Rattle.u_name.specs.declared.name.NameError.TheVariants as errors
use Rattle.u_value.specs.declared.value.Value.{Value}
use Rattle.u_value.specs.declared.fault_kind.FaultKind.{FaultKind}
use Rattle.u_value.specs.declared.fault_kind.FaultKind.TheVariants as faults
use Rattle.u_program.specs.declared.program.Kind.{Kind}
use Rattle.u_program.specs.declared.program.Kind.TheVariants.{Leave}
use Rattle.u_program.specs.declared.program.Version.{Version}
use Rattle.u_program.specs.Parts.{BlockParts}
use Rattle.u_rule.specs.Fits.{statement_of}
use Rattle.u_rule.specs.Rule.{refusal_of, back_of}
use Rattle.u_rule.specs.declared.giving.Made.{Made}
use Rattle.u_rule.specs.declared.giving.Made.TheVariants as made

abbrev pub outcome_of : Made → Result Value FaultKind
outcome_of (made.Value v) = Ok v
outcome_of (made.Fault kind) = Err kind

-- a `leave` lies in a loop
abbrev pub IsReachable : Kind → Activity → Type 0
IsReachable Leave a = IsInLoop a.context
IsReachable k a = Unit {0}

-- an error of the linkage is the statement's refusal, or want of memory
abbrev pub IsRefusal : Version → Kind → Activity → NameError → Type 0
IsRefusal version k a errors.Deep = refusal_of version k a ≡ Some faults.Deep
IsRefusal version k a errors.Initiation = refusal_of version k a ≡ Some faults.Initiation
IsRefusal version k a errors.NoMemory = Unit {0}

-- a block ends in the root, or where an `apply` called it
abbrev pub IsEndable : List BlockParts → Tree → Type 0
IsEndable p Top = Unit {0}
IsEndable p (InLoop outer block number initiation) = ⊥
IsEndable p (InCall outer block statement initiation) = IsTrue (is_some (back_of (statement_of p block statement)))
