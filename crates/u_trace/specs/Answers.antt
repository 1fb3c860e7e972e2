-- What is answered of the story of an entry.
use Rattle.std.specs.Prelude.{List, Result, Ok, Err}
use Rattle.std.specs.Global.{Vec}
use Rattle.u_base.specs.Firing.{Held}
use Rattle.u_check.specs.Jobs.{JobParts}
use Rattle.u_rule.specs.Rule.{own_of}
use Rattle.u_rule.specs.declared.entry.Entry.{Entry}
use Rattle.u_rule.specs.declared.firing.Firing.{Firing}
use Rattle.u_machine.specs.State.{State}
use Rattle.u_trace.specs.declared.trace_error.TraceError.{TraceError}
use Rattle.u_trace.specs.declared.trace_error.TraceError.TheVariants.{NotHeld, NoMemory}
use Rattle.u_trace.specs.Stories.{IsStory, Tells}

-- the story of an entry that the list holds; or it is none that the list holds; or there is no memory
abbrev pub StoryOf : JobParts → List Firing → Entry → Result (Vec Firing) TraceError → Type 0
StoryOf job log e (Ok told) =
    Held (own_of job) log e × IsStory (own_of job) log e told.items × Tells (own_of job) log e told.items
StoryOf job log e (Err NotHeld) = Held (own_of job) log e → ⊥
StoryOf job log e (Err NoMemory) = Unit {0}

-- of the applied firings of m
abbrev pub StoryAnswer : State → Entry → Result (Vec Firing) TraceError → Type 0
StoryAnswer m e answer = StoryOf m.job m.log e answer
