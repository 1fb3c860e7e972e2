-- What is asked for in range may be asked.
use Rattle.std.specs.Prelude.{◌≤◌, ℕ, Result, Ok, Err, IfOk, IfErr, MatchResult}
use Rattle.std.proofs.Common.{arith}
use Rattle.u_words.specs.declared.request.JobRequest.{JobRequest}
use Rattle.u_words.specs.declared.request.JobRequest.TheVariants.{DrawStory, Run, Save, Restore, Trace, Blame, Waits, World}
use Rattle.u_words.specs.Requests.{JobInRange}
use Rattle.u_cli.specs.Asking.{JobAllowed}

pub allowed : (ask : JobRequest) → JobInRange ask → JobAllowed ask
allowed (DrawStory entry firings) h = h.1
allowed (Run firings) h = h.1
allowed (Save firings) h = h.1
allowed (Restore checkpoint firings) h = tt
allowed (Trace entry firings) h = h.1
allowed (Blame activity port) h = h
allowed (Waits firings) h = h.1
allowed (World w) h = h.0

-- what follows from each answer of a call
pub both : {A E : Type 0} (r : Result A E) (P : A → Type 0) (R : E → Type 0) → IfOk r P → IfErr r R → MatchResult r P R
both (Ok a) P R p q = p
both (Err e) P R p q = q
