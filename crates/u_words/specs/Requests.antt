-- What a command line asks for.
use Rattle.std.specs.Prelude.{◌≡◌, ◌↔◌, ℕ, ◌≤◌, Bool, true, List, [], Option, Some, None, codes, option_map}
use Rattle.clap.specs.Words.{first_value}
use Rattle.clap.specs.declared.parser.matches.Found.{Found}
use Rattle.u_words.specs.declared.request.Request.{Request}
use Rattle.u_words.specs.declared.request.Request.TheVariants.{Stored, File, Job, DrawRun, Fleet, Share}
use Rattle.u_words.specs.declared.request.FileRequest.{FileRequest}
use Rattle.u_words.specs.declared.request.FileRequest.TheVariants.{Check, Explain, Lift, Compile, Draw}
use Rattle.u_words.specs.declared.request.JobRequest.{JobRequest}
use Rattle.u_words.specs.declared.request.JobRequest.TheVariants.{DrawStory, Run, Save, Restore, Trace, Blame, Waits, World}
use Rattle.u_words.specs.Numbers.{IsFirings, IsDrawn, IsOneToEight, IsPort, IsNumberText}

-- The numbers are in their ranges: what runs may fire from one to a million times, a port is one of the first five, a
-- world has one to eight replicas, which take one to a million firings each, and at most a hundred thousand random
-- events.
abbrev pub JobInRange : JobRequest → Type 0
JobInRange (DrawStory entry firings) = IsFirings firings
JobInRange (Run firings) = IsFirings firings
JobInRange (Save firings) = IsFirings firings
JobInRange (Restore checkpoint firings) = IsFirings firings
JobInRange (Trace entry firings) = IsFirings firings
JobInRange (Blame activity port) = IsPort port
JobInRange (Waits firings) = IsFirings firings
JobInRange (World w) = IsOneToEight w.replicas × (w.events ≤ 100000) × IsFirings w.firings

-- the picture of a run has one to two thousand firings, a fleet has one to eight workers with at most a thousand
-- rounds, and a member of a bus fires one to a million times between two reads
abbrev pub IsInRange : Request → Type 0
IsInRange Stored = Unit {0}
IsInRange (File file ask) = Unit {0}
IsInRange (Job file argument ask) = JobInRange ask
IsInRange (DrawRun file argument firings) = IsDrawn firings
IsInRange (Fleet file argument workers rounds) = IsOneToEight workers × (rounds ≤ 1000)
IsInRange (Share file argument follow burst report) = IsFirings burst

abbrev pub text_or_none : Option (List ℕ) → List ℕ
text_or_none None = []
text_or_none (Some text) = text

-- the word that was found under that name
abbrev pub word_of : Found → List ℕ → List ℕ
word_of found name = text_or_none (first_value found name)

-- an option without a value is chosen, or is not
abbrev pub IsFlag : Bool → List ℕ → Type 0
IsFlag chosen word = (chosen ≡ true) ↔ (word ≡ codes "true")

-- the number is that one where no word was found for it, and else what the word spells
abbrev pub IsNumberOr : ℕ → ℕ → Option (List ℕ) → Type 0
IsNumberOr usual n None = n ≡ usual
IsNumberOr usual n (Some word) = IsNumberText n word

-- how many firings there may be
abbrev pub AreFirings : Found → ℕ → Type 0
AreFirings found n = IsFirings n × IsNumberText n (word_of found (codes "firings"))

-- what the command with that word asks of a file, each flag by the option with its name
abbrev pub IsFileRequest : List ℕ → Found → FileRequest → Type 0
IsFileRequest word found (Check strict determinate) =
    (word ≡ codes "check")
    × IsFlag strict (word_of found (codes "strict"))
    × IsFlag determinate (word_of found (codes "determinate"))
IsFileRequest word found (Explain strict) =
    (word ≡ codes "explain") × IsFlag strict (word_of found (codes "strict"))
IsFileRequest word found Lift = word ≡ codes "lift"
IsFileRequest word found (Compile map) =
    (word ≡ codes "compile") × IsFlag map (word_of found (codes "map"))
IsFileRequest word found Draw = (word ≡ codes "draw") × (first_value found (codes "ARG") ≡ None)

-- what the command with that word asks of a job, each word and number by the option with its name
abbrev pub IsJobRequest : List ℕ → Found → JobRequest → Type 0
IsJobRequest word found (DrawStory entry firings) =
    (word ≡ codes "draw")
    × (first_value found (codes "ARG") ≡ None → ⊥)
    × (first_value found (codes "ENTRY") ≡ Some entry.now)
    × IsNumberOr 100000 firings (first_value found (codes "firings"))
IsJobRequest word found (Run firings) = (word ≡ codes "run") × AreFirings found firings
IsJobRequest word found (Save firings) = (word ≡ codes "save") × AreFirings found firings
IsJobRequest word found (Restore checkpoint firings) =
    (word ≡ codes "restore")
    × AreFirings found firings
    × (checkpoint.now ≡ word_of found (codes "CHECKPOINT"))
IsJobRequest word found (Trace entry firings) =
    (word ≡ codes "trace") × AreFirings found firings × (entry.now ≡ word_of found (codes "ENTRY"))
IsJobRequest word found (Blame activity port) =
    (word ≡ codes "blame")
    × (activity.now ≡ word_of found (codes "NAME"))
    × IsNumberText port (word_of found (codes "PORT"))
IsJobRequest word found (Waits firings) = (word ≡ codes "waits") × AreFirings found firings
IsJobRequest word found (World w) =
    (word ≡ codes "world")
    × AreFirings found w.firings
    × IsNumberText w.replicas (word_of found (codes "replicas"))
    × IsNumberText w.seed (word_of found (codes "seed"))
    × IsNumberText w.events (word_of found (codes "events"))
    × IsFlag w.draw (word_of found (codes "draw"))
    × (option_map (λ s. s.now) w.script ≡ first_value found (codes "script"))

-- what the command with that word asks for, each word and number by the option with its name
abbrev pub IsRequest : List ℕ → Found → Request → Type 0
IsRequest word found Stored = ⊥
IsRequest word found (File file ask) =
    (file.now ≡ word_of found (codes "FILE")) × IsFileRequest word found ask
IsRequest word found (Job file argument ask) =
    (file.now ≡ word_of found (codes "FILE"))
    × (argument.now ≡ word_of found (codes "ARG"))
    × IsJobRequest word found ask
IsRequest word found (DrawRun file argument firings) =
    (word ≡ codes "draw")
    × (file.now ≡ word_of found (codes "FILE"))
    × (first_value found (codes "ARG") ≡ Some argument.now)
    × (first_value found (codes "ENTRY") ≡ None)
    × IsNumberOr 200 firings (first_value found (codes "firings"))
IsRequest word found (Fleet file argument workers rounds) =
    (word ≡ codes "fleet")
    × (file.now ≡ word_of found (codes "FILE"))
    × (argument.now ≡ word_of found (codes "ARG"))
    × IsNumberText workers (word_of found (codes "workers"))
    × IsNumberText rounds (word_of found (codes "rounds"))
IsRequest word found (Share file argument follow burst report) =
    (word ≡ codes "share")
    × (file.now ≡ word_of found (codes "FILE"))
    × (argument.now ≡ word_of found (codes "ARG"))
    × IsFlag follow (word_of found (codes "follow"))
    × IsNumberText burst (word_of found (codes "burst"))
    × (option_map (λ s. s.now) report ≡ first_value found (codes "report"))

-- what the command with that word asks for in range, with the words that were found for it
abbrev pub Asks : List ℕ → Found → Request → Type 0
Asks word found request = IsInRange request × IsRequest word found request
