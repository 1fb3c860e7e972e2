-- The lines of what waits.
use Rattle.std.specs.Prelude.{ℕ, zero, suc, ◌+◌, List, [], ◌∷◌, ◌++◌, if◌then◌else◌, codes, map}
use Rattle.std.specs.Fmt.{decimal}
use Rattle.u_base.specs.Spaced.{ended}
use Rattle.u_name.specs.NameText.{name_text}
use Rattle.u_name.specs.Cell.{cell_text}
use Rattle.u_rule.specs.Parts.{most_ports}
use Rattle.u_trace.specs.Ports.{has_port}
use Rattle.u_trace.specs.declared.ports.Ports.{Ports}
use Rattle.u_trace.specs.declared.activities.WaitingActivity.{WaitingActivity}
use Rattle.u_trace.specs.declared.reads.DeferredRead.{DeferredRead}
use Rattle.u_trace.specs.declared.answer.Waiting.{Waiting}

-- a space and the number of the port, if it is there
abbrev pub port_text : Ports → ℕ → List ℕ
port_text p k = if has_port p k then 32 ∷ decimal k else []

-- those of so many ports from that one on, in ascending order, each behind a space
abbrev pub ports_from : Ports → ℕ → ℕ → List ℕ
ports_from p k zero = []
ports_from p k (suc n) = port_text p k ++ ports_from p (k + 1) n

abbrev pub ports_text : Ports → List ℕ
ports_text p = ports_from p 1 most_ports

-- a word, and behind it the numbers of the ports
abbrev pub listed : List ℕ → Ports → List ℕ
listed word p = word ++ ports_text p

-- `waits NAME has PORT.. lacks PORT..`
unfoldable pub waiting_text : WaitingActivity → List ℕ
waiting_text w = codes "waits " ++ (name_text w.activity ++ (listed (codes " has") w.has ++ listed (codes " lacks") w.lacks))

-- `reads NAME CELL`
unfoldable pub read_text : DeferredRead → List ℕ
read_text r = codes "reads " ++ (name_text r.reader ++ (codes " " ++ cell_text r.cell))

-- a line for each activity that waits, and behind them one for each deferred read
unfoldable pub waits_text : Waiting → List ℕ
waits_text w = ended (map waiting_text w.activities.items) ++ ended (map read_text w.reads.items)
