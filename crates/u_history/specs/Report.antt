-- The text of a report.
use Rattle.std.specs.Prelude.{◌≡◌, ℕ, List, [], ◌∷◌, ◌++◌, codes, decimal, length}
use Rattle.u_sets.specs.Rising.{IsListOf}
use Rattle.u_name.specs.NameText.{name_text}
use Rattle.u_name.specs.Name.{Activity}
use Rattle.u_name.specs.Cell.{CellOf, cell_text}
use Rattle.u_value.specs.declared.value.Value.{Value}
use Rattle.u_value.specs.Values.{value_text}
use Rattle.u_value.specs.FaultKinds.{fault_kind_text}
use Rattle.u_rule.specs.EntryOrder.{entry_cmp}
use Rattle.u_rule.specs.declared.parts.Fault.{Fault}
use Rattle.u_rule.specs.declared.parts.Written.{Written}
use Rattle.u_rule.specs.declared.entry.Entry.{Entry}
use Rattle.u_history.specs.declared.report.Ending.{Ending}
use Rattle.u_history.specs.declared.report.Ending.TheVariants.{Quiet, Paused}
use Rattle.u_history.specs.Outcomes.{IsOutcome, CellPairs, PortValues}
use Rattle.u_history.specs.Verdicts.{Judgement, says_clashed, says_faulted, says_answer, says_none, judged}

-- one text after another
abbrev pub texts : {X : Type 0} → (X → List ℕ) → List X → List ℕ
texts f [] = []
texts f (x ∷ xs) = f x ++ texts f xs

-- a word, a number and the end of the line
unfoldable pub count_line : List ℕ → ℕ → List ℕ
count_line word n = word ++ (decimal n ++ codes "\n")

unfoldable pub state_line : Ending → List ℕ
state_line Quiet = codes "state quiet\n"
state_line Paused = codes "state paused\n"

unfoldable pub answer_line : Value → List ℕ
answer_line v = codes "answer " ++ (value_text v ++ codes "\n")

-- cell, writer and value
unfoldable pub cell_line : CellOf → Written → List ℕ
cell_line c x = codes "cell " ++ (cell_text c ++ (codes " " ++ (name_text x.writer ++ (codes " " ++ (value_text x.value ++ codes "\n")))))

-- a line for each pair
unfoldable pub cell_lines : CellPairs → List ℕ
cell_lines r = texts (cell_line r.cell) r.pairs

-- activity, port and value
unfoldable pub port_line : Activity → ℕ → Value → List ℕ
port_line n p v = codes "port " ++ (name_text n ++ (codes " " ++ (decimal p ++ (codes " " ++ (value_text v ++ codes "\n")))))

-- a line for each value
unfoldable pub port_lines : PortValues → List ℕ
port_lines r = texts (port_line r.activity r.port) r.values

-- activity and kind
unfoldable pub fault_line : Fault → List ℕ
fault_line x = codes "fault " ++ (name_text x.activity ++ (codes " " ++ (fault_kind_text x.kind ++ codes "\n")))

unfoldable pub verdict_line : Judgement → List ℕ
verdict_line says_clashed = codes "verdict clashed\n"
verdict_line says_faulted = codes "verdict faulted\n"
verdict_line (says_answer v) = codes "verdict " ++ answer_line v
verdict_line says_none = codes "verdict none\n"

unfoldable pub counts_text : ℕ → ℕ → ℕ → List ℕ
counts_text firings parked entries = count_line (codes "firings ") firings ++ (count_line (codes "parked ") parked ++ count_line (codes "entries ") entries)

unfoldable pub outcome_text : List Value → List CellPairs → List PortValues → List Fault → List ℕ
outcome_text answers cells ports faults =
    texts answer_line answers
    ++ (texts cell_lines cells
    ++ (texts port_lines ports
    ++ (texts fault_line faults ++ verdict_line (judged answers cells ports faults))))

-- of a set with so many entries and that outcome
unfoldable pub report_text : Ending → ℕ → ℕ → ℕ → List Value → List CellPairs → List PortValues → List Fault → List ℕ
report_text state firings parked entries answers cells ports faults =
    state_line state ++ (counts_text firings parked entries ++ outcome_text answers cells ports faults)

-- text is the report of the set H, at that state and with these counts
pub record IsReportOf (H : Entry → Type 0) (state : Ending) (firings parked : ℕ) (text : List ℕ) : Type 0 where
  pub entries : List Entry
  pub all_entries : IsListOf entry_cmp H entries
  pub answers : List Value
  pub cells : List CellPairs
  pub ports : List PortValues
  pub faults : List Fault
  pub outcome : IsOutcome H answers cells ports faults
  pub is : text ≡ report_text state firings parked (length entries) answers cells ports faults
