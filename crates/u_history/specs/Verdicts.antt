-- The verdict on an outcome.
use Rattle.std.specs.Prelude.{List, [], ◌∷◌}
use Rattle.u_value.specs.declared.value.Value.{Value}
use Rattle.u_rule.specs.declared.parts.Fault.{Fault}
use Rattle.u_history.specs.Outcomes.{CellPairs, PortValues}
use Rattle.u_history.specs.declared.verdict.Verdict.{Verdict}
use Rattle.u_history.specs.declared.verdict.Verdict.TheVariants.{Clashed, Faulted, Answer, NoAnswer}

pub data Judgement : Type 0 where
  says_clashed : Judgement
  says_faulted : Judgement
  says_answer : Value → Judgement
  says_none : Judgement

-- a clash, or more than one answer; else a fault; else the answer, if there is one
abbrev pub judged : List Value → List CellPairs → List PortValues → List Fault → Judgement
judged answers (c ∷ cells) ports faults = says_clashed
judged answers [] (p ∷ ports) faults = says_clashed
judged (v ∷ w ∷ answers) [] [] faults = says_clashed
judged (v ∷ []) [] [] (x ∷ faults) = says_faulted
judged [] [] [] (x ∷ faults) = says_faulted
judged (v ∷ []) [] [] [] = says_answer v
judged [] [] [] [] = says_none

-- what a verdict says, with the answer that it lends
abbrev pub judgement : Verdict → Judgement
judgement Clashed = says_clashed
judgement Faulted = says_faulted
judgement (Answer v) = says_answer v.now
judgement NoAnswer = says_none
