-- What is told of an allowed program.
use Rattle.std.proofs.Common.{◌≡◌, refl, ℕ, List, [], ◌++◌}
use Rattle.u_program.specs.Parts.{BlockParts}
use Rattle.u_determinate.specs.Breaches as breaches
use Rattle.u_determinate.specs.declared.answer.Strictness.{Strictness}
use Rattle.u_determinate.specs.Meetings as meetings
use Rattle.u_determinate.specs.declared.verdict.Determinacy.{Determinacy}
use Rattle.u_commands.specs.Explains.{TellsBehind, SaysStrictness, SaysDeterminacy, ExplainsStrictness, ExplainsDeterminacy}

-- a line, and then why
pub tells_behind : (line none why n1 n2 : List ℕ) → none ≡ [] → n1 ≡ none ++ line → n2 ≡ n1 ++ why → TellsBehind line n2
tells_behind line none why n1 n2 empty one two = record { why = why; is = rw (two, one, empty) refl }

-- what is said of the answer is told of the program
pub explains_strictness : (p : List BlockParts) (s : Strictness) (written : List ℕ) → breaches.IsAnswer p s → breaches.IsExact p s → SaysStrictness s written → ExplainsStrictness p written
explains_strictness p s written answer exact said =
    record { strictness = s; answer = answer; exact = exact; said = said }

pub explains_determinacy : (p : List BlockParts) (d : Determinacy) (written : List ℕ) → meetings.IsAnswer p d → meetings.IsExact p d → SaysDeterminacy d written → ExplainsDeterminacy p written
explains_determinacy p d written answer exact said =
    record { determinacy = d; answer = answer; exact = exact; said = said }
