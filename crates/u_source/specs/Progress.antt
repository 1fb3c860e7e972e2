-- How a parser goes on.
use Rattle.std.specs.Prelude.{◌≡◌, ℕ, ◌≤◌, List, ◌∷◌, ◌++◌, length, drop, Err}
use Rattle.u_source.specs.declared.choosing.Placed.{Placed}
use Rattle.u_source.specs.declared.parsing.Failure.{Failure}
use Rattle.u_source.specs.declared.parsing.Failure.TheVariants.{Stuck, NoMemory}
use Rattle.u_source.specs.declared.parsing.Parser.{Parser}
use Rattle.u_source.specs.declared.form.Node.{Node}
use Rattle.u_source.specs.Choosing.{step_of}
use Rattle.u_source.specs.Derivations.{Point, point, kind_next, Goes, IsStuckAt}
use Rattle.u_source.specs.Tokens.{TokenParts}

-- where a parser is, with these symbols left
abbrev pub place_in : List TokenParts → List Placed → ℕ → Point
place_in ts ss n = point ss n (drop n ts)

-- the parser took the step of the symbol that stood first
pub record Follows (ts : List TokenParts) (top : Placed) (old new : Parser) : Type 0 where
  pub made : List Node
  pub goes : Goes (place_in ts (top ∷ old.stack.items) old.number) made (place_in ts new.stack.items new.number)
  pub nodes : new.nodes.items ≡ old.nodes.items ++ made
  pub inside : new.number ≤ length ts

-- there is no such step
abbrev pub Fails : List TokenParts → Placed → Parser → Failure → Type 0
Fails ts top old (Stuck n stop) = (n ≡ old.number) × (step_of top (kind_next (drop n ts)) ≡ Err stop)
Fails ts top old NoMemory = Unit {0}

-- why tokens have no syntax tree
abbrev pub IsFailure : List TokenParts → Failure → Type 0
IsFailure ts (Stuck n stop) = IsStuckAt ts n stop
IsFailure ts NoMemory = Unit {0}
