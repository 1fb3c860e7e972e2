-- From what holds of each number of a statement or a loop, the first of which it does not.
use Rattle.std.proofs.Common.{◌≡◌, ℕ, ◌+◌, ◌<◌, ◌≤◌, arith, List, length, Some}
use Rattle.u_program.specs.Parts.{StatementParts}
use Rattle.u_check.specs.Rules.{statement_at}
use Rattle.u_determinate.proofs.NumberFacts.{number_within}

-- what is asked of the statement of a number alone holds of each, if it does of those of the block
pub each_statement : (ss : List StatementParts) (Q : ℕ → StatementParts → Type 0) (i : ℕ) → length ss ≤ i → ((m : ℕ) → m < i + 1 → (s : StatementParts) → statement_at ss m ≡ Some s → Q m s) → (m : ℕ) (s : StatementParts) → statement_at ss m ≡ Some s → Q m s
each_statement ss Q i h before m s e =
    let w = number_within ss m s e in before m (omega (arith, w.1, h)) s e

pub no_statement : (ss : List StatementParts) (Q : ℕ → StatementParts → Type 0) (m : ℕ) → m < 0 + 1 → (s : StatementParts) → statement_at ss m ≡ Some s → Q m s
no_statement ss Q m h s e = let w = number_within ss m s e in absurd (omega (arith, w.0, h))
