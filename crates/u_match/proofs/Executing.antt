-- Activities of tokens that lie at a port of a statement.
use Rattle.std.proofs.Common.{◌≡◌, ◌∙◌, List, Some, None, sym}
use Rattle.u_program.specs.Parts.{BlockParts}
use Rattle.u_rule.specs.Parts.{TokenParts}
use Rattle.u_rule.specs.declared.entry.Entry.TheVariants.{Token as token_entry}
use Rattle.u_rule.specs.Fits.{statement_of, IsExecutable, IsFitting}

-- the activity of a token that fits may execute its statement
pub executes : (p : List BlockParts) (t : TokenParts) → IsFitting p (token_entry t) → IsExecutable p t.activity
unfolding IsFitting
executes p t f = record { it = f.it; stands = f.stands; fit = f.fit }

-- it has one
pub nowhere : (p : List BlockParts) (t : TokenParts) → IsFitting p (token_entry t) → statement_of p t.activity.block t.activity.statement ≡ None → ⊥
unfolding IsFitting
nowhere p t f none = let e : None ≡ Some f.it = sym none ∙ f.stands in absurd (cc)
