-- The first of what is not allowed, as the first of what tokens show.
use Rattle.std.proofs.Common.{◌≡◌, ℕ, ◌+◌, ◌≤◌, Option, Some, None}
use Rattle.u_scope.specs.declared.values.Breach.{Breach}
use Rattle.u_scope.specs.Values.{first_of, IsLeast}
use Rattle.u_scope.proofs.FirstLaws as firsts

abbrev token_of : Breach → ℕ
token_of b = b.token

pub skipped : (a b : Breach) → a.token ≤ b.token → first_of (Some a) (Some b) ≡ Some a
skipped = firsts.not_first token_of

pub first_none : (o b : Option Breach) → first_of o b ≡ None → (o ≡ None) × (b ≡ None)
first_none = firsts.first_none token_of

pub least_of_both : (f : ℕ → Option Breach) (k : ℕ) (o n v : Option Breach) → f k ≡ first_of n v → IsLeast f k o → IsLeast f (k + 1) (first_of (first_of o n) v)
least_of_both = firsts.least_of_both token_of
