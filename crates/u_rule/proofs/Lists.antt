-- Lists that nothing is added to.
use Rattle.std.proofs.Common.{◌≡◌, List, [], ◌++◌, sym, append-nil}

-- nothing is added
pub nothing_more : {X : Type 0} (xs : List X) → xs ≡ xs ++ []
nothing_more xs = sym (append-nil xs)
