-- The line of a watch.
use Rattle.std.proofs.Common.{◌≡◌, ℕ, List, [], ◌++◌, append_assoc}

pub join3 : (a b c n0 n1 n2 n3 : List ℕ) → n0 ≡ [] → n1 ≡ n0 ++ a → n2 ≡ n1 ++ b → n3 ≡ n2 ++ c → n3 ≡ a ++ (b ++ c)
join3 a b c n0 n1 n2 n3 e p q r = rw (r, q, p, e) (simp append_assoc)
