-- Texts one after another.
use Rattle.std.proofs.Common.{◌≡◌, ℕ, List, [], ◌++◌, append_assoc}
use Rattle.std.proofs.lemmas.List.{append-nil}

pub join2 : (o a b n1 n2 : List ℕ) → n1 ≡ o ++ a → n2 ≡ n1 ++ b → n2 ≡ o ++ (a ++ b)
join2 o a b n1 n2 p q = rw (q, p) (append_assoc o a b)

pub join3 : (o a b c n1 n2 n3 : List ℕ) → n1 ≡ o ++ a → n2 ≡ n1 ++ b → n3 ≡ n2 ++ c → n3 ≡ o ++ (a ++ (b ++ c))
join3 o a b c n1 n2 n3 p q r = rw (r, q, p) (simp append_assoc)

pub join4 : (o a b c d n1 n2 n3 n4 : List ℕ) → n1 ≡ o ++ a → n2 ≡ n1 ++ b → n3 ≡ n2 ++ c → n4 ≡ n3 ++ d → n4 ≡ o ++ (a ++ (b ++ (c ++ d)))
join4 o a b c d n1 n2 n3 n4 p q r s = rw (s, r, q, p) (simp append_assoc)

pub listed4 : (a b c d n1 n2 n3 n4 : List ℕ) → n1 ≡ a → n2 ≡ n1 ++ b → n3 ≡ n2 ++ c → n4 ≡ n3 ++ d → n4 ≡ a ++ (b ++ (c ++ (d ++ [])))
listed4 a b c d n1 n2 n3 n4 p q r s = rw (s, r, q, p, append-nil d) (simp append_assoc)
