-- Texts one after another.
use Rattle.std.proofs.Common.{◌≡◌, ℕ, List, [], ◌++◌, append_assoc}
use Rattle.std.proofs.lemmas.List.{append-nil}

pub join_nothing : (o n : List ℕ) → n ≡ o → n ≡ o ++ []
join_nothing o n p = rw (p, append-nil o)

pub join2 : (o a b n1 n2 : List ℕ) → n1 ≡ o ++ a → n2 ≡ n1 ++ b → n2 ≡ o ++ (a ++ b)
join2 o a b n1 n2 p q = rw (q, p) (append_assoc o a b)

pub join6 :
    (o a b c d e f n1 n2 n3 n4 n5 n6 : List ℕ)
    → n1 ≡ o ++ a → n2 ≡ n1 ++ b → n3 ≡ n2 ++ c → n4 ≡ n3 ++ d → n5 ≡ n4 ++ e → n6 ≡ n5 ++ f
    → n6 ≡ o ++ (a ++ (b ++ (c ++ (d ++ (e ++ f)))))
join6 o a b c d e f n1 n2 n3 n4 n5 n6 p q r s t u = rw (u, t, s, r, q, p) (simp append_assoc)

pub join7 :
    (o a b c d e f g n1 n2 n3 n4 n5 n6 n7 : List ℕ)
    → n1 ≡ o ++ a → n2 ≡ n1 ++ b → n3 ≡ n2 ++ c → n4 ≡ n3 ++ d → n5 ≡ n4 ++ e → n6 ≡ n5 ++ f → n7 ≡ n6 ++ g
    → n7 ≡ o ++ (a ++ (b ++ (c ++ (d ++ ((e ++ f) ++ g)))))
join7 o a b c d e f g n1 n2 n3 n4 n5 n6 n7 p q r s t u v = rw (v, u, t, s, r, q, p) (simp append_assoc)
