-- How many statements a program has, and the line that tells it.
use Rattle.std.proofs.Common.{◌≡◌, refl, ℕ, zero, suc, List, [], ◌∷◌, ◌++◌, ◌+◌, ◌*◌, ◌<◌, ◌≤◌, length, take, get_or, arith, append_assoc}
use Rattle.std.proofs.lemmas.List.{take_more}
use Rattle.std.specs.List.{AllByRecursion}
use Rattle.u_program.specs.Parts.{BlockParts}
use Rattle.u_program.specs.Limits.{IsBlockOf, the_limits}
use Rattle.u_commands.specs.Checks.{statements_of}

statements_push : (p : List BlockParts) (b : BlockParts) → statements_of (p ++ b ∷ []) ≡ statements_of p + length b.statements
statements_push [] b = omega arith
statements_push (c ∷ p) b = let h = statements_push p b in omega (arith, h)

-- one block more
pub statements_more : (p : List BlockParts) (k : ℕ) (b : BlockParts) (n : ℕ) → k < length p → b ≡ get_or p k b → n ≡ statements_of (take k p) → n + length b.statements ≡ statements_of (take (k + 1) p)
statements_more p k b n below is h = rw (take_more p k b below, ← is, statements_push (take k p) b, h) refl

-- no more than 999 for each block
pub statements_few : (p : List BlockParts) (k : ℕ) → AllByRecursion (IsBlockOf the_limits) p → statements_of (take k p) ≤ 999 * length p
statements_few [] zero a = omega arith
statements_few [] (suc k) a = omega arith
statements_few (c ∷ p) zero a = omega arith
statements_few (c ∷ p) (suc k) a = let h = statements_few p k a.1 in let f : length c.statements ≤ 999 = a.0.few in omega (arith, h, f)

pub join5 : (a b c d e n1 n2 n3 n4 n5 : List ℕ) → n1 ≡ a → n2 ≡ n1 ++ b → n3 ≡ n2 ++ c → n4 ≡ n3 ++ d → n5 ≡ n4 ++ e → n5 ≡ a ++ (b ++ (c ++ (d ++ e)))
join5 a b c d e n1 n2 n3 n4 n5 p q r s t = rw (t, s, r, q, p) (simp append_assoc)
