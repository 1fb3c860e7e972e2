-- A line for each of some things, with something at its end.
use Rattle.std.proofs.Common.{◌≡◌, ◌∙◌, ap, ℕ, ◌+◌, ◌<◌, List, [], ◌∷◌, ◌++◌, append_assoc, length, take, get_or, map}
use Rattle.u_base.specs.Spaced.{ended}
use Rattle.u_trace.proofs.Texts.{lines_more}

-- one line more, in three pieces
pub lines_placed : {X : Type 0} (f p : X → List ℕ) (xs : List X) (i : ℕ) (x : X) (o n0 n1 n2 n3 : List ℕ) → i < length xs → x ≡ get_or xs i x → n0 ≡ o ++ ended (map (λ x. f x ++ p x) (take i xs)) → n1 ≡ n0 ++ f x → n2 ≡ n1 ++ p x → n3 ≡ n2 ++ (10 ∷ []) → n3 ≡ o ++ ended (map (λ x. f x ++ p x) (take (i + 1) xs))
lines_placed f p xs i x o n0 n1 n2 n3 l at q a b c =
    lines_more (λ x. f x ++ p x) xs i x o n0 n2 n3 l at q (b ∙ ap (λ (t : List ℕ). t ++ p x) a ∙ append_assoc n0 (f x) (p x)) c
