-- A line at the front of some bytes, with its newline.
use Rattle.std.specs.Prelude.{◌≡◌, ℕ, ◌+◌, ◌≤◌, List, [], ◌∷◌, ◌++◌, length, take}
use Rattle.std.proofs.Common.{sym, ◌∙◌, ap, arith}
use Rattle.std.proofs.Math.Seq.{take-append-add}
use Rattle.std.proofs.lemmas.List.{length-append}
use Rattle.u_base.specs.Pieces.{PiecesAndRest, IsCutInto}
use Rattle.u_base.proofs.PiecesLaws.{glued, glued-pieces}

parts : (bs line rest : List ℕ) → IsCutInto 10 bs line rest → bs ≡ line ++ (10 ∷ rest)
parts bs line rest c =
    sym (glued-pieces 10 bs)
    ∙ ap (λ (p : PiecesAndRest). glued 10 p.0 p.1) c
    ∙ ap (λ t. line ++ (10 ∷ t)) (glued-pieces 10 rest)

pub with_end : (bs line rest : List ℕ) → IsCutInto 10 bs line rest → take (length line + 1) bs ≡ line ++ (10 ∷ [])
with_end bs line rest c = ap (λ t. take (length line + 1) t) (parts bs line rest c) ∙ take-append-add line (10 ∷ rest) 1

pub end_within : (bs line rest : List ℕ) → IsCutInto 10 bs line rest → length line + 1 ≤ length bs
end_within bs line rest c = omega (arith, ap length (parts bs line rest c), length-append line (10 ∷ rest))
