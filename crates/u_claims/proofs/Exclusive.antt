-- What follows from the rule of a board, between any two steps.
use Rattle.std.proofs.Common.{◌≡◌, ◌<◌, ◌↔◌, ℕ, true, sym, ◌∙◌, arith, slice_index}
use mathlib.Core.Option.{some}
use lib.ListN.{get_elem?}
use Rattle.atomic_table.specs.Table.{State}
use Rattle.u_claims.specs.declared.rule.Hand.{Hand}
use Rattle.u_claims.specs.Held.{has_bucket, IsBoard, IsExclusive}

-- no two seats hold one bucket
pub exclusive : (seats : ℕ) (s : State (Unit {0}) Hand) → IsBoard seats s → IsExclusive s
exclusive seats s board b i j v w small at_i at_j has_v has_w =
    let first = (board.fits i v at_i).has b small has_v in
    let second = (board.fits j w at_j).has b small has_w in
    board.apart i j v w at_i at_j first.0 (sym first.1 ∙ second.1)

-- the word of a bucket is a seat's number exactly where the seat holds the bucket, for each seat that has a number
pub word_is_number : (seats : ℕ) (s : State (Unit {0}) Hand) → IsBoard seats s → (b j : ℕ) (v : Hand) → b < 64 → get_elem? s.views j ≡ some v → 0 < v.number
    → (slice_index s.words b ≡ v.number) ↔ (has_bucket v b ≡ true)
word_is_number seats s board b j v small at numbered = ((λ same. (board.fits j v at).exact b small numbered same), (λ has. ((board.fits j v at).has b small has).1))

-- a seat that has no number holds nothing
pub none_without_number : (seats : ℕ) (s : State (Unit {0}) Hand) → IsBoard seats s → (b j : ℕ) (v : Hand) → b < 64 → get_elem? s.views j ≡ some v → v.number ≡ 0
    → has_bucket v b ≡ true → ⊥
none_without_number seats s board b j v small at none has = let numbered = ((board.fits j v at).has b small has).0 in omega (arith, numbered, none)
