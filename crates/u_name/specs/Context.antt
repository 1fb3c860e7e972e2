-- Contexts: the root, or a loop or a call with an outer context and three parts.
-- The law `of_frames-frames` stands here because `tree_code` needs it, which the model of Context cites.
use Rattle.std.specs.Prelude.{Bool, true, false, ◌≡◌, ℕ, ◌+◌, ◌≤◌, List, [], ◌∷◌, refl}
use Rattle.std.proofs.Common.{ap}
use Rattle.std.specs.Coded.{Coded, code_by, coded×, coded_ℕ, coded_list, coded_bool}
use Rattle.u_name.specs.Block.{IsBlock}

pub data Tree : Type 0 where
  Top : Tree
  InLoop : (outer : Tree) (block : List ℕ) (number initiation : ℕ) → Tree
  InCall : (outer : Tree) (block : List ℕ) (statement initiation : ℕ) → Tree

abbrev pub depth : Tree → ℕ
depth Top = 0
depth (InLoop outer block number initiation) = depth outer + 1
depth (InCall outer block statement initiation) = depth outer + 1

abbrev pub IsBetween : ℕ → ℕ → ℕ → Type 0
IsBetween low n high = (low ≤ n) × (n ≤ high)

-- each part is in its range
abbrev pub InRange : Tree → Type 0
InRange Top = Unit {0}
InRange (InLoop outer block number initiation) = InRange outer × IsBlock block × IsBetween 1 number 99 × IsBetween 1 initiation 18446744073709551615
InRange (InCall outer block statement initiation) = InRange outer × IsBlock block × IsBetween 1 statement 999 × IsBetween 1 initiation 18446744073709551615

pub record IsContext (tree : Tree) : Type 0 where
  pub shallow : depth tree ≤ 64
  pub in_range : InRange tree

-- a context is stored as the list of its frames, a loop's flag being true
abbrev pub Frames : Type 0
Frames = List (Bool × (List ℕ × (ℕ × ℕ)))

abbrev pub frames : Tree → Frames
frames Top = []
frames (InLoop outer block number initiation) = (true, (block, (number, initiation))) ∷ frames outer
frames (InCall outer block statement initiation) = (false, (block, (statement, initiation))) ∷ frames outer

abbrev pub framed : Bool × (List ℕ × (ℕ × ℕ)) → Tree → Tree
framed f outer = elim f.0 [ true ↦ InLoop outer f.1.0 f.1.1.0 f.1.1.1 | false ↦ InCall outer f.1.0 f.1.1.0 f.1.1.1 ]

abbrev pub of_frames : Frames → Tree
of_frames [] = Top
of_frames (f ∷ fs) = framed f (of_frames fs)

pub of_frames-frames : (t : Tree) → of_frames (frames t) ≡ t
of_frames-frames Top = refl
of_frames-frames (InLoop outer block number initiation) = ap (λ o. InLoop o block number initiation) (of_frames-frames outer)
of_frames-frames (InCall outer block statement initiation) = ap (λ o. InCall o block statement initiation) (of_frames-frames outer)

abbrev pub tree_code : Coded Tree
tree_code = code_by Frames (coded_list (coded× coded_bool (coded× (coded_list coded_ℕ) (coded× coded_ℕ coded_ℕ)))) frames of_frames of_frames-frames
