-- What contexts are compared by: two words with the kinds of their loops and calls from the innermost outwards, and the words
-- of these from the outermost inwards.
use Rattle.std.specs.Prelude.{ℕ, ◌+◌, ◌*◌, ◌/◌, ◌%◌, ◌^◌, List, [], ◌∷◌, ◌++◌, drop, Option, None, Some}
use Rattle.std.proofs.Common.{get_or}
use Rattle.std.specs.Ordering.{nat_cmp}
use Rattle.std.specs.declared.cmp.Ordering.{Ordering}
use Rattle.std.specs.Cmp.Lexicographic.{slice_cmp}
use Rattle.u_name.specs.declared.context.Linkage.{Linkage}
use Rattle.u_name.specs.declared.context.Linkage.TheVariants.{Loop, Call}
use Rattle.u_name.specs.Context.{Tree, Top, InLoop, InCall}
use Rattle.u_name.specs.Words.{in_places, words_by}

-- a loop's kind is 1, and a call's is 2
abbrev pub kinds : Tree → List ℕ
kinds Top = []
kinds (InLoop outer block number initiation) = 1 ∷ kinds outer
kinds (InCall outer block statement initiation) = 2 ∷ kinds outer

-- a kind has two bits, the innermost the highest two of 128; a 0 is less than each kind, so fewer kinds come first
unfoldable pub kinds_number : Tree → ℕ
kinds_number t = in_places 4 64 (kinds t)

-- how a block goes with that of the loop or call, if it is one
abbrev pub block_in : Tree → List ℕ → Option Ordering
block_in Top block = None
block_in (InLoop outer own number initiation) block = Some (slice_cmp nat_cmp block own)
block_in (InCall outer own statement initiation) block = Some (slice_cmp nat_cmp block own)

-- the words of each loop and call
abbrev pub frames : Tree → List ℕ
frames Top = []
frames (InLoop outer block number initiation) = frames outer ++ words_by (block_in outer block) block number initiation
frames (InCall outer block statement initiation) = frames outer ++ words_by (block_in outer block) block statement initiation

abbrev pub path : Tree → List ℕ
path t = kinds_number t / 2 ^ 64 ∷ kinds_number t % 2 ^ 64 ∷ frames t

-- the two words of the kinds, with one more in front
abbrev pub first_kinds : ℕ → ℕ → ℕ
first_kinds kind high = kind * 2 ^ 62 + high / 4

abbrev pub last_kinds : ℕ → ℕ → ℕ
last_kinds high low = (high % 4) * 2 ^ 62 + low / 4

abbrev pub kind_words : ℕ → List ℕ → List ℕ
kind_words kind outer = first_kinds kind (get_or outer 0 0) ∷ last_kinds (get_or outer 0 0) (get_or outer 1 0) ∷ []

-- a path with one more kind
abbrev pub with_kind : ℕ → List ℕ → List ℕ
with_kind kind outer = kind_words kind outer ++ drop 2 outer

-- the kind, and the number of the loop or of the statement
abbrev pub kind_by : Linkage → ℕ
kind_by (Loop number) = 1
kind_by (Call statement) = 2

abbrev pub number_by : Linkage → ℕ
number_by (Loop number) = number
number_by (Call statement) = statement
