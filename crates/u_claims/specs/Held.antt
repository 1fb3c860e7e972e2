-- The rule of a board, which holds between any two steps on its words, whatever threads take them.
--
-- Words 0 to 63 are the buckets: each is 0, or the number of the seat that holds it. Word 64 counts the numbers that were drawn.
-- A seat's view is its number, 0 before one is drawn, and for each bucket whether the seat holds it. Each step changes the view of the seat that takes it alone.
use Rattle.std.specs.Prelude.{◌≡◌, ◌≢◌, ℕ, ◌<◌, ◌≤◌, Bool, true, false, List, length, slice_index, slice_index_or, slice_set, replicate}
use mathlib.Core.Option.{some}
use lib.ListN.{get_elem?}
use Rattle.u_name.specs.Context.{IsBetween}
use Rattle.atomic_table.specs.Table.{State, Me, Step}
use Rattle.u_claims.specs.Masks.{in_mask}
use Rattle.u_claims.specs.declared.rule.Hand.{Hand}

-- the view of a seat: how many seats the board has, the seat's number, and for each bucket whether it holds it
abbrev pub hand : ℕ → ℕ → List Bool → Hand
hand seats number held = record { seats = seats; number = number; held = held }

-- no bucket is held
abbrev pub none_held : List Bool
none_held = replicate 64 false

-- a seat that has no number and holds nothing
abbrev pub newcomer : ℕ → Hand
newcomer seats = hand seats 0 none_held

-- whether the seat holds bucket b
abbrev pub has_bucket : Hand → ℕ → Bool
has_bucket v b = slice_index_or v.held b false

abbrev pub with_bucket : Hand → ℕ → Hand
with_bucket v b = hand v.seats v.number (slice_set v.held b true)

abbrev pub without_bucket : Hand → ℕ → Hand
without_bucket v b = hand v.seats v.number (slice_set v.held b false)

-- bit b of the mask says whether the seat holds bucket b
abbrev pub IsMaskOf : ℕ → Hand → Type 0
IsMaskOf mask v = (b : ℕ) → b < 64 → in_mask mask b ≡ has_bucket v b

-- the number of another seat of the board
abbrev pub IsOther : Hand → ℕ → Type 0
IsOther v number = IsBetween 1 number v.seats × (number ≢ v.number)

-- What the words say of one seat: its number is one of those that were drawn; where it holds a bucket it has a number, and the bucket's word is that number; and where a bucket's word is its number, it holds the bucket.
pub record Fits (seats : ℕ) (words : List ℕ) (v : Hand) : Type 0 where
  pub long : length v.held ≡ 64
  pub told : v.seats ≡ seats
  pub drawn : v.number ≤ slice_index words 64
  pub has : (b : ℕ) → b < 64 → has_bucket v b ≡ true → (0 < v.number) × (slice_index words b ≡ v.number)
  pub exact : (b : ℕ) → b < 64 → 0 < v.number → slice_index words b ≡ v.number → has_bucket v b ≡ true

-- The rule: at most as many numbers are drawn as there are seats; a bucket's word is 0 or a number that was drawn; each seat fits the words; and no two seats have one number.
pub record IsBoard (seats : ℕ) (s : State (Unit {0}) Hand) : Type 0 where
  pub wide : length s.words ≡ 65
  pub most : slice_index s.words 64 ≤ seats
  pub known : (b : ℕ) → b < 64 → slice_index s.words b ≤ slice_index s.words 64
  pub fits : (j : ℕ) (v : Hand) → get_elem? s.views j ≡ some v → Fits seats s.words v
  pub apart : (i j : ℕ) (v w : Hand) → get_elem? s.views i ≡ some v → get_elem? s.views j ≡ some w → 0 < v.number → v.number ≡ w.number → i ≡ j

-- The steps. Each is one compare-and-exchange; n is the word that it found, and me and me' are the seat before and after.

-- of the counting word, to one more: where the count was the expected one, the new count is the seat's number
abbrev pub DrawsNumber : Step (Unit {0}) → Me (Unit {0}) Hand → ℕ → Me (Unit {0}) Hand → Type 0
DrawsNumber st me n me' = (me'.1 ≡ me.1) × (n ≡ st.first → me'.0 ≡ hand me.0.seats st.second me.0.held) × (n ≢ st.first → me'.0 ≡ me.0)

-- of a bucket's word, from 0 to the seat's number: where it was 0, the seat holds the bucket; else another seat's number stood there, and the view stays
abbrev pub ClaimsBucket : Step (Unit {0}) → Me (Unit {0}) Hand → ℕ → Me (Unit {0}) Hand → Type 0
ClaimsBucket st me n me' = (me'.1 ≡ me.1) × (n ≡ 0 → me'.0 ≡ with_bucket me.0 st.word) × (n ≢ 0 → (me'.0 ≡ me.0) × IsOther me.0 n)

-- of a bucket's word, from the seat's number back to 0: the seat holds the bucket no longer
abbrev pub ReleasesBucket : Step (Unit {0}) → Me (Unit {0}) Hand → ℕ → Me (Unit {0}) Hand → Type 0
ReleasesBucket st me n me' = (me'.1 ≡ me.1) × (me'.0 ≡ without_bucket me.0 st.word)

-- no two seats hold one bucket
abbrev pub IsExclusive : State (Unit {0}) Hand → Type 0
IsExclusive s =
    (b i j : ℕ) (v w : Hand) → b < 64 → get_elem? s.views i ≡ some v → get_elem? s.views j ≡ some w → has_bucket v b ≡ true → has_bucket w b ≡ true → i ≡ j
