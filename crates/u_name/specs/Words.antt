-- The words of a loop or a call, which are numbers of 64 bits: one or two for the block, and one or two for the number and
-- the initiation. The first words of two such codes tell whether they have second words, so codes in a row go by their parts.
-- Inside another loop or call its words tell first how its block goes with that one's, and leave it out where it is the same.
use Rattle.std.specs.Prelude.{ℕ, zero, suc, ◌+◌, ◌*◌, ◌/◌, ◌%◌, ◌^◌, ◌==◌, cond, nat_le, min, List, [], ◌∷◌, ◌++◌, Option, None, Some}
use Rattle.std.specs.declared.cmp.Ordering.{Ordering}
use Rattle.std.specs.declared.cmp.Ordering.TheVariants.{Less, Equal, Greater}
use Rattle.std.specs.Int.{from_be_bytes, w128}

-- the number that digits make in so many places of a base, the first being the highest; places without a digit count as 0
abbrev pub in_places : ℕ → ℕ → List ℕ → ℕ
in_places base zero digits = 0
in_places base (suc places) [] = 0
in_places base (suc places) (digit ∷ digits) = digit * base ^ places + in_places base places digits

-- the number that sixteen bytes make, the first being the highest; bytes that a name does not have count as 0
unfoldable pub block_number : List ℕ → ℕ
block_number block = from_be_bytes w128 block

-- the first eight bytes, and the last eight
abbrev pub high_word : List ℕ → ℕ
high_word block = block_number block / 2 ^ 64

abbrev pub low_word : List ℕ → ℕ
low_word block = block_number block % 2 ^ 64

-- the low word stands only where the last byte of the high one is not 0
abbrev pub low_part : ℕ → ℕ → List ℕ
low_part high low = cond (high % 256 == 0) [] (low ∷ [])

-- where the eighth byte of a name is 0, so are all behind it
abbrev pub block_words : List ℕ → List ℕ
block_words block = high_word block ∷ low_part (high_word block) (low_word block)

-- 2 ^ 48 - 1, the least initiation that has a word of its own
abbrev pub own_word : ℕ
own_word = 281474976710655

abbrev pub own_part : ℕ → List ℕ
own_part initiation = cond (nat_le own_word initiation) (initiation ∷ []) []

-- an initiation below that shares the number's word
abbrev pub turn_words : ℕ → ℕ → List ℕ
turn_words number initiation = (number * 2 ^ 48 + min initiation own_word) ∷ own_part initiation

abbrev pub words : List ℕ → ℕ → ℕ → List ℕ
words block number initiation = block_words block ++ turn_words number initiation

-- 2 ^ 14, by which the number is more where the block is the same; the first word is then 2 ^ 62 to 2 ^ 63 - 1
abbrev pub same_block : ℕ
same_block = 16384

-- 2 ^ 63, the word in front of a greater block; in front of a lesser one it is 0
abbrev pub greater_block : ℕ
greater_block = 9223372036854775808

-- the words by how the block goes with that of the outer loop or call, if there is one
abbrev pub words_by : Option Ordering → List ℕ → ℕ → ℕ → List ℕ
words_by None block number initiation = words block number initiation
words_by (Some Less) block number initiation = 0 ∷ words block number initiation
words_by (Some Equal) block number initiation = turn_words (same_block + number) initiation
words_by (Some Greater) block number initiation = greater_block ∷ words block number initiation
