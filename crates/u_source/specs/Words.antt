-- One token at the front of some bytes, and the blanks and comments before it.
use Rattle.std.specs.Prelude.{ℕ, suc, ◌^◌, Bool, true, false, cond, not, ◌&&◌, ◌||◌, ◌==◌, nat_le, List, [], ◌∷◌, length, take, Some, None, Result, Ok, Err}
use Rattle.u_base.specs.Number.{is_digit}
use Rattle.u_base.specs.WholeWords.{number0_word}
use Rattle.u_name.specs.Block.{is_letter, is_block_byte}
use Rattle.u_source.specs.declared.source_error.Problem.{Problem}
use Rattle.u_source.specs.declared.source_error.Problem.TheVariants.{BadByte, BadNumber, NumberRange, LongName}
use Rattle.u_source.specs.declared.token.Word.{Word}
use Rattle.u_source.specs.declared.token.Word.TheVariants.{Name, Number, Mark}
use Rattle.u_source.specs.Marks.{keywords, signs, mark_text, keyword_among, sign_among}

-- a space, a tab or a newline
abbrev pub is_blank : ℕ → Bool
is_blank c = c == 32 || c == 9 || c == 10

-- how many bytes of blanks and comments stand at the front, where the first bytes may belong to a comment
abbrev pub gap_from : Bool → List ℕ → ℕ
gap_from comment [] = 0
gap_from true (c ∷ cs) = suc (gap_from (not (c == 10)) cs)
gap_from false (c ∷ cs) = cond (c == 35) (suc (gap_from true cs)) (cond (is_blank c) (suc (gap_from false cs)) 0)

-- how many bytes of blanks and comments stand at the front; a comment is `#` and the rest of its line
abbrev pub gap : List ℕ → ℕ
gap bs = gap_from false bs

-- how many bytes of `a-z`, `0-9` and `_` stand at the front
abbrev pub word_len : List ℕ → ℕ
word_len [] = 0
word_len (c ∷ cs) = cond (is_block_byte c) (suc (word_len cs)) 0

-- digits alone
abbrev pub all_digits : List ℕ → Bool
all_digits [] = true
all_digits (c ∷ cs) = is_digit c && all_digits cs

abbrev pub has_leading_zero : List ℕ → Bool
has_leading_zero [] = false
has_leading_zero (c ∷ cs) = c == 48

-- digits without a leading zero
abbrev pub is_plain : List ℕ → Bool
is_plain w = all_digits w && not (has_leading_zero w)

-- a number from 0 to 2^63 without a leading zero
abbrev pub number_of : List ℕ → Result Word Problem
number_of w = elim (number0_word (2 ^ 63) w) [ Some n ↦ Ok (Number n) | None ↦ cond (is_plain w) (Err NumberRange) (Err BadNumber) ]

-- a keyword, or else a name, of a word that begins with a letter
abbrev pub name_of : List ℕ → Result Word Problem
name_of w = elim (keyword_among keywords w) [ Some m ↦ Ok (Mark m) | None ↦ cond (nat_le (length w) 16) (Ok (Name w)) (Err LongName) ]

-- what a whole word is
abbrev pub word_of : List ℕ → Result Word Problem
word_of [] = Err BadByte
word_of (c ∷ cs) = cond (is_letter c) (name_of (c ∷ cs)) (cond (is_digit c) (number_of (c ∷ cs)) (Err BadByte))

-- a token, and how many bytes it has
abbrev pub Found : Type 0
Found = Result (Word × ℕ) Problem

abbrev pub with_len : ℕ → Result Word Problem → Found
with_len n (Ok w) = Ok (w, n)
with_len n (Err e) = Err e

-- the longest sign at the front
abbrev pub sign_at : List ℕ → Found
sign_at bs = elim (sign_among signs bs) [ Some m ↦ Ok (Mark m, length (mark_text m)) | None ↦ Err BadByte ]

-- the token at the front: the longest word, or else the longest sign
unfoldable pub token_at : List ℕ → Found
token_at bs = cond (word_len bs == 0) (sign_at bs) (with_len (word_len bs) (word_of (take (word_len bs) bs)))
