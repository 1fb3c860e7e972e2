-- The line that counts the firings is read exactly.
use Rattle.std.specs.Prelude.{◌≡◌, ℕ, ◌-◌, ◌^◌, ◌<◌, List, ◌++◌, Some, None, Ok, Err, codes, refl}
use Rattle.std.proofs.Common.{sym, ◌∙◌, ap, arith}
use Rattle.std.proofs.lemmas.Option.{same_Some, none-some}
use Rattle.std.specs.Fmt.{decimal}
use Rattle.u_base.specs.Fixed.{fixed}
use Rattle.u_base.specs.WholeWords.{number0_word}
use Rattle.u_base.proofs.FixedLaws.{fixed_Reads}
use Rattle.u_base.proofs.WholeWordsLaws.{number0_word_sound, number0_word_complete}
use Rattle.u_delta.proofs.MessageLaws.{tails_are}
use Rattle.u_replica.specs.CheckpointText.{count_line}

behind : (line rest : List ℕ) → fixed (codes "end ") line ≡ Ok (tt, rest) → line ≡ codes "end " ++ rest
behind line rest h = ((fixed_Reads (codes "end ")).sound line tt rest h).1

pub counts : (line rest : List ℕ) (n : ℕ) → fixed (codes "end ") line ≡ Ok (tt, rest) → number0_word (2 ^ 64 - 1) rest ≡ Some n → line ≡ count_line n
counts line rest n h k = behind line rest h ∙ ap (λ t. codes "end " ++ t) (number0_word_sound (2 ^ 64 - 1) rest n (omega arith) (omega arith) k).1

digits_are : (rest : List ℕ) (n : ℕ) → codes "end " ++ rest ≡ count_line n → rest ≡ decimal n
digits_are rest n e = tails_are (tails_are (tails_are (tails_are e)))

read_as : (line rest : List ℕ) (n : ℕ) → n < 2 ^ 64 → fixed (codes "end ") line ≡ Ok (tt, rest) → line ≡ count_line n → number0_word (2 ^ 64 - 1) rest ≡ Some n
read_as line rest n h f e = ap (number0_word (2 ^ 64 - 1)) (digits_are rest n (sym (behind line rest f) ∙ e)) ∙ number0_word_complete (2 ^ 64 - 1) n (omega arith) (omega arith) (omega arith)

-- where another number is read, it is no such line
pub counts_other : (line rest : List ℕ) (m n : ℕ) → n < 2 ^ 64 → fixed (codes "end ") line ≡ Ok (tt, rest) → number0_word (2 ^ 64 - 1) rest ≡ Some m → line ≡ count_line n → m ≡ n
counts_other line rest m n h f k e = same_Some m n (sym k ∙ read_as line rest n h f e)

-- nor where none is
pub counts_none : (line rest : List ℕ) (n : ℕ) → n < 2 ^ 64 → fixed (codes "end ") line ≡ Ok (tt, rest) → number0_word (2 ^ 64 - 1) rest ≡ None → line ≡ count_line n → ⊥
counts_none line rest n h f k e = none-some n (sym k ∙ read_as line rest n h f e)

-- nor where it begins otherwise
pub counts_nothing : (line rest : List ℕ) (n : ℕ) → fixed (codes "end ") line ≡ Err rest → line ≡ count_line n → ⊥
counts_nothing line rest n f e = (fixed_Reads (codes "end ")).none line rest f tt (decimal n) refl e
