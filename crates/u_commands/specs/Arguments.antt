-- Arguments as words of the command line: `n` stands for a minus.
use Rattle.std.specs.Prelude.{◌≡◌, ℕ, suc, ◌-◌, ◌^◌, cond, ◌==◌, List, [], ◌∷◌, Option, Some, None, FitsSigned}
use Rattle.std.specs.Fmt.{decimal}
use Rattle.std.specs.Int.{w64}
use lib.IntN.{ℤ, pos, negsuc}
use Rattle.u_base.specs.WholeWords.{◌then◌, number0_word, negative_word}

-- the one spelling of a number
abbrev pub argument_text : ℤ → List ℕ
argument_text (pos n) = decimal n
argument_text (negsuc n) = 110 ∷ decimal (suc n)

pub record IsArgumentOf (word : List ℕ) (z : ℤ) : Type 0 where
  pub fits : FitsSigned w64 z
  pub is : word ≡ argument_text z

unfoldable pub argument_word : List ℕ → Option ℤ
argument_word [] = None
argument_word (c ∷ cs) = cond (c == 110) (negative_word cs) (number0_word (2 ^ 63 - 1) (c ∷ cs) then λ n. Some (pos n))
