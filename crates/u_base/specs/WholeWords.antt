-- What a whole word is read as: a number in a range, or a signed number of 64 bits.
use Rattle.std.specs.Prelude.{ℕ, ◌-◌, ◌^◌, Bool, cond, ◌==◌, List, [], ◌∷◌, Option, Some, None, Result, Ok, Err}
use lib.IntN.{ℤ, pos, negsuc}
use lib.Pointwise.{pointwise}
use denote.Ref.{Bor}
use Rattle.u_base.specs.Number.{number}
use Rattle.u_base.specs.Pieces.{words}

-- what is made of a value that there is
infixl 10 ◌then◌
abbrev pub ◌then◌ : {A B : Type 0} → Option A → (A → Option B) → Option B
(Some x) then f = f x
None then f = None

-- what is read of a whole word
abbrev pub whole : {X : Type 0} → Result (X × List ℕ) (List ℕ) → Option X
whole (Ok a) = elim a.1 [ [] ↦ Some a.0 | c ∷ r ↦ None ]
whole (Err e) = None

-- whether the word is this one
abbrev pub is : List ℕ → List ℕ → Bool
is w v = pointwise ◌==◌ w v

-- the words of what is left of a line; None is a line without another word
abbrev pub left_words : Option (Bor (List ℕ)) → List (List ℕ)
left_words None = []
left_words (Some r) = words r.now

-- a number from 1 to a greatest one
unfoldable pub number_word : ℕ → List ℕ → Option ℕ
number_word max w = whole (number max w)

-- a number from 0 to a greatest one
unfoldable pub number0_word : ℕ → List ℕ → Option ℕ
number0_word max w = cond (is w (48 ∷ [])) (Some 0) (number_word max w)

-- behind a minus, down to -2^63
abbrev pub negative_word : List ℕ → Option ℤ
negative_word cs = number_word (2 ^ 63) cs then λ n. Some (negsuc (n - 1))

-- a signed number of 64 bits
unfoldable pub signed_word : List ℕ → Option ℤ
signed_word [] = None
signed_word (c ∷ cs) = cond (c == 45) (negative_word cs) (number0_word (2 ^ 63 - 1) (c ∷ cs) then λ n. Some (pos n))
