-- How each part of a source ends soonest, and which kinds of tokens may stand behind it then.
use Rattle.std.proofs.Common.{◌≡◌, ℕ, ◌+◌, ◌<◌, Bool, true, false, ◌&&◌, List, [], ◌∷◌, Option, Some, None, refl, sym, subst, ◌⊎◌, inl, inr, lit<}
use Rattle.u_source.specs.declared.mark.Mark.{Mark}
use Rattle.u_source.specs.declared.mark.Mark.TheVariants as mark
use Rattle.u_source.specs.declared.part.Fallback.TheVariants as fallback
use Rattle.u_source.specs.declared.part.Kind.{Kind}
use Rattle.u_source.specs.declared.part.Kind.TheVariants as kind
use Rattle.u_source.specs.declared.part.Outcome.TheVariants as outcome
use Rattle.u_source.specs.declared.part.Part.{Part}
use Rattle.u_source.specs.declared.part.Part.TheVariants as part
use Rattle.u_source.specs.declared.rule.Rule.{Rule}
use Rattle.u_source.specs.declared.rule.Rule.TheVariants as rule
use Rattle.u_source.specs.declared.rule.Symbol.{Symbol}
use Rattle.u_source.specs.declared.rule.Symbol.TheVariants as symbol
use Rattle.u_source.specs.declared.token.Word.{Word}
use Rattle.u_source.specs.declared.token.Word.TheVariants as word
use Rattle.u_source.specs.Choosing.{is_kind, chosen, deepens}
use Rattle.u_source.specs.Derivations.{kind_of}
use Rattle.u_source.specs.Parts.{rows, otherwise}
use Rattle.u_source.specs.Rules.{symbols}
use Rattle.u_source.proofs.RuleLaws.{RowsHave, FallbackHas}

-- by these rules a part ends soonest
abbrev pub shortest : Part → Rule
shortest part.Source = rule.Source
shortest part.Procedures = rule.Nothing
shortest part.SecondParameter = rule.Nothing
shortest part.ThirdParameter = rule.Nothing
shortest part.FourthParameter = rule.Nothing
shortest part.FifthParameter = rule.Nothing
shortest part.Name = rule.Name
shortest part.Block = rule.Block
shortest part.Items = rule.Nothing
shortest part.IfEnd = rule.Value
shortest part.LoopEnd = rule.Value
shortest part.AfterName = rule.Operators
shortest part.AfterValue = rule.Operators
shortest part.AfterIndex = rule.Operators
shortest part.AfterCall = rule.Operators
shortest part.Last = rule.Value
shortest part.Else = rule.NoElse
shortest part.AfterElse = rule.Block
shortest part.Variables = rule.Nothing
shortest part.Give = rule.NoGive
shortest part.Expression = rule.Expression
shortest part.Ors = rule.Nothing
shortest part.Conjunction = rule.Conjunction
shortest part.Ands = rule.Nothing
shortest part.Test = rule.Test
shortest part.Comparison = rule.Nothing
shortest part.Sum = rule.Sum
shortest part.Sums = rule.Nothing
shortest part.Term = rule.Term
shortest part.Terms = rule.Nothing
shortest part.Unary = rule.Unary
shortest part.Negated = rule.Negate
shortest part.Posts = rule.Nothing
shortest part.SecondArgument = rule.Nothing
shortest part.ThirdArgument = rule.Nothing
shortest part.FourthArgument = rule.Nothing
shortest part.FifthArgument = rule.Nothing
shortest part.Primary = rule.Name

abbrev pub a_name : Word
a_name = word.Name (97 ∷ [])

-- the token that chooses that rule, if one does
abbrev pub opens : Part → Option Word
opens part.Source = None
opens part.Procedures = None
opens part.SecondParameter = None
opens part.ThirdParameter = None
opens part.FourthParameter = None
opens part.FifthParameter = None
opens part.Name = Some a_name
opens part.Block = Some (word.Mark mark.OpenBrace)
opens part.Items = Some (word.Mark mark.CloseBrace)
opens part.IfEnd = Some (word.Mark mark.CloseBrace)
opens part.LoopEnd = Some (word.Mark mark.CloseBrace)
opens part.AfterName = None
opens part.AfterValue = None
opens part.AfterIndex = None
opens part.AfterCall = None
opens part.Last = Some (word.Mark mark.CloseBrace)
opens part.Else = None
opens part.AfterElse = Some (word.Mark mark.OpenBrace)
opens part.Variables = None
opens part.Give = None
opens part.Expression = None
opens part.Ors = None
opens part.Conjunction = None
opens part.Ands = None
opens part.Test = None
opens part.Comparison = None
opens part.Sum = None
opens part.Sums = None
opens part.Term = None
opens part.Terms = None
opens part.Unary = None
opens part.Negated = None
opens part.Posts = None
opens part.SecondArgument = None
opens part.ThirdArgument = None
opens part.FourthArgument = None
opens part.FifthArgument = None
opens part.Primary = Some a_name

-- the kind of the first token of a part that ends soonest, if it has any
abbrev pub first_of : Part → Option Kind
first_of part.Source = None
first_of part.Procedures = None
first_of part.SecondParameter = None
first_of part.ThirdParameter = None
first_of part.FourthParameter = None
first_of part.FifthParameter = None
first_of part.Name = Some kind.Name
first_of part.Block = Some (kind.Sign mark.OpenBrace)
first_of part.Items = Some (kind.Sign mark.CloseBrace)
first_of part.IfEnd = Some (kind.Sign mark.CloseBrace)
first_of part.LoopEnd = Some (kind.Sign mark.CloseBrace)
first_of part.AfterName = Some (kind.Sign mark.CloseBrace)
first_of part.AfterValue = Some (kind.Sign mark.CloseBrace)
first_of part.AfterIndex = Some (kind.Sign mark.CloseBrace)
first_of part.AfterCall = Some (kind.Sign mark.CloseBrace)
first_of part.Last = Some (kind.Sign mark.CloseBrace)
first_of part.Else = None
first_of part.AfterElse = Some (kind.Sign mark.OpenBrace)
first_of part.Variables = None
first_of part.Give = None
first_of part.Expression = Some kind.Name
first_of part.Ors = None
first_of part.Conjunction = Some kind.Name
first_of part.Ands = None
first_of part.Test = Some kind.Name
first_of part.Comparison = None
first_of part.Sum = Some kind.Name
first_of part.Sums = None
first_of part.Term = Some kind.Name
first_of part.Terms = None
first_of part.Unary = Some kind.Name
first_of part.Negated = Some kind.Name
first_of part.Posts = None
first_of part.SecondArgument = None
first_of part.ThirdArgument = None
first_of part.FourthArgument = None
first_of part.FifthArgument = None
first_of part.Primary = Some kind.Name

-- how many steps such a part takes
abbrev pub steps_of : Part → ℕ
steps_of part.Source = 3
steps_of part.Procedures = 1
steps_of part.SecondParameter = 1
steps_of part.ThirdParameter = 1
steps_of part.FourthParameter = 1
steps_of part.FifthParameter = 1
steps_of part.Name = 2
steps_of part.Block = 4
steps_of part.Items = 1
steps_of part.IfEnd = 2
steps_of part.LoopEnd = 2
steps_of part.AfterName = 8
steps_of part.AfterValue = 8
steps_of part.AfterIndex = 8
steps_of part.AfterCall = 8
steps_of part.Last = 2
steps_of part.Else = 2
steps_of part.AfterElse = 4
steps_of part.Variables = 1
steps_of part.Give = 2
steps_of part.Expression = 14
steps_of part.Ors = 1
steps_of part.Conjunction = 12
steps_of part.Ands = 1
steps_of part.Test = 10
steps_of part.Comparison = 1
steps_of part.Sum = 8
steps_of part.Sums = 1
steps_of part.Term = 6
steps_of part.Terms = 1
steps_of part.Unary = 4
steps_of part.Negated = 6
steps_of part.Posts = 1
steps_of part.SecondArgument = 1
steps_of part.ThirdArgument = 1
steps_of part.FourthArgument = 1
steps_of part.FifthArgument = 1
steps_of part.Primary = 2

abbrev pub or_first : Option Kind → Kind → Kind
or_first None k = k
or_first (Some j) k = j

abbrev pub first_by : Symbol → Kind → Kind
first_by (symbol.Sign m) k = kind.Sign m
first_by (symbol.Part x) k = or_first (first_of x) k
first_by (symbol.Inner x) k = or_first (first_of x) k
first_by (symbol.Make f) k = k

-- the kind of the first token of some symbols that end soonest, where a token of the kind k stands behind them
abbrev pub first_in : List Symbol → Kind → Kind
first_in [] k = k
first_in (s ∷ ss) k = first_by s (first_in ss k)

abbrev pub steps_by : Symbol → ℕ
steps_by (symbol.Sign m) = 1
steps_by (symbol.Part x) = steps_of x
steps_by (symbol.Inner x) = steps_of x
steps_by (symbol.Make f) = 1

abbrev pub steps_in : List Symbol → ℕ
steps_in [] = 0
steps_in (s ∷ ss) = steps_by s + steps_in ss

-- kinds of tokens behind a part
pub data Behind : Type 0 where
  BehindValue : Behind
  BehindBlock : Behind
  BehindParameter : Behind
  BehindVariable : Behind
  AtEnd : Behind
  BehindName : Behind

abbrev pub behind : Part → Behind
behind part.Source = AtEnd
behind part.Procedures = AtEnd
behind part.SecondParameter = BehindParameter
behind part.ThirdParameter = BehindParameter
behind part.FourthParameter = BehindParameter
behind part.FifthParameter = BehindParameter
behind part.Name = BehindName
behind part.Block = BehindBlock
behind part.Items = BehindBlock
behind part.IfEnd = BehindBlock
behind part.LoopEnd = BehindBlock
behind part.AfterName = BehindBlock
behind part.AfterValue = BehindBlock
behind part.AfterIndex = BehindBlock
behind part.AfterCall = BehindBlock
behind part.Last = BehindBlock
behind part.Else = BehindValue
behind part.AfterElse = BehindValue
behind part.Variables = BehindVariable
behind part.Give = BehindValue
behind part.Expression = BehindValue
behind part.Ors = BehindValue
behind part.Conjunction = BehindValue
behind part.Ands = BehindValue
behind part.Test = BehindValue
behind part.Comparison = BehindValue
behind part.Sum = BehindValue
behind part.Sums = BehindValue
behind part.Term = BehindValue
behind part.Terms = BehindValue
behind part.Unary = BehindValue
behind part.Negated = BehindValue
behind part.Posts = BehindValue
behind part.SecondArgument = BehindParameter
behind part.ThirdArgument = BehindParameter
behind part.FourthArgument = BehindParameter
behind part.FifthArgument = BehindParameter
behind part.Primary = BehindValue

abbrev pub members : Behind → List Kind
members BehindValue = (kind.Sign mark.CloseParenthesis) ∷ (kind.Sign mark.CloseBracket) ∷ (kind.Sign mark.CloseBrace) ∷ (kind.Sign mark.Semicolon) ∷ (kind.Sign mark.Dots) ∷ (kind.Sign mark.While) ∷ (kind.Sign mark.OpenBrace) ∷ []
members BehindBlock = (kind.Sign mark.CloseParenthesis) ∷ (kind.Sign mark.CloseBracket) ∷ (kind.Sign mark.CloseBrace) ∷ (kind.Sign mark.Semicolon) ∷ (kind.Sign mark.Dots) ∷ (kind.Sign mark.While) ∷ (kind.Sign mark.OpenBrace) ∷ kind.End ∷ []
members BehindParameter = (kind.Sign mark.CloseParenthesis) ∷ []
members BehindVariable = (kind.Sign mark.While) ∷ (kind.Sign mark.OpenBrace) ∷ []
members AtEnd = kind.End ∷ []
members BehindName = (kind.Sign mark.OpenParenthesis) ∷ (kind.Sign mark.CloseParenthesis) ∷ (kind.Sign mark.Becomes) ∷ (kind.Sign mark.In) ∷ []

abbrev pub within : Behind → Kind → Bool
within BehindValue (kind.Sign mark.CloseParenthesis) = true
within BehindValue (kind.Sign mark.CloseBracket) = true
within BehindValue (kind.Sign mark.CloseBrace) = true
within BehindValue (kind.Sign mark.Semicolon) = true
within BehindValue (kind.Sign mark.Dots) = true
within BehindValue (kind.Sign mark.While) = true
within BehindValue (kind.Sign mark.OpenBrace) = true
within BehindBlock (kind.Sign mark.CloseParenthesis) = true
within BehindBlock (kind.Sign mark.CloseBracket) = true
within BehindBlock (kind.Sign mark.CloseBrace) = true
within BehindBlock (kind.Sign mark.Semicolon) = true
within BehindBlock (kind.Sign mark.Dots) = true
within BehindBlock (kind.Sign mark.While) = true
within BehindBlock (kind.Sign mark.OpenBrace) = true
within BehindBlock kind.End = true
within BehindParameter (kind.Sign mark.CloseParenthesis) = true
within BehindVariable (kind.Sign mark.While) = true
within BehindVariable (kind.Sign mark.OpenBrace) = true
within AtEnd kind.End = true
within BehindName (kind.Sign mark.OpenParenthesis) = true
within BehindName (kind.Sign mark.CloseParenthesis) = true
within BehindName (kind.Sign mark.Becomes) = true
within BehindName (kind.Sign mark.In) = true
within s k = false

abbrev pub Among : Kind → List Kind → Type 0
Among k [] = ⊥
Among k (j ∷ js) = (k ≡ j) ⊎ Among k js

pub within_members : (s : Behind) (k : Kind) → within s k ≡ true → Among k (members s)
within_members BehindValue (kind.Sign mark.CloseParenthesis) h = inl refl
within_members BehindValue (kind.Sign mark.CloseBracket) h = inr (inl refl)
within_members BehindValue (kind.Sign mark.CloseBrace) h = inr (inr (inl refl))
within_members BehindValue (kind.Sign mark.Semicolon) h = inr (inr (inr (inl refl)))
within_members BehindValue (kind.Sign mark.Dots) h = inr (inr (inr (inr (inl refl))))
within_members BehindValue (kind.Sign mark.While) h = inr (inr (inr (inr (inr (inl refl)))))
within_members BehindValue (kind.Sign mark.OpenBrace) h = inr (inr (inr (inr (inr (inr (inl refl))))))
within_members BehindBlock (kind.Sign mark.CloseParenthesis) h = inl refl
within_members BehindBlock (kind.Sign mark.CloseBracket) h = inr (inl refl)
within_members BehindBlock (kind.Sign mark.CloseBrace) h = inr (inr (inl refl))
within_members BehindBlock (kind.Sign mark.Semicolon) h = inr (inr (inr (inl refl)))
within_members BehindBlock (kind.Sign mark.Dots) h = inr (inr (inr (inr (inl refl))))
within_members BehindBlock (kind.Sign mark.While) h = inr (inr (inr (inr (inr (inl refl)))))
within_members BehindBlock (kind.Sign mark.OpenBrace) h = inr (inr (inr (inr (inr (inr (inl refl))))))
within_members BehindBlock kind.End h = inr (inr (inr (inr (inr (inr (inr (inl refl)))))))
within_members BehindParameter (kind.Sign mark.CloseParenthesis) h = inl refl
within_members BehindVariable (kind.Sign mark.While) h = inl refl
within_members BehindVariable (kind.Sign mark.OpenBrace) h = inr (inl refl)
within_members AtEnd kind.End h = inl refl
within_members BehindName (kind.Sign mark.OpenParenthesis) h = inl refl
within_members BehindName (kind.Sign mark.CloseParenthesis) h = inr (inl refl)
within_members BehindName (kind.Sign mark.Becomes) h = inr (inr (inl refl))
within_members BehindName (kind.Sign mark.In) h = inr (inr (inr (inl refl)))
within_members s k h = cc

abbrev pub follow_ok : Symbol → Kind → Bool
follow_ok (symbol.Sign m) k = true
follow_ok (symbol.Part x) k = within (behind x) k
follow_ok (symbol.Inner x) k = within (behind x) k
follow_ok (symbol.Make f) k = true

-- what stands behind each part, where all end soonest, does not go on with it
abbrev pub good_in : List Symbol → Kind → Bool
good_in [] k = true
good_in (s ∷ ss) k = follow_ok s (first_in ss k) && good_in ss k

abbrev pub all_good : List Symbol → List Kind → Bool
all_good ss [] = true
all_good ss (k ∷ ks) = good_in ss k && all_good ss ks

abbrev pub RuleGood : Part → Rule → Type 0
RuleGood x r = all_good (symbols r) (members (behind x)) ≡ true

pub rows_good : (x : Part) → RowsHave RuleGood x (rows x)
rows_good part.Source = tt
rows_good part.Procedures = (refl, tt)
rows_good part.SecondParameter = (refl, tt)
rows_good part.ThirdParameter = (refl, tt)
rows_good part.FourthParameter = (refl, tt)
rows_good part.FifthParameter = (tt, tt)
rows_good part.Name = (refl, tt)
rows_good part.Block = (refl, tt)
rows_good part.Items = (refl, (refl, (refl, (refl, (refl, (refl, (refl, (tt, (refl, (refl, (refl, tt)))))))))))
rows_good part.IfEnd = (refl, (refl, tt))
rows_good part.LoopEnd = (refl, (refl, tt))
rows_good part.AfterName = (refl, (refl, (refl, tt)))
rows_good part.AfterValue = (refl, (refl, tt))
rows_good part.AfterIndex = (refl, (refl, (refl, tt)))
rows_good part.AfterCall = (refl, (refl, (refl, tt)))
rows_good part.Last = (refl, (tt, tt))
rows_good part.Else = (refl, tt)
rows_good part.AfterElse = (refl, (refl, tt))
rows_good part.Variables = (refl, tt)
rows_good part.Give = (refl, tt)
rows_good part.Expression = tt
rows_good part.Ors = (refl, tt)
rows_good part.Conjunction = tt
rows_good part.Ands = (refl, tt)
rows_good part.Test = (refl, tt)
rows_good part.Comparison = (refl, (refl, (refl, (refl, (refl, (refl, tt))))))
rows_good part.Sum = tt
rows_good part.Sums = (refl, (refl, tt))
rows_good part.Term = tt
rows_good part.Terms = (refl, (refl, (refl, tt)))
rows_good part.Unary = (refl, (refl, (refl, tt)))
rows_good part.Negated = (refl, (refl, tt))
rows_good part.Posts = (refl, (refl, tt))
rows_good part.SecondArgument = (refl, tt)
rows_good part.ThirdArgument = (refl, tt)
rows_good part.FourthArgument = (refl, tt)
rows_good part.FifthArgument = (tt, tt)
rows_good part.Primary = (refl, (tt, (refl, (refl, (refl, (refl, (refl, (refl, (refl, tt)))))))))

pub fallback_good : (x : Part) → FallbackHas RuleGood x (otherwise x)
fallback_good part.Source = refl
fallback_good part.Procedures = refl
fallback_good part.SecondParameter = refl
fallback_good part.ThirdParameter = refl
fallback_good part.FourthParameter = refl
fallback_good part.FifthParameter = refl
fallback_good part.Name = tt
fallback_good part.Block = tt
fallback_good part.Items = refl
fallback_good part.IfEnd = refl
fallback_good part.LoopEnd = refl
fallback_good part.AfterName = refl
fallback_good part.AfterValue = refl
fallback_good part.AfterIndex = refl
fallback_good part.AfterCall = refl
fallback_good part.Last = tt
fallback_good part.Else = refl
fallback_good part.AfterElse = tt
fallback_good part.Variables = refl
fallback_good part.Give = refl
fallback_good part.Expression = refl
fallback_good part.Ors = refl
fallback_good part.Conjunction = refl
fallback_good part.Ands = refl
fallback_good part.Test = refl
fallback_good part.Comparison = refl
fallback_good part.Sum = refl
fallback_good part.Sums = refl
fallback_good part.Term = refl
fallback_good part.Terms = refl
fallback_good part.Unary = refl
fallback_good part.Negated = refl
fallback_good part.Posts = refl
fallback_good part.SecondArgument = refl
fallback_good part.ThirdArgument = refl
fallback_good part.FourthArgument = refl
fallback_good part.FifthArgument = refl
fallback_good part.Primary = tt

pub shortest_good : (x : Part) → RuleGood x (shortest x)
shortest_good part.Source = refl
shortest_good part.Procedures = refl
shortest_good part.SecondParameter = refl
shortest_good part.ThirdParameter = refl
shortest_good part.FourthParameter = refl
shortest_good part.FifthParameter = refl
shortest_good part.Name = refl
shortest_good part.Block = refl
shortest_good part.Items = refl
shortest_good part.IfEnd = refl
shortest_good part.LoopEnd = refl
shortest_good part.AfterName = refl
shortest_good part.AfterValue = refl
shortest_good part.AfterIndex = refl
shortest_good part.AfterCall = refl
shortest_good part.Last = refl
shortest_good part.Else = refl
shortest_good part.AfterElse = refl
shortest_good part.Variables = refl
shortest_good part.Give = refl
shortest_good part.Expression = refl
shortest_good part.Ors = refl
shortest_good part.Conjunction = refl
shortest_good part.Ands = refl
shortest_good part.Test = refl
shortest_good part.Comparison = refl
shortest_good part.Sum = refl
shortest_good part.Sums = refl
shortest_good part.Term = refl
shortest_good part.Terms = refl
shortest_good part.Unary = refl
shortest_good part.Negated = refl
shortest_good part.Posts = refl
shortest_good part.SecondArgument = refl
shortest_good part.ThirdArgument = refl
shortest_good part.FourthArgument = refl
shortest_good part.FifthArgument = refl
shortest_good part.Primary = refl

pub steps_less : (x : Part) → steps_in (symbols (shortest x)) < steps_of x
steps_less part.Source = lit< tt
steps_less part.Procedures = lit< tt
steps_less part.SecondParameter = lit< tt
steps_less part.ThirdParameter = lit< tt
steps_less part.FourthParameter = lit< tt
steps_less part.FifthParameter = lit< tt
steps_less part.Name = lit< tt
steps_less part.Block = lit< tt
steps_less part.Items = lit< tt
steps_less part.IfEnd = lit< tt
steps_less part.LoopEnd = lit< tt
steps_less part.AfterName = lit< tt
steps_less part.AfterValue = lit< tt
steps_less part.AfterIndex = lit< tt
steps_less part.AfterCall = lit< tt
steps_less part.Last = lit< tt
steps_less part.Else = lit< tt
steps_less part.AfterElse = lit< tt
steps_less part.Variables = lit< tt
steps_less part.Give = lit< tt
steps_less part.Expression = lit< tt
steps_less part.Ors = lit< tt
steps_less part.Conjunction = lit< tt
steps_less part.Ands = lit< tt
steps_less part.Test = lit< tt
steps_less part.Comparison = lit< tt
steps_less part.Sum = lit< tt
steps_less part.Sums = lit< tt
steps_less part.Term = lit< tt
steps_less part.Terms = lit< tt
steps_less part.Unary = lit< tt
steps_less part.Negated = lit< tt
steps_less part.Posts = lit< tt
steps_less part.SecondArgument = lit< tt
steps_less part.ThirdArgument = lit< tt
steps_less part.FourthArgument = lit< tt
steps_less part.FifthArgument = lit< tt
steps_less part.Primary = lit< tt

-- no token of these kinds chooses anything
abbrev pub NoneChosen : Part → List Kind → Type 0
NoneChosen x [] = Unit {0}
NoneChosen x (k ∷ ks) = (chosen x (or_first (first_of x) k) ≡ None) × NoneChosen x ks

pub none_chosen : (x : Part) (k : Kind) (ks : List Kind) → NoneChosen x ks → Among k ks → chosen x (or_first (first_of x) k) ≡ None
none_chosen x k [] h m = absurd m
none_chosen x k (j ∷ js) h (inl e) = subst (λ z. chosen x (or_first (first_of x) z) ≡ None) (sym e) h.0
none_chosen x k (j ∷ js) h (inr m) = none_chosen x k js h.1 m

-- how the shortest rule of a part is chosen
abbrev pub Opens : Part → Option Word → Type 0
Opens x None = (otherwise x ≡ fallback.Goes (shortest x)) × NoneChosen x (members (behind x)) × ((k : Kind) → or_first (first_of x) k ≡ first_in (symbols (shortest x)) k)
Opens x (Some w) = (chosen x (kind_of w) ≡ Some (outcome.Goes (shortest x))) × (deepens (symbols (shortest x)) ≡ false) × (first_of x ≡ Some (kind_of w))

pub opened : (x : Part) → Opens x (opens x)
opened part.Source = (refl, (refl, tt), λ k. refl)
opened part.Procedures = (refl, (refl, tt), λ k. refl)
opened part.SecondParameter = (refl, (refl, tt), λ k. refl)
opened part.ThirdParameter = (refl, (refl, tt), λ k. refl)
opened part.FourthParameter = (refl, (refl, tt), λ k. refl)
opened part.FifthParameter = (refl, (refl, tt), λ k. refl)
opened part.Name = (refl, refl, refl)
opened part.Block = (refl, refl, refl)
opened part.Items = (refl, refl, refl)
opened part.IfEnd = (refl, refl, refl)
opened part.LoopEnd = (refl, refl, refl)
opened part.AfterName = (refl, (refl, (refl, (refl, (refl, (refl, (refl, (refl, (refl, tt)))))))), λ k. refl)
opened part.AfterValue = (refl, (refl, (refl, (refl, (refl, (refl, (refl, (refl, (refl, tt)))))))), λ k. refl)
opened part.AfterIndex = (refl, (refl, (refl, (refl, (refl, (refl, (refl, (refl, (refl, tt)))))))), λ k. refl)
opened part.AfterCall = (refl, (refl, (refl, (refl, (refl, (refl, (refl, (refl, (refl, tt)))))))), λ k. refl)
opened part.Last = (refl, refl, refl)
opened part.Else = (refl, (refl, (refl, (refl, (refl, (refl, (refl, (refl, tt))))))), λ k. refl)
opened part.AfterElse = (refl, refl, refl)
opened part.Variables = (refl, (refl, (refl, tt)), λ k. refl)
opened part.Give = (refl, (refl, (refl, (refl, (refl, (refl, (refl, (refl, tt))))))), λ k. refl)
opened part.Expression = (refl, (refl, (refl, (refl, (refl, (refl, (refl, (refl, tt))))))), λ k. refl)
opened part.Ors = (refl, (refl, (refl, (refl, (refl, (refl, (refl, (refl, tt))))))), λ k. refl)
opened part.Conjunction = (refl, (refl, (refl, (refl, (refl, (refl, (refl, (refl, tt))))))), λ k. refl)
opened part.Ands = (refl, (refl, (refl, (refl, (refl, (refl, (refl, (refl, tt))))))), λ k. refl)
opened part.Test = (refl, (refl, (refl, (refl, (refl, (refl, (refl, (refl, tt))))))), λ k. refl)
opened part.Comparison = (refl, (refl, (refl, (refl, (refl, (refl, (refl, (refl, tt))))))), λ k. refl)
opened part.Sum = (refl, (refl, (refl, (refl, (refl, (refl, (refl, (refl, tt))))))), λ k. refl)
opened part.Sums = (refl, (refl, (refl, (refl, (refl, (refl, (refl, (refl, tt))))))), λ k. refl)
opened part.Term = (refl, (refl, (refl, (refl, (refl, (refl, (refl, (refl, tt))))))), λ k. refl)
opened part.Terms = (refl, (refl, (refl, (refl, (refl, (refl, (refl, (refl, tt))))))), λ k. refl)
opened part.Unary = (refl, (refl, (refl, (refl, (refl, (refl, (refl, (refl, tt))))))), λ k. refl)
opened part.Negated = (refl, (refl, (refl, (refl, (refl, (refl, (refl, (refl, tt))))))), λ k. refl)
opened part.Posts = (refl, (refl, (refl, (refl, (refl, (refl, (refl, (refl, tt))))))), λ k. refl)
opened part.SecondArgument = (refl, (refl, tt), λ k. refl)
opened part.ThirdArgument = (refl, (refl, tt), λ k. refl)
opened part.FourthArgument = (refl, (refl, tt), λ k. refl)
opened part.FifthArgument = (refl, (refl, tt), λ k. refl)
opened part.Primary = (refl, refl, refl)

pub same_mark : (m : Mark) → is_kind (kind.Sign m) (kind.Sign m) ≡ true
same_mark mark.Def = refl
same_mark mark.If = refl
same_mark mark.Else = refl
same_mark mark.Loop = refl
same_mark mark.While = refl
same_mark mark.For = refl
same_mark mark.In = refl
same_mark mark.Next = refl
same_mark mark.Give = refl
same_mark mark.Array = refl
same_mark mark.Length = refl
same_mark mark.And = refl
same_mark mark.Or = refl
same_mark mark.Not = refl
same_mark mark.True = refl
same_mark mark.False = refl
same_mark mark.Dots = refl
same_mark mark.AtMost = refl
same_mark mark.AtLeast = refl
same_mark mark.Equal = refl
same_mark mark.Unequal = refl
same_mark mark.OpenParenthesis = refl
same_mark mark.CloseParenthesis = refl
same_mark mark.OpenBrace = refl
same_mark mark.CloseBrace = refl
same_mark mark.OpenBracket = refl
same_mark mark.CloseBracket = refl
same_mark mark.Comma = refl
same_mark mark.Semicolon = refl
same_mark mark.Becomes = refl
same_mark mark.Plus = refl
same_mark mark.Minus = refl
same_mark mark.Times = refl
same_mark mark.Divide = refl
same_mark mark.Remainder = refl
same_mark mark.Less = refl
same_mark mark.Greater = refl
