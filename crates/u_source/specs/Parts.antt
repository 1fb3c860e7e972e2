-- The parts of a source, and which rule the next token chooses for each.
use Rattle.std.specs.Prelude.{List, [], ◌∷◌}
use Rattle.u_source.specs.declared.mark.Mark.{Mark}
use Rattle.u_source.specs.declared.mark.Mark.TheVariants as mark
use Rattle.u_source.specs.declared.rule.Rule.{Rule}
use Rattle.u_source.specs.declared.rule.Rule.TheVariants as rule
use Rattle.u_source.specs.declared.source_error.Expected.TheVariants as expected
use Rattle.u_source.specs.declared.part.Kind.{Kind}
use Rattle.u_source.specs.declared.part.Kind.TheVariants as kind
use Rattle.u_source.specs.declared.part.Stop.{Stop}
use Rattle.u_source.specs.declared.part.Stop.TheVariants as stop
use Rattle.u_source.specs.declared.part.Outcome.TheVariants as outcome
use Rattle.u_source.specs.declared.part.Row.{Row}
use Rattle.u_source.specs.declared.part.Fallback.{Fallback}
use Rattle.u_source.specs.declared.part.Fallback.TheVariants.{Goes, Wants}
use Rattle.u_source.specs.declared.part.Part.{Part}
use Rattle.u_source.specs.declared.part.Part.TheVariants.{Source, Procedures, SecondParameter, ThirdParameter, FourthParameter, FifthParameter, Name, Block, Items, IfEnd}
use Rattle.u_source.specs.declared.part.Part.TheVariants.{LoopEnd, AfterName, AfterValue, AfterIndex, AfterCall, Last, Else, AfterElse, Variables, Give}
use Rattle.u_source.specs.declared.part.Part.TheVariants.{Expression, Ors, Conjunction, Ands, Test, Comparison, Sum, Sums, Term, Terms}
use Rattle.u_source.specs.declared.part.Part.TheVariants.{Unary, Negated, Posts, SecondArgument, ThirdArgument, FourthArgument, FifthArgument, Primary}

-- this keyword or sign chooses this rule
abbrev pub on : Mark → Rule → Row
on m r = record { kind = kind.Sign m; outcome = outcome.Goes r }

-- a token of this kind chooses this rule
abbrev pub at : Kind → Rule → Row
at b r = record { kind = b; outcome = outcome.Goes r }

-- a token of this kind has no rule
abbrev pub not_at : Kind → Stop → Row
not_at b s = record { kind = b; outcome = outcome.Stops s }

-- what the next token chooses, by its kind
abbrev pub rows : Part → List Row
rows Source = []
rows Procedures = on mark.Def rule.Procedure ∷ []
rows SecondParameter = on mark.Comma rule.SecondParameter ∷ []
rows ThirdParameter = on mark.Comma rule.ThirdParameter ∷ []
rows FourthParameter = on mark.Comma rule.FourthParameter ∷ []
rows FifthParameter = not_at (kind.Sign mark.Comma) stop.MoreParameters ∷ []
rows Name = at kind.Name rule.Name ∷ []
rows Block = on mark.OpenBrace rule.Block ∷ []
rows Items =
    on mark.CloseBrace rule.Nothing ∷ on mark.Next rule.Next ∷ on mark.If rule.IfItem
    ∷ on mark.Loop rule.LoopItem ∷ on mark.For rule.ForItem ∷ at kind.Name rule.NameFirst
    ∷ at kind.Number rule.NumberFirst ∷ not_at kind.TwoTo63 stop.NumberRange
    ∷ on mark.True rule.TrueFirst ∷ on mark.False rule.FalseFirst
    ∷ on mark.OpenParenthesis rule.GroupFirst ∷ []
rows IfEnd = on mark.Semicolon rule.NextItem ∷ on mark.CloseBrace rule.Value ∷ []
rows LoopEnd = on mark.Semicolon rule.NextItem ∷ on mark.CloseBrace rule.Value ∷ []
rows AfterName =
    on mark.Becomes rule.Definition ∷ on mark.OpenBracket rule.IndexFirst
    ∷ on mark.OpenParenthesis rule.CallFirst ∷ []
rows AfterValue = on mark.OpenBracket rule.IndexFirst ∷ on mark.OpenParenthesis rule.CallFirst ∷ []
rows AfterIndex =
    on mark.Becomes rule.Write ∷ on mark.OpenBracket rule.IndexFirst
    ∷ on mark.OpenParenthesis rule.CallFirst ∷ []
rows AfterCall =
    on mark.Semicolon rule.Statement ∷ on mark.OpenBracket rule.IndexFirst
    ∷ on mark.OpenParenthesis rule.CallFirst ∷ []
rows Last = on mark.CloseBrace rule.Value ∷ not_at (kind.Sign mark.Semicolon) stop.Nowhere ∷ []
rows Else = on mark.Else rule.Else ∷ []
rows AfterElse = on mark.If rule.If ∷ on mark.OpenBrace rule.Block ∷ []
rows Variables = on mark.Comma rule.Variable ∷ []
rows Give = on mark.Give rule.Give ∷ []
rows Expression = []
rows Ors = on mark.Or rule.Or ∷ []
rows Conjunction = []
rows Ands = on mark.And rule.And ∷ []
rows Test = on mark.Not rule.Not ∷ []
rows Comparison =
    on mark.Less rule.Less ∷ on mark.AtMost rule.AtMost ∷ on mark.Greater rule.Greater
    ∷ on mark.AtLeast rule.AtLeast ∷ on mark.Equal rule.Equal ∷ on mark.Unequal rule.Unequal ∷ []
rows Sum = []
rows Sums = on mark.Plus rule.Add ∷ on mark.Minus rule.Subtract ∷ []
rows Term = []
rows Terms =
    on mark.Times rule.Multiply ∷ on mark.Divide rule.Divide ∷ on mark.Remainder rule.Remainder ∷ []
rows Unary = on mark.Minus rule.Minus ∷ on mark.Array rule.Array ∷ on mark.Length rule.Length ∷ []
rows Negated = at kind.Number rule.Negative ∷ at kind.TwoTo63 rule.Negative ∷ []
rows Posts = on mark.OpenBracket rule.Index ∷ on mark.OpenParenthesis rule.Call ∷ []
rows SecondArgument = on mark.Comma rule.SecondArgument ∷ []
rows ThirdArgument = on mark.Comma rule.ThirdArgument ∷ []
rows FourthArgument = on mark.Comma rule.FourthArgument ∷ []
rows FifthArgument = not_at (kind.Sign mark.Comma) stop.MoreArguments ∷ []
rows Primary =
    at kind.Number rule.Number ∷ not_at kind.TwoTo63 stop.NumberRange ∷ on mark.True rule.True
    ∷ on mark.False rule.False ∷ at kind.Name rule.Name ∷ on mark.OpenParenthesis rule.Group
    ∷ on mark.If rule.If ∷ on mark.Loop rule.Loop ∷ on mark.For rule.For ∷ []

-- what is done where the next token chooses nothing: another rule, or it is refused
abbrev pub otherwise : Part → Fallback
otherwise Source = Goes rule.Source
otherwise Procedures = Goes rule.Nothing
otherwise SecondParameter = Goes rule.Nothing
otherwise ThirdParameter = Goes rule.Nothing
otherwise FourthParameter = Goes rule.Nothing
otherwise FifthParameter = Goes rule.Nothing
otherwise Name = Wants expected.Name
otherwise Block = Wants (expected.Mark mark.OpenBrace)
otherwise Items = Goes rule.ValueFirst
otherwise IfEnd = Goes rule.NextItem
otherwise LoopEnd = Goes rule.NextItem
otherwise AfterName = Goes rule.Operators
otherwise AfterValue = Goes rule.Operators
otherwise AfterIndex = Goes rule.Operators
otherwise AfterCall = Goes rule.Operators
otherwise Last = Wants (expected.Mark mark.CloseBrace)
otherwise Else = Goes rule.NoElse
otherwise AfterElse = Wants (expected.Mark mark.OpenBrace)
otherwise Variables = Goes rule.Nothing
otherwise Give = Goes rule.NoGive
otherwise Expression = Goes rule.Expression
otherwise Ors = Goes rule.Nothing
otherwise Conjunction = Goes rule.Conjunction
otherwise Ands = Goes rule.Nothing
otherwise Test = Goes rule.Test
otherwise Comparison = Goes rule.Nothing
otherwise Sum = Goes rule.Sum
otherwise Sums = Goes rule.Nothing
otherwise Term = Goes rule.Term
otherwise Terms = Goes rule.Nothing
otherwise Unary = Goes rule.Unary
otherwise Negated = Goes rule.Negate
otherwise Posts = Goes rule.Nothing
otherwise SecondArgument = Goes rule.Nothing
otherwise ThirdArgument = Goes rule.Nothing
otherwise FourthArgument = Goes rule.Nothing
otherwise FifthArgument = Goes rule.Nothing
otherwise Primary = Wants expected.Expression
