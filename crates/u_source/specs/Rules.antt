-- The rules of the grammar: what a part of the source consists of, without the token that chose it.
use Rattle.std.specs.Prelude.{List, [], ◌∷◌}
use Rattle.u_source.specs.declared.mark.Mark.{Mark}
use Rattle.u_source.specs.declared.mark.Mark.TheVariants as mark
use Rattle.u_source.specs.declared.form.Form.{Form}
use Rattle.u_source.specs.declared.form.Form.TheVariants as form
use Rattle.u_source.specs.declared.part.Part.{Part}
use Rattle.u_source.specs.declared.part.Part.TheVariants as part
use Rattle.u_source.specs.declared.rule.Symbol.{Symbol}
use Rattle.u_source.specs.declared.rule.Symbol.TheVariants as symbol
use Rattle.u_source.specs.declared.rule.Rule.{Rule}
use Rattle.u_source.specs.declared.rule.Rule.TheVariants.{Nothing, Source, Procedure, SecondParameter, ThirdParameter, FourthParameter, Name, Block, Next, IfItem, LoopItem, ForItem, NameFirst, NumberFirst}
use Rattle.u_source.specs.declared.rule.Rule.TheVariants.{TrueFirst, FalseFirst, GroupFirst, ValueFirst, NextItem, Value, Definition, Write, Statement, IndexFirst, CallFirst, Operators, If, Else}
use Rattle.u_source.specs.declared.rule.Rule.TheVariants.{NoElse, Loop, For, Variable, Give, NoGive, Expression, Or, Conjunction, And, Test, Not, Less, AtMost}
use Rattle.u_source.specs.declared.rule.Rule.TheVariants.{Greater, AtLeast, Equal, Unequal, Sum, Add, Subtract, Term, Multiply, Divide, Remainder, Unary, Minus, Array}
use Rattle.u_source.specs.declared.rule.Rule.TheVariants.{Length, Negative, Negate, Index, Call, SecondArgument, ThirdArgument, FourthArgument, Number, True, False, Group}

-- a keyword or a sign
abbrev pub sign : Mark → Symbol
sign m = symbol.Sign m

-- a part of the source
abbrev pub a : Part → Symbol
a x = symbol.Part x

-- a part that is nested one level deeper
abbrev pub inner : Part → Symbol
inner x = symbol.Inner x

-- a node that is made here
abbrev pub make : Form → Symbol
make f = symbol.Make f

-- the right sides
abbrev pub symbols : Rule → List Symbol
symbols Nothing = []
symbols Source = make form.NoProcedures ∷ a part.Procedures ∷ []
symbols Procedure =
    a part.Name ∷ sign mark.OpenParenthesis ∷ make form.NoParameters ∷ a part.Name
    ∷ make form.AddParameter ∷ a part.SecondParameter ∷ sign mark.CloseParenthesis ∷ a part.Block
    ∷ make form.AddProcedure ∷ a part.Procedures ∷ []
symbols SecondParameter = a part.Name ∷ make form.AddParameter ∷ a part.ThirdParameter ∷ []
symbols ThirdParameter = a part.Name ∷ make form.AddParameter ∷ a part.FourthParameter ∷ []
symbols FourthParameter = a part.Name ∷ make form.AddParameter ∷ a part.FifthParameter ∷ []
symbols Name = make form.Name ∷ []
symbols Block = make form.NoItems ∷ a part.Items ∷ make form.Block ∷ []
symbols Next =
    a part.Name ∷ sign mark.Becomes ∷ a part.Expression ∷ sign mark.Semicolon ∷ make form.Next
    ∷ make form.AddItem ∷ a part.Items ∷ []
symbols IfItem =
    inner part.Expression ∷ inner part.Block ∷ inner part.Else ∷ make form.If ∷ a part.IfEnd ∷ []
symbols LoopItem =
    make form.NoVariables ∷ a part.Name ∷ sign mark.Becomes ∷ inner part.Expression
    ∷ make form.AddVariable ∷ inner part.Variables ∷ make form.Variables ∷ sign mark.While
    ∷ inner part.Expression ∷ inner part.Block ∷ inner part.Give ∷ make form.Loop ∷ a part.LoopEnd
    ∷ []
symbols ForItem =
    a part.Name ∷ sign mark.In ∷ inner part.Expression ∷ sign mark.Dots ∷ inner part.Expression
    ∷ make form.NoVariables ∷ inner part.Variables ∷ make form.Variables ∷ inner part.Block
    ∷ inner part.Give ∷ make form.For ∷ a part.LoopEnd ∷ []
symbols NameFirst = make form.Name ∷ a part.AfterName ∷ []
symbols NumberFirst = make form.Number ∷ a part.AfterValue ∷ []
symbols TrueFirst = make form.True ∷ a part.AfterValue ∷ []
symbols FalseFirst = make form.False ∷ a part.AfterValue ∷ []
symbols GroupFirst = inner part.Expression ∷ sign mark.CloseParenthesis ∷ a part.AfterValue ∷ []
symbols ValueFirst = a part.Expression ∷ a part.Last ∷ []
symbols NextItem = make form.AddItem ∷ a part.Items ∷ []
symbols Value = make form.AddValue ∷ []
symbols Definition =
    a part.Expression ∷ sign mark.Semicolon ∷ make form.Define ∷ make form.AddItem ∷ a part.Items
    ∷ []
symbols Write =
    a part.Expression ∷ sign mark.Semicolon ∷ make form.Write ∷ make form.AddItem ∷ a part.Items
    ∷ []
symbols Statement = make form.Statement ∷ make form.AddItem ∷ a part.Items ∷ []
symbols IndexFirst =
    inner part.Expression ∷ sign mark.CloseBracket ∷ make form.Index ∷ a part.AfterIndex ∷ []
symbols CallFirst =
    make form.NoArguments ∷ inner part.Expression ∷ make form.AddArgument
    ∷ inner part.SecondArgument ∷ sign mark.CloseParenthesis ∷ make form.Call ∷ a part.AfterCall
    ∷ []
symbols Operators =
    a part.Terms ∷ a part.Sums ∷ a part.Comparison ∷ a part.Ands ∷ a part.Ors ∷ a part.Last ∷ []
symbols If = inner part.Expression ∷ inner part.Block ∷ inner part.Else ∷ make form.If ∷ []
symbols Else = make form.Otherwise ∷ a part.AfterElse ∷ make form.Else ∷ []
symbols NoElse = make form.NoElse ∷ []
symbols Loop =
    make form.NoVariables ∷ a part.Name ∷ sign mark.Becomes ∷ inner part.Expression
    ∷ make form.AddVariable ∷ inner part.Variables ∷ make form.Variables ∷ sign mark.While
    ∷ inner part.Expression ∷ inner part.Block ∷ inner part.Give ∷ make form.Loop ∷ []
symbols For =
    a part.Name ∷ sign mark.In ∷ inner part.Expression ∷ sign mark.Dots ∷ inner part.Expression
    ∷ make form.NoVariables ∷ inner part.Variables ∷ make form.Variables ∷ inner part.Block
    ∷ inner part.Give ∷ make form.For ∷ []
symbols Variable =
    a part.Name ∷ sign mark.Becomes ∷ a part.Expression ∷ make form.AddVariable ∷ a part.Variables
    ∷ []
symbols Give = a part.Expression ∷ make form.Give ∷ []
symbols NoGive = make form.NoGive ∷ []
symbols Expression = a part.Conjunction ∷ a part.Ors ∷ []
symbols Or = a part.Conjunction ∷ make form.Or ∷ a part.Ors ∷ []
symbols Conjunction = a part.Test ∷ a part.Ands ∷ []
symbols And = a part.Test ∷ make form.And ∷ a part.Ands ∷ []
symbols Test = a part.Sum ∷ a part.Comparison ∷ []
symbols Not = inner part.Test ∷ make form.Not ∷ []
symbols Less = a part.Sum ∷ make form.Less ∷ []
symbols AtMost = a part.Sum ∷ make form.AtMost ∷ []
symbols Greater = a part.Sum ∷ make form.Greater ∷ []
symbols AtLeast = a part.Sum ∷ make form.AtLeast ∷ []
symbols Equal = a part.Sum ∷ make form.Equal ∷ []
symbols Unequal = a part.Sum ∷ make form.Unequal ∷ []
symbols Sum = a part.Term ∷ a part.Sums ∷ []
symbols Add = a part.Term ∷ make form.Add ∷ a part.Sums ∷ []
symbols Subtract = a part.Term ∷ make form.Subtract ∷ a part.Sums ∷ []
symbols Term = a part.Unary ∷ a part.Terms ∷ []
symbols Multiply = a part.Unary ∷ make form.Multiply ∷ a part.Terms ∷ []
symbols Divide = a part.Unary ∷ make form.Divide ∷ a part.Terms ∷ []
symbols Remainder = a part.Unary ∷ make form.Remainder ∷ a part.Terms ∷ []
symbols Unary = a part.Primary ∷ a part.Posts ∷ []
symbols Minus = inner part.Negated ∷ []
symbols Array = inner part.Unary ∷ make form.Array ∷ []
symbols Length = inner part.Unary ∷ make form.Length ∷ []
symbols Negative = make form.Negative ∷ a part.Posts ∷ []
symbols Negate = a part.Unary ∷ make form.Negate ∷ []
symbols Index = inner part.Expression ∷ sign mark.CloseBracket ∷ make form.Index ∷ a part.Posts ∷ []
symbols Call =
    make form.NoArguments ∷ inner part.Expression ∷ make form.AddArgument
    ∷ inner part.SecondArgument ∷ sign mark.CloseParenthesis ∷ make form.Call ∷ a part.Posts ∷ []
symbols SecondArgument = a part.Expression ∷ make form.AddArgument ∷ a part.ThirdArgument ∷ []
symbols ThirdArgument = a part.Expression ∷ make form.AddArgument ∷ a part.FourthArgument ∷ []
symbols FourthArgument = a part.Expression ∷ make form.AddArgument ∷ a part.FifthArgument ∷ []
symbols Number = make form.Number ∷ []
symbols True = make form.True ∷ []
symbols False = make form.False ∷ []
symbols Group = inner part.Expression ∷ sign mark.CloseParenthesis ∷ []
