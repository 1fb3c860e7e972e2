-- A parser ends: with each step the symbols weigh less, or a token is taken.
use Rattle.std.proofs.Common.{◌≡◌, ℕ, ◌+◌, ◌*◌, ◌<◌, ◌≤◌, Bool, true, false, cond, List, [], ◌∷◌, ◌++◌, length, Option, Some, None, Result, Ok, Err, refl, sym, ◌∙◌, subst, arith, lit<, lit≤}
use Rattle.u_source.specs.declared.choosing.Placed.{Placed}
use Rattle.u_source.specs.declared.choosing.Step.{Step}
use Rattle.u_source.specs.declared.part.Fallback.{Fallback}
use Rattle.u_source.specs.declared.part.Fallback.TheVariants as fallback
use Rattle.u_source.specs.declared.part.Kind.{Kind}
use Rattle.u_source.specs.declared.part.Kind.TheVariants as kind
use Rattle.u_source.specs.declared.part.Outcome.{Outcome}
use Rattle.u_source.specs.declared.part.Outcome.TheVariants as outcome
use Rattle.u_source.specs.declared.part.Row.{Row}
use Rattle.u_source.specs.declared.part.Stop.{Stop}
use Rattle.u_source.specs.declared.rule.Rule.{Rule}
use Rattle.u_source.specs.declared.rule.Rule.TheVariants as rule
use Rattle.u_source.specs.declared.rule.Symbol.{Symbol}
use Rattle.u_source.specs.declared.rule.Symbol.TheVariants as symbol
use Rattle.u_source.specs.declared.part.Part.{Part}
use Rattle.u_source.specs.declared.part.Part.TheVariants.{Source, Procedures, SecondParameter, ThirdParameter, FourthParameter, FifthParameter, Name, Block, Items, IfEnd}
use Rattle.u_source.specs.declared.part.Part.TheVariants.{LoopEnd, AfterName, AfterValue, AfterIndex, AfterCall, Last, Else, AfterElse, Variables, Give}
use Rattle.u_source.specs.declared.part.Part.TheVariants.{Expression, Ors, Conjunction, Ands, Test, Comparison, Sum, Sums, Term, Terms}
use Rattle.u_source.specs.declared.part.Part.TheVariants.{Unary, Negated, Posts, SecondArgument, ThirdArgument, FourthArgument, FifthArgument, Primary}
use Rattle.u_source.specs.Choosing.{is_kind, outcome_among, chosen, goes, step_by_fallback, step_by, symbol_step}
use Rattle.u_source.specs.Derivations.{kind_of, kind_next, all_placed}
use Rattle.u_source.specs.Parts.{rows, otherwise}
use Rattle.u_source.specs.Rules.{symbols}
use Rattle.u_source.specs.Tokens.{TokenParts}

-- more than all symbols that a fallback brings
abbrev pub weight : Part → ℕ
weight Source = 3
weight Procedures = 1
weight SecondParameter = 1
weight ThirdParameter = 1
weight FourthParameter = 1
weight FifthParameter = 1
weight Name = 1
weight Block = 1
weight Items = 15
weight IfEnd = 17
weight LoopEnd = 17
weight AfterName = 7
weight AfterValue = 7
weight AfterIndex = 7
weight AfterCall = 7
weight Last = 1
weight Else = 2
weight AfterElse = 1
weight Variables = 1
weight Give = 2
weight Expression = 13
weight Ors = 1
weight Conjunction = 11
weight Ands = 1
weight Test = 9
weight Comparison = 1
weight Sum = 7
weight Sums = 1
weight Term = 5
weight Terms = 1
weight Unary = 3
weight Negated = 5
weight Posts = 1
weight SecondArgument = 1
weight ThirdArgument = 1
weight FourthArgument = 1
weight FifthArgument = 1
weight Primary = 1

abbrev pub symbol_weight : Symbol → ℕ
symbol_weight (symbol.Sign m) = 1
symbol_weight (symbol.Part x) = weight x
symbol_weight (symbol.Inner x) = weight x
symbol_weight (symbol.Make f) = 1

abbrev pub symbols_weigh : List Symbol → ℕ
symbols_weigh [] = 0
symbols_weigh (s ∷ ss) = symbol_weight s + symbols_weigh ss

abbrev pub stack_weighs : List Placed → ℕ
stack_weighs [] = 0
stack_weighs (s ∷ ss) = symbol_weight s.symbol + stack_weighs ss

-- what falls from step to step
abbrev pub left_to_do : List Placed → ℕ → ℕ
left_to_do ss tokens = stack_weighs ss + 100 * tokens

pub rule_weighs : (r : Rule) → symbols_weigh (symbols r) < 100
rule_weighs rule.Nothing = lit< tt
rule_weighs rule.Source = lit< tt
rule_weighs rule.Procedure = lit< tt
rule_weighs rule.SecondParameter = lit< tt
rule_weighs rule.ThirdParameter = lit< tt
rule_weighs rule.FourthParameter = lit< tt
rule_weighs rule.Name = lit< tt
rule_weighs rule.Block = lit< tt
rule_weighs rule.Next = lit< tt
rule_weighs rule.IfItem = lit< tt
rule_weighs rule.LoopItem = lit< tt
rule_weighs rule.ForItem = lit< tt
rule_weighs rule.NameFirst = lit< tt
rule_weighs rule.NumberFirst = lit< tt
rule_weighs rule.TrueFirst = lit< tt
rule_weighs rule.FalseFirst = lit< tt
rule_weighs rule.GroupFirst = lit< tt
rule_weighs rule.ValueFirst = lit< tt
rule_weighs rule.NextItem = lit< tt
rule_weighs rule.Value = lit< tt
rule_weighs rule.Definition = lit< tt
rule_weighs rule.Write = lit< tt
rule_weighs rule.Statement = lit< tt
rule_weighs rule.IndexFirst = lit< tt
rule_weighs rule.CallFirst = lit< tt
rule_weighs rule.Operators = lit< tt
rule_weighs rule.If = lit< tt
rule_weighs rule.Else = lit< tt
rule_weighs rule.NoElse = lit< tt
rule_weighs rule.Loop = lit< tt
rule_weighs rule.For = lit< tt
rule_weighs rule.Variable = lit< tt
rule_weighs rule.Give = lit< tt
rule_weighs rule.NoGive = lit< tt
rule_weighs rule.Expression = lit< tt
rule_weighs rule.Or = lit< tt
rule_weighs rule.Conjunction = lit< tt
rule_weighs rule.And = lit< tt
rule_weighs rule.Test = lit< tt
rule_weighs rule.Not = lit< tt
rule_weighs rule.Less = lit< tt
rule_weighs rule.AtMost = lit< tt
rule_weighs rule.Greater = lit< tt
rule_weighs rule.AtLeast = lit< tt
rule_weighs rule.Equal = lit< tt
rule_weighs rule.Unequal = lit< tt
rule_weighs rule.Sum = lit< tt
rule_weighs rule.Add = lit< tt
rule_weighs rule.Subtract = lit< tt
rule_weighs rule.Term = lit< tt
rule_weighs rule.Multiply = lit< tt
rule_weighs rule.Divide = lit< tt
rule_weighs rule.Remainder = lit< tt
rule_weighs rule.Unary = lit< tt
rule_weighs rule.Minus = lit< tt
rule_weighs rule.Array = lit< tt
rule_weighs rule.Length = lit< tt
rule_weighs rule.Negative = lit< tt
rule_weighs rule.Negate = lit< tt
rule_weighs rule.Index = lit< tt
rule_weighs rule.Call = lit< tt
rule_weighs rule.SecondArgument = lit< tt
rule_weighs rule.ThirdArgument = lit< tt
rule_weighs rule.FourthArgument = lit< tt
rule_weighs rule.Number = lit< tt
rule_weighs rule.True = lit< tt
rule_weighs rule.False = lit< tt
rule_weighs rule.Group = lit< tt

abbrev fallback_weighs : Fallback → ℕ
fallback_weighs (fallback.Goes r) = symbols_weigh (symbols r)
fallback_weighs (fallback.Wants e) = 0

fallback_lighter : (x : Part) → fallback_weighs (otherwise x) < weight x
fallback_lighter Source = lit< tt
fallback_lighter Procedures = lit< tt
fallback_lighter SecondParameter = lit< tt
fallback_lighter ThirdParameter = lit< tt
fallback_lighter FourthParameter = lit< tt
fallback_lighter FifthParameter = lit< tt
fallback_lighter Name = lit< tt
fallback_lighter Block = lit< tt
fallback_lighter Items = lit< tt
fallback_lighter IfEnd = lit< tt
fallback_lighter LoopEnd = lit< tt
fallback_lighter AfterName = lit< tt
fallback_lighter AfterValue = lit< tt
fallback_lighter AfterIndex = lit< tt
fallback_lighter AfterCall = lit< tt
fallback_lighter Last = lit< tt
fallback_lighter Else = lit< tt
fallback_lighter AfterElse = lit< tt
fallback_lighter Variables = lit< tt
fallback_lighter Give = lit< tt
fallback_lighter Expression = lit< tt
fallback_lighter Ors = lit< tt
fallback_lighter Conjunction = lit< tt
fallback_lighter Ands = lit< tt
fallback_lighter Test = lit< tt
fallback_lighter Comparison = lit< tt
fallback_lighter Sum = lit< tt
fallback_lighter Sums = lit< tt
fallback_lighter Term = lit< tt
fallback_lighter Terms = lit< tt
fallback_lighter Unary = lit< tt
fallback_lighter Negated = lit< tt
fallback_lighter Posts = lit< tt
fallback_lighter SecondArgument = lit< tt
fallback_lighter ThirdArgument = lit< tt
fallback_lighter FourthArgument = lit< tt
fallback_lighter FifthArgument = lit< tt
fallback_lighter Primary = lit< tt

-- how many tokens can be taken
abbrev pub available : Kind → ℕ
available kind.End = 0
available k = 1

available_one : (k : Kind) → available k ≤ 1
available_one (kind.Sign m) = lit≤ tt
available_one kind.Name = lit≤ tt
available_one kind.Number = lit≤ tt
available_one kind.TwoTo63 = lit≤ tt
available_one kind.End = lit≤ tt

pub record Shrinks (s : Symbol) (k : Kind) (m : Step) : Type 0 where
  pub lighter : symbols_weigh (symbols m.rule) < symbol_weight s + 100 * m.taken
  pub there : m.taken ≤ available k

abbrev pub well : Step → Result Step Stop
well m = Ok m

pub well_once : (m n : Step) → well m ≡ well n → m ≡ n
well_once m n h = cc

not_end : (x : Kind) → is_kind x kind.End ≡ false
not_end (kind.Sign m) = refl
not_end kind.Name = refl
not_end kind.Number = refl
not_end kind.TwoTo63 = refl
not_end kind.End = refl

pub same_there : (x k : Kind) → is_kind x k ≡ true → available k ≡ 1
same_there x (kind.Sign m) h = refl
same_there x kind.Name h = refl
same_there x kind.Number h = refl
same_there x kind.TwoTo63 h = refl
same_there x kind.End h = let e : true ≡ false = sym h ∙ not_end x in cc

there_among : (b : Bool) (x k : Kind) (o p : Outcome) (rest : Option Outcome) → is_kind x k ≡ b → cond b (Some o) rest ≡ Some p → (rest ≡ Some p → available k ≡ 1) → available k ≡ 1
there_among true x k o p rest e h more = same_there x k e
there_among false x k o p rest e h more = more h

pub chosen_there : (rs : List Row) (k : Kind) (o : Outcome) → outcome_among rs k ≡ Some o → available k ≡ 1
chosen_there [] k o h = cc
chosen_there (r ∷ rs) k o h = there_among (is_kind r.kind k) r.kind k r.outcome o (outcome_among rs k) refl h (chosen_there rs k o)

-- a step that takes a token
takes : (s : Symbol) (k : Kind) (r : Rule) (m : Step) → goes 1 r ≡ well m → available k ≡ 1 → Shrinks s k m
takes s k r m h e =
    let same : record { taken = 1; rule = r; made = None } ≡ m = well_once (record { taken = 1; rule = r; made = None }) m h in
    let there : 1 ≤ available k = omega (arith, e) in
    let lighter : symbols_weigh (symbols r) < symbol_weight s + 100 * 1 = omega (arith, rule_weighs r) in
    subst (Shrinks s k) same (record { lighter = lighter; there = there })

sign_shrinks : (b : Bool) (s : Symbol) (k x : Kind) (stop : Stop) (m : Step) → is_kind x k ≡ b → cond b (goes 1 rule.Nothing) (Err stop) ≡ well m → Shrinks s k m
sign_shrinks true s k x stop m e h = takes s k rule.Nothing m h (same_there x k e)
sign_shrinks false s k x stop m e h = cc

taken_shrinks : (b : Bool) (s : Symbol) (k : Kind) (r : Rule) (stop : Stop) (m : Step) → cond b (Err stop) (goes 1 r) ≡ well m → available k ≡ 1 → Shrinks s k m
taken_shrinks true s k r stop m h e = cc
taken_shrinks false s k r stop m h e = takes s k r m h e

other_shrinks : (f : Fallback) (s : Symbol) (k : Kind) (m : Step) → fallback_weighs f < symbol_weight s → step_by_fallback f ≡ well m → Shrinks s k m
other_shrinks (fallback.Goes r) s k m l h =
    let same : record { taken = 0; rule = r; made = None } ≡ m = well_once (record { taken = 0; rule = r; made = None }) m h in
    let lighter : symbols_weigh (symbols r) < symbol_weight s + 100 * 0 = omega (arith, l) in
    subst (Shrinks s k) same (record { lighter = lighter; there = omega arith })
other_shrinks (fallback.Wants e) s k m l h = cc

part_shrinks : (o : Option Outcome) (x : Part) (s : Symbol) (room : ℕ) (k : Kind) (m : Step) → symbol_weight s ≡ weight x → chosen x k ≡ o → step_by o x room ≡ well m → Shrinks s k m
part_shrinks (Some (outcome.Goes r)) x s room k m w e h = taken_shrinks _ s k r _ m h (chosen_there (rows x) k (outcome.Goes r) e)
part_shrinks (Some (outcome.Stops stop)) x s room k m w e h = cc
part_shrinks None x s room k m w e h = other_shrinks (otherwise x) s k m (omega (arith, fallback_lighter x, w)) h

pub step_shrinks : (s : Symbol) (at room : ℕ) (k : Kind) (m : Step) → symbol_step s at room k ≡ Ok m → Shrinks s k m
step_shrinks (symbol.Sign mk) at room k m h = sign_shrinks (is_kind (kind.Sign mk) k) (symbol.Sign mk) k (kind.Sign mk) _ m refl h
step_shrinks (symbol.Part x) at room k m h = part_shrinks (chosen x k) x (symbol.Part x) room k m refl refl h
step_shrinks (symbol.Inner x) at room k m h = part_shrinks (chosen x k) x (symbol.Inner x) room k m refl refl h
step_shrinks (symbol.Make f) at room k m h =
    let same : record { taken = 0; rule = rule.Nothing; made = Some (record { form = f; token = at }) } ≡ m = well_once (record { taken = 0; rule = rule.Nothing; made = Some (record { form = f; token = at }) }) m h in
    subst (Shrinks (symbol.Make f) k) same (record { lighter = lit< tt; there = omega arith })

-- no more tokens are taken than there are
pub taken_there : (ts : List TokenParts) (n : ℕ) → n ≤ available (kind_next ts) → n ≤ length ts
taken_there [] n h = h
taken_there (t ∷ ts) n h = omega (arith, available_one (kind_of t.word))

pub placed_weigh : (n room : ℕ) (ss : List Symbol) (others : List Placed) → stack_weighs (all_placed n room ss ++ others) ≡ symbols_weigh ss + stack_weighs others
placed_weigh n room [] others = omega arith
placed_weigh n room (s ∷ ss) others = omega (arith, placed_weigh n room ss others)
