-- The nodes of a syntax tree are those of one tree.
use Rattle.std.proofs.Common.{◌≡◌, ℕ, zero, suc, Bool, true, false, cond, List, [], ◌∷◌, ◌++◌, reverse, Option, Some, None, Ok, refl, sym, ◌∙◌, ap, subst, ◌⊎◌, inl, inr, option_to_list}
use Rattle.u_source.specs.declared.choosing.Placed.{Placed}
use Rattle.u_source.specs.declared.choosing.Step.{Step}
use Rattle.u_source.specs.declared.form.Form.{Form}
use Rattle.u_source.specs.declared.form.Node.{Node}
use Rattle.u_source.specs.declared.part.Part.{Part}
use Rattle.u_source.specs.declared.part.Part.TheVariants as part
use Rattle.u_source.specs.declared.rule.Rule.{Rule}
use Rattle.u_source.specs.declared.rule.Symbol.{Symbol}
use Rattle.u_source.specs.declared.rule.Symbol.TheVariants as symbol
use Rattle.u_source.specs.Derivations.{Point, point, all_placed, step_at, kind_next, after, made_by, Goes, Leads, start, ended, IsSyntax}
use Rattle.u_source.specs.Parts.{rows, otherwise}
use Rattle.u_source.specs.Rules.{symbols}
use Rattle.u_source.specs.Tokens.{TokenParts}
use Rattle.u_source.proofs.RuleLaws.{RowsHave, FallbackHas, PartMoves, Moves, step_moves, symbols_of, placed_symbols}
use Rattle.u_source.specs.Trees.{Sort, AName, ACell, ACall, AnIf, ALoop, AValue, Arguments, VariableList, LoopVariables, Parameters, Items, ABlock, AnItem, ElseBegins, ASide, AnElse, AGive, Procedures}
use Rattle.u_source.specs.Trees.{sort_of, children, serves, taken_from, joined, with_node, trees_behind, IsTree}

-- the trees that a part of the source takes up, the last one first, and the one that it leaves
abbrev needs : Part → List Sort
needs part.Source = []
needs part.Procedures = Procedures ∷ []
needs part.SecondParameter = Parameters ∷ []
needs part.ThirdParameter = Parameters ∷ []
needs part.FourthParameter = Parameters ∷ []
needs part.FifthParameter = Parameters ∷ []
needs part.Name = []
needs part.Block = []
needs part.Items = Items ∷ []
needs part.IfEnd = AnIf ∷ Items ∷ []
needs part.LoopEnd = ALoop ∷ Items ∷ []
needs part.AfterName = AName ∷ Items ∷ []
needs part.AfterValue = AValue ∷ Items ∷ []
needs part.AfterIndex = ACell ∷ Items ∷ []
needs part.AfterCall = ACall ∷ Items ∷ []
needs part.Last = AValue ∷ Items ∷ []
needs part.Else = []
needs part.AfterElse = []
needs part.Variables = VariableList ∷ []
needs part.Give = []
needs part.Expression = []
needs part.Ors = AValue ∷ []
needs part.Conjunction = []
needs part.Ands = AValue ∷ []
needs part.Test = []
needs part.Comparison = AValue ∷ []
needs part.Sum = []
needs part.Sums = AValue ∷ []
needs part.Term = []
needs part.Terms = AValue ∷ []
needs part.Unary = []
needs part.Negated = []
needs part.Posts = AValue ∷ []
needs part.SecondArgument = Arguments ∷ []
needs part.ThirdArgument = Arguments ∷ []
needs part.FourthArgument = Arguments ∷ []
needs part.FifthArgument = Arguments ∷ []
needs part.Primary = []

abbrev leaves : Part → Sort
leaves part.Source = Procedures
leaves part.Procedures = Procedures
leaves part.SecondParameter = Parameters
leaves part.ThirdParameter = Parameters
leaves part.FourthParameter = Parameters
leaves part.FifthParameter = Parameters
leaves part.Name = AName
leaves part.Block = ABlock
leaves part.Items = Items
leaves part.IfEnd = Items
leaves part.LoopEnd = Items
leaves part.AfterName = Items
leaves part.AfterValue = Items
leaves part.AfterIndex = Items
leaves part.AfterCall = Items
leaves part.Last = Items
leaves part.Else = AnElse
leaves part.AfterElse = ASide
leaves part.Variables = VariableList
leaves part.Give = AGive
leaves part.Expression = AValue
leaves part.Ors = AValue
leaves part.Conjunction = AValue
leaves part.Ands = AValue
leaves part.Test = AValue
leaves part.Comparison = AValue
leaves part.Sum = AValue
leaves part.Sums = AValue
leaves part.Term = AValue
leaves part.Terms = AValue
leaves part.Unary = AValue
leaves part.Negated = AValue
leaves part.Posts = AValue
leaves part.SecondArgument = Arguments
leaves part.ThirdArgument = Arguments
leaves part.FourthArgument = Arguments
leaves part.FifthArgument = Arguments
leaves part.Primary = AValue

abbrev left_by : Sort → Option (List Sort) → Option (List Sort)
left_by s None = None
left_by s (Some trees) = Some (s ∷ trees)

-- what the trees are behind a symbol
abbrev behind : Symbol → List Sort → Option (List Sort)
behind (symbol.Sign m) trees = Some trees
behind (symbol.Part x) trees = left_by (leaves x) (taken_from (needs x) trees)
behind (symbol.Inner x) trees = left_by (leaves x) (taken_from (needs x) trees)
behind (symbol.Make f) trees = with_node f trees

-- what they are behind some symbols
abbrev behind_all : Option (List Sort) → List Symbol → Option (List Sort)
behind_all None ss = None
behind_all (Some trees) [] = Some trees
behind_all (Some trees) (s ∷ ss) = behind_all (behind s trees) ss

-- these trees may stand where those are wanted
abbrev AllServe : List Sort → List Sort → Type 0
AllServe [] [] = Unit {0}
AllServe [] (w ∷ ws) = ⊥
AllServe (t ∷ ts) [] = ⊥
AllServe (t ∷ ts) (w ∷ ws) = (serves t w ≡ true) × AllServe ts ws

-- where some are wanted, there are such that may stand there
abbrev Fit : Option (List Sort) → Option (List Sort) → Type 0
Fit None x = Unit {0}
Fit (Some ws) None = ⊥
Fit (Some ws) (Some ts) = AllServe ts ws

-- where there are trees, there are the same and the rest behind them
abbrev Keeps : List Sort → Option (List Sort) → Option (List Sort) → Type 0
Keeps rest None x = Unit {0}
Keeps rest (Some ts) x = x ≡ Some (ts ++ rest)

itself : (t : Sort) → serves t t ≡ true
itself AName = refl
itself ACell = refl
itself ACall = refl
itself AnIf = refl
itself ALoop = refl
itself AValue = refl
itself Arguments = refl
itself VariableList = refl
itself LoopVariables = refl
itself Parameters = refl
itself Items = refl
itself ABlock = refl
itself AnItem = refl
itself ElseBegins = refl
itself ASide = refl
itself AnElse = refl
itself AGive = refl
itself Procedures = refl

abbrev is_wide : Sort → Bool
is_wide AValue = true
is_wide AnItem = true
is_wide ASide = true
is_wide s = false

split : (t w : Sort) → serves t w ≡ true → (t ≡ w) ⊎ ((is_wide t ≡ false) × (is_wide w ≡ true))
split AName AName h = inl refl
split ACell ACell h = inl refl
split ACall ACall h = inl refl
split AnIf AnIf h = inl refl
split ALoop ALoop h = inl refl
split AValue AValue h = inl refl
split Arguments Arguments h = inl refl
split VariableList VariableList h = inl refl
split LoopVariables LoopVariables h = inl refl
split Parameters Parameters h = inl refl
split Items Items h = inl refl
split ABlock ABlock h = inl refl
split AnItem AnItem h = inl refl
split ElseBegins ElseBegins h = inl refl
split ASide ASide h = inl refl
split AnElse AnElse h = inl refl
split AGive AGive h = inl refl
split Procedures Procedures h = inl refl
split AName AValue h = inr (refl, refl)
split ACell AValue h = inr (refl, refl)
split ACall AValue h = inr (refl, refl)
split AnIf AValue h = inr (refl, refl)
split ALoop AValue h = inr (refl, refl)
split AnIf AnItem h = inr (refl, refl)
split ALoop AnItem h = inr (refl, refl)
split AnIf ASide h = inr (refl, refl)
split ABlock ASide h = inr (refl, refl)
split t w h = cc

through : (t u w : Sort) → serves t u ≡ true → serves u w ≡ true → serves t w ≡ true
through t u w h k = elim (split t u h) [
  | inl e ↦ subst (λ x. serves x w ≡ true) (sym e) k
  | inr n ↦ elim (split u w k) [
    | inl e ↦ subst (λ x. serves t x ≡ true) e h
    | inr m ↦ let e : true ≡ false = sym n.1 ∙ m.0 in cc
  ]
]

all_itself : (ts : List Sort) → AllServe ts ts
all_itself [] = tt
all_itself (t ∷ ts) = (itself t, all_itself ts)

all_through : (ts us ws : List Sort) → AllServe ts us → AllServe us ws → AllServe ts ws
all_through [] [] ws h k = k
all_through [] (u ∷ us) ws h k = absurd h
all_through (t ∷ ts) [] ws h k = absurd h
all_through (t ∷ ts) (u ∷ us) [] h k = k
all_through (t ∷ ts) (u ∷ us) (w ∷ ws) h k = (through t u w h.0 k.0, all_through ts us ws h.1 k.1)

all_append : (ts ws rest : List Sort) → AllServe ts ws → AllServe (ts ++ rest) (ws ++ rest)
all_append [] [] rest h = all_itself rest
all_append [] (w ∷ ws) rest h = absurd h
all_append (t ∷ ts) [] rest h = absurd h
all_append (t ∷ ts) (w ∷ ws) rest h = (h.0, all_append ts ws rest h.1)

fit_case : (b c : Bool) (x y : Option (List Sort)) → (b ≡ true → c ≡ true) → Fit x y → Fit (cond b x None) (cond c y None)
fit_case false c x y f h = tt
fit_case true c x y f h = subst (λ d. Fit x (cond d y None)) (sym (f refl)) h

taken_fits : (ns ts ws : List Sort) → AllServe ts ws → Fit (taken_from ns ws) (taken_from ns ts)
taken_fits [] ts ws h = h
taken_fits (n ∷ ns) [] [] h = tt
taken_fits (n ∷ ns) [] (w ∷ ws) h = absurd h
taken_fits (n ∷ ns) (t ∷ ts) [] h = tt
taken_fits (n ∷ ns) (t ∷ ts) (w ∷ ws) h = fit_case (serves w n) (serves t n) (taken_from ns ws) (taken_from ns ts) (through t w n h.0) (taken_fits ns ts ws h.1)

left_fits : (s : Sort) (x y : Option (List Sort)) → Fit x y → Fit (left_by s x) (left_by s y)
left_fits s None y h = tt
left_fits s (Some ws) None h = absurd h
left_fits s (Some ws) (Some ts) h = (itself s, h)

joined_fits : (f : Form) (x y : Option (List Sort)) → Fit x y → Fit (joined f x) (joined f y)
joined_fits f None y h = tt
joined_fits f (Some ws) None h = absurd h
joined_fits f (Some ws) (Some ts) h = (itself (sort_of f), h)

behind_fits : (s : Symbol) (ts ws : List Sort) → AllServe ts ws → Fit (behind s ws) (behind s ts)
behind_fits (symbol.Sign m) ts ws h = h
behind_fits (symbol.Part x) ts ws h = left_fits (leaves x) (taken_from (needs x) ws) (taken_from (needs x) ts) (taken_fits (needs x) ts ws h)
behind_fits (symbol.Inner x) ts ws h = left_fits (leaves x) (taken_from (needs x) ws) (taken_from (needs x) ts) (taken_fits (needs x) ts ws h)
behind_fits (symbol.Make f) ts ws h = joined_fits f (taken_from (reverse (children f)) ws) (taken_from (reverse (children f)) ts) (taken_fits (reverse (children f)) ts ws h)

-- what serves in place of other trees goes the same way
all_fits : (ss : List Symbol) (x y : Option (List Sort)) → Fit x y → Fit (behind_all x ss) (behind_all y ss)
all_fits ss None y h = tt
all_fits ss (Some ws) None h = absurd h
all_fits [] (Some ws) (Some ts) h = h
all_fits (s ∷ ss) (Some ws) (Some ts) h = all_fits ss (behind s ws) (behind s ts) (behind_fits s ts ws h)

keeps_case : (b : Bool) (rest : List Sort) (x y : Option (List Sort)) → Keeps rest x y → Keeps rest (cond b x None) (cond b y None)
keeps_case true rest x y h = h
keeps_case false rest x y h = tt

taken_keeps : (ns ts rest : List Sort) → Keeps rest (taken_from ns ts) (taken_from ns (ts ++ rest))
taken_keeps [] ts rest = refl
taken_keeps (n ∷ ns) [] rest = tt
taken_keeps (n ∷ ns) (t ∷ ts) rest = keeps_case (serves t n) rest (taken_from ns ts) (taken_from ns (ts ++ rest)) (taken_keeps ns ts rest)

left_keeps : (s : Sort) (rest : List Sort) (x y : Option (List Sort)) → Keeps rest x y → Keeps rest (left_by s x) (left_by s y)
left_keeps s rest None y h = tt
left_keeps s rest (Some ts) y h = ap (left_by s) h

joined_keeps : (f : Form) (rest : List Sort) (x y : Option (List Sort)) → Keeps rest x y → Keeps rest (joined f x) (joined f y)
joined_keeps f rest None y h = tt
joined_keeps f rest (Some ts) y h = ap (joined f) h

behind_keeps : (s : Symbol) (ts rest : List Sort) → Keeps rest (behind s ts) (behind s (ts ++ rest))
behind_keeps (symbol.Sign m) ts rest = refl
behind_keeps (symbol.Part x) ts rest = left_keeps (leaves x) rest (taken_from (needs x) ts) (taken_from (needs x) (ts ++ rest)) (taken_keeps (needs x) ts rest)
behind_keeps (symbol.Inner x) ts rest = left_keeps (leaves x) rest (taken_from (needs x) ts) (taken_from (needs x) (ts ++ rest)) (taken_keeps (needs x) ts rest)
behind_keeps (symbol.Make f) ts rest = joined_keeps f rest (taken_from (reverse (children f)) ts) (taken_from (reverse (children f)) (ts ++ rest)) (taken_keeps (reverse (children f)) ts rest)

-- the trees before those that are taken up stay
all_keeps : (ss : List Symbol) (rest : List Sort) (x y : Option (List Sort)) → Keeps rest x y → Keeps rest (behind_all x ss) (behind_all y ss)
all_keeps ss rest None y h = tt
all_keeps [] rest (Some ts) y h = ap (λ z. behind_all z []) h
all_keeps (s ∷ ss) rest (Some ts) y h = subst (λ z. Keeps rest (behind_all (behind s ts) ss) (behind_all z (s ∷ ss))) (sym h) (all_keeps ss rest (behind s ts) (behind s (ts ++ rest)) (behind_keeps s ts rest))

behind_append : (xs ys : List Symbol) (o : Option (List Sort)) → behind_all o (xs ++ ys) ≡ behind_all (behind_all o xs) ys
behind_append xs ys None = refl
behind_append [] ys (Some ts) = refl
behind_append (x ∷ xs) ys (Some ts) = behind_append xs ys (behind x ts)

-- a rule takes up the trees of its part, and leaves the one of its part
abbrev RuleFits : Part → Rule → Type 0
RuleFits x r = Fit (Some (leaves x ∷ [])) (behind_all (Some (needs x)) (symbols r))

rows_fit : (x : Part) → RowsHave RuleFits x (rows x)
rows_fit part.Source = tt
rows_fit part.Procedures = ((refl, tt), tt)
rows_fit part.SecondParameter = ((refl, tt), tt)
rows_fit part.ThirdParameter = ((refl, tt), tt)
rows_fit part.FourthParameter = ((refl, tt), tt)
rows_fit part.FifthParameter = (tt, tt)
rows_fit part.Name = ((refl, tt), tt)
rows_fit part.Block = ((refl, tt), tt)
rows_fit part.Items = ((refl, tt), ((refl, tt), ((refl, tt), ((refl, tt), ((refl, tt), ((refl, tt), ((refl, tt), (tt, ((refl, tt), ((refl, tt), ((refl, tt), tt)))))))))))
rows_fit part.IfEnd = ((refl, tt), ((refl, tt), tt))
rows_fit part.LoopEnd = ((refl, tt), ((refl, tt), tt))
rows_fit part.AfterName = ((refl, tt), ((refl, tt), ((refl, tt), tt)))
rows_fit part.AfterValue = ((refl, tt), ((refl, tt), tt))
rows_fit part.AfterIndex = ((refl, tt), ((refl, tt), ((refl, tt), tt)))
rows_fit part.AfterCall = ((refl, tt), ((refl, tt), ((refl, tt), tt)))
rows_fit part.Last = ((refl, tt), (tt, tt))
rows_fit part.Else = ((refl, tt), tt)
rows_fit part.AfterElse = ((refl, tt), ((refl, tt), tt))
rows_fit part.Variables = ((refl, tt), tt)
rows_fit part.Give = ((refl, tt), tt)
rows_fit part.Expression = tt
rows_fit part.Ors = ((refl, tt), tt)
rows_fit part.Conjunction = tt
rows_fit part.Ands = ((refl, tt), tt)
rows_fit part.Test = ((refl, tt), tt)
rows_fit part.Comparison = ((refl, tt), ((refl, tt), ((refl, tt), ((refl, tt), ((refl, tt), ((refl, tt), tt))))))
rows_fit part.Sum = tt
rows_fit part.Sums = ((refl, tt), ((refl, tt), tt))
rows_fit part.Term = tt
rows_fit part.Terms = ((refl, tt), ((refl, tt), ((refl, tt), tt)))
rows_fit part.Unary = ((refl, tt), ((refl, tt), ((refl, tt), tt)))
rows_fit part.Negated = ((refl, tt), ((refl, tt), tt))
rows_fit part.Posts = ((refl, tt), ((refl, tt), tt))
rows_fit part.SecondArgument = ((refl, tt), tt)
rows_fit part.ThirdArgument = ((refl, tt), tt)
rows_fit part.FourthArgument = ((refl, tt), tt)
rows_fit part.FifthArgument = (tt, tt)
rows_fit part.Primary = ((refl, tt), (tt, ((refl, tt), ((refl, tt), ((refl, tt), ((refl, tt), ((refl, tt), ((refl, tt), ((refl, tt), tt)))))))))

fallback_fits : (x : Part) → FallbackHas RuleFits x (otherwise x)
fallback_fits part.Source = (refl, tt)
fallback_fits part.Procedures = (refl, tt)
fallback_fits part.SecondParameter = (refl, tt)
fallback_fits part.ThirdParameter = (refl, tt)
fallback_fits part.FourthParameter = (refl, tt)
fallback_fits part.FifthParameter = (refl, tt)
fallback_fits part.Name = tt
fallback_fits part.Block = tt
fallback_fits part.Items = (refl, tt)
fallback_fits part.IfEnd = (refl, tt)
fallback_fits part.LoopEnd = (refl, tt)
fallback_fits part.AfterName = (refl, tt)
fallback_fits part.AfterValue = (refl, tt)
fallback_fits part.AfterIndex = (refl, tt)
fallback_fits part.AfterCall = (refl, tt)
fallback_fits part.Last = tt
fallback_fits part.Else = (refl, tt)
fallback_fits part.AfterElse = tt
fallback_fits part.Variables = (refl, tt)
fallback_fits part.Give = (refl, tt)
fallback_fits part.Expression = (refl, tt)
fallback_fits part.Ors = (refl, tt)
fallback_fits part.Conjunction = (refl, tt)
fallback_fits part.Ands = (refl, tt)
fallback_fits part.Test = (refl, tt)
fallback_fits part.Comparison = (refl, tt)
fallback_fits part.Sum = (refl, tt)
fallback_fits part.Sums = (refl, tt)
fallback_fits part.Term = (refl, tt)
fallback_fits part.Terms = (refl, tt)
fallback_fits part.Unary = (refl, tt)
fallback_fits part.Negated = (refl, tt)
fallback_fits part.Posts = (refl, tt)
fallback_fits part.SecondArgument = (refl, tt)
fallback_fits part.ThirdArgument = (refl, tt)
fallback_fits part.FourthArgument = (refl, tt)
fallback_fits part.FifthArgument = (refl, tt)
fallback_fits part.Primary = tt

-- the trees that a part takes up stand last
abbrev Splits : List Sort → List Sort → Option (List Sort) → Type 0
Splits ns ts None = Unit {0}
Splits ns ts (Some rest) = (front : List Sort) × (ts ≡ front ++ rest) × AllServe front ns

split_case : (b : Bool) (n t : Sort) (ns ts : List Sort) (o : Option (List Sort)) → serves t n ≡ b → Splits ns ts o → Splits (n ∷ ns) (t ∷ ts) (cond b o None)
split_case true n t ns ts None e h = tt
split_case true n t ns ts (Some rest) e h = (t ∷ h.0, ap (λ x. t ∷ x) h.1, (e, h.2))
split_case false n t ns ts o e h = tt

taken_splits : (ns ts : List Sort) → Splits ns ts (taken_from ns ts)
taken_splits [] ts = ([], refl, tt)
taken_splits (n ∷ ns) [] = tt
taken_splits (n ∷ ns) (t ∷ ts) = split_case (serves t n) n t ns ts (taken_from ns ts) refl (taken_splits ns ts)

fit_through : (x y z : Option (List Sort)) → Fit x y → Fit y z → Fit x z
fit_through None y z h k = tt
fit_through (Some ws) None z h k = absurd h
fit_through (Some ws) (Some us) None h k = absurd k
fit_through (Some ws) (Some us) (Some ts) h k = all_through ts us ws k h

-- the rest that is kept behind what fits
kept_fits : (s : Sort) (rest : List Sort) (x y : Option (List Sort)) → Fit (Some (s ∷ [])) x → Keeps rest x y → Fit (Some (s ∷ rest)) y
kept_fits s rest None y h k = absurd h
kept_fits s rest (Some out) y h k = subst (Fit (Some (s ∷ rest))) (sym k) (all_append out (s ∷ []) rest h)

rule_case : (x : Part) (ss : List Symbol) (ts : List Sort) (o : Option (List Sort)) → Fit (Some (leaves x ∷ [])) (behind_all (Some (needs x)) ss) → Splits (needs x) ts o → Fit (left_by (leaves x) o) (behind_all (Some ts) ss)
rule_case x ss ts None f h = tt
rule_case x ss ts (Some rest) f h =
    let kept : Fit (Some (leaves x ∷ rest)) (behind_all (Some (needs x ++ rest)) ss) = kept_fits (leaves x) rest (behind_all (Some (needs x)) ss) (behind_all (Some (needs x ++ rest)) ss) f (all_keeps ss rest (Some (needs x)) (Some (needs x ++ rest)) refl) in
    let serve : Fit (behind_all (Some (needs x ++ rest)) ss) (behind_all (Some (h.0 ++ rest)) ss) = all_fits ss (Some (needs x ++ rest)) (Some (h.0 ++ rest)) (all_append h.0 (needs x) rest h.2) in
    subst (λ z. Fit (Some (leaves x ∷ rest)) (behind_all (Some z) ss)) (sym h.1) (fit_through (Some (leaves x ∷ rest)) (behind_all (Some (needs x ++ rest)) ss) (behind_all (Some (h.0 ++ rest)) ss) kept serve)

-- the right side of a rule serves in place of its part
rule_serves : (x : Part) (r : Rule) (ts : List Sort) → RuleFits x r → Fit (left_by (leaves x) (taken_from (needs x) ts)) (behind_all (Some ts) (symbols r))
rule_serves x r ts f = rule_case x (symbols r) ts (taken_from (needs x) ts) f (taken_splits (needs x) ts)

abbrev whole : Option (List Sort)
whole = Some (Procedures ∷ [])

-- these trees become the tree of a whole source by the symbols that are left
abbrev Ready : List Sort → List Placed → Type 0
Ready ts ss = Fit whole (behind_all (Some ts) (symbols_of ss))

made_ready : (o : Option (List Sort)) (ss : List Symbol) → Fit whole (behind_all o ss) → (ts : List Sort) × (trees_behind o [] ≡ Some ts) × Fit whole (behind_all (Some ts) ss)
made_ready None ss h = absurd h
made_ready (Some ts) ss h = (ts, refl, h)

-- how a step changes the trees
abbrev Becomes : List Sort → List Node → List Placed → Type 0
Becomes ts made after = (us : List Sort) × (trees_behind (Some ts) made ≡ Some us) × Ready us after

replaced_ready : (ts : List Sort) (n : ℕ) (s : Placed) (ss : List Placed) (m : Step) → Fit (behind s.symbol ts) (behind_all (Some ts) (symbols m.rule)) → Ready ts (s ∷ ss) → Ready ts (all_placed n s.room (symbols m.rule) ++ ss)
replaced_ready ts n s ss m f h =
    let here : Fit (behind_all (behind s.symbol ts) (symbols_of ss)) (behind_all (behind_all (Some ts) (symbols m.rule)) (symbols_of ss)) = all_fits (symbols_of ss) (behind s.symbol ts) (behind_all (Some ts) (symbols m.rule)) f in
    let all : Fit whole (behind_all (behind_all (Some ts) (symbols m.rule)) (symbols_of ss)) = fit_through whole (behind_all (behind s.symbol ts) (symbols_of ss)) (behind_all (behind_all (Some ts) (symbols m.rule)) (symbols_of ss)) h here in
    let same : behind_all (behind_all (Some ts) (symbols m.rule)) (symbols_of ss) ≡ behind_all (Some ts) (symbols_of (all_placed n s.room (symbols m.rule) ++ ss)) = sym (behind_append (symbols m.rule) (symbols_of ss) (Some ts)) ∙ ap (behind_all (Some ts)) (sym (placed_symbols n s.room (symbols m.rule) ss)) in
    subst (Fit whole) same all

nothing_made : (ts : List Sort) (m : Step) → m.made ≡ None → trees_behind (Some ts) (made_by m) ≡ Some ts
nothing_made ts m e = ap (λ x. trees_behind (Some ts) (option_to_list x)) e

part_becomes : (ts : List Sort) (n : ℕ) (s : Placed) (ss : List Placed) (m : Step) (x : Part) → behind s.symbol ts ≡ left_by (leaves x) (taken_from (needs x) ts) → PartMoves RuleFits x m → Ready ts (s ∷ ss) → Becomes ts (made_by m) (all_placed n s.room (symbols m.rule) ++ ss)
part_becomes ts n s ss m x e f h =
    let serves_part : Fit (behind s.symbol ts) (behind_all (Some ts) (symbols m.rule)) = subst (λ z. Fit z (behind_all (Some ts) (symbols m.rule))) (sym e) (rule_serves x m.rule ts f.0) in
    (ts, nothing_made ts m f.1, replaced_ready ts n s ss m serves_part h)

symbol_becomes : (y : Symbol) (ts : List Sort) (n room at : ℕ) (ss : List Placed) (m : Step) → Moves RuleFits y m → Ready ts (record { symbol = y; at = at; room = room } ∷ ss) → Becomes ts (made_by m) (all_placed n room (symbols m.rule) ++ ss)
symbol_becomes (symbol.Sign mk) ts n room at ss m f h =
    let gone : Ready ts (all_placed n room (symbols m.rule) ++ ss) = subst (λ x. Ready ts (all_placed n room x ++ ss)) (sym f.0) h in
    (ts, nothing_made ts m f.1, gone)
symbol_becomes (symbol.Part x) ts n room at ss m f h = part_becomes ts n (record { symbol = symbol.Part x; at = at; room = room }) ss m x refl f h
symbol_becomes (symbol.Inner x) ts n room at ss m f h = part_becomes ts n (record { symbol = symbol.Inner x; at = at; room = room }) ss m x refl f h
symbol_becomes (symbol.Make f) ts n room at ss m g h =
    let r : (us : List Sort) × (trees_behind (with_node f ts) [] ≡ Some us) × Fit whole (behind_all (Some us) (symbols_of ss)) = made_ready (with_node f ts) (symbols_of ss) h in
    let made : trees_behind (Some ts) (made_by m) ≡ Some r.0 = ap (λ x. trees_behind (Some ts) (option_to_list x)) g.1.1 ∙ ap (λ x. trees_behind (with_node x ts) []) g.1.2 ∙ r.1 in
    let gone : Ready r.0 (all_placed n room (symbols m.rule) ++ ss) = subst (λ x. Ready r.0 (all_placed n room x ++ ss)) (sym g.0) r.2 in
    (r.0, made, gone)

stack_becomes : (ss : List Placed) (ts : List Sort) (n : ℕ) (rest : List TokenParts) (m : Step) → step_at (point ss n rest) ≡ Ok m → Ready ts ss → Becomes ts (made_by m) (after m (point ss n rest)).symbols
stack_becomes [] ts n rest m e h = cc
stack_becomes (s ∷ ss) ts n rest m e h = symbol_becomes s.symbol ts n s.room s.at ss m (step_moves RuleFits rows_fit fallback_fits s.symbol s.at s.room (kind_next rest) m e) h

goes_becomes : (p : Point) (made : List Node) (q : Point) (ts : List Sort) → Goes p made q → Ready ts p.symbols → Becomes ts made q.symbols
goes_becomes p made q ts g h =
    let b : Becomes ts (made_by g.step) (after g.step p).symbols = stack_becomes p.symbols ts p.number p.rest g.step g.there h in
    subst (λ x. Becomes ts made x.symbols) (sym g.next) (subst (λ x. Becomes ts x (after g.step p).symbols) (sym g.makes) b)

trees_append : (xs ys : List Node) (o : Option (List Sort)) → trees_behind o (xs ++ ys) ≡ trees_behind (trees_behind o xs) ys
trees_append xs ys None = refl
trees_append [] ys (Some ts) = refl
trees_append (x ∷ xs) ys (Some ts) = trees_append xs ys (with_node x.form ts)

leads_become : (n : ℕ) (p : Point) (made : List Node) (q : Point) (ts : List Sort) → Leads n p made q → Ready ts p.symbols → Becomes ts made q.symbols
leads_become zero p made q ts h r = (ts, ap (trees_behind (Some ts)) h.1, subst (λ x. Ready ts x.symbols) (sym h.0) r)
leads_become (suc n) p made q ts h r =
    let first : Becomes ts h.1 h.0.symbols = goes_becomes p h.1 h.0 ts h.3 r in
    let others : Becomes first.0 h.2 q.symbols = leads_become n h.0 h.2 q first.0 h.4 first.2 in
    (others.0, ap (trees_behind (Some ts)) h.5 ∙ trees_append h.1 h.2 (Some ts) ∙ ap (λ x. trees_behind x h.2) first.1 ∙ others.1, others.2)

one_left : (ts : List Sort) → AllServe ts (Procedures ∷ []) → ts ≡ Procedures ∷ []
one_left [] h = absurd h
one_left (t ∷ []) h = elim (split t Procedures h.0) [ inl e ↦ ap (λ x. x ∷ []) e | inr n ↦ let e : false ≡ true = n.1 in cc ]
one_left (t ∷ (u ∷ us)) h = absurd h.1

-- the nodes of a syntax tree are those of one tree
pub one_tree : (ts : List TokenParts) (nodes : List Node) → IsSyntax ts nodes → IsTree nodes
one_tree ts nodes h =
    let b : Becomes [] nodes [] = leads_become h.steps (start ts) nodes (ended h.number) [] h.leads (refl, tt) in
    b.1 ∙ ap (λ x. Some x) (one_left b.0 b.2)
