-- What it is to break a rule of strict programs, and the first place that does.
use Rattle.std.specs.Prelude.{◌≡◌, ℕ, ◌-◌, ◌<◌, ◌≤◌, ◌↔◌, false, List, ◌++◌, length, codes}
use Rattle.std.specs.Prelude.{Option, Some, None, slice_get, Contains}
use Rattle.std.specs.Fmt.{decimal}
use Rattle.u_program.specs.declared.program.Kind.TheVariants.{Back, End}
use Rattle.u_program.specs.Parts.{StatementParts, BlockParts}
use Rattle.u_check.specs.Kinds.{comes_from_outside}
use Rattle.u_check.specs.Rules.{statement_at, IsEarlier}
use Rattle.u_determinate.specs.declared.rule.StrictRule.{StrictRule}
use Rattle.u_determinate.specs.declared.rule.StrictRule.TheVariants.{OneSource, OneEnd}
use Rattle.u_determinate.specs.declared.rule.StrictRule.TheVariants.{OneApply, OneTest}
use Rattle.u_determinate.specs.declared.answer.Strictness.{Strictness}
use Rattle.u_determinate.specs.declared.answer.Strictness.TheVariants.{Strict, Loose}
use Rattle.u_determinate.specs.Arcs.{IsAppliedOnce}
use Rattle.u_determinate.specs.Strict.{HasOneSource, IsTested, IsStrict}

-- the rule's number
abbrev pub number_of : StrictRule → ℕ
number_of OneSource = 1
number_of OneEnd = 2
number_of OneApply = 3
number_of OneTest = 4

-- each port of statement n has one source, unless its value comes from outside
abbrev pub PortsHaveOneSource : List StatementParts → ℕ → Type 0
PortsHaveOneSource ss n =
    (s : StatementParts)
    → statement_at ss n ≡ Some s
    → comes_from_outside s.kind ≡ false
    → HasOneSource ss n s.kind

-- no statement before number n is an `end`
abbrev pub NoEndBefore : List StatementParts → ℕ → Type 0
NoEndBefore ss n =
    (m : ℕ) (t : StatementParts) → m < n → statement_at ss m ≡ Some t → t.kind ≡ End → ⊥

-- statement n is no `end` or the first
abbrev pub IsNoLaterEnd : List StatementParts → ℕ → Type 0
IsNoLaterEnd ss n =
    (s : StatementParts) → statement_at ss n ≡ Some s → s.kind ≡ End → NoEndBefore ss n

-- statement n is no `back`, or one `apply` names it
abbrev pub ReturnsOneCall : List StatementParts → ℕ → Type 0
ReturnsOneCall ss n =
    (s : StatementParts) → statement_at ss n ≡ Some s → s.kind ≡ Back → IsAppliedOnce ss n

-- number l is no loop of the block, or that loop has one test
abbrev pub LoopIsTested : BlockParts → ℕ → Type 0
LoopIsTested b l = 1 ≤ l → l ≤ length b.loops → IsTested b.statements l

-- what the rule asks of a number in a block: of the statement, or of the loop for the last rule
abbrev pub Asks : StrictRule → BlockParts → ℕ → Type 0
Asks OneSource b at = PortsHaveOneSource b.statements at
Asks OneEnd b at = IsNoLaterEnd b.statements at
Asks OneApply b at = ReturnsOneCall b.statements at
Asks OneTest b at = LoopIsTested b at

-- the block of that number, from 1, breaks the rule at that number of a statement or a loop
pub record Breaks (p : List BlockParts) (rule : StrictRule) (block at : ℕ) : Type 0 where
  pub counts : 1 ≤ block
  pub it : BlockParts
  pub stands : slice_get p (block - 1) ≡ Some it
  pub broken : Asks rule it at → ⊥

-- each block keeps the rule
abbrev pub KeepsRule : List BlockParts → StrictRule → Type 0
KeepsRule p rule = (b : BlockParts) → Contains p b → (at : ℕ) → Asks rule b at

-- the rule is broken there, and at no earlier place
pub record IsFirstOfRule (p : List BlockParts) (rule : StrictRule) (block at : ℕ) : Type 0 where
  pub here : Breaks p rule block at
  pub first : (b a : ℕ) → Breaks p rule b a → IsEarlier b a block at → ⊥

-- the block and the number there are the first at which the rule is broken; with none it is kept
abbrev pub IsFirstIn : List BlockParts → StrictRule → Option (ℕ × ℕ) → Type 0
IsFirstIn p rule None = KeepsRule p rule
IsFirstIn p rule (Some place) = IsFirstOfRule p rule place.0 place.1

-- no rule of a smaller number is broken, and this one at no earlier place
pub record IsFirst (p : List BlockParts) (rule : StrictRule) (block at : ℕ) : Type 0 where
  pub here : IsFirstOfRule p rule block at
  pub first_rule : (r : StrictRule) (b a : ℕ) → Breaks p r b a → number_of r < number_of rule → ⊥

-- what is answered: `Strict` of strict programs alone, or the first place that breaks a rule
abbrev pub IsAnswer : List BlockParts → Strictness → Type 0
IsAnswer p Strict = IsStrict p
IsAnswer p (Loose rule block at) = IsFirst p rule block at

-- it is `Strict` exactly of strict programs
abbrev pub IsExact : List BlockParts → Strictness → Type 0
IsExact p s = (s ≡ Strict) ↔ IsStrict p

-- what is printed of it
abbrev pub words_of : Strictness → List ℕ
words_of Strict = codes "strict"
words_of (Loose rule block at) =
    codes "not strict rule "
    ++ decimal (number_of rule)
    ++ codes " block "
    ++ decimal block
    ++ codes " at "
    ++ decimal at

-- the number is the first of which that does not hold; with none it holds of each
abbrev pub IsFirstFailing : (ℕ → Type 0) → Option ℕ → Type 0
IsFirstFailing P None = (n : ℕ) → P n
IsFirstFailing P (Some n) = (P n → ⊥) × ((m : ℕ) → m < n → P m)
