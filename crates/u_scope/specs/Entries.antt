-- What the nodes of a source do with names, and the nodes whose scopes have not ended.
use Rattle.std.specs.Prelude.{ℕ, zero, suc, ◌-◌, Bool, true, false, cond, ◌||◌, List, [], ◌∷◌, length, Option, None}
use Rattle.u_source.specs.declared.form.Form.{Form}
use Rattle.u_source.specs.declared.form.Form.TheVariants as form
use Rattle.u_source.specs.declared.form.Node.{Node}
use Rattle.u_source.specs.Tokens.{TokenParts}
use Rattle.u_scope.specs.declared.entry.Entry.{Entry}
use Rattle.u_scope.specs.declared.entry.Event.{Event}
use Rattle.u_scope.specs.declared.entry.Event.TheVariants.{Name, Procedure, Parameters, Parameter, Block, BlockEnd, Variables, Variable, Loop, LoopEnd, Definition, Next, Arguments, Argument, Call, Side, Other}
use Rattle.u_scope.specs.declared.naming.Named.{Named}
use Rattle.u_scope.specs.declared.naming.Sign.{Sign}
use Rattle.u_scope.specs.declared.naming.Sign.TheVariants as sign
use Rattle.u_scope.specs.Naming.{sign_at, named_at, named_behind}

-- what nodes of a form do
abbrev pub event_of : Form → Event
event_of form.Name = Name
event_of form.AddProcedure = Procedure
event_of form.NoParameters = Parameters
event_of form.AddParameter = Parameter
event_of form.NoItems = Block
event_of form.Block = BlockEnd
event_of form.NoVariables = Variables
event_of form.AddVariable = Variable
event_of form.Variables = Loop
event_of form.Loop = LoopEnd
event_of form.For = LoopEnd
event_of form.Define = Definition
event_of form.Next = Next
event_of form.NoArguments = Arguments
event_of form.AddArgument = Argument
event_of form.Call = Call
event_of form.NoElse = Side
event_of form.Otherwise = Side
event_of form.Else = Side
event_of f = Other

-- a scope begins, or what leads to one: the parameters of a procedure, a block, the variables of a loop
abbrev pub opens : Event → Bool
opens Parameters = true
opens Block = true
opens Variables = true
opens e = false

-- it ends
abbrev pub closes : Event → Bool
closes Procedure = true
closes BlockEnd = true
closes LoopEnd = true
closes e = false

-- it counts until its scope ends
abbrev pub stays : Event → Bool
stays Parameter = true
stays Variable = true
stays Loop = true
stays Definition = true
stays Next = true
stays e = false

abbrev pub is_for : Sign → Bool
is_for sign.For = true
is_for s = false

-- the first parameter stands behind `def`, a name and a bracket, each other one behind a comma
abbrev pub steps_to_parameter : Sign → ℕ
steps_to_parameter sign.Def = 3
steps_to_parameter s = 1

-- the name that a node gives a meaning or a next value. A definition is shown by its `=`, a variable of a loop by
-- the `loop` or the comma before it, that of a `for` by the `for`, a procedure by its `def`
abbrev pub declared : List TokenParts → Event → ℕ → Option Named
declared ts Definition t = named_at ts (t - 1)
declared ts Procedure t = named_behind ts t 1
declared ts Variable t = named_behind ts t 1
declared ts Next t = named_behind ts t 1
declared ts Parameter t = named_behind ts t (steps_to_parameter (sign_at ts t))
declared ts Variables t = cond (is_for (sign_at ts t)) (named_behind ts t 1) None
declared ts e t = None

-- the node with the number n
abbrev pub entry : ℕ → Node → Entry
entry n x = record { number = n; event = event_of x.form; token = x.token }

abbrev pub kept : Entry → List Entry → List Entry
kept e es = cond (opens e.event || stays e.event) (e ∷ es) es

-- how many scopes that have ended are left out before a node which is not there yet left out, where there were k
abbrev pub left_out : Event → ℕ → ℕ
left_out e k = cond (closes e) (suc (suc k)) (cond (opens e) k (suc k))

-- the nodes before a place, the last one first, that stand in scopes which have not ended there; so many scopes
-- that ended before it are still to be left out
abbrev pub scopes_from : ℕ → List Node → List Entry
scopes_from k [] = []
scopes_from zero (x ∷ xs) = cond (closes (event_of x.form)) (scopes_from 1 xs) (kept (entry (length xs) x) (scopes_from 0 xs))
scopes_from (suc k) (x ∷ xs) = scopes_from (left_out (event_of x.form) k) xs

-- the nodes before a place, the last one first, that stand in scopes which have not ended there
abbrev pub scopes_at : List Node → List Entry
scopes_at xs = scopes_from 0 xs

-- what is left when the scope that began last is left
abbrev pub left_behind : List Entry → List Entry
left_behind [] = []
left_behind (e ∷ es) = cond (opens e.event) es (left_behind es)

-- what is left when the node with the number n is gone past
abbrev pub stepped : ℕ → Node → List Entry → List Entry
stepped n x es = cond (closes (event_of x.form)) (left_behind es) (kept (entry n x) es)

abbrev pub is_procedure : Event → Bool
is_procedure Procedure = true
is_procedure e = false

-- the nodes with which procedures end, where the first node has the number n
abbrev pub procedures_from : ℕ → List Node → List Entry
procedures_from n [] = []
procedures_from n (x ∷ xs) = cond (is_procedure (event_of x.form)) (entry n x ∷ procedures_from (suc n) xs) (procedures_from (suc n) xs)

-- the nodes with which the procedures of a source end
abbrev pub procedures : List Node → List Entry
procedures xs = procedures_from 0 xs
