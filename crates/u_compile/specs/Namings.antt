-- The values of names in scopes: where they come from.
use Rattle.std.specs.Prelude.{◌≡◌, ℕ, false, List, [], ◌∷◌, ◌++◌, Some, slice_get}
use Rattle.u_program.specs.declared.program.Constant.{Constant}
use Rattle.u_program.specs.declared.program.Kind.TheVariants.{Const}
use Rattle.u_scope.specs.declared.checked.Meaning.{Meaning}
use Rattle.u_scope.specs.declared.checked.Meaning.TheVariants.{Name}
use Rattle.u_compile.specs.declared.drawing.Scope.{Scope}
use Rattle.u_compile.specs.declared.naming.Binding.{Binding}
use Rattle.u_compile.specs.declared.naming.ConstantBinding.{ConstantBinding}
use Rattle.u_compile.specs.declared.naming.Alias.{Alias}
use Rattle.u_compile.specs.declared.naming.ScopedNames.{ScopedNames}
use Rattle.u_compile.specs.Graphs.{output}
use Rattle.u_compile.specs.Scoped.{IsOf}
use Rattle.u_compile.specs.Drawings.{DrawingParts, IsOfKind, AreFed, Grows, Enters, Comes}

abbrev pub a_binding : ℕ → ℕ → ℕ → Binding
a_binding scope name value = record { scope = scope; name = name; value = value }

abbrev pub a_constant : ℕ → Constant → ℕ → ConstantBinding
a_constant scope constant value = record { scope = scope; constant = constant; value = value }

abbrev pub an_alias : ℕ → Constant → Alias
an_alias name constant = record { name = name; constant = constant }

-- the name is no name for a constant
abbrev pub HasNoAlias : List Alias → ℕ → Type 0
HasNoAlias aliases name = (k : Constant) → IsOf aliases (an_alias name k) → ⊥

-- the outer scope is that scope itself, or around it
pub data IsWithin (scopes : List Scope) (outer : ℕ) : ℕ → Type 0 where
  itself : IsWithin scopes outer outer
  inside : (s : ℕ) (x : Scope) → slice_get scopes s ≡ Some x → IsWithin scopes outer x.around → IsWithin scopes outer s

-- the outer scope is right around that scope
abbrev pub IsRightAround : List Scope → ℕ → ℕ → Type 0
IsRightAround scopes outer s = (x : Scope) × (slice_get scopes s ≡ Some x) × (x.around ≡ outer)

-- One of the bindings is of the name: in that scope, or in one around it. Value v is there what its value is in its own.
pub record IsNamed (d : DrawingParts) (bs : List Binding) (scope name v : ℕ) : Type 0 where
  pub binding : Binding
  pub is : IsOf bs binding
  pub named : binding.name ≡ name
  pub comes : Comes d binding.scope binding.value scope v

-- What is known of names: their values in scopes, those that are constants, and the values of constants in scopes.
pub record KnownParts : Type 0 where
  pub bindings : List Binding
  pub aliases : List Alias
  pub constants : List ConstantBinding

abbrev pub known : ScopedNames → KnownParts
known ns = record { bindings = ns.bindings.items; aliases = ns.aliases.items; constants = ns.constants.items }

abbrev pub nothing_known : KnownParts
nothing_known = record { bindings = []; aliases = []; constants = [] }

abbrev pub with_binding : KnownParts → Binding → KnownParts
with_binding k b = record k { bindings = k.bindings ++ (b ∷ []) }

abbrev pub with_alias : KnownParts → Alias → KnownParts
with_alias k a = record k { aliases = k.aliases ++ (a ∷ []) }

abbrev pub with_constant : KnownParts → ConstantBinding → KnownParts
with_constant k c = record k { constants = k.constants ++ (c ∷ []) }

-- Bindings are added. They are of the name, and of what it is in their scope.
pub record AddsNamed (d : DrawingParts) (k l : KnownParts) (name : ℕ) : Type 0 where
  pub more : List Binding
  pub are : l ≡ record k { bindings = k.bindings ++ more }
  pub each : (b : Binding) → IsOf more b → (b.name ≡ name) × IsNamed d k.bindings b.scope name b.value

-- Value v is that constant in the scope: what a `const` of it gives, to which exactly the value of the scope's clock leads.
pub record IsConstant (d : DrawingParts) (bs : List Binding) (scope : ℕ) (constant : Constant) (v : ℕ) : Type 0 where
  pub within : Scope
  pub is : slice_get d.scopes scope ≡ Some within
  pub trigger : ℕ
  pub clock : IsNamed d bs scope within.clock trigger
  pub statement : ℕ
  pub stands : IsOfKind d.statements statement (Const constant)
  pub fed : AreFed d.links d.values statement 1 (trigger ∷ [])
  pub gives : slice_get d.values v ≡ Some (output statement false ∷ [])

-- it is known as that, or is that
pub data HasConstant (d : DrawingParts) (k : KnownParts) (scope : ℕ) (constant : Constant) (v : ℕ) : Type 0 where
  noted : IsOf k.constants (a_constant scope constant v) → HasConstant d k scope constant v
  made : IsConstant d k.bindings scope constant v → HasConstant d k scope constant v

-- More is known: values of names and of constants in scopes, and of each that it is so.
pub record Learns (d : DrawingParts) (k l : KnownParts) : Type 0 where
  pub bindings : List Binding
  pub constants : List ConstantBinding
  pub are : l ≡ record k { bindings = k.bindings ++ bindings; constants = k.constants ++ constants }
  pub named : (b : Binding) → IsOf bindings b → IsNamed d k.bindings b.scope b.name b.value
  pub made : (c : ConstantBinding) → IsOf constants c → IsConstant d k.bindings c.scope c.constant c.value

-- the procedure grew, and value w is what value v is in that scope, if v is in the scope around it
pub record Brings (d e : DrawingParts) (scope v w : ℕ) : Type 0 where
  pub grows : Grows d e
  pub into : Scope
  pub is : slice_get e.scopes scope ≡ Some into
  pub enters : Enters e into.way v w

-- The node is a name that is used in that scope, where these are the meanings of the nodes: value v comes from one that
-- was bound to what it means.
pub record IsUsed (ms : List Meaning) (d : DrawingParts) (bs : List Binding) (scope node v : ℕ) : Type 0 where
  pub name : ℕ
  pub means : slice_get ms node ≡ Some (Name name)
  pub named : IsNamed d bs scope name v
