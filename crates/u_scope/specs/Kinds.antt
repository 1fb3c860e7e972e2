-- The kinds of values, as far as they are known.
use Rattle.std.specs.Prelude.{ℕ, zero, suc, ◌+◌, Bool, true, false, cond, List, [], ◌∷◌, length, drop, reverse, Option, Some, None}
use Rattle.u_source.specs.declared.form.Form.{Form}
use Rattle.u_source.specs.declared.form.Form.TheVariants as form
use Rattle.u_source.specs.declared.form.Node.{Node}
use Rattle.u_source.specs.Trees.{children}
use Rattle.u_scope.specs.declared.checked.Meaning.{Meaning}
use Rattle.u_scope.specs.declared.checked.Meaning.TheVariants as means
use Rattle.u_scope.specs.declared.kind.Kind.{Kind}
use Rattle.u_scope.specs.declared.kind.Kind.TheVariants.{Number, Truth, Procedure, Structure}
use Rattle.u_scope.specs.declared.kinded.Kinded.{Kinded}
use Rattle.u_scope.specs.declared.kinded.Origin.{Origin}
use Rattle.u_scope.specs.declared.kinded.Origin.TheVariants.{Always, Meant, Last, Sides, Unknown}

abbrev pub same_kind : Kind → Kind → Bool
same_kind Number Number = true
same_kind Truth Truth = true
same_kind Procedure Procedure = true
same_kind Structure Structure = true
same_kind a b = false

-- the kind that both are, if it is one
abbrev pub common : Option Kind → Option Kind → Option Kind
common (Some a) (Some b) = cond (same_kind a b) (Some a) None
common a b = None

-- where the kind of what a node stands for comes from. A definition, or a variable of a loop, stands for the name
-- that it makes known, and so does the beginning of the variables of a `for`, with its variable that counts
abbrev pub origin_of : Form → Origin
origin_of form.Name = Meant
origin_of form.Number = Always Number
origin_of form.Negative = Always Number
origin_of form.True = Always Truth
origin_of form.False = Always Truth
origin_of form.Or = Always Truth
origin_of form.And = Always Truth
origin_of form.Not = Always Truth
origin_of form.Less = Always Truth
origin_of form.AtMost = Always Truth
origin_of form.Greater = Always Truth
origin_of form.AtLeast = Always Truth
origin_of form.Equal = Always Truth
origin_of form.Unequal = Always Truth
origin_of form.Add = Always Number
origin_of form.Subtract = Always Number
origin_of form.Multiply = Always Number
origin_of form.Divide = Always Number
origin_of form.Remainder = Always Number
origin_of form.Negate = Always Number
origin_of form.Array = Always Structure
origin_of form.Length = Always Number
origin_of form.If = Sides
origin_of form.Else = Last
origin_of form.Block = Last
origin_of form.AddValue = Last
origin_of form.Loop = Last
origin_of form.For = Last
origin_of form.Give = Last
origin_of form.Define = Last
origin_of form.AddVariable = Last
origin_of form.NoVariables = Always Number
origin_of f = Unknown

-- what is left of some nodes, the last one first, when the last so many trees are left out
abbrev pub without_trees : ℕ → List Kinded → List Kinded
without_trees zero ks = ks
without_trees (suc n) [] = []
without_trees (suc n) (k ∷ ks) = without_trees (n + length (children k.node.form)) ks

abbrev pub kind_next : List Kinded → Option Kind
kind_next [] = None
kind_next (k ∷ ks) = k.kind

-- the kind of the part of a node behind which n other parts stand, where these nodes stand before it, the last one
-- first
abbrev pub part_kind : ℕ → List Kinded → Option Kind
part_kind n ks = kind_next (without_trees n ks)

-- the kind of what a name means: a procedure, or what the node with the number n makes known
abbrev pub kind_meant : Meaning → List Kinded → Option Kind
kind_meant means.Nothing ks = None
kind_meant (means.Procedure n) ks = Some Procedure
kind_meant (means.Name n) ks = kind_next (drop n (reverse ks))

abbrev pub kind_by : Origin → Meaning → List Kinded → Option Kind
kind_by (Always k) m ks = Some k
kind_by Meant m ks = kind_meant m ks
kind_by Last m ks = part_kind 0 ks
kind_by Sides m ks = common (part_kind 1 ks) (part_kind 0 ks)
kind_by Unknown m ks = None

-- a node behind others, with what is known of the kind of what it stands for
abbrev pub with_kind : Node → Meaning → List Kinded → List Kinded
with_kind n m ks = record { node = n; kind = kind_by (origin_of n.form) m ks } ∷ ks

abbrev pub meaning_next : List Meaning → Meaning
meaning_next [] = means.Nothing
meaning_next (m ∷ ms) = m

-- what the node with the number i means
abbrev pub meaning_at : List Meaning → ℕ → Meaning
meaning_at ms i = meaning_next (drop i ms)

-- the nodes before a place, the last one first, with what is known of their kinds
abbrev pub kinded : List Meaning → List Node → List Kinded
kinded ms [] = []
kinded ms (x ∷ xs) = with_kind x (meaning_at ms (length xs)) (kinded ms xs)
