-- Which values have to be of one kind, and where a value of another kind stands.
use Rattle.std.specs.Prelude.{ℕ, cond, List, [], ◌∷◌, drop, Option, Some, None}
use Rattle.u_source.specs.declared.form.Form.{Form}
use Rattle.u_source.specs.declared.form.Form.TheVariants as form
use Rattle.u_source.specs.declared.token.Word.{Word}
use Rattle.u_source.specs.declared.token.Word.TheVariants.{Name}
use Rattle.u_source.specs.Tokens.{TokenParts}
use Rattle.u_scope.specs.Firsts.{before_by, first_by}
use Rattle.u_scope.specs.declared.clash.Clash.{Clash}
use Rattle.u_scope.specs.declared.clash.Wanted.{Wanted}
use Rattle.u_scope.specs.declared.clash.Wants.{Wants}
use Rattle.u_scope.specs.declared.clash.Wants.TheVariants.{Nothing, One, Two}
use Rattle.u_scope.specs.declared.kind.Kind.{Kind}
use Rattle.u_scope.specs.declared.kind.Kind.TheVariants.{Number, Truth, Procedure, Structure}
use Rattle.u_scope.specs.declared.kind_error.KindProblem.TheVariants.{Unexpected, Changed}
use Rattle.u_scope.specs.declared.kinded.Kinded.{Kinded}
use Rattle.u_scope.specs.Kinds.{same_kind, without_trees, part_kind}

-- the part behind which n others stand has to be of this kind
abbrev pub wanted : ℕ → Kind → Wanted
wanted n k = record { behind = n; kind = k }

abbrev pub one : ℕ → Kind → Wants
one n k = One (wanted n k)

-- the last two parts
abbrev pub both : Kind → Wants
both k = Two (wanted 1 k) (wanted 0 k)

-- which parts of a node have to be of one kind. An `if` has two parts behind its test, and so has a `loop`; a `for`
-- has three parts behind its limit, and one more behind the number that it begins with
abbrev pub wants_of : Form → Wants
wants_of form.Or = both Truth
wants_of form.And = both Truth
wants_of form.Not = one 0 Truth
wants_of form.Less = both Number
wants_of form.AtMost = both Number
wants_of form.Greater = both Number
wants_of form.AtLeast = both Number
wants_of form.Equal = both Number
wants_of form.Unequal = both Number
wants_of form.Add = both Number
wants_of form.Subtract = both Number
wants_of form.Multiply = both Number
wants_of form.Divide = both Number
wants_of form.Remainder = both Number
wants_of form.Negate = one 0 Number
wants_of form.Array = one 0 Number
wants_of form.Length = one 0 Structure
wants_of form.Index = Two (wanted 1 Structure) (wanted 0 Number)
wants_of form.Call = one 1 Procedure
wants_of form.If = one 2 Truth
wants_of form.Loop = one 2 Truth
wants_of form.For = Two (wanted 4 Number) (wanted 3 Number)
wants_of f = Nothing

-- a value that this token shows is of another kind than the one that is wanted
abbrev pub clash_with : Kind → Option Kind → ℕ → Option Clash
clash_with w None t = None
clash_with w (Some k) t = cond (same_kind w k) None (Some (record { token = t; problem = Unexpected w k }))

abbrev pub clash_next : Kind → List Kinded → Option Clash
clash_next w [] = None
clash_next w (k ∷ ks) = clash_with w k.kind k.node.token

-- a part of a node is of another kind than it has to be, where these nodes stand before the node, the last one first
abbrev pub wanted_clash : Wanted → List Kinded → Option Clash
wanted_clash w ks = clash_next w.kind (without_trees w.behind ks)

abbrev pub before : Clash → Option Clash → Clash
before a o = before_by (λ (c : Clash). c.token) a o

abbrev pub first_of : Option Clash → Option Clash → Option Clash
first_of a o = first_by (λ (c : Clash). c.token) a o

abbrev pub wants_clash : Wants → List Kinded → Option Clash
wants_clash Nothing ks = None
wants_clash (One a) ks = wanted_clash a ks
wants_clash (Two a b) ks = first_of (wanted_clash a ks) (wanted_clash b ks)

abbrev pub name_of : Word → Option (List ℕ)
name_of (Name x) = Some x
name_of w = None

abbrev pub name_next : List TokenParts → Option (List ℕ)
name_next [] = None
name_next (t ∷ ts) = name_of t.word

-- the name that the token with the number n is
abbrev pub name_at : List TokenParts → ℕ → Option (List ℕ)
name_at ts n = name_next (drop n ts)

abbrev pub changed_by : Option (List ℕ) → ℕ → Kind → Kind → Option Clash
changed_by None t a b = None
changed_by (Some x) t a b = Some (record { token = t; problem = Changed x a b })

-- the variable whose name is this token begins with one kind and goes on with another one
abbrev pub changed : List TokenParts → ℕ → Kind → Kind → Option Clash
changed ts t a b = cond (same_kind a b) None (changed_by (name_at ts t) t a b)

abbrev pub next_by : List TokenParts → ℕ → Option Kind → Option Kind → Option Clash
next_by ts t (Some a) (Some b) = changed ts t a b
next_by ts t a b = None

abbrev pub next_value : List TokenParts → Option Kind → List Kinded → Option Clash
next_value ts b [] = None
next_value ts b (k ∷ ks) = next_by ts k.node.token k.kind b

-- the next value is of another kind than the variable, where these nodes stand before the `next`: its parts are the
-- name and the value
abbrev pub next_clash : List TokenParts → List Kinded → Option Clash
next_clash ts ks = next_value ts (part_kind 0 ks) (without_trees 1 ks)

-- the first clash of the parts of a node, where these nodes stand before it, the last one first
abbrev pub clash_of : List TokenParts → Form → List Kinded → Option Clash
clash_of ts form.Next ks = next_clash ts ks
clash_of ts f ks = wants_clash (wants_of f) ks
