-- What the checker and the firing rule ask of a statement's kind.
use Rattle.std.specs.Prelude.{ℕ, suc, Bool, true, false, Option, Some, None}
use Rattle.u_program.specs.declared.program.Kind.{Kind}
use Rattle.u_program.specs.declared.program.Kind.TheVariants.{Begin, Binary, Select, Switch, Enter, Next, Param}
use Rattle.u_program.specs.declared.program.Kind.TheVariants.{Last, Leave, Apply, Back, Store, Fetch, Ask, End}
use Rattle.u_program.specs.Limits.{count_of}

-- how many ports a statement of that kind has
abbrev pub ports_of : Kind → ℕ
ports_of (Binary o) = 2
ports_of Select = 3
ports_of Switch = 2
ports_of (Apply b n) = suc (count_of n)
ports_of Store = 3
ports_of Fetch = 2
ports_of (Ask s n) = count_of n
ports_of k = 1

abbrev pub is_begin : Kind → Bool
is_begin Begin = true
is_begin k = false

abbrev pub is_back : Kind → Bool
is_back Back = true
is_back k = false

abbrev pub is_last : Kind → Bool
is_last Last = true
is_last k = false

abbrev pub is_leave : Kind → Bool
is_leave Leave = true
is_leave k = false

abbrev pub is_apply : Kind → Bool
is_apply (Apply b n) = true
is_apply k = false

abbrev pub is_param : Kind → Bool
is_param (Param k) = true
is_param k = false

-- the `back` that an `apply` names
abbrev pub back_named : Kind → Option ℕ
back_named (Apply b n) = Some b
back_named k = None

abbrev pub is_end : Kind → Bool
is_end End = true
is_end k = false

-- whether its value comes from outside: from a call of its block, or from a call that it made
abbrev pub comes_from_outside : Kind → Bool
comes_from_outside Begin = true
comes_from_outside (Param k) = true
comes_from_outside Back = true
comes_from_outside k = false

abbrev pub is_store : Kind → Bool
is_store Store = true
is_store k = false

-- whether it asks a service outside
abbrev pub is_ask : Kind → Bool
is_ask (Ask s n) = true
is_ask k = false

-- whether it stands in a loop alone
abbrev pub is_of_loop : Kind → Bool
is_of_loop Next = true
is_of_loop Last = true
is_of_loop Leave = true
is_of_loop k = false

-- whether it sends from one region into another
abbrev pub crosses : Kind → Bool
crosses (Enter l) = true
crosses Leave = true
crosses k = false
