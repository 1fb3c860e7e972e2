-- What a name means where it stands, and why it is not allowed there.
use Rattle.std.specs.Prelude.{ℕ, suc, ◌-◌, Bool, true, false, cond, not, ◌&&◌, ◌==◌, List, [], ◌∷◌, drop, reverse, Option, Some, None, Result, Ok, Err, codes}
use Rattle.u_base.specs.WholeWords.{is}
use Rattle.u_source.specs.declared.form.Node.{Node}
use Rattle.u_source.specs.Tokens.{TokenParts}
use Rattle.u_scope.specs.declared.entry.Entry.{Entry}
use Rattle.u_scope.specs.declared.entry.Event.{Event}
use Rattle.u_scope.specs.declared.entry.Event.TheVariants as event_is
use Rattle.u_scope.specs.declared.finding.Found.{Found}
use Rattle.u_scope.specs.declared.check_error.CheckProblem.{CheckProblem}
use Rattle.u_scope.specs.declared.check_error.CheckProblem.TheVariants.{MoreProcedures, MainParameters, DefinedAlready, IsProcedure, NotKnown, DefinedLater, NotKnownHere, Arguments, NoNext, SecondNext, NoVariable, NextOutside}
use Rattle.u_scope.specs.declared.checked.Meaning.{Meaning}
use Rattle.u_scope.specs.declared.checked.Meaning.TheVariants as means
use Rattle.u_scope.specs.declared.naming.Named.{Named}
use Rattle.u_scope.specs.declared.naming.Sign.{Sign}
use Rattle.u_scope.specs.declared.naming.Sign.TheVariants as sign
use Rattle.u_scope.specs.declared.spot.Role.{Role}
use Rattle.u_scope.specs.declared.spot.Role.TheVariants as role_is
use Rattle.u_scope.specs.declared.spot.Spot.{Spot}
use Rattle.u_scope.specs.Counting.{commas, given, has_next, behind_block, is_loops}
use Rattle.u_scope.specs.Entries.{event_of, is_for}
use Rattle.u_scope.specs.Finding.{known, named, earlier, later, variable, next_before}
use Rattle.u_scope.specs.Naming.{sign_at, sign_behind, named_at}

-- a name in a source: the tokens, the procedures of the source, the nodes before it, the last one first, of which
-- those that are open stand in scopes that have not ended, the nodes behind it, and the number of its token
pub record Here : Type 0 where
  pub tokens : List TokenParts
  pub procedures : List Entry
  pub scopes : List Entry
  pub before : List Node
  pub behind : List Node
  pub token : ℕ

abbrev pub here : Spot → Here
here s = record { tokens = s.tokens.now; procedures = s.procedures.now; scopes = reverse s.scopes.now; before = reverse s.before.now; behind = s.behind.now; token = s.token }

abbrev pub Verdict : Type 0
Verdict = Result Meaning CheckProblem

abbrev pub role_behind : Sign → Sign → Role
role_behind sign.Loop sign.Becomes = role_is.Variable
role_behind sign.Comma sign.Becomes = role_is.Variable
role_behind s sign.Becomes = role_is.Definition
role_behind s a = role_is.Use

abbrev pub role_before : Sign → Sign → Event → Role
role_before s a event_is.Parameter = role_is.Parameter
role_before s a e = role_behind s a

-- what a name is, by the token before it, the one behind it, and what the node behind it does
abbrev pub role_by : Sign → Sign → Event → Role
role_by sign.Def a e = role_is.Procedure
role_by sign.For a e = role_is.Counter
role_by sign.Next a e = role_is.Next
role_by s a e = role_before s a e

abbrev pub event_next : List Node → Event
event_next [] = event_is.Other
event_next (n ∷ ns) = event_of n.form

abbrev pub role : Here → Role
role h = role_by (sign_at h.tokens (h.token - 1)) (sign_behind h.tokens h.token 1) (event_next h.behind)

abbrev pub is_main : List ℕ → Bool
is_main x = is x (codes "main")

-- how many parameters the procedure has that this token shows
abbrev pub parameters : List TokenParts → ℕ → ℕ
parameters ts t = suc (commas (drop t ts))

-- the token before the one with the number t shows the first of these procedures
abbrev pub is_shown_by : ℕ → List Entry → Bool
is_shown_by t [] = false
is_shown_by t (e ∷ es) = e.token == t - 1

-- it shows a 65th one
abbrev pub is_over : ℕ → List Entry → Bool
is_over t es = is_shown_by t (drop 64 es)

-- the name of a procedure is no other procedure's, and `main` has 1 parameter
abbrev pub own_name : Here → List ℕ → Found → Verdict
own_name h x k = cond (k.token == h.token - 1) (cond (is_main x && not (parameters h.tokens k.token == 1)) (Err MainParameters) (Ok means.Nothing)) (Err (DefinedAlready x k.line))

abbrev pub procedure_by : Here → List ℕ → Option Found → Verdict
procedure_by h x None = Ok means.Nothing
procedure_by h x (Some k) = own_name h x k

abbrev pub procedure_meaning : Here → List ℕ → Verdict
procedure_meaning h x = cond (is_over h.token h.procedures) (Err MoreProcedures) (procedure_by h x (named h.tokens x h.procedures))

abbrev pub defined_by : List ℕ → Option Found → Option Found → Verdict
defined_by x (Some p) k = Err (IsProcedure x)
defined_by x None (Some k) = Err (DefinedAlready x k.line)
defined_by x None None = Ok means.Nothing

-- a name that is defined is no procedure's and not known already
abbrev pub defined : Here → List ℕ → Bool → Verdict
defined h x v = defined_by x (named h.tokens x h.procedures) (known h.tokens x v h.scopes)

abbrev pub with_next : List ℕ → Bool → Verdict → Verdict
with_next x b (Err p) = Err p
with_next x true (Ok m) = Ok m
with_next x false (Ok m) = Err (NoNext x)

-- a variable of a loop is not one of the list already, and has a next value
abbrev pub variable_meaning : Here → List ℕ → Verdict
variable_meaning h x = with_next x (has_next h.tokens x 0 false h.behind) (defined h x true)

abbrev pub first_next : List ℕ → Found → Option ℕ → Verdict
first_next x k (Some line) = Err (SecondNext x line)
first_next x k None = Ok (means.Name k.number)

-- the variable that counts in a `for` has its next value, and another one no `next` before
abbrev pub next_by : Here → List ℕ → Found → Verdict
next_by h x k = cond (is_for (sign_at h.tokens k.token)) (Err (SecondNext x k.line)) (first_next x k (next_before h.tokens x h.scopes))

abbrev pub next_of : Here → List ℕ → Option Found → Verdict
next_of h x (Some k) = next_by h x k
next_of h x None = Err (NoVariable x)

-- a next value stands in a loop's own block, and is that of a variable of the loop
abbrev pub next_meaning : Here → List ℕ → Verdict
next_meaning h x = cond (is_loops (behind_block 0 h.behind)) (next_of h x (variable h.tokens x false h.scopes)) (Err NextOutside)

abbrev pub with_arguments : List ℕ → Found → ℕ → ℕ → Verdict
with_arguments x k takes given = cond (takes == given) (Ok (means.Procedure k.number)) (Err (Arguments x takes given))

abbrev pub called_by : Here → List ℕ → Found → Event → Verdict
called_by h x k event_is.Arguments = with_arguments x k (parameters h.tokens k.token) (given 0 h.behind)
called_by h x k e = Ok (means.Procedure k.number)

-- a procedure that is called by its name gets so many arguments as it has parameters
abbrev pub called : Here → List ℕ → Found → Verdict
called h x k = called_by h x k (event_next h.behind)

abbrev pub unknown_by : List ℕ → Option ℕ → Option ℕ → CheckProblem
unknown_by x (Some line) l = NotKnownHere x line
unknown_by x None (Some line) = DefinedLater x line
unknown_by x None None = NotKnown x

-- why x is not known
abbrev pub why_unknown : Here → List ℕ → CheckProblem
why_unknown h x = unknown_by x (earlier h.tokens x h.before) (later h.tokens x h.behind)

abbrev pub used_by : Here → List ℕ → Option Found → Option Found → Verdict
used_by h x (Some p) k = called h x p
used_by h x None (Some k) = Ok (means.Name k.number)
used_by h x None None = Err (why_unknown h x)

-- a name that is used is a procedure's, or else known where it stands
abbrev pub used : Here → List ℕ → Verdict
used h x = used_by h x (named h.tokens x h.procedures) (known h.tokens x false h.scopes)

abbrev pub judged : Here → List ℕ → Role → Verdict
judged h x role_is.Procedure = procedure_meaning h x
judged h x role_is.Parameter = defined h x false
judged h x role_is.Definition = defined h x false
judged h x role_is.Variable = variable_meaning h x
judged h x role_is.Counter = defined h x false
judged h x role_is.Next = next_meaning h x
judged h x role_is.Use = used h x

abbrev pub meaning_by : Here → Option Named → Verdict
meaning_by h None = Ok means.Nothing
meaning_by h (Some n) = judged h n.name (role h)

-- what the name means here
abbrev pub meaning : Here → Verdict
meaning h = meaning_by h (named_at h.tokens h.token)
