-- What the nodes of a source mean, and the first name that is not allowed.
use Rattle.std.specs.Prelude.{◌≡◌, ◌⊎◌, ℕ, zero, suc, ◌-◌, Bool, true, false, nat_le, List, [], ◌∷◌, ◌++◌, map, length, take, drop, reverse, Option, Some, None, Ok, Err, codes}
use Rattle.u_source.specs.declared.form.Node.{Node}
use Rattle.u_source.specs.declared.place.Position.{Position}
use Rattle.u_source.specs.Places.{start}
use Rattle.u_source.specs.Sources.{SourceParts}
use Rattle.u_source.specs.Tokens.{TokenParts}
use Rattle.u_scope.specs.declared.entry.Entry.{Entry}
use Rattle.u_scope.specs.declared.entry.Event.{Event}
use Rattle.u_scope.specs.declared.entry.Event.TheVariants.{Name}
use Rattle.u_scope.specs.declared.finding.Found.{Found}
use Rattle.u_scope.specs.declared.check_error.CheckError.{CheckError}
use Rattle.u_scope.specs.declared.check_error.CheckError.TheVariants.{Refused, NoMemory}
use Rattle.u_scope.specs.declared.check_error.CheckProblem.{CheckProblem}
use Rattle.u_scope.specs.declared.check_error.CheckProblem.TheVariants.{NoMain}
use Rattle.u_scope.specs.declared.checked.Meaning.{Meaning}
use Rattle.u_scope.specs.declared.checked.Meaning.TheVariants.{Nothing}
use Rattle.u_scope.specs.declared.checked.Walk.{Walk}
use Rattle.u_scope.specs.declared.values.Breach.{Breach}
use Rattle.u_scope.specs.Entries.{event_of, scopes_at, procedures}
use Rattle.u_scope.specs.Finding.{named}
use Rattle.u_scope.specs.Meanings.{Here, Verdict, meaning}
use Rattle.u_scope.specs.Values.{IsLeast, first_of, value_breach}

abbrev pub verdict_by : Event → Here → Verdict
verdict_by Name h = meaning h
verdict_by e h = Ok Nothing

-- what a node means, and what stands around it if it is a name
abbrev pub node_verdict : Node → Here → Verdict
node_verdict n h = verdict_by (event_of n.form) h

-- what the first of the nodes that are left means, where these stand before it, the last one first
abbrev pub verdict_between : List TokenParts → List Entry → List Node → List Node → Verdict
verdict_between ts ps before [] = Ok Nothing
verdict_between ts ps before (n ∷ ns) = node_verdict n (record { tokens = ts; procedures = ps; scopes = scopes_at before; before = before; behind = ns; token = n.token })

-- what the node with the number i means, where these are the procedures
abbrev pub verdict_with : List TokenParts → List Entry → List Node → ℕ → Verdict
verdict_with ts ps nodes i = verdict_between ts ps (reverse (take i nodes)) (drop i nodes)

-- what the first k nodes mean
abbrev pub verdicts_with : List TokenParts → List Entry → List Node → ℕ → List Verdict
verdicts_with ts ps nodes zero = []
verdicts_with ts ps nodes (suc k) = verdicts_with ts ps nodes k ++ verdict_with ts ps nodes k ∷ []

abbrev pub place_next : List TokenParts → Position
place_next [] = start
place_next (t ∷ ts) = t.place

-- the place of the token with the number n
abbrev pub place_at : List TokenParts → ℕ → Position
place_at ts n = place_next (drop n ts)

-- the place of the last token, or of the first byte where there is none
abbrev pub place_last : List TokenParts → Position
place_last ts = place_at ts (length ts - 1)

abbrev pub token_next : List Node → ℕ
token_next [] = 0
token_next (n ∷ ns) = n.token

abbrev pub is_there : Option Found → Bool
is_there None = false
is_there (Some k) = true

-- a procedure is `main`
abbrev pub has_main : List TokenParts → List Entry → Bool
has_main ts ps = is_there (named ts (codes "main") ps)

abbrev pub breach_of : ℕ → Verdict → Option Breach
breach_of t (Ok m) = None
breach_of t (Err p) = Some (record { token = t; problem = p })

-- what is not allowed of the name of the node with the number i
abbrev pub name_breach : List TokenParts → List Entry → List Node → ℕ → Option Breach
name_breach ts ps nodes i = breach_of (token_next (drop i nodes)) (verdict_with ts ps nodes i)

-- what is not allowed at the node with the number i
abbrev pub breach_at : List TokenParts → List Entry → List Node → ℕ → Option Breach
breach_at ts ps nodes i = first_of (name_breach ts ps nodes i) (value_breach nodes i)

-- the token does not stand before what is not allowed already
abbrev pub is_behind : Option Breach → ℕ → Bool
is_behind None t = false
is_behind (Some b) t = nat_le b.token t

-- what is not allowed of a name is told, save behind what is not allowed already; and if all is allowed so far, this
-- is what the name means
pub record IsJudged (first : Option Breach) (n : Node) (h : Here) (m : Meaning) (b : Option Breach) : Type 0 where
  pub breach : first_of first b ≡ first_of first (breach_of n.token (node_verdict n h))
  pub meaning : first_of first b ≡ None → Ok m ≡ node_verdict n h

-- the node with the number i is gone past
pub record IsStep (ts : List TokenParts) (ps : List Entry) (nodes : List Node) (i : ℕ) (old new : Walk) : Type 0 where
  pub scopes : reverse new.scopes.items ≡ scopes_at (reverse (take (suc i) nodes))
  pub first : new.first ≡ first_of (first_of old.first (name_breach ts ps nodes i)) (value_breach nodes i)
  pub meanings : new.first ≡ None → map Ok new.meanings.items ≡ map Ok old.meanings.items ++ verdict_with ts ps nodes i ∷ []

-- all nodes are gone past
pub record IsWalked (ts : List TokenParts) (ps : List Entry) (nodes : List Node) (w : Walk) : Type 0 where
  pub first : IsLeast (breach_at ts ps nodes) (length nodes) w.first
  pub meanings : w.first ≡ None → map Ok w.meanings.items ≡ verdicts_with ts ps nodes (length nodes)

-- what is not allowed at the node of a source with the number i
abbrev pub breach_in : SourceParts → ℕ → Option Breach
breach_in s i = breach_at s.tokens (procedures s.nodes) s.nodes i

-- all nodes of a source are allowed, and this is what they mean
pub record AreMeanings (s : SourceParts) (ms : List Meaning) : Type 0 where
  pub allowed : IsLeast (breach_in s) (length s.nodes) None
  pub means : map Ok ms ≡ verdicts_with s.tokens (procedures s.nodes) s.nodes (length s.nodes)

-- a source is allowed, and this is what its nodes mean
pub record IsChecked (s : SourceParts) (ms : List Meaning) : Type 0 where
  pub meanings : AreMeanings s ms
  pub main : has_main s.tokens (procedures s.nodes) ≡ true

abbrev pub refusal : List TokenParts → Breach → CheckError
refusal ts b = Refused (place_at ts b.token) b.problem

-- a node of a source is not allowed, and no token before that place shows another one
pub record IsRefused (s : SourceParts) (p : Position) (why : CheckProblem) : Type 0 where
  pub breach : Breach
  pub first : IsLeast (breach_in s) (length s.nodes) (Some breach)
  pub place : p ≡ place_at s.tokens breach.token
  pub problem : why ≡ breach.problem

-- all is allowed, but that no procedure is `main`
pub record IsMainless (s : SourceParts) (p : Position) (why : CheckProblem) : Type 0 where
  pub allowed : IsLeast (breach_in s) (length s.nodes) None
  pub main : has_main s.tokens (procedures s.nodes) ≡ false
  pub problem : why ≡ NoMain
  pub place : p ≡ place_last s.tokens

-- why a source is refused
abbrev pub IsCheckError : SourceParts → CheckError → Type 0
IsCheckError s (Refused p why) = IsRefused s p why ⊎ IsMainless s p why
IsCheckError s NoMemory = Unit {0}
