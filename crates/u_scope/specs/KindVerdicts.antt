-- The first clash of a source.
use Rattle.std.specs.Prelude.{◌≡◌, ℕ, List, [], ◌∷◌, length, take, drop, reverse, Option, Some, None}
use Rattle.u_source.specs.declared.form.Node.{Node}
use Rattle.u_source.specs.declared.place.Position.{Position}
use Rattle.u_source.specs.Sources.{SourceParts}
use Rattle.u_source.specs.Tokens.{TokenParts}
use Rattle.u_scope.specs.declared.checked.Meaning.{Meaning}
use Rattle.u_scope.specs.Verdicts.{place_at}
use Rattle.u_scope.specs.declared.checking.Walk.{Walk}
use Rattle.u_scope.specs.declared.clash.Clash.{Clash}
use Rattle.u_scope.specs.declared.kind_error.KindError.{KindError}
use Rattle.u_scope.specs.declared.kind_error.KindError.TheVariants.{Refused, NoMemory}
use Rattle.u_scope.specs.declared.kind_error.KindProblem.{KindProblem}
use Rattle.u_scope.specs.declared.kinded.Kinded.{Kinded}
use Rattle.u_scope.specs.Firsts.{IsLeastBy}
use Rattle.u_scope.specs.Clashes.{clash_of, first_of}
use Rattle.u_scope.specs.Kinds.{kinded, with_kind}

abbrev pub clash_between : List TokenParts → List Kinded → List Node → Option Clash
clash_between ts ks [] = None
clash_between ts ks (n ∷ ns) = clash_of ts n.form ks

-- the first clash of the parts of the node with the number i, where these nodes mean this
abbrev pub clash_at : List TokenParts → List Meaning → List Node → ℕ → Option Clash
clash_at ts ms nodes i = clash_between ts (kinded ms (reverse (take i nodes))) (drop i nodes)

abbrev pub IsLeast : (ℕ → Option Clash) → ℕ → Option Clash → Type 0
IsLeast f k o = IsLeastBy (λ (c : Clash). c.token) f k o

-- the first clash of some nodes
abbrev pub IsFirstOf : List TokenParts → List Meaning → List Node → Option Clash → Type 0
IsFirstOf ts ms nodes o = IsLeast (clash_at ts ms nodes) (length nodes) o

-- a node is gone past
pub record IsGoneOn (ts : List TokenParts) (n : Node) (m : Meaning) (old new : Walk) : Type 0 where
  pub seen : reverse new.seen.items ≡ with_kind n m (reverse old.seen.items)
  pub first : new.first ≡ first_of old.first (clash_of ts n.form (reverse old.seen.items))

-- nothing clashes in a source whose nodes mean this
abbrev pub HasNoClash : SourceParts → List Meaning → Type 0
HasNoClash s ms = IsFirstOf s.tokens ms s.nodes None

-- a value of the source is of another kind than it has to be, and no token before that place shows another one
pub record IsClashing (s : SourceParts) (ms : List Meaning) (p : Position) (why : KindProblem) : Type 0 where
  pub clash : Clash
  pub first : IsFirstOf s.tokens ms s.nodes (Some clash)
  pub place : p ≡ place_at s.tokens clash.token
  pub problem : why ≡ clash.problem

-- why the kinds of a source's values are refused
abbrev pub IsKindError : SourceParts → List Meaning → KindError → Type 0
IsKindError s ms (Refused p why) = IsClashing s ms p why
IsKindError s ms NoMemory = Unit {0}
