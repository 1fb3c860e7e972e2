-- The nodes whose scopes have not ended at a place, by how many scopes begin and end behind them.
use Rattle.std.specs.Prelude.{◌≡◌, ℕ, zero, suc, true, cond, List, [], ◌∷◌, ◌++◌, length, take, drop, reverse, slice_index_or, Option, Some, None}
use Rattle.u_source.specs.declared.form.Node.{Node}
use Rattle.u_source.specs.Sources.{SourceParts}
use Rattle.u_scope.specs.declared.checked.Meaning.{Meaning}
use Rattle.u_scope.specs.declared.checked.Meaning.TheVariants as means
use Rattle.u_scope.specs.declared.naming.Named.{Named}
use Rattle.u_scope.specs.Naming.{named_at}
use Rattle.u_scope.specs.Verdicts.{token_next}
use Rattle.u_source.specs.Tokens.{TokenParts}
use Rattle.u_scope.specs.Entries.{event_of, opens, closes, is_procedure}
use Rattle.u_scope.specs.Finding.{line_of, is_declared}

-- one scope more, or one less where there is one
abbrev pub fewer : Option ℕ → Option ℕ
fewer None = None
fewer (Some zero) = None
fewer (Some (suc n)) = Some n

abbrev pub more : Option ℕ → Option ℕ
more None = None
more (Some n) = Some (suc n)

-- how many scopes have begun in these nodes, the last one first, and not ended; None where the scope in which they
-- begin has ended
abbrev pub level : List Node → Option ℕ
level [] = Some 0
level (x ∷ xs) = cond (closes (event_of x.form)) (fewer (level xs)) (cond (opens (event_of x.form)) (more (level xs)) (level xs))

-- before a place, the nodes before which are these, the last one first, the node with the number k gives the name x
-- its meaning in the given line, and the scope in which it does so has not ended
pub record IsInScope (ts : List TokenParts) (x : List ℕ) (xs : List Node) (k line : ℕ) : Type 0 where
  pub node : Node
  pub later : List Node
  pub earlier : List Node
  pub split : xs ≡ later ++ node ∷ earlier
  pub number : length earlier ≡ k
  pub levels : ℕ
  pub lasts : level later ≡ Some levels
  pub gives : line_of ts x (event_of node.form) node.token ≡ Some line

-- before a place, x means the node with the number k, whose scope has not ended
abbrev pub MeansOne : List TokenParts → List ℕ → List Node → ℕ → Type 0
MeansOne ts x xs k = (line : ℕ) × IsInScope ts x xs k line

-- the name that the token t is means the node with the number k, where these nodes stand before it
abbrev pub NameMeans : List TokenParts → ℕ → List Node → ℕ → Type 0
NameMeans ts t xs k = (x : Named) × (named_at ts t ≡ Some x) × MeansOne ts x.name xs k

-- where a node of a source means the one with the number k, it is a name, that node gives this name its meaning, and
-- the scope in which it does so has not ended
abbrev pub EachMeans : SourceParts → List Meaning → Type 0
EachMeans s ms = (i k : ℕ) → slice_index_or ms i means.Nothing ≡ means.Name k → NameMeans s.tokens (token_next (drop i s.nodes)) (reverse (take i s.nodes)) k

-- with the node with the number k a procedure ends whose name is x
pub record IsProcedureOf (ts : List TokenParts) (x : List ℕ) (nodes : List Node) (k : ℕ) : Type 0 where
  pub node : Node
  pub front : List Node
  pub back : List Node
  pub split : nodes ≡ front ++ node ∷ back
  pub number : length front ≡ k
  pub ends : is_procedure (event_of node.form) ≡ true
  pub gives : is_declared ts x (event_of node.form) node.token ≡ true

-- the name that the token t is is that of the procedure which ends with the node with the number k
abbrev pub NameCalls : List TokenParts → ℕ → List Node → ℕ → Type 0
NameCalls ts t nodes k = (x : Named) × (named_at ts t ≡ Some x) × IsProcedureOf ts x.name nodes k

-- where a node of a source means the procedure that ends with the one with the number k, it is a name, and this is
-- the procedure's
abbrev pub EachCalls : SourceParts → List Meaning → Type 0
EachCalls s ms = (i k : ℕ) → slice_index_or ms i means.Nothing ≡ means.Procedure k → NameCalls s.tokens (token_next (drop i s.nodes)) s.nodes k
