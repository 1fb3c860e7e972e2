-- Which places fit a program: a statement's activity has a context in which its region runs.
use Rattle.std.specs.Prelude.{◌≡◌, ℕ, Bool, true, false, ◌&&◌, ◌==◌, if◌then◌else◌, nat_le, List, Option, Some, None, Contains}
use Rattle.u_name.specs.Context.{Tree, Top, InLoop, InCall, IsBetween}
use Rattle.u_name.specs.Name.{Activity}
use Rattle.u_program.specs.Parts.{StatementParts, BlockParts}
use Rattle.u_check.specs.Kinds.{ports_of, is_apply}
use Rattle.u_check.specs.Rules.{held_by, main_name, same_name, names_block, block_named, statement_at}
use Rattle.u_rule.specs.Parts.{TokenParts}
use Rattle.u_rule.specs.declared.entry.Entry.{Entry}
use Rattle.u_rule.specs.declared.entry.Entry.TheVariants as entries

-- the statement of that number in the block, where there is a block
abbrev pub statement_in : Option BlockParts → ℕ → Option StatementParts
statement_in None n = None
statement_in (Some b) n = statement_at b.statements n

-- the statement of that number in the block of that name
abbrev pub statement_of : List BlockParts → List ℕ → ℕ → Option StatementParts
statement_of p block n = statement_in (block_named p block) n

-- the region that holds that loop of the block, where there is such a loop
abbrev pub holder_in : Option BlockParts → ℕ → Option ℕ
holder_in None l = None
holder_in (Some b) l = held_by b.loops l

abbrev pub holder_of : List BlockParts → List ℕ → ℕ → Option ℕ
holder_of p block l = holder_in (block_named p block) l

-- the region of a statement that calls
abbrev pub calling_region : Option StatementParts → Option ℕ
calling_region None = None
calling_region (Some s) = if is_apply s.kind then Some s.region else None

-- whether there is a region, and it passes
abbrev pub has_passing : Option ℕ → (ℕ → Bool) → Bool
has_passing None test = false
has_passing (Some region) test = test region

-- Whether an activity of that context, block and initiation may execute a statement of that region.
-- In region 0 the initiation is 1, and either the context is the root and the block is `main`, or a
-- statement called the block: an `apply` that fits where it stands. In a loop's region the context
-- is of that loop, which was entered from a place that fits in the region that holds the loop.
abbrev pub fits : List BlockParts → Tree → List ℕ → ℕ → ℕ → Bool
fits p Top block region initiation = region == 0 && (initiation == 1 && same_name block main_name)
fits p (InLoop outer from number turn) block region initiation =
    nat_le 1 region && (number == region && (same_name from block && has_passing (holder_of p block region) (λ r. fits p outer block r turn)))
fits p (InCall outer from caller turn) block region initiation =
    region == 0 && (initiation == 1 && (names_block p block && has_passing (calling_region (statement_of p from caller)) (λ r. fits p outer from r turn)))

-- whether the activity may execute a statement of that region
abbrev pub fits_at : List BlockParts → ℕ → Activity → Bool
fits_at p region a = fits p a.context a.block region a.initiation

-- the activity may execute the statement that it names
pub record IsExecutable (p : List BlockParts) (a : Activity) : Type 0 where
  pub it : StatementParts
  pub stands : statement_of p a.block a.statement ≡ Some it
  pub fit : fits_at p it.region a ≡ true

-- the token lies at a port of a statement that its activity may execute
pub record IsPlaced (p : List BlockParts) (t : TokenParts) : Type 0 where
  pub it : StatementParts
  pub stands : statement_of p t.activity.block t.activity.statement ≡ Some it
  pub fit : fits_at p it.region t.activity ≡ true
  pub port : IsBetween 1 t.port (ports_of it.kind)

-- a token is so placed; writes, faults and answers lie anywhere
unfoldable pub IsFitting : List BlockParts → Entry → Type 0
IsFitting p (entries.Token t) = IsPlaced p t
IsFitting p e = Unit {0}

-- each token of the list is so placed
abbrev pub AllFit : List BlockParts → List Entry → Type 0
AllFit p es = (e : Entry) → Contains es e → IsFitting p e
