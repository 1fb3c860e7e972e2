-- What it is to be the source that bytes are, and where and why bytes are none.
use Rattle.std.specs.Prelude.{◌≡◌, ℕ, ◌⊎◌, List, [], ◌∷◌, drop}
use Rattle.u_source.specs.declared.form.Node.{Node}
use Rattle.u_source.specs.declared.part.Stop.{Stop}
use Rattle.u_source.specs.declared.part.Stop.TheVariants as stop
use Rattle.u_source.specs.declared.place.Position.{Position}
use Rattle.u_source.specs.declared.source_error.Found.{Found}
use Rattle.u_source.specs.declared.source_error.Found.TheVariants as found_as
use Rattle.u_source.specs.declared.source_error.Problem.{Problem}
use Rattle.u_source.specs.declared.source_error.Problem.TheVariants.{NumberRange, Unexpected, MoreParameters, MoreArguments, TooDeep, Nowhere}
use Rattle.u_source.specs.declared.source_error.SourceError.{SourceError}
use Rattle.u_source.specs.declared.source_error.SourceError.TheVariants.{Refused, NoMemory}
use Rattle.u_source.specs.declared.token.Word.{Word}
use Rattle.u_source.specs.declared.token.Word.TheVariants.{Name, Number, Mark}
use Rattle.u_source.specs.Derivations.{IsSyntax, IsStuckAt, SomeBegins, NoneBegins}
use Rattle.u_source.specs.Lexing.{AreTokens, IsNoToken}
use Rattle.u_source.specs.Places.{start, place_after}
use Rattle.u_source.specs.Tokens.{TokenParts}

-- a source, without where it lies in memory
pub record SourceParts : Type 0 where
  pub tokens : List TokenParts
  pub nodes : List Node

abbrev pub source : List TokenParts → List Node → SourceParts
source ts ns = record { tokens = ts; nodes = ns }

-- the bytes are this source
pub record IsSource (bytes : List ℕ) (s : SourceParts) : Type 0 where
  pub tokens : AreTokens bytes s.tokens
  pub syntax : IsSyntax s.tokens s.nodes

-- a token as a refusal names it
abbrev pub named : Word → Found
named (Name n) = found_as.Name n
named (Number n) = found_as.Number n
named (Mark m) = found_as.Mark m

-- the token that stands next, or the end
abbrev pub found : List TokenParts → Found
found [] = found_as.End
found (t ∷ ts) = named t.word

abbrev pub problem_of : Stop → Found → Problem
problem_of (stop.Wants e) f = Unexpected e f
problem_of stop.MoreParameters f = MoreParameters
problem_of stop.MoreArguments f = MoreArguments
problem_of stop.NumberRange f = NumberRange
problem_of stop.Nowhere f = Nowhere
problem_of stop.TooDeep f = TooDeep

-- the place of the token that stands next, or of the text's end
abbrev pub place_next : List ℕ → List TokenParts → Position
place_next bytes [] = place_after start bytes
place_next bytes (t ∷ ts) = t.place

-- the bytes have tokens, and this is the first one with which no source goes on, and why
pub record IsNoSource (bytes : List ℕ) (q : Position) (problem : Problem) : Type 0 where
  pub tokens : List TokenParts
  pub are : AreTokens bytes tokens
  pub number : ℕ
  pub why : Stop
  pub stuck : IsStuckAt tokens number why
  pub some : SomeBegins tokens number
  pub none : NoneBegins tokens number
  pub place : q ≡ place_next bytes (drop number tokens)
  pub reason : problem ≡ problem_of why (found (drop number tokens))

-- why bytes are refused
abbrev pub IsSourceError : List ℕ → SourceError → Type 0
IsSourceError bytes (Refused q problem) = IsNoToken bytes q problem ⊎ IsNoSource bytes q problem
IsSourceError bytes NoMemory = Unit {0}
