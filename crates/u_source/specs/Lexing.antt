-- The tokens of a text.
use Rattle.std.specs.Prelude.{◌≡◌, ◌≢◌, ◌≤◌, ◌<◌, ℕ, ◌+◌, List, [], ◌∷◌, length, take, drop, Option, Some, None, Result, Ok, Err}
use Rattle.u_source.specs.declared.lexing.Lexer.{Lexer}
use Rattle.u_source.specs.declared.place.Position.{Position}
use Rattle.u_source.specs.Tokens.{TokenParts}
use Rattle.u_source.specs.declared.source_error.Problem.{Problem}
use Rattle.u_source.specs.declared.source_error.SourceError.{SourceError}
use Rattle.u_source.specs.declared.source_error.SourceError.TheVariants.{Refused, NoMemory}
use Rattle.u_source.specs.Places.{start, place_after}
use Rattle.u_source.specs.Words.{gap, token_at}

-- what stands behind the blanks and comments at the front
abbrev pub behind_gap : List ℕ → List ℕ
behind_gap bs = drop (gap bs) bs

-- the place of the first byte behind them
abbrev pub place_of_next : Position → List ℕ → Position
place_of_next p bs = place_after p (take (gap bs) bs)

-- behind blanks and comments the token t stands, then the others, which begin at the place q
pub record IsNext (p : Position) (bs : List ℕ) (t : TokenParts) (q : Position) (others : List ℕ) : Type 0 where
  pub len : ℕ
  pub there : token_at (behind_gap bs) ≡ Ok (t.word, len)
  pub place : t.place ≡ place_of_next p bs
  pub after : q ≡ place_after t.place (take len (behind_gap bs))
  pub rest : others ≡ drop len (behind_gap bs)

-- these tokens stand one behind another at the front, then the rest, which begins at the place q
abbrev pub Reads : Position → List ℕ → List TokenParts → Position → List ℕ → Type 0
Reads p bs [] q rest = (q ≡ p) × (rest ≡ bs)
Reads p bs (t ∷ ts) q rest = (p' : Position) × (bs' : List ℕ) × IsNext p bs t p' bs' × Reads p' bs' ts q rest

-- nothing but blanks and comments
abbrev pub IsGap : List ℕ → Type 0
IsGap bs = behind_gap bs ≡ []

-- these are the tokens of the text
pub record AreTokens (bytes : List ℕ) (ts : List TokenParts) : Type 0 where
  pub place : Position
  pub rest : List ℕ
  pub reads : Reads start bytes ts place rest
  pub whole : IsGap rest

-- no token can be read next, for this reason, at the place q
pub record IsStuck (p : Position) (bs : List ℕ) (q : Position) (problem : Problem) : Type 0 where
  pub more : behind_gap bs ≢ []
  pub there : token_at (behind_gap bs) ≡ Err problem
  pub place : q ≡ place_of_next p bs

-- no more lines and columns are added than bytes are read, and some are
pub record Advances (old new : Lexer) : Type 0 where
  pub lines : new.place.line + length new.rest.now ≤ old.place.line + length old.rest.now
  pub columns : new.place.column + length new.rest.now ≤ old.place.column + length old.rest.now
  pub shorter : length new.rest.now < length old.rest.now

-- what is answered for the next token
abbrev pub IsStep : Lexer → Lexer → Result (Option TokenParts) SourceError → Type 0
IsStep old new (Ok None) = (new ≡ old) × IsGap old.rest.now
IsStep old new (Ok (Some t)) = IsNext old.place old.rest.now t new.place new.rest.now × Advances old new
IsStep old new (Err (Refused q problem)) = (new ≡ old) × IsStuck old.place old.rest.now q problem
IsStep old new (Err NoMemory) = ⊥

-- this is the first place where no token can be read, and why
pub record IsNoToken (bytes : List ℕ) (q : Position) (problem : Problem) : Type 0 where
  pub tokens : List TokenParts
  pub place : Position
  pub rest : List ℕ
  pub reads : Reads start bytes tokens place rest
  pub stuck : IsStuck place rest q problem

-- why a text has no tokens
abbrev pub IsLexError : List ℕ → SourceError → Type 0
IsLexError bytes (Refused q problem) = IsNoToken bytes q problem
IsLexError bytes NoMemory = Unit {0}

-- these tokens stand one behind another at the front of the bytes, before what is left
pub record AreReadBefore (bytes : List ℕ) (ts : List TokenParts) (left : Lexer) : Type 0 where
  pub reads : Reads start bytes ts left.place left.rest.now
  pub lines : left.place.line + length left.rest.now ≤ length bytes + 1
  pub columns : left.place.column + length left.rest.now ≤ length bytes + 1
