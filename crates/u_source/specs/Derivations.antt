-- What it is to be the syntax tree of some tokens: the grammar's leftmost derivation makes it.
use Rattle.std.specs.Prelude.{◌≡◌, ◌≢◌, ℕ, zero, suc, ◌+◌, ◌-◌, ◌^◌, cond, nat_lt, List, [], ◌∷◌, ◌++◌, map, take, drop, Result, Ok, Err, option_to_list}
use Rattle.u_source.specs.declared.choosing.Placed.{Placed}
use Rattle.u_source.specs.declared.choosing.Step.{Step}
use Rattle.u_source.specs.declared.form.Node.{Node}
use Rattle.u_source.specs.declared.mark.Mark.TheVariants as mark
use Rattle.u_source.specs.declared.part.Kind.{Kind}
use Rattle.u_source.specs.declared.part.Kind.TheVariants as kind
use Rattle.u_source.specs.declared.part.Part.TheVariants as part
use Rattle.u_source.specs.declared.part.Stop.{Stop}
use Rattle.u_source.specs.declared.part.Stop.TheVariants.{Wants}
use Rattle.u_source.specs.declared.rule.Symbol.{Symbol}
use Rattle.u_source.specs.declared.rule.Symbol.TheVariants as symbol
use Rattle.u_source.specs.declared.source_error.Expected.TheVariants as expected
use Rattle.u_source.specs.declared.token.Word.{Word}
use Rattle.u_source.specs.declared.token.Word.TheVariants.{Name, Number, Mark}
use Rattle.u_source.specs.Choosing.{step_of}
use Rattle.u_source.specs.Rules.{symbols, a}
use Rattle.u_source.specs.Tokens.{TokenParts}

abbrev pub kind_of : Word → Kind
kind_of (Name n) = kind.Name
kind_of (Number n) = cond (nat_lt n (2 ^ 63)) kind.Number kind.TwoTo63
kind_of (Mark m) = kind.Sign m

-- the kind of the token that stands next, or the end
abbrev pub kind_next : List TokenParts → Kind
kind_next [] = kind.End
kind_next (t ∷ ts) = kind_of t.word

-- how many levels of nesting may still be opened in a symbol of a rule
abbrev pub room_in : ℕ → Symbol → ℕ
room_in room (symbol.Inner x) = room - 1
room_in room s = room

-- a symbol of a rule that was chosen where the token with the number n stood next
abbrev pub placed : ℕ → ℕ → Symbol → Placed
placed n room s = record { symbol = s; at = n; room = room_in room s }

abbrev pub all_placed : ℕ → ℕ → List Symbol → List Placed
all_placed n room ss = map (placed n room) ss

-- how far a derivation has come: the symbols that are left, the number of the token that stands next, and the
-- tokens from it on
pub record Point : Type 0 where
  pub symbols : List Placed
  pub number : ℕ
  pub rest : List TokenParts

abbrev pub point : List Placed → ℕ → List TokenParts → Point
point ss n ts = record { symbols = ss; number = n; rest = ts }

-- a source has 60 levels of nesting at most
abbrev pub start : List TokenParts → Point
start ts = point (placed 0 60 (a part.Source) ∷ []) 0 ts

-- what is done with the leftmost symbol; behind the last one no token may stand
abbrev pub step_from : List Placed → Kind → Result Step Stop
step_from [] k = Err (Wants (expected.Mark mark.Def))
step_from (s ∷ ss) k = step_of s k

abbrev pub step_at : Point → Result Step Stop
step_at p = step_from p.symbols (kind_next p.rest)

-- the right side of its rule comes in the place of the leftmost symbol
abbrev pub replaced : ℕ → Step → List Placed → List Placed
replaced n m [] = []
replaced n m (s ∷ ss) = all_placed n s.room (symbols m.rule) ++ ss

abbrev pub after : Step → Point → Point
after m p = point (replaced p.number m p.symbols) (p.number + m.taken) (drop m.taken p.rest)

abbrev pub made_by : Step → List Node
made_by m = option_to_list m.made

-- a step leads from the point p to the point q, with these nodes made
pub record Goes (p : Point) (made : List Node) (q : Point) : Type 0 where
  pub step : Step
  pub there : step_at p ≡ Ok step
  pub next : q ≡ after step p
  pub makes : made ≡ made_by step

-- so many steps lead from the point p to the point q, and these are the nodes that they make
abbrev pub Leads : ℕ → Point → List Node → Point → Type 0
Leads zero p made q = (q ≡ p) × (made ≡ [])
Leads (suc n) p made q = (r : Point) × (first : List Node) × (others : List Node) × Goes p first r × Leads n r others q × (made ≡ first ++ others)

-- nothing is left
abbrev pub ended : ℕ → Point
ended n = point [] n []

-- the nodes of the syntax tree of these tokens
pub record IsSyntax (ts : List TokenParts) (nodes : List Node) : Type 0 where
  pub steps : ℕ
  pub number : ℕ
  pub leads : Leads steps (start ts) nodes (ended number)

-- the derivation goes on up to the token with the number n, and no further, for this reason
pub record IsStuckAt (ts : List TokenParts) (n : ℕ) (stop : Stop) : Type 0 where
  pub steps : ℕ
  pub made : List Node
  pub symbols : List Placed
  pub leads : Leads steps (start ts) made (point symbols n (drop n ts))
  pub stuck : step_from symbols (kind_next (drop n ts)) ≡ Err stop
  pub unfinished : symbols ≡ [] → drop n ts ≢ []

-- no source has the first n of these tokens and then one of the kind of the next, or then its end
abbrev pub NoneBegins : List TokenParts → ℕ → Type 0
NoneBegins ts n = (more : List TokenParts) (nodes : List Node) → kind_next more ≡ kind_next (drop n ts) → IsSyntax (take n ts ++ more) nodes → ⊥

-- some source has the first n of these tokens
abbrev pub SomeBegins : List TokenParts → ℕ → Type 0
SomeBegins ts n = (more : List TokenParts) × (nodes : List Node) × IsSyntax (take n ts ++ more) nodes
