-- CheckedSource and signs that stand at a token.
use Rattle.std.specs.Prelude.{ℕ, List, [], ◌∷◌, drop, Option, Some, None}
use Rattle.u_source.specs.declared.mark.Mark.TheVariants as mark
use Rattle.u_source.specs.declared.place.Position.{Position}
use Rattle.u_source.specs.declared.token.Word.{Word}
use Rattle.u_source.specs.declared.token.Word.TheVariants.{Name, Mark}
use Rattle.u_source.specs.Tokens.{TokenParts}
use Rattle.u_scope.specs.declared.naming.Named.{Named}
use Rattle.u_scope.specs.declared.naming.Sign.{Sign}
use Rattle.u_scope.specs.declared.naming.Sign.TheVariants.{Def, For, Loop, Next, Comma, Becomes, Close, Other}

-- the sign that a token is
abbrev pub sign_of : Word → Sign
sign_of (Mark mark.Def) = Def
sign_of (Mark mark.For) = For
sign_of (Mark mark.Loop) = Loop
sign_of (Mark mark.Next) = Next
sign_of (Mark mark.Comma) = Comma
sign_of (Mark mark.Becomes) = Becomes
sign_of (Mark mark.CloseParenthesis) = Close
sign_of w = Other

abbrev pub sign_next : List TokenParts → Sign
sign_next [] = Other
sign_next (t ∷ ts) = sign_of t.word

-- the sign that the token with the number n is
abbrev pub sign_at : List TokenParts → ℕ → Sign
sign_at ts n = sign_next (drop n ts)

-- the sign that the token is which stands k tokens behind the one with the number n
abbrev pub sign_behind : List TokenParts → ℕ → ℕ → Sign
sign_behind ts n k = sign_at (drop n ts) k

-- the name that a token is, and its line
abbrev pub named_word : Word → Position → Option Named
named_word (Name x) p = Some (record { name = x; line = p.line })
named_word w p = None

abbrev pub named_next : List TokenParts → Option Named
named_next [] = None
named_next (t ∷ ts) = named_word t.word t.place

-- the name that the token with the number n is
abbrev pub named_at : List TokenParts → ℕ → Option Named
named_at ts n = named_next (drop n ts)

-- the name that the token is which stands k tokens behind the one with the number n
abbrev pub named_behind : List TokenParts → ℕ → ℕ → Option Named
named_behind ts n k = named_at (drop n ts) k
