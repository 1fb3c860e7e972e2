-- Arcs of a block, by where they lead and what they come from.
use Rattle.std.specs.Prelude.{◌≡◌, ℕ, List, Some}
use Rattle.u_program.specs.declared.program.Kind.{Kind}
use Rattle.u_program.specs.declared.program.Destination.{Destination}
use Rattle.u_program.specs.Parts.{StatementParts}
use Rattle.u_check.specs.Kinds.{back_named}
use Rattle.u_check.specs.Rules.{statement_at, Arc, destination_of}

abbrev pub destination : ℕ → ℕ → Destination
destination statement port = record { statement = statement; port = port }

-- the arc leads to that port of statement n
abbrev pub Leads : List StatementParts → ℕ → ℕ → Arc → Type 0
Leads ss n port a = destination_of ss a ≡ Some (destination n port)

-- and no other arc does
pub record OnlyArc (ss : List StatementParts) (n port : ℕ) (a : Arc) : Type 0 where
  pub leads : Leads ss n port a
  pub only : (b : Arc) → Leads ss n port b → b ≡ a

-- the arc comes from a statement of that kind
pub record ArcFrom (ss : List StatementParts) (a : Arc) (k : Kind) : Type 0 where
  pub it : StatementParts
  pub stands : statement_at ss a.statement ≡ Some it
  pub kind : it.kind ≡ k

-- one `apply` names statement n
pub record IsAppliedOnce (ss : List StatementParts) (n : ℕ) : Type 0 where
  pub apply : ℕ
  pub it : StatementParts
  pub stands : statement_at ss apply ≡ Some it
  pub names : back_named it.kind ≡ Some n
  pub only : (m : ℕ) (s : StatementParts)
      → statement_at ss m ≡ Some s
      → back_named s.kind ≡ Some n
      → m ≡ apply
