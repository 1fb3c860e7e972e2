-- Programs of version 1 as programs of version 2.
use Rattle.std.specs.Prelude.{◌≡◌, Some}
use Rattle.u_program.specs.Parts.{StatementParts, program}
use Rattle.u_program.specs.declared.program.Kind.TheVariants.{Next}
use Rattle.u_program.specs.declared.program.Version.TheVariants as versions
use Rattle.u_check.specs.Jobs.{JobParts, job}
use Rattle.u_rule.specs.Fits.{statement_of}
use Rattle.u_rule.specs.Initiations.{last_turn}
use Rattle.u_rule.specs.declared.firing.Firing.{Firing}

-- the same blocks, the same argument and the same table, under version 2
abbrev pub lifted : JobParts → JobParts
lifted j = job (program versions.Two j.program.blocks) j.argument j.table

-- The firing is of a `next` at the last turn of version 1: there it gives a fault, and under version 2 it goes on.
pub record TurnsLast (j : JobParts) (f : Firing) : Type 0 where
  pub it : StatementParts
  pub stands : statement_of j.program.blocks f.activity.block f.activity.statement ≡ Some it
  pub is_next : it.kind ≡ Next
  pub last : f.activity.initiation ≡ last_turn versions.One
