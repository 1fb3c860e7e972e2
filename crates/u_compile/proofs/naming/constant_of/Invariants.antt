use Rattle.std.proofs.Common.{length}
use Rattle.u_program.specs.declared.program.Constant.{Constant}
use Rattle.u_compile.specs.declared.naming.Alias.{Alias}
use Rattle.u_compile.specs.Namings.{an_alias}
use Rattle.u_compile.specs.Scoped.{IsOf}
use Rattle.u_compile.proofs.naming.constant_of.Given as goal

abbrev pub invariant-loop-alias : goal.invariant-loop-alias
invariant-loop-alias l = record {
  those : (x : Alias) → IsOf l.rest x → IsOf l.aliases x;
  others : (k : Constant) → IsOf l.aliases (an_alias l.name k) → IsOf l.rest (an_alias l.name k);
}

abbrev pub decreases-loop-alias : goal.decreases-loop-alias
decreases-loop-alias l = length l.rest
