use Rattle.std.proofs.Common.{subst}
use Rattle.u_determinate.specs.Determinate.{IsDeterminate}
use Rattle.u_compile.specs.Maps.{AreOrigins}
use Rattle.u_compile.specs.Compiled.{CompiledParts}
use Rattle.u_compile.proofs.compiled.Compiled.into_parts.Goals as goal

pub returns-clause-determinate : goal.returns-clause-determinate
returns-clause-determinate c = subst (λ (p : CompiledParts). IsDeterminate p.program.blocks) c.self.view_is c.self.invariant.determinate

pub returns-clause-each : goal.returns-clause-each
returns-clause-each c = subst (λ (p : CompiledParts). AreOrigins p.program.blocks p.origins) c.self.view_is c.self.invariant.each
