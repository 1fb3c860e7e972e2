use Rattle.std.proofs.Common.{◌≡◌, ℕ, ◌+◌, List, subst, sym, arith, Option}
use Rattle.u_program.specs.Parts.{StatementParts}
use Rattle.u_determinate.specs.Breaches.{IsFirstFailing}
use Rattle.u_determinate.specs.Tables.{PortsBelowAreFed, PortIsFed}
use Rattle.u_determinate.proofs.PortFacts.{no_port, next_port, all_ports}
use Rattle.u_determinate.proofs.ports.first_fed_amiss.Goals as goal

pub loop-port-init : goal.loop-port-init
loop-port-init c = no_port c.args.block.now.statements

pub loop-port-preserved : goal.loop-port-preserved
loop-port-preserved c =
    let ss = c.args.block.now.statements in
    let at : IsFirstFailing (PortIsFed ss c.loop-port.port) c.first_at.result = subst (λ (xs : List StatementParts). IsFirstFailing (PortIsFed xs c.loop-port.port) c.first_at.result) c.statements-statements.ensures c.first_at.ensures in
    subst (λ (o : Option ℕ). IsFirstFailing (PortsBelowAreFed ss (c.loop-port.port + 1)) o) (sym c.first_of_both-first.ensures)
    (next_port ss c.loop-port.port (omega arith) c.loop-port.first c.first_at.result c.loop-port.invariant at)

pub returns : goal.returns
returns c =
    let ss = c.args.block.now.statements in
    let e : c.loop-port.port ≡ 6 = omega arith in
    all_ports ss c.loop-port.first (subst (λ (k : ℕ). IsFirstFailing (PortsBelowAreFed ss k) c.loop-port.first) e c.loop-port.invariant)
