use Rattle.std.proofs.Common.{◌≡◌, ◌∙◌, ◌++◌, ◌-◌, ap, arith, ℕ}
use Rattle.u_rule.specs.Parts.{most_ports}
use Rattle.u_trace.specs.Text.{ports_from}
use Rattle.u_trace.proofs.Texts.{ports_next}
use Rattle.u_trace.proofs.writing.push_ports.Goals as goal

pub loop-port-preserved : goal.loop-port-preserved
loop-port-preserved c =
    ports_next c.args.ports c.args.out.now.items c.loop-port.out.items c.push_port.new.out.items c.loop-port.port (omega (arith, c.loop-port.auto.port)) c.loop-port.invariant c.in_ok-push_port.ensures.ok

pub returns-clause-ok : goal.returns-clause-ok
returns-clause-ok c =
    let last : c.loop-port.port - 1 ≡ most_ports = omega (arith, c.loop-port-test.false, c.loop-port.auto.port-end) in
    c.loop-port.invariant ∙ ap (λ (n : ℕ). c.args.out.now.items ++ ports_from c.args.ports 1 n) last
