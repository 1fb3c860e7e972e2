use Rattle.std.proofs.Common.{◌↔◌, ◌⊎◌, ◌≡◌, ◌<◌, sym, ap, subst, arith, ℕ, IsTrue, bit_or}
use Rattle.std.proofs.lemmas.Nat.{one_shl}
use Rattle.u_trace.specs.Ports.{has_port}
use Rattle.u_trace.proofs.PortLaws.{ports, with_has}
use Rattle.u_trace.proofs.ports.Ports.with.Goals as goal

pub returns : goal.returns
returns c k =
    let within : c.args.port < 8 = omega (arith, c.requires) in
    subst (λ (b : ℕ). IsTrue (has_port (ports b) k) ↔ (IsTrue (has_port c.args.self k) ⊎ (k ≡ c.args.port))) (sym (ap (bit_or c.args.self.bits) (one_shl c.args.port 8 within))) (with_has c.args.self c.args.port k)
