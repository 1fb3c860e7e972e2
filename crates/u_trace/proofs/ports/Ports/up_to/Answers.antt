use Rattle.std.proofs.Common.{◌↔◌, ◌-◌, sym, ap, subst, arith, ℕ, IsTrue}
use Rattle.u_name.specs.Context.{IsBetween}
use Rattle.u_trace.specs.Ports.{has_port}
use Rattle.u_trace.proofs.PortLaws.{ports, shifted, up_to_has, two_at_least}
use Rattle.u_trace.proofs.ports.Ports.up_to.Goals as goal

pub overflow_sub-result : goal.overflow_sub-result
overflow_sub-result c = let e = shifted c.args.count c.requires in let l = two_at_least c.args.count in omega (arith, e, l)

pub returns : goal.returns
returns c k =
    subst (λ (b : ℕ). IsTrue (has_port (ports b) k) ↔ IsBetween 1 k c.args.count) (sym (ap (λ (b : ℕ). b - 2) (shifted c.args.count c.requires))) (up_to_has c.args.count k)
