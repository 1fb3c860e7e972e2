use Rattle.std.proofs.Common.{subst, sym, ℕ}
use Rattle.std.specs.Prelude.{OnOk}
use Rattle.u_machine.specs.Invariant.{Begins}
use Rattle.u_machine.proofs.Lists.{slice_get_Contains}
use Rattle.u_machine.proofs.parts.Parts.begin_at.Goals as goal

pub returns-then-place-eq0-clause-ok : goal.returns-then-place-eq0-clause-ok
returns-then-place-eq0-clause-ok c = subst (λ (n : ℕ). OnOk c.begin_least.result (Begins c.args.self.now n c.begin_least.new.self)) (sym c.if-place-eq0.true) c.begin_least.ensures.ok

pub begin-requires-clause-ready : goal.begin-requires-clause-ready
begin-requires-clause-ready c = slice_get_Contains c.args.self.now.ready c.args.place c.in_ok-firing.firing c.in_ok-firing.ensures

pub returns-clause-ok : goal.returns-clause-ok
returns-clause-ok c = record { firing = c.in_ok-firing.firing; at = c.in_ok-firing.ensures; takes = c.in_ok-begin.ensures.takes; log = c.in_ok-begin.ensures.log }
