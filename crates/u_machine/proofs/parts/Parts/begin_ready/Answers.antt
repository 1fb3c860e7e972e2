use Rattle.std.proofs.Common.{◌≡◌, ◌∷◌, [], ◌++◌, ◌∙◌, sym, subst, Some, true}
use Rattle.std.specs.Prelude.{Contains}
use Rattle.u_rule.specs.declared.firing.Firing.{Firing}
use Rattle.u_machine.specs.Calls.{Takes}
use Rattle.u_machine.specs.Invariant.{state_of, NeedsNoLate}
use Rattle.u_machine.proofs.parts.Parts.begin_ready.Goals as goal
use Rattle.u_machine.proofs.parts.Parts.begin_ready.Goals.{In_ok-begin_least}

-- the one that begins is the least
same : (c : In_ok-begin_least) → c.args.is_least ≡ true → c.in_ok-begin_least.ensures.ok.firing ≡ c.args.firing.now
same c t = let e : Some c.in_ok-begin_least.ensures.ok.firing ≡ Some c.args.firing.now = sym c.in_ok-begin_least.ensures.ok.at ∙ c.requires.least t in cc

pub returns-then-is_least-clause-takes : goal.returns-then-is_least-clause-takes
returns-then-is_least-clause-takes c = subst (λ (f : Firing). Takes (state_of c.args.self.now) f (state_of c.begin_least.new.self)) (same (goal.at.returns-then-is_least-clause-takes c).In_ok-begin_least c.if-is_least.true) c.in_ok-begin_least.ensures.ok.takes

pub returns-then-is_least-clause-log : goal.returns-then-is_least-clause-log
returns-then-is_least-clause-log c = subst (λ (f : Firing). c.begin_least.new.self.log.items ≡ c.args.self.now.log.items ++ f ∷ []) (same (goal.at.returns-then-is_least-clause-log c).In_ok-begin_least c.if-is_least.true) c.in_ok-begin_least.ensures.ok.log

pub begin_least-requires-clause-made : goal.begin_least-requires-clause-made
begin_least-requires-clause-made c f at = subst (λ (g : Firing). NeedsNoLate c.args.self.now g) (let e : Some c.args.firing.now ≡ Some f = sym (c.requires.least c.if-is_least.true) ∙ at in cc) c.requires.made

pub begin-requires-clause-made : goal.begin-requires-clause-made
begin-requires-clause-made c = subst (λ (f : Firing). NeedsNoLate c.args.self.now f) (sym c.in_ok-copy.ensures) c.requires.made

pub begin-requires-clause-ready : goal.begin-requires-clause-ready
begin-requires-clause-ready c = subst (λ (f : Firing). Contains c.args.self.now.ready f) (sym c.in_ok-copy.ensures) c.requires.ready

pub returns-clause-takes : goal.returns-clause-takes
returns-clause-takes c = subst (λ (f : Firing). Takes (state_of c.args.self.now) f (state_of c.begin.new.self)) c.in_ok-copy.ensures c.in_ok-begin.ensures.takes

pub returns-clause-log : goal.returns-clause-log
returns-clause-log c = subst (λ (f : Firing). c.begin.new.self.log.items ≡ c.args.self.now.log.items ++ f ∷ []) c.in_ok-copy.ensures c.in_ok-begin.ensures.log
