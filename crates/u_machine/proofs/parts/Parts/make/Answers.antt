use Rattle.std.proofs.Common.{subst, sym, arith, inr}
use Rattle.std.specs.Prelude.{Contains}
use Rattle.u_rule.specs.EntryOrder.{FiringList}
use Rattle.u_sets.specs.Members.{AreThose}
use Rattle.u_match.specs.Waking.{IsWokenBy}
use Rattle.u_machine.proofs.LateTokens.{makes_some, makes_all}
use Rattle.u_machine.proofs.Making.{makes_none}
use Rattle.u_machine.proofs.parts.Parts.make.Goals as goal
use Rattle.u_machine.proofs.parts.Parts.make.Goals.{After-add_all}

exact : (c : After-add_all) → AreThose (IsWokenBy c.args.self.now.job.now c.args.token.now (Contains c.args.self.now.matcher)) c.deref.result.now
exact c = subst (λ (fs : FiringList). AreThose (IsWokenBy c.args.self.now.job.now c.args.token.now (Contains c.args.self.now.matcher)) fs) (sym c.deref.ensures.value) c.in_ok-firings.ensures.exact

pub returns-in_err-firings-clause-makes : goal.returns-in_err-firings-clause-makes
returns-in_err-firings-clause-makes c = makes_none c.args.self.now

pub returns-in_err-add_all-clause-kept : goal.returns-in_err-add_all-clause-kept
returns-in_err-add_all-clause-kept c =
    let k = c.requires.kept in
    let a = (goal.at.returns-in_err-add_all-clause-kept c).After-add_all in
    record {
      all_ready = k.all_ready;
      flight = k.flight;
      logged = k.logged;
      partitioned = k.partitioned;
      late = makes_some _ _ _ _ _ _ _ k.late c.args.token.now c.deref.result.now c.add_all.new.ready c.requires.idle c.requires.late (exact a) c.add_all.ensures.some;
      idle = k.idle;
    }

pub returns-clause-kept : goal.returns-clause-kept
returns-clause-kept c =
    let k = c.requires.kept in
    let a = (goal.at.returns-clause-kept c).After-add_all in
    record {
      all_ready = k.all_ready;
      flight = k.flight;
      logged = k.logged;
      partitioned = k.partitioned;
      late = makes_all _ _ _ _ _ _ _ k.late c.args.token.now c.deref.result.now c.add_all.new.ready c.requires.idle c.requires.late (exact a) c.add_all.ensures.some c.take_out.new.self (λ f m. (c.in_ok-add_all.ensures.ok f).1 (inr m)) c.take_out.ensures.without;
      idle = k.idle;
    }

pub returns-clause-ok : goal.returns-clause-ok
returns-clause-ok c = let n = c.take_out.ensures.count in omega arith
