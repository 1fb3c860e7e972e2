use Rattle.std.proofs.Common.{sym, subst}
use Rattle.u_compile.specs.Placed.{MeetsWell}
use Rattle.u_compile.proofs.PlacedTests.{meets_more}
use Rattle.u_compile.proofs.placed.Noted.meets_well.Goals as goal

pub loop-link-preserved : goal.loop-link-preserved
loop-link-preserved c = λ rest.
    c.loop-link.invariant (subst (MeetsWell c.args.self.now c.args.output c.args.to) (sym c.in-Some.ensures.cases.0) (meets_more c.args.self.now c.args.output c.args.to c.in-Some.link.now c.in-Some.others.now (c.in_ok-may_lead.ensures c.if-not-branch.false) rest))
