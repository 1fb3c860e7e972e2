use Rattle.std.proofs.Common.{◌≡◌, false, refl, sym, ◌∙◌, inl, arith}
use Rattle.std.proofs.lemmas.Bool.{false≢true}
use Rattle.std.proofs.lemmas.List.{get_or_default}
use Rattle.u_determinate.specs.declared.incoming.Link.{Link}
use Rattle.u_determinate.specs.Determinate.{MayMeet}
use Rattle.u_determinate.specs.Flow.{arc_of}
use Rattle.u_determinate.proofs.Links.{link}
use Rattle.u_determinate.proofs.Pairs.{taken, pairs_more, pairs_all, meet_back}
use Rattle.u_determinate.proofs.keeps.Guarded.all_meet.Goals as goal

pub returns-then-not-meets_all : goal.returns-then-not-meets_all
returns-then-not-meets_all c =
    ((λ t. absurd (false≢true t)), λ f. absurd (false≢true (sym c.if-not-meets_all.true ∙ c.meets_all.ensures.1 (λ k m e. f _ k (c.loop-i.i, c.loop-i-test.true, get_or_default c.args.links.now c.loop-i.i _ _ c.loop-i-test.true) (taken c.loop-i.i c.args.links.now k m) e))))

pub loop-i-preserved : goal.loop-i-preserved
loop-i-preserved c =
    pairs_more (λ (j k : Link). k.port ≡ j.port → MayMeet c.args.self.now.flow.statements.now (arc_of j) (arc_of k)) c.loop-i.i c.args.links.now (link 0 false 0 0) c.loop-i.invariant c.loop-i-test.true (c.meets_all.ensures.0 c.if-not-meets_all.false)

pub returns : goal.returns
returns c =
    let ss = c.args.self.now.flow.statements.now in
    ((λ t j k m n. pairs_all (λ (j k : Link). k.port ≡ j.port → MayMeet ss (arc_of j) (arc_of k)) c.loop-i.i c.args.links.now (omega (arith, c.loop-i-test.false)) (λ j e. inl refl) (λ j k f e. meet_back ss (arc_of j) (arc_of k) (f (sym e))) c.loop-i.invariant j k m n), λ f. refl)
