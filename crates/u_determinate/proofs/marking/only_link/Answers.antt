use Rattle.std.proofs.Common.{sym, ◌∙◌}
use Rattle.std.proofs.lemmas.List.{get_or_default}
use Rattle.u_determinate.proofs.marking.only_link.Goals as goal

pub returns-then-is_alone-clause-some : goal.returns-then-is_alone-clause-some
returns-then-is_alone-clause-some c = record {
  listed = (c.loop-link.link-index, c.loop-link-test.true, get_or_default c.args.links.now c.loop-link.link-index _ _ c.loop-link-test.true);
  leads = c.if-link-port.true;
  only = λ k m p. c.is_alone.ensures.0 c.if-is_alone.true k m (p ∙ sym c.if-link-port.true);
}
