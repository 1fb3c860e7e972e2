use Rattle.std.proofs.Common.{◌∙◌, ◌++◌, ap, sym, List, map}
use Rattle.u_base.specs.Spaced.{ended}
use Rattle.u_rule.specs.FiringText.{firing_text}
use Rattle.u_rule.specs.declared.firing.Firing.{Firing}
use Rattle.u_sets.proofs.Shown.{shown_all}
use Rattle.u_replica.proofs.CheckpointWritten.{set_more}
use Rattle.u_replica.proofs.checkpoint.push_set.Goals as goal

pub loop-firing-preserved : goal.loop-firing-preserved
loop-firing-preserved c = set_more c.loop-firing.yielded c.in-Some.firing c.args.out.now.items c.loop-firing.out.items c.write_text.new.out.items c.push.new.self.items c.loop-firing.invariant c.in_ok-write_text.ensures.ok c.in_ok-push.ensures.items

pub returns-clause-ok : goal.returns-clause-ok
returns-clause-ok c =
    c.loop-firing.invariant
    ∙ ap (λ (fs : List Firing). c.args.out.now.items ++ ended (map firing_text fs))
    (sym (shown_all c.loop-firing.yielded c.into_iter-firing-iterator.result c.loop-firing.firing-iterator c.loop-firing.yielded_by c.in-None.ensures.steps.0)
    ∙ (c.into_iter-firing-iterator.ensures.into_iter_gives ∙ c.iter-firing-items.ensures.rest))
