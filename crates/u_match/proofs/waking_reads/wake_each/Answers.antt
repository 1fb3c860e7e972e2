use Rattle.std.proofs.Common.{[], ◌∷◌, Some, ◌∙◌, ap}
use Rattle.u_name.specs.Name.{Activity}
use Rattle.u_rule.specs.EntryOrder.{firing, written}
use Rattle.u_rule.specs.declared.parts.Written.{Written}
use Rattle.u_sets.specs.Members.{SomeOf}
use Rattle.u_sets.proofs.Gathering.{scan_all}
use Rattle.u_match.specs.Joins.{IsWoken}
use Rattle.u_sets.proofs.Steps.{round, from_nothing}
use Rattle.u_match.proofs.Steps.{same_firing}
use Rattle.u_match.proofs.waking_reads.wake_each.Goals as goal

pub loop-read-preserved : goal.loop-read-preserved
loop-read-preserved c =
    round (IsWoken c.args.write.now) [] c.loop-read.found.items c.add.new.found.items c.args.reads.now c.loop-read.read-index c.read-item.result c.loop-read-test.true c.read-item.is c.loop-read.invariant
    (same_firing c.in_ok-woken.woken (firing c.read-item.result.activity (c.read-item.result.structure ∷ c.read-item.result.index ∷ []) (Some (written c.args.write.now.writer c.args.write.now.value))) c.loop-read.found.items c.add.new.found.items (c.in_ok-woken.ensures ∙ ap (λ (a : Activity). firing a (c.read-item.result.structure ∷ c.read-item.result.index ∷ []) (Some c.in_ok-by.by)) c.of-activity.ensures ∙ ap (λ (x : Written). firing c.read-item.result.activity (c.read-item.result.structure ∷ c.read-item.result.index ∷ []) (Some x)) c.in_ok-by.ensures) c.in_ok-add.ensures)

pub returns : goal.returns
returns c = from_nothing (SomeOf c.args.reads.now (IsWoken c.args.write.now)) c.loop-read.found.items (scan_all (IsWoken c.args.write.now) [] c.args.reads.now c.loop-read.read-index c.loop-read.found.items c.loop-read-test.false c.loop-read.invariant)
