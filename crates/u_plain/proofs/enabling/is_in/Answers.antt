use Rattle.std.proofs.Common.{◌≡◌, refl}
use Rattle.u_rule.specs.declared.entry.Entry.{Entry}
use Rattle.u_sets.proofs.Rounds.{each_more}
use Rattle.u_plain.proofs.Lists.{each_all, false_true}
use Rattle.u_plain.proofs.enabling.is_in.Goals as goal

pub loop-other-preserved : goal.loop-other-preserved
loop-other-preserved c =
    each_more (λ (x : Entry). x ≡ c.args.entry.now → ⊥) c.args.list.now c.loop-other.other-index c.other-item.result c.loop-other-test.true c.other-item.is
    (λ e. false_true (c.if-is_same.ensures.1 e)) c.loop-other.invariant

pub returns : goal.returns
returns c = (
  (λ t. false_true t),
  (λ m. absurd (each_all (λ (x : Entry). x ≡ c.args.entry.now → ⊥) c.args.list.now c.loop-other.other-index c.loop-other-test.false c.loop-other.invariant c.args.entry.now m refl)),
)
