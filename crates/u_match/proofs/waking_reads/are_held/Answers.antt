use Rattle.std.proofs.Common.{◌≡◌, ◌⊎◌, refl, sym, ◌∙◌, Contains}
use Rattle.std.proofs.lemmas.Bool.{false≢true}
use Rattle.u_rule.specs.declared.entry.Entry.{Entry}
use Rattle.u_sets.proofs.Rounds.{each_more, each_of_all, member_at}
use Rattle.u_match.proofs.waking_reads.are_held.Goals as goal

pub returns-then-not-is_held : goal.returns-then-not-is_held
returns-then-not-is_held c = (
  (λ t. absurd (cc)),
  (λ all. absurd (false≢true (sym c.if-not-is_held.true ∙ c.is_held.ensures.1 (all c.need-item.result (member_at c.args.needs.now c.loop-need.need-index c.need-item.result c.loop-need-test.true c.need-item.is))))),
)

pub loop-need-preserved : goal.loop-need-preserved
loop-need-preserved c =
    each_more (λ (x : Entry). Contains c.args.entries.now.entries x ⊎ (c.args.entry.now ≡ x)) c.args.needs.now c.loop-need.need-index c.need-item.result c.loop-need-test.true c.need-item.is (c.is_held.ensures.0 c.if-not-is_held.false) c.loop-need.invariant

pub returns : goal.returns
returns c = (
  (λ h. each_of_all (λ (x : Entry). Contains c.args.entries.now.entries x ⊎ (c.args.entry.now ≡ x)) c.args.needs.now c.loop-need.need-index c.loop-need-test.false c.loop-need.invariant),
  (λ h. refl),
)
