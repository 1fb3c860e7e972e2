use Rattle.std.specs.Prelude.{Contains}
use Rattle.u_trace.proofs.WaitingLaws.{none_waits_full, none_waits_empty, it_waits}
use Rattle.u_trace.proofs.activities.waiting.Goals as goal

pub returns-then-is_empty : goal.returns-then-is_empty
returns-then-is_empty c w = (
  (λ q. absurd (cc)),
  (λ v. absurd (none_waits_full c.args.program.now.blocks (Contains c.args.history.now) c.args.activity.now c.ports_in-all.result c.in_ok-tokens.tokens c.and-has.result c.without-lacks.result c.ports_in-all.ensures c.in_ok-tokens.ensures c.and-has.ensures c.without-lacks.ensures (c.is_empty.ensures.empty c.if-is_empty.true) w v)),
)

pub returns-then-is_empty-2 : goal.returns-then-is_empty-2
returns-then-is_empty-2 c w = (
  (λ q. absurd (cc)),
  (λ v. absurd (none_waits_empty c.args.program.now.blocks (Contains c.args.history.now) c.args.activity.now c.ports_in-all.result c.in_ok-tokens.tokens c.and-has.result c.without-lacks.result c.ports_in-all.ensures c.in_ok-tokens.ensures c.and-has.ensures c.without-lacks.ensures (c.is_empty-2.ensures.empty c.if-is_empty-2.true) w v)),
)

pub returns : goal.returns
returns c =
    it_waits c.args.program.now.blocks (Contains c.args.history.now) c.args.activity.now c.ports_in-all.result c.in_ok-tokens.tokens c.and-has.result c.without-lacks.result c.ports_in-all.ensures c.in_ok-tokens.ensures c.and-has.ensures c.without-lacks.ensures
    c.in_ok-copy.field-0 c.in_ok-copy.ensures (c.is_empty.ensures.other c.if-is_empty.false) (c.is_empty-2.ensures.other c.if-is_empty-2.false)
