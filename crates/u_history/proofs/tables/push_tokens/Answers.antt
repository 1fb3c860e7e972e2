use Rattle.std.proofs.Common.{arith, sym, ◌∙◌}
use Rattle.u_sets.specs.Columns.{deref_value}
use Rattle.u_history.proofs.Numbering.{member_of, named_step, named_end, stands}
use Rattle.u_history.proofs.tables.push_tokens.Goals as goal

pub unreachable-requires : goal.unreachable-requires
unreachable-requires c =
    let p = c.pair-item.result in
    let l = c.requires.below (deref_value p) (member_of c.args.pairs.now c.loop-pair.pair-index p c.loop-pair-test.true c.pair-item.is) in
    stands c.args.names.now c.pair-item.result.0 l (sym c.in_ok-found.ensures ∙ c.in_default.is)

pub loop-pair-preserved : goal.loop-pair-preserved
loop-pair-preserved c =
    named_step c.args.names.now c.args.port c.args.pairs.now c.loop-pair.pair-index c.pair-item.result c.in-Some.activity c.in_ok-token_at.field-0 c.loop-pair.list.items c.push.new.self.items c.args.list.now.items c.loop-pair-test.true c.pair-item.is (sym c.in_ok-found.ensures ∙ c.in-Some.is) c.in_ok-push.ensures.items c.in_ok-token_at.ensures c.loop-pair.invariant

pub returns : goal.returns
returns c = named_end c.args.names.now c.args.port c.args.pairs.now c.loop-pair.pair-index c.loop-pair.list.items c.args.list.now.items (omega arith) c.loop-pair.invariant
