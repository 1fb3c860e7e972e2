use Rattle.std.proofs.Common.{refl, arith}
use Rattle.u_rule.specs.EntryOrder.{written}
use Rattle.u_history.proofs.Tabled.{found_at, none_more, none_end, pair_is, is_pair_of}
use Rattle.u_history.proofs.tables.has_pair.Goals as goal

pub returns-then-is_pair : goal.returns-then-is_pair
returns-then-is_pair c =
    ((λ t. found_at c.args.pairs.now c.loop-pair.pair-index c.pair-item.result (written c.args.write.now.writer c.args.write.now.value) c.loop-pair-test.true c.pair-item.is (pair_is c.pair-item.result c.args.write.now (c.is_pair.ensures.0 c.if-is_pair.true))), λ m. refl)

pub loop-pair-preserved : goal.loop-pair-preserved
loop-pair-preserved c =
    none_more c.args.pairs.now c.loop-pair.pair-index c.pair-item.result (written c.args.write.now.writer c.args.write.now.value) c.loop-pair-test.true c.pair-item.is c.loop-pair.invariant
    (λ e. let t = c.is_pair.ensures.1 (is_pair_of c.pair-item.result c.args.write.now e) in let f = c.if-is_pair.false in cc)

pub returns : goal.returns
returns c = ((λ t. absurd (cc)), λ m. absurd (none_end c.args.pairs.now c.loop-pair.pair-index (written c.args.write.now.writer c.args.write.now.value) (omega arith) c.loop-pair.invariant m))
