use Rattle.u_value.specs.declared.value.Value.{Value}
use Rattle.u_match.specs.Keys.{Notes}
use Rattle.u_sets.proofs.Rounds.{each_more, each_of_all}
use Rattle.u_match.proofs.Noted.{keeps_both, notes_still}
use Rattle.u_match.proofs.noting_reads.note_indices.Goals as goal

pub returns-in_err-note_read-clause-kept : goal.returns-in_err-note_read-clause-kept
returns-in_err-note_read-clause-kept c = keeps_both c.args.reads.now c.loop-index.reads c.note_read.new.reads c.loop-index.invariant.kept c.note_read.ensures.kept

pub loop-index-preserved : goal.loop-index-preserved
loop-index-preserved c = record {
  kept = keeps_both c.args.reads.now c.loop-index.reads c.note_read.new.reads c.loop-index.invariant.kept c.note_read.ensures.kept;
  all = each_more (λ (w : Value). Notes c.args.activity.now c.args.structure.now w c.note_read.new.reads) c.args.indices.now c.loop-index.index-index c.index-item.result c.loop-index-test.true c.index-item.is c.in_ok-note_read.ensures.ok
      (λ w m. notes_still c.args.activity.now c.args.structure.now w c.loop-index.reads c.note_read.new.reads c.note_read.ensures.kept (c.loop-index.invariant.all w m));
}

pub returns-clause-ok : goal.returns-clause-ok
returns-clause-ok c = each_of_all (λ (w : Value). Notes c.args.activity.now c.args.structure.now w c.loop-index.reads) c.args.indices.now c.loop-index.index-index c.loop-index-test.false c.loop-index.invariant.all
