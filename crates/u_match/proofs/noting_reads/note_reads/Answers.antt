use Rattle.std.specs.Prelude.{Contains}
use Rattle.u_value.specs.declared.value.Value.{Value}
use Rattle.u_match.specs.Keys.{Notes}
use Rattle.u_sets.proofs.Rounds.{each_more, each_of_all}
use Rattle.u_match.proofs.Noted.{keeps_both, notes_still}
use Rattle.u_match.proofs.noting_reads.note_reads.Goals as goal

pub returns-in_err-note_indices-clause-kept : goal.returns-in_err-note_indices-clause-kept
returns-in_err-note_indices-clause-kept c = keeps_both c.args.reads.now c.loop-structure.reads c.note_indices.new.reads c.loop-structure.invariant.kept c.note_indices.ensures.kept

pub loop-structure-preserved : goal.loop-structure-preserved
loop-structure-preserved c = record {
  kept = keeps_both c.args.reads.now c.loop-structure.reads c.note_indices.new.reads c.loop-structure.invariant.kept c.note_indices.ensures.kept;
  all = each_more (λ (v : Value). (w : Value) → Contains c.args.indices.now w → Notes c.args.activity.now v w c.note_indices.new.reads) c.args.structures.now c.loop-structure.structure-index c.structure-item.result c.loop-structure-test.true c.structure-item.is c.in_ok-note_indices.ensures.ok
      (λ v m w n. notes_still c.args.activity.now v w c.loop-structure.reads c.note_indices.new.reads c.note_indices.ensures.kept (c.loop-structure.invariant.all v m w n));
}

pub returns-clause-ok : goal.returns-clause-ok
returns-clause-ok c = each_of_all (λ (v : Value). (w : Value) → Contains c.args.indices.now w → Notes c.args.activity.now v w c.loop-structure.reads) c.args.structures.now c.loop-structure.structure-index c.loop-structure-test.false c.loop-structure.invariant.all
