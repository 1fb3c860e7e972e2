use Rattle.std.proofs.Common.{take}
use Rattle.std.specs.Prelude.{Contains}
use Rattle.u_value.specs.declared.value.Value.{Value}
use Rattle.u_base.specs.Firing.{Within}
use Rattle.u_match.specs.Keys.{Notes}
use Rattle.u_match.proofs.noting_reads.note_indices.Given as goal

abbrev pub invariant-loop-index : goal.invariant-loop-index
invariant-loop-index l = record {
  kept : Within (Contains l.reads) l.initial.reads;
  all : (w : Value) → Contains (take l.index-index l.indices) w → Notes l.activity l.structure w l.reads;
}
