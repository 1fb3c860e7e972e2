use Rattle.std.proofs.Common.{take}
use Rattle.std.specs.Prelude.{Contains}
use Rattle.u_value.specs.declared.value.Value.{Value}
use Rattle.u_base.specs.Firing.{Within}
use Rattle.u_match.specs.Keys.{Notes}
use Rattle.u_match.proofs.noting_reads.note_reads.Given as goal

abbrev pub invariant-loop-structure : goal.invariant-loop-structure
invariant-loop-structure l = record {
  kept : Within (Contains l.reads) l.initial.reads;
  all : (v : Value) → Contains (take l.structure-index l.structures) v → (w : Value) → Contains l.indices w → Notes l.activity v w l.reads;
}
