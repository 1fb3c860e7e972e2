use Rattle.std.proofs.Common.{◌≡◌, ◌+◌, take}
use Rattle.u_rule.specs.Rule.{tokens_from}
use Rattle.u_sets.specs.Members.{SomeOf}
use Rattle.u_trace.specs.Table.{place_in}
use Rattle.u_trace.specs.Marks.{IsWanted, Marks}
use Rattle.u_trace.proofs.marks.Applied.mark_tokens.Given as goal

abbrev pub invariant-loop-value : goal.invariant-loop-value
invariant-loop-value l = record {
  marked : Marks l.initial.marks (SomeOf (tokens_from l.activity 1 (take l.value-index l.values)) (IsWanted l.self.start.now (place_in l.self.givers.now))) l.marks;
  port : l.port ≡ l.value-index + 1;
}
