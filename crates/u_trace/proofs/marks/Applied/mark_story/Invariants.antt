use Rattle.std.proofs.Common.{◌≡◌, ℕ, ◌≤◌, length}
use Rattle.std.specs.Prelude.{◌↔◌}
use Rattle.u_rule.specs.Rule.{own_of}
use Rattle.u_trace.specs.Table.{place_in}
use Rattle.u_trace.specs.Marks.{IsMarked}
use Rattle.u_trace.proofs.MarkLaws.{Reached}
use Rattle.u_trace.proofs.marks.Applied.mark_story.Given as goal

abbrev pub invariant-loop-left : goal.invariant-loop-left
invariant-loop-left l = record {
  low : l.left ≤ length l.self.log.now;
  count : length l.marks ≡ length l.self.log.now;
  all : (j : ℕ) → IsMarked l.marks j ↔ Reached (own_of l.self.job.now) l.self.log.now (place_in l.self.givers.now) l.entry l.left j;
}

abbrev pub decreases-loop-left : goal.decreases-loop-left
decreases-loop-left l = l.left
