use Rattle.std.proofs.Common.{◌≡◌, length}
use Rattle.std.specs.Prelude.{Contains}
use Rattle.u_match.specs.Keys.{AreMetFrom, lent_lists}
use Rattle.u_match.proofs.meeting.met_at_each.Given as goal

abbrev pub invariant-loop-place : goal.invariant-loop-place
invariant-loop-place l = (length l.lists.items ≡ l.place) × AreMetFrom (Contains l.history.entries) l.token 1 (lent_lists l.lists.items)
