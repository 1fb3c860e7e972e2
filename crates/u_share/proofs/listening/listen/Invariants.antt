use Rattle.std.proofs.Common.{◌≤◌, ◌*◌}
use Rattle.u_share.specs.Headline.{streams, member}
use Rattle.u_share.specs.Calls.{GoesOn}
use Rattle.u_share.proofs.listening.listen.Given as goal

abbrev pub invariant-loop-made : goal.invariant-loop-made
invariant-loop-made g l =
    GoesOn (member l.fn.machine l.fn.ear.splitter.begun.items l.fn.ear.splitter.ended) (member l.machine l.ear.splitter.begun.items l.ear.splitter.ended)
    (streams (g.R.Read.remaining l.fn.bus.reader) (g.W.Write.contents l.fn.bus.writer) (g.N.Write.contents l.fn.bus.notices))
    (streams (g.R.Read.remaining l.bus.reader) (g.W.Write.contents l.bus.writer) (g.N.Write.contents l.bus.notices))
    × (l.ear.splitter.ended ≤ 65536 * l.made)
