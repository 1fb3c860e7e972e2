use Rattle.u_commands.specs.Watches.{progress_line}
use Rattle.u_commands.proofs.Watched.{join3}
use Rattle.u_commands.proofs.watch.Progress.line.Goals as goal

pub returns : goal.returns
unfolding progress_line
returns c =
    join3 _ _ _ _ _ _ _ c.new-line.ensures.items c.in_ok-push_numbered.ensures c.in_ok-push_numbered-2.ensures c.in_ok-extend_from_slice.ensures.items
