-- What is told of how far a command has come.
use Rattle.std.specs.Prelude.{ℕ, List, ◌++◌, codes}
use Rattle.u_commands.specs.Outputs.{numbered}
use Rattle.u_commands.specs.declared.watch.Progress.{Progress}

-- `u: N firings applied, N parked`
unfoldable pub progress_line : Progress → List ℕ
progress_line p =
    numbered (codes "u: ") p.applied
    ++ (numbered (codes " firings applied, ") p.parked ++ codes " parked\n")
