use Rattle.std.proofs.Common.{◌≡◌, ◌++◌, length, None}
use Rattle.std.specs.Option.{option_copied}
use Rattle.u_base.specs.Appending.{Extends}
use Rattle.u_pictures.specs.Dot.{text}
use Rattle.u_pictures.specs.Picture.{nodes_from}
use Rattle.u_pictures.proofs.entries.push_entries.Given as goal

abbrev pub invariant-loop-entry : goal.invariant-loop-entry
invariant-loop-entry l =
    (l.out.items ++ text (nodes_from l.origins l.job (option_copied l.before) l.rest) ≡ l.initial.out.items ++ text (nodes_from l.origins l.job None l.entries))
    × Extends l.initial.out.items l.out.items

abbrev pub decreases-loop-entry : goal.decreases-loop-entry
decreases-loop-entry l = length l.rest
