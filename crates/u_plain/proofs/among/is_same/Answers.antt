use Rattle.std.proofs.Common.{◌∙◌, ap}
use Rattle.std.specs.Ordering.{is_eq}
use Rattle.u_plain.proofs.Entries.{firing_tied_exact}
use Rattle.u_plain.proofs.among.is_same.Goals as goal

pub returns : goal.returns
returns c = firing_tied_exact c.args.left.now c.args.right.now c.is_eq.result (c.is_eq.ensures ∙ ap is_eq c.cmp.ensures)
