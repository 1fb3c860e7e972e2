use Rattle.std.proofs.Common.{ℕ, ◌*◌, List, length, sym, ◌∙◌, ap}
use Rattle.u_name.specs.Name.{Activity}
use Rattle.u_names.proofs.Grouped.{groups_length}
use Rattle.u_names.proofs.activities.Activities.len.Goals as goal

pub returns : goal.returns
returns c = ap (λ (n : ℕ). 3 * n) c.len.ensures ∙ sym (groups_length c.self.inside.leaders) ∙ ap (λ (bs : List Activity). length bs) c.self.view_is
