use Rattle.u_name.proofs.ContextTexts.{front_within}
use Rattle.u_name.proofs.kept_context.front_spelled.Goals as goal

pub slice_bounds-text-count : goal.slice_bounds-text-count
slice_bounds-text-count c = front_within c.args.bytes.now c.in-Ok.context c.context.new.self.rest.now c.in-Ok.ensures
