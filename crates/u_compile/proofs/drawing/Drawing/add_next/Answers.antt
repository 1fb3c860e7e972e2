use Rattle.std.proofs.Common.{sym, ◌∙◌}
use Rattle.u_compile.proofs.CarriedLaws.{adds_next}
use Rattle.u_compile.proofs.drawing.Drawing.add_next.Goals as goal

pub returns : goal.returns
returns c = adds_next c.args.self.now c.add_going_on.new.self c.keep_next.new.self c.args.number c.args.value c.in-Some.carried (sym c.carried.ensures ∙ c.in-Some.is) c.in_ok-add_going_on.ensures.adds c.in_ok-add_going_on.ensures.of c.keep_next.ensures.same c.keep_next.ensures.sets
