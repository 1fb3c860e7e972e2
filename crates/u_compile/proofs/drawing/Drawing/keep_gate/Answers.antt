use Rattle.std.proofs.Common.{[], ◌∷◌}
use Rattle.u_compile.proofs.DrawingLaws.{grows_self, grows_then, value_grows}
use Rattle.u_compile.proofs.drawing.Drawing.keep_gate.Goals as goal

pub returns-then-has_gate : goal.returns-then-has_gate
returns-then-has_gate c = grows_self c.args.self.now

pub returns : goal.returns
returns c =
    grows_then c.args.self.now c.add_value.new.self c.add_gate.new.self (value_grows c.args.self.now c.args.self.now c.add_value.new.self (c.args.control ∷ []) (grows_self c.args.self.now) c.in_ok-value.ensures.1) c.in_ok-add_gate.ensures.grows
