use Rattle.u_compile.proofs.lowering.Lowering.close_else.Goals as goal

pub returns : goal.returns
returns c = record { whole = c.in_ok-whole.whole; parent = c.in_ok-whole.ensures; closes = c.in_ok-close_side.ensures }
