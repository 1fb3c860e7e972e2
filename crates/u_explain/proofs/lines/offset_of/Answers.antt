use Rattle.std.proofs.Common.{arith}
use Rattle.u_explain.specs.Places.{IsAllowed}
use Rattle.u_explain.proofs.ScanLaws.{left_within, longest_front}
use Rattle.u_explain.proofs.lines.offset_of.Goals as goal

pub returns-then-left-line : goal.returns-then-left-line
returns-then-left-line c = λ before p. longest_front (IsAllowed before) c.args.line.now c.line_left-left.result.now (c.line_left-left.ensures before p)

pub returns-else-left-line : goal.returns-else-left-line
returns-else-left-line c = λ before p.
    let within = left_within (IsAllowed before) c.args.line.now c.line_left-left.result.now (c.line_left-left.ensures before p) in
    let above = c.if-left-line.false in
    absurd (grind arith)
