use Rattle.std.proofs.Common.{arith}
use Rattle.u_world.proofs.ScriptLaws.{digit_is, no_digit, nothing_there}
use Rattle.u_world.proofs.script.after_replica.Goals as goal
use Rattle.u_world.proofs.script.after_replica.Goals.{then-first-lt49-via-then-first-lt49, then-first-lt49-via-else-first-lt49+then-first-gt56}

-- the first byte is no digit from 1 to 8
pub returns-then-first-lt49 : goal.returns-then-first-lt49
returns-then-first-lt49 c = λ r rest l k.
    elim c.then-first-lt49.branch [
      | then-first-lt49-via-then-first-lt49 w ↦ no_digit c.args.line.now c.in-Some.rest.now rest c.in-Some.first.now r c.in-Some.ensures.cases.0 (λ low high. omega (arith, low, w.if-first-lt49)) l k
      | then-first-lt49-via-else-first-lt49+then-first-gt56 w ↦ no_digit c.args.line.now c.in-Some.rest.now rest c.in-Some.first.now r c.in-Some.ensures.cases.0 (λ low high. omega (arith, high, w.if-first-gt56)) l k
    ]

-- it is one
pub returns-else-first-gt56 : goal.returns-else-first-gt56
returns-else-first-gt56 c = digit_is c.args.line.now c.in-Some.rest.now c.in-Some.first.now c.in-Some.ensures.cases.0 (omega (arith, c.if-first-lt49.false)) (omega (arith, c.if-first-gt56.false))

-- there is no byte
pub returns-in-None : goal.returns-in-None
returns-in-None c = λ r rest l k. nothing_there c.args.line.now rest r c.in-None.ensures.cases l k
