use Rattle.std.proofs.Common.{subst, List, ℕ}
use Rattle.u_explain.specs.Left.{IsLeft, Behind}
use Rattle.u_explain.specs.Lines.{EndOn}
use Rattle.u_explain.proofs.LeftLaws.{ended, word_on, word_stuck}
use Rattle.u_explain.proofs.ListLaws.{some_end}
use Rattle.u_explain.proofs.text_place.version_left.Goals as goal

pub returns-in-Ok : goal.returns-in-Ok
returns-in-Ok c = subst (λ (w : List ℕ). IsLeft (Behind w EndOn) c.args.line.now c.in-Ok.rest.now) c.header_of.ensures (word_on c.header_of.result.now EndOn some_end c.args.line.now c.in-Ok.rest.now c.in-Ok.rest.now c.in-Ok.ensures (ended c.in-Ok.rest.now))

pub returns-in-Err : goal.returns-in-Err
returns-in-Err c = subst (λ (w : List ℕ). IsLeft (Behind w EndOn) c.args.line.now c.in-Err.rest.now) c.header_of.ensures (word_stuck c.header_of.result.now EndOn some_end c.args.line.now c.in-Err.rest.now c.in-Err.ensures)
