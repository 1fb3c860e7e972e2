use Rattle.std.proofs.Common.{rules, ◌≡◌, ◌≤◌, length}
use Rattle.u_program.proofs.Steps.{block_closed, block_over, block_taken}
use Rattle.u_program.proofs.part.PartialProgram.with_block.Goals as goal

pub returns-then-statements-eq0 : goal.returns-then-statements-eq0
returns-then-statements-eq0 c =
    let n : length c.args.self.last.statements ≡ 0 = search rules in
    block_closed c.args.version c.args.self.done.items c.args.self.last c.args.name c.requires.part n

pub returns-then-len-eq63 : goal.returns-then-len-eq63
returns-then-len-eq63 c =
    let n : 1 ≤ length c.args.self.last.statements = search rules in
    block_over c.args.version c.args.self.done.items c.args.self.last c.args.name c.requires.part (search rules) n (search rules)

pub returns : goal.returns
returns c =
    let n : 1 ≤ length c.args.self.last.statements = search rules in
    rw c.in_ok-push.ensures.items (rw c.new.ensures (block_taken c.args.version c.args.self.done.items c.args.self.last c.args.name c.requires.part (search rules) n (search rules)))
