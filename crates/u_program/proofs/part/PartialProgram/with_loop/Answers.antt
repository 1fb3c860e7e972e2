use Rattle.std.proofs.Common.{rules, ◌≡◌, ◌+◌, ◌<◌, length}
use Rattle.u_program.proofs.Steps.{loop_wrong, loop_over, loop_taken}
use Rattle.u_program.proofs.part.PartialProgram.with_loop.Goals as goal
use Rattle.u_program.proofs.part.PartialProgram.with_loop.Goals.{then-number-loops-via-then-number-loops, then-number-loops-via-else-number-loops+then-from-number}

pub returns-then-statements-ne0 : goal.returns-then-statements-ne0
returns-then-statements-ne0 c =
    let n : length c.args.self.last.statements ≡ 0 → ⊥ = search rules in
    loop_wrong c.args.version c.args.self.done.items c.args.self.last c.args.number c.args.held_by c.requires.part c.requires.line (λ z e low. n z)

pub returns-then-number-loops : goal.returns-then-number-loops
returns-then-number-loops c =
    elim c.then-number-loops.branch [
      | then-number-loops-via-then-number-loops w ↦
          let n : c.args.number ≡ length c.args.self.last.loops + 1 → ⊥ = search rules in
          loop_wrong c.args.version c.args.self.done.items c.args.self.last c.args.number c.args.held_by c.requires.part c.requires.line (λ z e low. n e)
      | then-number-loops-via-else-number-loops+then-from-number w ↦
          let n : c.args.held_by < c.args.number → ⊥ = search rules in
          loop_wrong c.args.version c.args.self.done.items c.args.self.last c.args.number c.args.held_by c.requires.part c.requires.line (λ z e low. n low)
    ]

pub returns-then-number-gt99 : goal.returns-then-number-gt99
returns-then-number-gt99 c =
    let z : length c.args.self.last.statements ≡ 0 = search rules in
    let n : c.args.number ≡ length c.args.self.last.loops + 1 = search rules in
    loop_over c.args.version c.args.self.done.items c.args.self.last c.args.number c.args.held_by c.requires.part c.requires.line z n (search rules) (search rules)

pub returns : goal.returns
returns c =
    let z : length c.args.self.last.statements ≡ 0 = search rules in
    let n : c.args.number ≡ length c.args.self.last.loops + 1 = search rules in
    rw c.in_ok-last.ensures (loop_taken c.args.version c.args.self.done.items c.args.self.last c.args.number c.args.held_by c.requires.part c.requires.line z n (search rules) (search rules))
