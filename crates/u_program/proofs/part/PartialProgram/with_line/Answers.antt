use Rattle.std.proofs.Common.{rules, ◌≡◌, Some, None}
use Rattle.u_base.specs.Pieces.{words}
use Rattle.u_program.specs.Reading.{line_at}
use Rattle.u_program.proofs.LineLaws.{line_sound}
use Rattle.u_program.specs.declared.reading.Line.TheVariants.{Block, Loop, Statement}
use Rattle.u_program.proofs.Steps.{no_line}
use Rattle.u_program.proofs.part.PartialProgram.with_line.Goals as goal

pub returns-in-Err-Bad : goal.returns-in-Err-Bad
returns-in-Err-Bad c =
    let h : line_at c.args.version (words c.args.text.now) ≡ None = search rules in
    no_line c.args.version c.args.self.done.items c.args.self.last c.args.text.now c.requires.part h

pub with_loop-requires-clause-line : goal.with_loop-requires-clause-line
with_loop-requires-clause-line c =
    let h : line_at c.args.version (words c.args.text.now) ≡ Some (Loop c.in-Loop.number c.in-Loop.held_by) = search rules in
    (line_sound c.args.version c.args.text.now _ h).0

pub with_statement-requires-clause-line : goal.with_statement-requires-clause-line
with_statement-requires-clause-line c =
    let h : line_at c.args.version (words c.args.text.now) ≡ Some (Statement c.in-Statement.number c.in-Statement.statement) = search rules in
    (line_sound c.args.version c.args.text.now _ h).0

pub returns-in-Block : goal.returns-in-Block
returns-in-Block c =
    let h : line_at c.args.version (words c.args.text.now) ≡ Some (Block c.in-Block.name) = search rules in
    rw (line_sound c.args.version c.args.text.now _ h).1 c.with_block.ensures

pub returns-in-Loop : goal.returns-in-Loop
returns-in-Loop c =
    let h : line_at c.args.version (words c.args.text.now) ≡ Some (Loop c.in-Loop.number c.in-Loop.held_by) = search rules in
    rw (line_sound c.args.version c.args.text.now _ h).1 c.with_loop.ensures

pub returns-in-Statement : goal.returns-in-Statement
returns-in-Statement c =
    let h : line_at c.args.version (words c.args.text.now) ≡ Some (Statement c.in-Statement.number c.in-Statement.statement) = search rules in
    rw (line_sound c.args.version c.args.text.now _ h).1 c.with_statement.ensures
