use Rattle.std.proofs.Common.{rules, ◌≡◌, Some, None, refl}
use Rattle.u_base.specs.Pieces.{words}
use Rattle.u_program.specs.Reading.{line_at}
use Rattle.u_program.proofs.LineLaws.{line_sound}
use Rattle.u_program.specs.declared.reading.Line.TheVariants.{Block, Loop, Statement}
use Rattle.u_program.proofs.Whole.{no_first_line, loop_first, statement_first, first_part}
use Rattle.u_program.proofs.part.PartialProgram.first.Goals as goal

pub returns-in-Err-Bad : goal.returns-in-Err-Bad
returns-in-Err-Bad c =
    let h : line_at c.args.version (words c.args.text.now) ≡ None = search rules in
    no_first_line c.args.version c.args.text.now h

pub returns-in-Loop : goal.returns-in-Loop
returns-in-Loop c =
    let h : line_at c.args.version (words c.args.text.now) ≡ Some (Loop c.in-Loop.field-0 c.in-Loop.field-1) = search rules in
    loop_first c.args.version c.args.text.now _ _ h

pub returns-in-Statement : goal.returns-in-Statement
returns-in-Statement c =
    let h : line_at c.args.version (words c.args.text.now) ≡ Some (Statement c.in-Statement.field-0 c.in-Statement.field-1) = search rules in
    statement_first c.args.version c.args.text.now _ _ h

pub returns : goal.returns
returns c =
    let h : line_at c.args.version (words c.args.text.now) ≡ Some (Block c.in-Block.name) = search rules in
    let l = line_sound c.args.version c.args.text.now _ h in
    rw c.new.ensures.items (rw c.new-2.ensures (first_part c.args.version c.in-Block.name l.0, rw l.1 refl))
