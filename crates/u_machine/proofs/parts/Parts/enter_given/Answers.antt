use Rattle.u_rule.specs.HeldEntries.{entries_given}
use Rattle.u_machine.proofs.Going.{entered_here}
use Rattle.u_machine.proofs.Lists.{slice_get_at}
use Rattle.u_machine.proofs.parts.Parts.enter_given.Goals as goal

pub returns-clause-has : goal.returns-clause-has
returns-clause-has c =
    let p = c.args.self.now in
    let f = c.index.result.now in
    let at = slice_get_at p.log.items c.args.place f c.requires.to c.index.ensures in
    entered_here p c.enter_what.new.self c.args.place f (entries_given c.in_ok-all.all) c.enter_what.ensures.goes c.requires.to at
    c.in_ok-all.ensures.all c.in_ok-enter_what.ensures.has
