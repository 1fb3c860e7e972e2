use Rattle.std.proofs.Common.{sym, subst, List}
use Rattle.u_rule.specs.declared.entry.Entry.{Entry}
use Rattle.u_match.specs.Keys.{IsComplete}
use Rattle.u_match.proofs.Completing.{complete_still}
use Rattle.u_match.proofs.Numbered.{numbers}
use Rattle.u_match.proofs.matcher.admit.Goals as goal

pub note-requires : goal.note-requires
note-requires c = numbers c.args.history.now.names c.args.entry.now c.args.number c.requires.number

pub returns-in_err-note-clause-complete : goal.returns-in_err-note-clause-complete
returns-in_err-note-clause-complete c = complete_still c.args.reads.now c.note.new.reads c.args.history.now.entries c.note.ensures.kept c.requires.complete

pub returns-in_err-added-clause-complete : goal.returns-in_err-added-clause-complete
returns-in_err-added-clause-complete c = complete_still c.args.reads.now c.note.new.reads c.put.new.history.entries c.note.ensures.kept (subst (λ (es : List Entry). IsComplete c.args.reads.now es) (sym c.in_err-added.ensures.err) c.requires.complete)

pub returns-clause-complete : goal.returns-clause-complete
returns-clause-complete c = c.in_ok-note.ensures.ok c.put.new.history.entries c.requires.complete c.in_ok-added.ensures.ok
