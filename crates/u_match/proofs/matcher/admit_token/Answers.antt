use Rattle.std.proofs.Common.{inl, sym, subst}
use Rattle.u_history.specs.Numbered.{NumberedEntries}
use Rattle.u_match.specs.Keys.{IsComplete}
use Rattle.u_match.proofs.Completing.{complete_still, with_token}
use Rattle.u_match.proofs.matcher.admit_token.Goals as goal

pub note_reads_of-requires : goal.note_reads_of-requires
note_reads_of-requires c = inl c.requires.number

pub returns-in_err-note_reads_of-clause-complete : goal.returns-in_err-note_reads_of-clause-complete
returns-in_err-note_reads_of-clause-complete c = complete_still c.args.reads.now c.note_reads_of.new.reads c.args.history.now.entries c.note_reads_of.ensures.kept c.requires.complete

pub returns-in_err-added-clause-complete : goal.returns-in_err-added-clause-complete
returns-in_err-added-clause-complete c =
    complete_still c.args.reads.now c.note_reads_of.new.reads c.put_at.new.self.entries c.note_reads_of.ensures.kept
    (subst (λ (h : NumberedEntries). IsComplete c.args.reads.now h.entries) (sym c.in_err-added.ensures.err) c.requires.complete)

pub returns-clause-complete : goal.returns-clause-complete
returns-clause-complete c =
    with_token c.args.reads.now c.note_reads_of.new.reads c.args.history.now.entries c.note_reads_of.ensures.kept c.args.token.now c.in_ok-note_reads_of.ensures.ok
    c.put_at.new.self.entries c.requires.complete c.in_ok-added.ensures.ok
