use Rattle.std.proofs.Common.{ap, sym, ◌∙◌, subst}
use Rattle.u_rule.specs.Parts.{TokenParts}
use Rattle.u_rule.specs.declared.entry.Entry.{Entry}
use Rattle.u_rule.specs.declared.entry.Entry.TheVariants as entries
use Rattle.u_match.specs.Keys.{IsCompleteWith}
use Rattle.u_match.specs.Numbers.{NumbersEntry}
use Rattle.u_match.proofs.Noted.{keeps_itself}
use Rattle.u_match.proofs.Completing.{with_other, with_token}
use Rattle.u_match.proofs.noting_reads.note.Goals as goal

pub note_reads_of-requires : goal.note_reads_of-requires
note_reads_of-requires c =
    let is = ap (λ (t : TokenParts). entries.Token t) c.of.ensures ∙ sym c.in-Token.is in
    subst (λ (e : Entry). NumbersEntry c.args.history.now.names e c.args.number) (sym is) c.requires

pub returns-in_ok-note_reads_of-in-Token-clause-ok : goal.returns-in_ok-note_reads_of-in-Token-clause-ok
returns-in_ok-note_reads_of-in-Token-clause-ok c =
    let is = ap (λ (t : TokenParts). entries.Token t) c.of.ensures ∙ sym c.in-Token.is in
    subst (λ (e : Entry). IsCompleteWith c.args.reads.now c.args.history.now.entries e c.note_reads_of.new.reads) is
    (with_token c.args.reads.now c.note_reads_of.new.reads c.args.history.now.entries c.note_reads_of.ensures.kept c.of.result c.in_ok-note_reads_of-in-Token.ensures.ok)

pub returns-in-Write-clause-ok : goal.returns-in-Write-clause-ok
returns-in-Write-clause-ok c =
    with_other c.args.reads.now c.args.reads.now c.args.history.now.entries (keeps_itself c.args.reads.now) c.args.entry.now (λ t e. let h = sym c.in-Write.is ∙ e in absurd (cc))

pub returns-in-Fault-clause-ok : goal.returns-in-Fault-clause-ok
returns-in-Fault-clause-ok c =
    with_other c.args.reads.now c.args.reads.now c.args.history.now.entries (keeps_itself c.args.reads.now) c.args.entry.now (λ t e. let h = sym c.in-Fault.is ∙ e in absurd (cc))

pub returns-in-Answer-clause-ok : goal.returns-in-Answer-clause-ok
returns-in-Answer-clause-ok c =
    with_other c.args.reads.now c.args.reads.now c.args.history.now.entries (keeps_itself c.args.reads.now) c.args.entry.now (λ t e. let h = sym c.in-Answer.is ∙ e in absurd (cc))
