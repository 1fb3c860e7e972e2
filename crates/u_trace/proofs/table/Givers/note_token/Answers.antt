use Rattle.std.proofs.Common.{[], ◌∷◌}
use Rattle.std.proofs.lemmas.Result.{on_ok_weaker}
use Rattle.u_rule.specs.declared.entry.Entry.TheVariants as entries
use Rattle.u_trace.specs.Table.{place_in}
use Rattle.u_trace.proofs.TableLaws.{notes_from}
use Rattle.u_trace.proofs.OwnerLaws.{still_same, still_on}
use Rattle.u_trace.proofs.table.Givers.note_token.Goals as goal

pub returns-clause-notes : goal.returns-clause-notes
returns-clause-notes c =
    on_ok_weaker c.note_at.result
    (λ n. notes_from (place_in c.args.self.now) (place_in c.number_at.new.self) (place_in c.note_at.new.self) (entries.Token c.args.token.now ∷ []) c.args.place c.in_ok-number.ensures.same n)
    c.note_at.ensures.notes

pub returns-clause-owns : goal.returns-clause-owns
returns-clause-owns c =
    still_on c.args.self.now c.number_at.new.self c.note_at.new.self c.number_at.ensures.owns (still_same c.number_at.new.self c.note_at.new.self c.note_at.ensures.names c.note_at.ensures.owners)
