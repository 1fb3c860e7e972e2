use Rattle.std.proofs.Common.{List, take, refl, sym, subst}
use Rattle.std.proofs.lemmas.List.{take_all}
use Rattle.u_rule.specs.declared.entry.Entry.{Entry}
use Rattle.u_trace.specs.Table.{place_in}
use Rattle.u_trace.specs.Givers.{Notes}
use Rattle.u_trace.proofs.Lists.{next_take}
use Rattle.u_trace.proofs.GiverLaws.{notes_none, notes_more}
use Rattle.u_trace.proofs.OwnerLaws.{still_same, still_on}
use Rattle.u_trace.proofs.givers.note_all.Goals as goal

pub loop-entry-init : goal.loop-entry-init
loop-entry-init c = record {
  notes = notes_none (place_in c.args.givers.now) c.args.place;
  owns = still_same c.args.givers.now c.args.givers.now refl refl;
}

pub loop-entry-preserved : goal.loop-entry-preserved
loop-entry-preserved c = record {
  notes = subst (λ (xs : List Entry). Notes (place_in c.args.givers.now) xs c.args.place (place_in c.note.new.self)) (sym (next_take c.args.entries.now c.loop-entry.entry-index c.entry-item.result c.loop-entry-test.true c.entry-item.is))
      (notes_more (place_in c.args.givers.now) (place_in c.loop-entry.givers) (place_in c.note.new.self) (take c.loop-entry.entry-index c.args.entries.now) c.entry-item.result c.args.place c.loop-entry.invariant.notes c.in_ok-note.ensures.notes);
  owns = still_on c.args.givers.now c.loop-entry.givers c.note.new.self c.loop-entry.invariant.owns c.note.ensures.owns;
}

pub returns-clause-notes : goal.returns-clause-notes
returns-clause-notes c = subst (λ (xs : List Entry). Notes (place_in c.args.givers.now) xs c.args.place (place_in c.loop-entry.givers)) (take_all c.loop-entry.entry-index c.args.entries.now c.loop-entry-test.false) c.loop-entry.invariant.notes

pub returns-in_err-note-clause-owns : goal.returns-in_err-note-clause-owns
returns-in_err-note-clause-owns c = still_on c.args.givers.now c.loop-entry.givers c.note.new.self c.loop-entry.invariant.owns c.note.ensures.owns
