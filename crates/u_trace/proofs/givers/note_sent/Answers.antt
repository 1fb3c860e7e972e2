use Rattle.std.proofs.Common.{◌≤◌, List, length, take, refl, sym, subst, arith}
use Rattle.std.proofs.lemmas.List.{take_all}
use Rattle.u_rule.specs.declared.entry.Entry.{Entry}
use Rattle.u_rule.specs.declared.entry.Entry.TheVariants as entries
use Rattle.u_trace.specs.Table.{place_in}
use Rattle.u_trace.specs.Givers.{Notes}
use Rattle.u_trace.proofs.Lists.{next_of}
use Rattle.u_trace.proofs.GiverLaws.{notes_none, notes_more}
use Rattle.u_trace.proofs.OwnerLaws.{still_same, still_on}
use Rattle.u_trace.proofs.givers.note_sent.Goals as goal

pub loop-at-init : goal.loop-at-init
loop-at-init c = record {
  notes = notes_none (place_in c.args.givers.now) c.args.place;
  owns = still_same c.args.givers.now c.args.givers.now refl refl;
}

pub loop-at-preserved : goal.loop-at-preserved
loop-at-preserved c = record {
  notes = subst (λ (xs : List Entry). Notes (place_in c.args.givers.now) xs c.args.place (place_in c.note_token.new.self)) (sym (next_of c.args.sent.now c.loop-at.at (entries.Token c.token.result) c.token.ensures))
      (notes_more (place_in c.args.givers.now) (place_in c.loop-at.givers) (place_in c.note_token.new.self) (take c.loop-at.at c.args.sent.now) (entries.Token c.token.result) c.args.place c.loop-at.invariant.notes c.in_ok-note_token.ensures.notes);
  owns = still_on c.args.givers.now c.loop-at.givers c.note_token.new.self c.loop-at.invariant.owns c.note_token.ensures.owns;
}

pub returns-clause-notes : goal.returns-clause-notes
returns-clause-notes c =
    let h : length c.args.sent.now ≤ c.loop-at.at = omega arith in
    subst (λ (xs : List Entry). Notes (place_in c.args.givers.now) xs c.args.place (place_in c.loop-at.givers)) (take_all c.loop-at.at c.args.sent.now h) c.loop-at.invariant.notes

pub returns-in_err-note_token-clause-owns : goal.returns-in_err-note_token-clause-owns
returns-in_err-note_token-clause-owns c = still_on c.args.givers.now c.loop-at.givers c.note_token.new.self c.loop-at.invariant.owns c.note_token.ensures.owns
