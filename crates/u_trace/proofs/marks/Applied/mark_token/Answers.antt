use Rattle.std.proofs.Common.{◌∙◌, sym, subst}
use Rattle.std.specs.Prelude.{OnOk}
use Rattle.std.proofs.lemmas.Bool.{false≢true}
use Rattle.u_rule.specs.declared.entry.Entry.{Entry}
use Rattle.u_rule.specs.declared.entry.Entry.TheVariants as entries
use Rattle.u_trace.specs.Table.{place_in}
use Rattle.u_trace.specs.Marks.{IsWanted, Marks}
use Rattle.u_trace.proofs.MarkLaws.{marks_wanted, marks_unwanted}
use Rattle.u_trace.proofs.NeedLaws.{not_start}
use Rattle.u_trace.proofs.marks.Applied.mark_token.Goals as goal

pub returns-then-is_at_start : goal.returns-then-is_at_start
returns-then-is_at_start c =
    subst (λ (e : Entry). OnOk c.mark.result (Marks c.args.marks.now (IsWanted c.args.self.now.start.now (place_in c.args.self.now.givers.now) e) c.mark.new.marks)) c.in_ok-entry_of.ensures c.mark.ensures

pub bounds-marks-place : goal.bounds-marks-place
bounds-marks-place c = c.requires.below (entries.Token c.args.token.now) c.in-Some.place (sym c.in_ok-found.ensures ∙ c.in-Some.is)

pub returns-in-Some : goal.returns-in-Some
returns-in-Some c =
    marks_wanted c.args.self.now.start.now (entries.Token c.args.token.now) (place_in c.args.self.now.givers.now) c.args.marks.now c.in-Some.place (c.requires.below (entries.Token c.args.token.now) c.in-Some.place (sym c.in_ok-found.ensures ∙ c.in-Some.is))
    (λ q. not_start c.args.self.now.job.now c.args.token.now (λ p. false≢true (sym c.if-is_at_start.false ∙ c.is_at_start.ensures.1 p)) (q ∙ c.requires.start)) (sym c.in_ok-found.ensures ∙ c.in-Some.is)

pub returns-in_default : goal.returns-in_default
returns-in_default c = marks_unwanted c.args.self.now.start.now (entries.Token c.args.token.now) (place_in c.args.self.now.givers.now) c.args.marks.now (sym c.in_ok-found.ensures ∙ c.in_default.is)
