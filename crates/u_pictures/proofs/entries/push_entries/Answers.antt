use Rattle.std.proofs.Common.{rules, List, ◌≡◌, ◌∷◌, ◌++◌, ◌∙◌, ap, sym, Some, None}
use Rattle.std.specs.Option.{option_copied}
use Rattle.u_base.proofs.AppendingLaws.{extends_behind, extends_by}
use Rattle.u_rule.specs.declared.entry.Entry.{Entry}
use Rattle.u_pictures.specs.Dot.{text}
use Rattle.u_pictures.specs.Picture.{standing, entry_lines, nodes_from}
use Rattle.u_pictures.proofs.Opening.{shown_first}
use Rattle.u_pictures.proofs.entries.push_entries.Goals as goal

pub loop-entry-preserved : goal.loop-entry-preserved
loop-entry-preserved c =
    let job = c.args.job.now in
    let origins = c.args.origins.now in
    let e = c.in-Some.entry.now in
    let es = c.in-Some.behind.now in
    let before = option_copied c.loop-entry.before in
    let old = c.loop-entry.out.items in
    let new = c.push_entry.new.out.items in
    let is : c.loop-entry.rest.now ≡ e ∷ es = search rules in
    let all = c.args.out.now.items ++ text (nodes_from origins job None c.args.entries.now) in
    let p : old ++ text (nodes_from origins job before (e ∷ es)) ≡ all = ap (λ (xs : List Entry). old ++ text (nodes_from origins job before xs)) (sym is) ∙ c.loop-entry.invariant.0 in
    let lines = entry_lines origins job (standing before e es) e in
    let q : new ≡ old ++ text lines = c.in_ok-push_entry.ensures.ok ∙ ap (λ s. old ++ text (entry_lines origins job s e)) c.standing.ensures in
    (shown_first lines (nodes_from origins job (Some e) es) all old new p q, extends_behind _ old c.loop-entry.invariant.1.more new c.loop-entry.invariant.1.there (extends_by old new _ q))
