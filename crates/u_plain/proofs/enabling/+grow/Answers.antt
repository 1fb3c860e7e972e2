use Rattle.std.proofs.Common.{◌≡◌, ◌⊎◌, ◌↔◌, ◌∙◌, ap, refl, Contains, subst, rules, length}
use Rattle.u_rule.specs.Parts.{most_ports}
use Rattle.u_rule.specs.declared.entry.Entry.{Entry}
use Rattle.u_rule.specs.declared.firing.Firing.{Firing}
use Rattle.u_sets.proofs.Gathering.{scan_more, scan_all}
use Rattle.u_plain.specs.Tries.{longer, FitsLonger}
use Rattle.u_plain.proofs.Growing.{grown_all, grown_full, stepped, passed_over}
use Rattle.u_plain.proofs.enabling.+grow.Goals as goal
use Rattle.u_plain.proofs.enabling.+grow.Goals.{in-Some+in_ok-more+in_ok-grow+in-Some-1, in-Some+in_ok-more+in_ok-grow+in-None-1, in_default}

pub returns-then-as_slice-eq-MOST_PORTS : goal.returns-then-as_slice-eq-MOST_PORTS
returns-then-as_slice-eq-MOST_PORTS t c f =
    let g = c.args.made.now in
    let l : length g.values ≡ most_ports = search rules in
    grown_full c.args.job.now c.args.held.now g c.requires l f (Contains c.args.found.now.items f) (Contains c.add_itself.new.found.items f) (Contains c.add_reads.new.found.items f) (c.in_ok-add_itself.ensures f) (c.in_ok-add_reads.ensures f)

pub returns : goal.returns
returns t c f =
    let g = c.args.made.now in
    let d = scan_all (FitsLonger c.args.job.now c.args.held.now g) c.add_reads.new.found.items c.args.held.now c.loop-entry.entry-index c.loop-entry.found.items c.loop-entry-test.false c.loop-entry.invariant f in
    grown_all c.args.job.now c.args.held.now g c.requires f (Contains c.args.found.now.items f) (Contains c.add_itself.new.found.items f) (Contains c.add_reads.new.found.items f) (Contains c.loop-entry.found.items f) (c.in_ok-add_itself.ensures f) (c.in_ok-add_reads.ensures f) d

pub loop-entry-preserved : goal.loop-entry-preserved
loop-entry-preserved t c =
    let g = c.args.made.now in
    let e = c.entry-item.result in
    let step : (f : Firing) → Contains c.match-next_token.found.items f ↔ (Contains c.loop-entry.found.items f ⊎ FitsLonger c.args.job.now c.args.held.now g e f) = elim c.match-next_token.branch [
      | in-Some+in_ok-more+in_ok-grow+in-Some-1 w ↦ stepped c.args.job.now c.args.held.now g e w.in-Some.token.now w.in_ok-more.more c.loop-entry.found.items c.match-next_token.found.items w.in-Some.ensures (w.in_ok-more.ensures ∙ ap (longer g) w.value.ensures) (rw w.found-is w.in_ok-grow.ensures)
      | in-Some+in_ok-more+in_ok-grow+in-None-1 w ↦ stepped c.args.job.now c.args.held.now g e w.in-Some.token.now w.in_ok-more.more c.loop-entry.found.items c.match-next_token.found.items w.in-Some.ensures (w.in_ok-more.ensures ∙ ap (longer g) w.value.ensures) (rw w.found-is w.in_ok-grow.ensures)
      | in_default w ↦ passed_over c.args.job.now c.args.held.now g e c.loop-entry.found.items c.match-next_token.found.items w.in_default.ensures (rw w.found-is refl)
    ] in
    scan_more (FitsLonger c.args.job.now c.args.held.now g) c.add_reads.new.found.items c.args.held.now c.loop-entry.entry-index e c.loop-entry.found.items c.match-next_token.found.items c.loop-entry-test.true c.loop-entry.invariant
    (subst (λ (e : Entry). (f : Firing) → Contains c.match-next_token.found.items f ↔ (Contains c.loop-entry.found.items f ⊎ FitsLonger c.args.job.now c.args.held.now g e f)) c.entry-item.is step)
