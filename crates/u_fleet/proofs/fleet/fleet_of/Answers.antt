use Rattle.std.proofs.Common.{◌≡◌, ◌++◌, map, take, drop, length, sym, subst, ap, ◌∙◌}
use Rattle.u_fleet.specs.Fleets.{list_of, end_of, AreCounted}
use Rattle.u_fleet.proofs.Pairs.{written_back}
use Rattle.u_fleet.proofs.Ended.{have_ended}
use Rattle.u_fleet.proofs.fleet.fleet_of.Goals as goal

-- the workers that ran are written back into the list of all
back : (g : _) (c : goal.After-close_all-ended g) → take c.in-Ok.made.1.len (c.run_all.new.pairs ++ drop (length c.run_all.new.pairs) c.in-Ok.made.1.items) ≡ c.run_all.new.pairs
back g c = written_back _ _ _ (c.run_all.auto.pairs ∙ ap length c.as_mut_slice.ensures.value) (sym c.as_mut_slice.ensures.len ∙ ap length c.as_mut_slice.ensures.value)

pub report_of-requires-clause-ended : goal.report_of-requires-clause-ended
report_of-requires-clause-ended g c =
    let lists = c.close_all-ended.ensures.published ∙ ap (λ ps. map list_of ps) (back g c) in
    let ends = c.close_all-ended.ensures.ends ∙ ap (λ ps. map end_of ps) (back g c) in
    rw (lists, ends)
    (have_ended _ _ _ c.as_mut_slice.result.now c.run_all.new.pairs (c.as_mut_slice.ensures.len ∙ (c.in-Ok.ensures).len) c.run_all.auto.pairs
    (subst (λ ps. AreCounted ps) (sym c.as_mut_slice.ensures.value) (c.in-Ok.ensures).counted) c.run_all.ensures)
