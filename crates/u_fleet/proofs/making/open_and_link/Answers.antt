use Rattle.std.proofs.Common.{◌≡◌, [], All, OnOk, map, length, take, drop, ◌++◌, sym, subst, ap, ◌∙◌}
use Rattle.u_outlet.specs.Ends.{published, pending}
use Rattle.u_fleet.specs.Fleets.{self_of, IsLinked}
use Rattle.u_fleet.proofs.Pairs.{at_ok, written_back, length_kept, images_kept, all_kept, each_kept}
use Rattle.u_fleet.proofs.making.open_and_link.Goals as goal

-- linking keeps what each pair is by itself
kept : (g : _) (c : goal.After-pairs-1 g) → map self_of c.link_all.new.pairs ≡ map self_of c.open_all.new.pairs.items
kept g c = c.link_all.ensures.kept ∙ ap (λ xs. map self_of xs) c.as_mut_slice.ensures.value

back : (g : _) (c : goal.After-pairs-1 g) → take c.open_all.new.pairs.len (c.link_all.new.pairs ++ drop (length c.link_all.new.pairs) c.open_all.new.pairs.items) ≡ c.link_all.new.pairs
back g c = written_back _ _ _ (length_kept self_of _ _ (kept g c)) (sym c.as_mut_slice.ensures.len ∙ ap length c.as_mut_slice.ensures.value)

pub returns-clause-seats : goal.returns-clause-seats
returns-clause-seats g c = rw (back g c) (at_ok c.link_all.result _ (images_kept self_of (λ x. x.2) _ _ (kept g c) ∙ c.in_ok-open_all.ensures.seats))

pub returns-clause-silent : goal.returns-clause-silent
returns-clause-silent g c = rw (back g c) (at_ok c.link_all.result _ (all_kept self_of (λ x. (published x.0 ≡ []) × (pending x.0 ≡ [])) c.open_all.new.pairs.items _ (kept g c) c.open_all.ensures.silent))

pub returns-clause-counted : goal.returns-clause-counted
returns-clause-counted g c = rw (back g c) (at_ok c.link_all.result _ (λ k d small. ap (λ x. x.1) (each_kept self_of c.open_all.new.pairs.items c.link_all.new.pairs (kept g c) k d small) ∙ c.open_all.ensures.counted k d (rw (← length_kept self_of _ _ (kept g c)) small)))

pub returns-clause-linked : goal.returns-clause-linked
returns-clause-linked g c = rw (back g c) (subst (λ n. OnOk c.link_all.result (All (IsLinked n) c.link_all.new.pairs)) (c.as_mut_slice.ensures.len ∙ c.in_ok-open_all.ensures.len) c.link_all.ensures.linked)
