use Rattle.std.proofs.Common.{sym, ◌∙◌}
use Rattle.std.specs.Prelude.{Contains}
use Rattle.std.proofs.lemmas.Option.{slice_get-get_or}
use Rattle.u_determinate.proofs.Links.{gained_none, gained_one, gained_other, gained_all}
use Rattle.u_determinate.proofs.incoming.add_links.Goals as goal
use Rattle.u_determinate.proofs.incoming.add_links.Goals.{then-from-to+in_ok-push, else-from-to}

pub loop-place-init : goal.loop-place-init
loop-place-init c =
    gained_none (Contains c.args.links.now.items) c.args.list.now c.args.statement c.args.on_false c.args.to c.args.links.now.items (λ l. ((λ m. m), λ m. m))

pub loop-place-preserved : goal.loop-place-preserved
loop-place-preserved c =
    let there = slice_get-get_or c.args.list.now c.loop-place.place (record { statement = 0; port = 0 }) c.loop-place-test.true in
    elim c.if-from-to.branch [
      | then-from-to+in_ok-push w ↦
          rw w.links-is (rw w.in_ok-push.ensures.items (gained_one (Contains c.args.links.now.items) c.args.list.now c.args.statement c.args.on_false c.args.to c.loop-place.place _ there (sym c.from.ensures ∙ w.if-from-to.true) c.loop-place.links.items c.loop-place.invariant))
      | else-from-to w ↦
          rw w.links-is (gained_other (Contains c.args.links.now.items) c.args.list.now c.args.statement c.args.on_false c.args.to c.loop-place.place _ there (λ e. w.if-from-to.false (c.from.ensures ∙ e)) c.loop-place.links.items c.loop-place.invariant)
    ]

pub returns : goal.returns
returns c =
    gained_all (Contains c.args.links.now.items) c.args.list.now c.args.statement c.args.on_false c.args.to c.loop-place.place c.loop-place-test.false c.loop-place.links.items c.loop-place.invariant
