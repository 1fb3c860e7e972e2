use Rattle.u_history.specs.Places.{IsWriteOf}
use Rattle.u_history.proofs.Clashing.{added_place, write_is_of, write_of_one}
use Rattle.u_history.proofs.clash.add_cell.Goals as goal

pub returns-in_ok-place_in-clause-ok : goal.returns-in_ok-place_in-clause-ok
returns-in_ok-place_in-clause-ok c =
    let e = c.args.entry.now in
    let w = c.in-Write.item in
    let l = c.in_ok-copy.field-0 in
    added_place IsWriteOf e c.args.list.now.items c.place_in.new.list.items l c.args.clashing c.if-clashing.true (write_is_of e w l c.in-Write.is c.in_ok-copy.ensures) (λ x. write_of_one e w l x c.in-Write.is c.in_ok-copy.ensures) c.in_ok-place_in.ensures.ok
