use Rattle.u_history.specs.Tables.{contents_of}
use Rattle.u_history.proofs.Tabled.{held_in}
use Rattle.u_history.proofs.numbered.NumberedHistory.contains.Goals as goal

pub returns : goal.returns
returns c =
    let h = held_in (contents_of c.self.inside.tables) c.self.invariant.tables.others c.args.entry.now in
    rw (← c.self.view_is) ((λ t. h.1 (c.contains.ensures.0 t)), λ m. c.contains.ensures.1 (h.0 m))
