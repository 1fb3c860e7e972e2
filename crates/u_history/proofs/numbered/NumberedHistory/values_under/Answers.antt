use Rattle.u_rule.specs.Parts.{token}
use Rattle.u_rule.specs.declared.entry.Entry.TheVariants as entries
use Rattle.u_history.specs.Tables.{contents_of}
use Rattle.u_history.proofs.Tabled.{held_in}
use Rattle.u_history.proofs.numbered.NumberedHistory.values_under.Goals as goal

pub returns-clause-all : goal.returns-clause-all
returns-clause-all c v =
    let h = held_in (contents_of c.self.inside.tables) c.self.invariant.tables.others (entries.Token (token c.args.activity.now c.args.port v)) in
    let r = c.values_at.ensures.all v in
    rw (← c.self.view_is) ((λ t. h.1 (r.0 t)), λ m. r.1 (h.0 m))
