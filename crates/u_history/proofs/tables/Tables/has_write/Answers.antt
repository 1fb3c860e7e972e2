use Rattle.u_history.proofs.tables.Tables.has_write.Goals as goal

pub returns-in-Ok : goal.returns-in-Ok
returns-in-Ok c = rw (← c.in-Ok.ensures) c.contains.ensures

pub returns-in-Err : goal.returns-in-Err
returns-in-Err c =
    ((λ t. (c.under.ensures.all _).0 (c.has_pair.ensures.0 t)), λ m. c.has_pair.ensures.1 ((c.under.ensures.all _).1 m))
