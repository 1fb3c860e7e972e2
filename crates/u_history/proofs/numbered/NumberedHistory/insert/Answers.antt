use Rattle.std.proofs.Common.{refl, arith}
use Rattle.u_history.specs.Tables.{contents_of}
use Rattle.u_history.proofs.Tabled.{held_in, more_entries, one_entry_more}
use Rattle.u_history.proofs.numbered.NumberedHistory.insert.Goals as goal

pub returns-then-not-added-clause-ok : goal.returns-then-not-added-clause-ok
returns-then-not-added-clause-ok c = rw (← c.self.view_is) (more_entries (contents_of c.self.inside.tables) (contents_of c.insert.new.self) c.args.entry c.self.invariant.tables.others c.in_ok-added.ensures.tables.others c.in_ok-added.ensures.ok)

pub returns-then-not-added-clause-new : goal.returns-then-not-added-clause-new
returns-then-not-added-clause-new c =
    let h = held_in (contents_of c.self.inside.tables) c.self.invariant.tables.others c.args.entry in
    let f = c.if-not-added.true in
    rw (← c.self.view_is) ((λ t. absurd (cc)), λ n. (let t = c.in_ok-added.ensures.new.1 (λ m. n (h.1 m)) in absurd (cc)))

pub invariant_of-self-2 : goal.invariant_of-self-2
invariant_of-self-2 c =
    let t = c.if-not-added.false in
    let k = one_entry_more (contents_of c.self.inside.tables) (contents_of c.insert.new.self) c.args.entry c.self.inside.count c.self.invariant.tables.others c.in_ok-added.ensures.tables.others c.in_ok-added.ensures.ok (c.in_ok-added.ensures.new.0 (cc)) c.self.invariant.count in
    record { tables = c.in_ok-added.ensures.tables; count = omega arith }

pub returns-clause-ok : goal.returns-clause-ok
returns-clause-ok c = rw (← c.self.view_is) (more_entries (contents_of c.self.inside.tables) (contents_of c.insert.new.self) c.args.entry c.self.invariant.tables.others c.in_ok-added.ensures.tables.others c.in_ok-added.ensures.ok)

pub returns-clause-new : goal.returns-clause-new
returns-clause-new c =
    let h = held_in (contents_of c.self.inside.tables) c.self.invariant.tables.others c.args.entry in
    let t = c.if-not-added.false in
    rw (← c.self.view_is) ((λ q m. c.in_ok-added.ensures.new.0 (cc) (h.0 m)), λ n. refl)
