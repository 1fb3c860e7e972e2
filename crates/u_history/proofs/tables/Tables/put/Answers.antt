use Rattle.std.proofs.Common.{◌≡◌, ◌<◌, ◌-◌, inl, suc, length, arith}
use Rattle.u_sets.proofs.Columned.{on_ok, if_ok}
use Rattle.u_history.proofs.Numbering.{at_number, put_more, put_tables, below_put, below_at}
use Rattle.u_history.proofs.tables.Tables.put.Goals as goal

pub returns-clause-ok : goal.returns-clause-ok
returns-clause-ok c =
    let t = c.args.self.now in
    let f = c.from-place.ensures in
    let e : c.args.port ≡ suc (c.from-place.result - 1) = omega (arith, c.requires.port) in
    let l : c.from-place.result - 1 < length t.columns = omega (arith, c.requires.port, c.requires.tables.ports) in
    on_ok c.put.result c.put.ensures.ok (λ w a is. put_more t c.requires.tables (c.from-place.result - 1) c.index-self-place.result _ l c.args.number c.args.port c.args.value e w a is)

pub returns-clause-new : goal.returns-clause-new
returns-clause-new c =
    let t = c.args.self.now in
    let f = c.from-place.ensures in
    let e : c.args.port ≡ suc (c.from-place.result - 1) = omega (arith, c.requires.port) in
    let l : c.from-place.result - 1 < length t.columns = omega (arith, c.requires.port, c.requires.tables.ports) in
    if_ok c.put.result c.put.ensures.new
    (λ b h a is. let m = at_number t c.requires.tables c.args.port (c.from-place.result - 1) c.args.number c.index-self-place.result a c.args.value e l (inl is) in ((λ x k. h.0 x (m.1 k)), λ n. h.1 (λ k. n (m.0 k))))

pub returns-clause-tables : goal.returns-clause-tables
returns-clause-tables c =
    let t = c.args.self.now in
    let f = c.from-place.ensures in
    let l : c.from-place.result - 1 < length t.columns = omega (arith, c.requires.port, c.requires.tables.ports) in
    put_tables t c.requires.tables (c.from-place.result - 1) c.index-self-place.result _ l
    (below_put c.put.result (length t.names) c.args.number c.args.value _ c.put.new.self c.put.ensures.ok c.put.ensures.err c.requires.number (below_at t c.requires.tables (c.from-place.result - 1) c.index-self-place.result l))
