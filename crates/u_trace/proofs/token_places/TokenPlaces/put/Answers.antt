use Rattle.std.proofs.Common.{◌≡◌, ◌<◌, ◌∙◌, length, sym, arith}
use Rattle.u_sets.proofs.Columned.{on_error}
use Rattle.u_trace.proofs.PlacedLaws.{columns_still, column_is, placed_at, on_both}
use Rattle.u_trace.proofs.token_places.TokenPlaces.put.Goals as goal

pub returns-in-None-clause-ok : goal.returns-in-None-clause-ok
returns-in-None-clause-ok c =
    let t = c.args.self.now in
    let i = c.from-column.result in
    let f = c.from-column.ensures in
    let e : i ≡ c.args.port = omega (arith, f) in
    let l : i < length t.columns = omega (arith, e, c.requires.port, c.requires.columns) in
    on_both c.put.result c.put.ensures.here c.put.ensures.others
    (λ here others. placed_at t.columns t.others c.args.number c.args.port c.args.value c.args.place i _ e l (column_is t.columns i c.args.number c.index-self-column.result l ∙ c.in-None.ensures.none) here
    (λ m n. others m n ∙ sym (column_is t.columns i m c.index-self-column-in-None.result l)))

pub returns-in-None-clause-err : goal.returns-in-None-clause-err
returns-in-None-clause-err c =
    let t = c.args.self.now in
    let i = c.from-column.result in
    let f = c.from-column.ensures in
    let e : i ≡ c.args.port = omega (arith, f) in
    let l : i < length t.columns = omega (arith, e, c.requires.port, c.requires.columns) in
    on_error c.put.result c.put.ensures.err
    (λ same k. columns_still t.columns i _ l (λ m. same m ∙ sym (column_is t.columns i m c.index-self-column-in-None.result l)) t.others k)
