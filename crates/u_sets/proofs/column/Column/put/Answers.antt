use Rattle.std.proofs.Common.{◌∙◌, ap, refl}
use Rattle.u_sets.specs.Pairs.{items_of}
use Rattle.u_sets.proofs.Columned.{read_at, put_more, put_same, new_at, on_ok, on_error, if_ok}
use Rattle.u_sets.proofs.column.Column.put.Goals as goal

pub returns-clause-ok : goal.returns-clause-ok
returns-clause-ok g c =
    let fs = c.reach.new.places.items in
    let f = c.index_mut.result.now in
    let there = read_at fs fs c.args.number f refl c.in-Ok.ensures.ok c.index_mut.ensures.value in
    on_ok c.insert.result c.insert.ensures.ok
    (λ w. put_more fs c.args.number f c.insert.new.self there c.in-Ok.ensures.ok c.args.self.now (c.reach.ensures.same ∙ c.self.view_is) c.args.value w)

pub returns-clause-new : goal.returns-clause-new
returns-clause-new g c =
    let fs = c.reach.new.places.items in
    let f = c.index_mut.result.now in
    let there = read_at fs fs c.args.number f refl c.in-Ok.ensures.ok c.index_mut.ensures.value in
    if_ok c.insert.result c.insert.ensures.new (λ b h. new_at fs c.args.number f there c.args.self.now (c.reach.ensures.same ∙ c.self.view_is) c.args.value b h)

pub returns-clause-still : goal.returns-clause-still
returns-clause-still g c =
    let fs = c.reach.new.places.items in
    let f = c.index_mut.result.now in
    let there = read_at fs fs c.args.number f refl c.in-Ok.ensures.ok c.index_mut.ensures.value in
    if_ok c.insert.result c.insert.ensures.still
    (λ b h n. put_same fs c.args.number f c.insert.new.self there c.in-Ok.ensures.ok c.args.self.now (c.reach.ensures.same ∙ c.self.view_is) (ap (λ x. items_of x) (h n)))

pub returns-clause-err : goal.returns-clause-err
returns-clause-err g c =
    let fs = c.reach.new.places.items in
    let f = c.index_mut.result.now in
    let there = read_at fs fs c.args.number f refl c.in-Ok.ensures.ok c.index_mut.ensures.value in
    on_error c.insert.result c.insert.ensures.err
    (λ e. put_same fs c.args.number f c.insert.new.self there c.in-Ok.ensures.ok c.args.self.now (c.reach.ensures.same ∙ c.self.view_is) e)
