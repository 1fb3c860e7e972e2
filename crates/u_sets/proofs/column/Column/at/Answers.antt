use Rattle.std.proofs.Common.{◌↔◌, ◌∙◌, subst, sym, ap, Contains}
use Rattle.std.specs.Prelude.{slice_get}
use Rattle.std.proofs.lemmas.Option.{slice_get_past}
use Rattle.u_sets.specs.Columns.{numbered_pairs}
use Rattle.u_sets.proofs.Keyed.{items_at}
use Rattle.u_sets.proofs.Columned.{at_number, read_at}
use Rattle.u_sets.proofs.column.Column.at.Goals as goal

pub returns-in-Some-clause-all : goal.returns-in-Some-clause-all
returns-in-Some-clause-all g c v =
    let fs = c.self.inside.places.items in
    let found = c.in-Some.ensures.lookup in
    let there = read_at fs c.deref.result.now c.args.number c.in-Some.few.now c.deref.ensures.value found.3.0 found.1 in
    let b = subst (λ o. Contains (numbered_pairs fs) (c.args.number, v) ↔ Contains (items_at o) v) there (at_number fs c.args.number v) in
    rw (← c.self.view_is, c.as_slice.ensures.items) (b.1, b.0)

pub returns-in-None-clause-all : goal.returns-in-None-clause-all
returns-in-None-clause-all g c v =
    let fs = c.self.inside.places.items in
    let none = ap (λ xs. slice_get xs c.args.number) (sym c.deref.ensures.value) ∙ slice_get_past c.deref.result.now c.args.number c.in-None.ensures.lookup.3 in
    let b = subst (λ o. Contains (numbered_pairs fs) (c.args.number, v) ↔ Contains (items_at o) v) none (at_number fs c.args.number v) in
    rw (← c.self.view_is) (b.1, b.0)
