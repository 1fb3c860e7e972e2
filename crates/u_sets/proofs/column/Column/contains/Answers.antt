use Rattle.std.proofs.Common.{◌↔◌, ◌∙◌, subst, sym, ap, Contains}
use Rattle.std.specs.Prelude.{slice_get}
use Rattle.std.proofs.lemmas.Option.{slice_get_past}
use Rattle.u_base.proofs.Member.{Contains-nil}
use Rattle.u_sets.specs.Columns.{numbered_pairs}
use Rattle.u_sets.proofs.Keyed.{items_at}
use Rattle.u_sets.proofs.Columned.{at_number, read_at}
use Rattle.u_sets.proofs.column.Column.contains.Goals as goal

pub returns-in-Some : goal.returns-in-Some
returns-in-Some g c =
    let fs = c.self.inside.places.items in
    let found = c.in-Some.ensures.lookup in
    let there = read_at fs c.deref.result.now c.args.number c.in-Some.few.now c.deref.ensures.value found.3.0 found.1 in
    let b = subst (λ o. Contains (numbered_pairs fs) (c.args.number, c.args.value.now) ↔ Contains (items_at o) c.args.value.now) there (at_number fs c.args.number c.args.value.now) in
    rw (← c.self.view_is) ((λ t. b.1 (c.contains.ensures.0 t)), λ m. c.contains.ensures.1 (b.0 m))

pub returns-in-None : goal.returns-in-None
returns-in-None g c =
    let fs = c.self.inside.places.items in
    let none = ap (λ xs. slice_get xs c.args.number) (sym c.deref.ensures.value) ∙ slice_get_past c.deref.result.now c.args.number c.in-None.ensures.lookup.3 in
    let b = subst (λ o. Contains (numbered_pairs fs) (c.args.number, c.args.value.now) ↔ Contains (items_at o) c.args.value.now) none (at_number fs c.args.number c.args.value.now) in
    rw (← c.self.view_is) ((λ t. absurd (cc)), λ m. absurd (Contains-nil c.args.value.now (b.0 m)))
