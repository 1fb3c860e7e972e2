use Rattle.std.proofs.Common.{◌≡◌, ℕ, ◌<◌, List, Some, length, subst, sym, ◌∙◌, ap}
use Rattle.std.specs.Prelude.{slice_get}
use Rattle.u_name.specs.Name.{Activity}
use Rattle.u_names.specs.Places.{NamePlaceParts, place}
use Rattle.u_names.specs.NameLists.{name_at}
use Rattle.u_names.proofs.Mapped.{member_at, get_given}
use Rattle.u_names.proofs.name_table.NameTable.name_of.Goals as goal

pub name-requires-clause-there : goal.name-requires-clause-there
name-requires-clause-there c =
    subst (λ (n : ℕ). n < length c.self.inside.frames) (sym c.frame-frame.ensures.value)
    (c.self.invariant.framed c.in-Some.place.now (member_at c.self.inside.places c.args.id c.in-Some.place.now (sym c.in-Some.ensures)))

pub returns : goal.returns
returns c =
    let p : NamePlaceParts = c.in-Some.place.now in
    let is : c.in_ok-name.name ≡ name_at c.self.inside.frames p =
    c.in_ok-name.ensures
    ∙ ap (λ (n : ℕ). name_at c.self.inside.frames (place n c.statement.result c.initiation.result)) c.frame-frame.ensures.value
    ∙ ap (λ (n : ℕ). name_at c.self.inside.frames (place p.frame n c.initiation.result)) c.statement.ensures.value
    ∙ ap (λ (n : ℕ). name_at c.self.inside.frames (place p.frame p.statement n)) c.initiation.ensures.value in
    ap (λ (a : Activity). Some a) is
    ∙ sym (get_given (λ (q : NamePlaceParts). name_at c.self.inside.frames q) c.self.inside.places c.args.id p (sym c.in-Some.ensures))
    ∙ ap (λ (ns : List Activity). slice_get ns c.args.id) c.self.view_is
