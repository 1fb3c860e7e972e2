use Rattle.std.proofs.Common.{◌≡◌, List, Some, subst, sym, ◌∙◌, ap}
use Rattle.u_name.specs.Name.{Activity}
use Rattle.u_base.specs.Firing.{Distinct}
use Rattle.u_sets.specs.Members.{GoesLast}
use Rattle.u_names.specs.Frames.{FrameParts, frame_of, beside}
use Rattle.u_names.specs.Places.{NamePlaceParts, place_of, IsPlace}
use Rattle.u_names.specs.NameLists.{names_at, AreNames}
use Rattle.u_names.proofs.Mapped.{on_err}
use Rattle.u_names.proofs.Framed.{names_still, still_names, names_distinct, name_last, more_names, number_back}
use Rattle.u_names.proofs.name_table.NameTable.number_beside.Goals as goal

pub returns-in_err-frame-clause-distinct : goal.returns-in_err-frame-clause-distinct
returns-in_err-frame-clause-distinct c =
    subst (λ (fs : List FrameParts). Distinct (names_at fs c.self.inside.places)) (sym c.in_err-frame.ensures.err)
    (names_distinct c.self.inside.frames c.self.invariant.frames c.self.inside.places c.self.invariant.framed c.self.invariant.places)

pub invariant_of-self-in_default : goal.invariant_of-self-in_default
invariant_of-self-in_default c =
    still_names c.self.inside.frames c.number_of.new.self (frame_of (beside c.args.name.now c.args.statement)) c.self.inside.places c.in_ok-frame.ensures.ok c.in_ok-frame.ensures.distinct c.self.invariant

pub returns-in_default-clause-err : goal.returns-in_default-clause-err
returns-in_default-clause-err c =
    names_still c.self.inside.frames c.number_of.new.self (frame_of (beside c.args.name.now c.args.statement)) c.self.inside.places c.in_ok-frame.ensures.ok c.self.invariant.framed ∙ c.self.view_is

pub returns-in_default-clause-distinct : goal.returns-in_default-clause-distinct
returns-in_default-clause-distinct c =
    let n = invariant_of-self-in_default c in
    names_distinct c.number_of.new.self n.frames c.self.inside.places n.framed n.places

pub invariant_of-self-in_err-id : goal.invariant_of-self-in_err-id
invariant_of-self-in_err-id c =
    subst (λ (ps : List NamePlaceParts). AreNames c.number_of.new.self ps) (sym c.in_err-id.ensures.err)
    (still_names c.self.inside.frames c.number_of.new.self (frame_of (beside c.args.name.now c.args.statement)) c.self.inside.places c.in_ok-frame.ensures.ok c.in_ok-frame.ensures.distinct c.self.invariant)

pub returns-in_err-id-clause-err : goal.returns-in_err-id-clause-err
returns-in_err-id-clause-err c =
    on_err c.from_residual-in_err-id.result (names_at c.number_of.new.self c.number_of_place.new.places ≡ c.args.self.now)
    (ap (λ (ps : List NamePlaceParts). names_at c.number_of.new.self ps) c.in_err-id.ensures.err
    ∙ names_still c.self.inside.frames c.number_of.new.self (frame_of (beside c.args.name.now c.args.statement)) c.self.inside.places c.in_ok-frame.ensures.ok c.self.invariant.framed
    ∙ c.self.view_is)

pub returns-in_err-id-clause-distinct : goal.returns-in_err-id-clause-distinct
returns-in_err-id-clause-distinct c =
    let n = invariant_of-self-in_err-id c in
    names_distinct c.number_of.new.self n.frames c.number_of_place.new.places n.framed n.places

pub invariant_of-self-2 : goal.invariant_of-self-2
invariant_of-self-2 c =
    let l : GoesLast c.self.inside.places (place_of c.in_ok-frame.frame (beside c.args.name.now c.args.statement)) c.number_of_place.new.places =
    subst (λ (p : NamePlaceParts). GoesLast c.self.inside.places p c.number_of_place.new.places) c.in-Some.ensures.place c.in_ok-id.ensures.ok in
    more_names c.self.inside.frames c.number_of.new.self c.self.inside.places c.number_of_place.new.places c.in_ok-frame.frame (beside c.args.name.now c.args.statement) c.self.invariant c.in_ok-frame.ensures.ok c.in_ok-frame.ensures.distinct c.in_ok-frame.ensures.number l c.in_ok-id.ensures.distinct
    (subst (λ (p : NamePlaceParts). IsPlace p) c.in-Some.ensures.place c.in-Some.ensures.range)

pub returns-clause-number : goal.returns-clause-number
returns-clause-number c =
    number_back c.number_of.new.self c.number_of_place.new.places c.in_ok-frame.frame c.in_ok-id.id (beside c.args.name.now c.args.statement) c.in_ok-frame.ensures.number
    (c.in_ok-id.ensures.number ∙ ap (λ (p : NamePlaceParts). Some p) c.in-Some.ensures.place)

pub returns-clause-ok : goal.returns-clause-ok
returns-clause-ok c =
    let l : GoesLast c.self.inside.places (place_of c.in_ok-frame.frame (beside c.args.name.now c.args.statement)) c.number_of_place.new.places =
    subst (λ (p : NamePlaceParts). GoesLast c.self.inside.places p c.number_of_place.new.places) c.in-Some.ensures.place c.in_ok-id.ensures.ok in
    subst (λ (ns : List Activity). GoesLast ns (beside c.args.name.now c.args.statement) (names_at c.number_of.new.self c.number_of_place.new.places)) c.self.view_is
    (name_last c.self.inside.frames c.number_of.new.self c.self.inside.places c.number_of_place.new.places c.in_ok-frame.frame (beside c.args.name.now c.args.statement) c.self.invariant c.in_ok-frame.ensures.ok c.in_ok-frame.ensures.distinct c.in_ok-frame.ensures.number l)

pub returns-clause-distinct : goal.returns-clause-distinct
returns-clause-distinct c =
    let n = invariant_of-self-2 c in
    names_distinct c.number_of.new.self n.frames c.number_of_place.new.places n.framed n.places
