use Rattle.std.proofs.Common.{◌≡◌, ℕ, List, Some, subst, ◌∙◌, ap, Contains}
use Rattle.std.specs.Prelude.{slice_get}
use Rattle.u_name.specs.Name.{Activity}
use Rattle.u_names.specs.Frames.{beside}
use Rattle.u_names.specs.Places.{NamePlaceParts}
use Rattle.u_names.proofs.Framed.{no_frame_of, no_place, no_number, number_back}
use Rattle.u_names.proofs.Mapped.{if_some, if_none, if_none_from}
use Rattle.u_names.proofs.name_table.NameTable.find_beside.Goals as goal

pub returns-in_err-frame-clause-none : goal.returns-in_err-frame-clause-none
returns-in_err-frame-clause-none c =
    if_none c.from_residual.result (Contains c.args.self.now (beside c.args.name.now c.args.statement) → ⊥)
    (subst (λ (ns : List Activity). Contains ns (beside c.args.name.now c.args.statement) → ⊥) c.self.view_is
    (no_frame_of c.self.inside.frames c.self.inside.places (beside c.args.name.now c.args.statement) c.self.invariant.framed c.in_err-frame.ensures.none))

pub returns-in_err-place-clause-none : goal.returns-in_err-place-clause-none
returns-in_err-place-clause-none c =
    if_none c.from_residual-in_err-place.result (Contains c.args.self.now (beside c.args.name.now c.args.statement) → ⊥)
    (subst (λ (ns : List Activity). Contains ns (beside c.args.name.now c.args.statement) → ⊥) c.self.view_is
    (no_number c.self.inside.frames c.self.invariant.frames c.self.inside.places c.in_ok-frame.frame (beside c.args.name.now c.args.statement) c.self.invariant.framed c.self.invariant.ranged c.in_ok-frame.ensures.number c.in_err-place.ensures.none))

pub returns-clause-number : goal.returns-clause-number
returns-clause-number c =
    if_some c.place_of.result (λ (i : ℕ). slice_get c.self.inside.places i ≡ Some c.in_ok-place.place) (λ (i : ℕ). slice_get c.args.self.now i ≡ Some (beside c.args.name.now c.args.statement))
    (λ i e. subst (λ (ns : List Activity). slice_get ns i ≡ Some (beside c.args.name.now c.args.statement)) c.self.view_is
    (number_back c.self.inside.frames c.self.inside.places c.in_ok-frame.frame i (beside c.args.name.now c.args.statement) c.in_ok-frame.ensures.number (e ∙ ap (λ (p : NamePlaceParts). Some p) c.in_ok-place.ensures.place)))
    c.place_of.ensures.place

pub returns-clause-none : goal.returns-clause-none
returns-clause-none c =
    if_none_from c.place_of.result (Contains c.self.inside.places c.in_ok-place.place → ⊥) (Contains c.args.self.now (beside c.args.name.now c.args.statement) → ⊥)
    (λ none. subst (λ (ns : List Activity). Contains ns (beside c.args.name.now c.args.statement) → ⊥) c.self.view_is
    (no_place c.self.inside.frames c.self.invariant.frames c.self.inside.places c.in_ok-frame.frame (beside c.args.name.now c.args.statement) c.self.invariant.framed c.in_ok-frame.ensures.number
    (subst (λ (p : NamePlaceParts). Contains c.self.inside.places p → ⊥) c.in_ok-place.ensures.place none)))
    c.place_of.ensures.none
