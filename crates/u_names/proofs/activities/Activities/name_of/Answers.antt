use Rattle.std.proofs.Common.{◌≡◌, ◌%◌, ◌/◌, ◌+◌, ◌≤◌, ℕ, List, Some, subst, sym, ◌∙◌, ap, arith}
use Rattle.std.specs.Prelude.{slice_get}
use Rattle.u_name.specs.Name.{Activity}
use Rattle.u_names.specs.Frames.{beside}
use Rattle.u_names.specs.Groups.{later}
use Rattle.u_names.proofs.Mapped.{member_at}
use Rattle.u_names.proofs.Grouped.{at_number, no_number_at, behind_first}
use Rattle.u_names.proofs.activities.Activities.name_of.Goals as goal

pub returns-in_default : goal.returns-in_default
returns-in_default c =
    sym (sym (ap (λ (bs : List Activity). slice_get bs c.args.number) c.self.view_is) ∙ no_number_at c.self.inside.leaders c.args.number (sym c.in_ok-found.ensures ∙ c.in_default.is))

pub plain-requires : goal.plain-requires
plain-requires c =
    let m = member_at c.self.inside.leaders (c.args.number / 3) c.in-Some.first (sym c.in_ok-found.ensures ∙ c.in-Some.is) in
    subst (λ (s : ℕ). (1 ≤ s + c.args.number % 3) × (s + c.args.number % 3 ≤ 999)) (sym c.statement.ensures.value) (behind_first c.in-Some.first.statement (c.args.number % 3) (c.self.invariant.first c.in-Some.first m) (omega arith))

pub returns-in-Ok : goal.returns-in-Ok
returns-in-Ok c =
    let first : Activity = c.in-Some.first in
    let far : ℕ = c.args.number % 3 in
    let is : c.in-Ok.name ≡ later first far = c.in-Ok.ensures ∙ ap (λ (s : ℕ). beside first (s + far)) c.statement.ensures.value in
    ap (λ (a : Activity). Some a) is
    ∙ sym (at_number c.self.inside.leaders c.args.number first (sym c.in_ok-found.ensures ∙ c.in-Some.is))
    ∙ ap (λ (bs : List Activity). slice_get bs c.args.number) c.self.view_is
