use Rattle.std.proofs.Common.{◌≡◌, ◌∙◌, refl, ap, subst, Bool, true, false}
use Rattle.std.specs.Prelude.{IsTrue, IsFalse}
use Rattle.u_rule.specs.declared.firing.Firing.{Firing}
use Rattle.u_machine.specs.State.{State, IsSettled, IsReady, NothingReady}
use Rattle.u_machine.specs.Invariant.{state_of}
use Rattle.u_machine.proofs.machine.Machine.is_quiet.Goals as goal

is_so : (m : State) (b : Bool) → (IsFalse b → (f : Firing) × IsReady m f) → NothingReady m → IsTrue b
is_so m true ready none = refl
is_so m false ready none = let (f, r) = ready refl in absurd (r.1 (none f r.0))

pub returns : goal.returns
returns c =
    let same : state_of c.deref-2.result.now ≡ c.args.self.now = ap state_of c.deref-2.ensures ∙ c.self.view_is in
    let settled : IsSettled c.args.self.now = subst IsSettled (ap state_of c.deref.ensures ∙ c.self.view_is) (c.is_settled.ensures.settled.0 c.if-not-is_settled.false) in (
      (λ t. (settled, subst NothingReady same (c.is_quiet.ensures.quiet t))),
      (λ q. is_so c.args.self.now c.is_quiet.result (subst (λ (m : State). IsFalse c.is_quiet.result → (f : Firing) × IsReady m f) same c.is_quiet.ensures.ready) q.1),
    )
