use Rattle.std.proofs.Common.{inl, inr, take}
use Rattle.std.specs.Prelude.{Contains}
use Rattle.std.proofs.lemmas.List.Elements.{Contains-append_right, Contains-append_cases}
use Rattle.u_machine.specs.Invariant.{parked_of}
use Rattle.u_machine.proofs.Flight.{parked_there, parked_where}
use Rattle.u_machine.proofs.Lists.{Contains-taken}
use Rattle.u_machine.proofs.Settled.{not_both}
use Rattle.u_machine.proofs.Steps.{log_taken}
use Rattle.u_machine.proofs.parts.Parts.knows.Goals as goal

pub returns-then-has_begun : goal.returns-then-has_begun
returns-then-has_begun c = ((λ t. log_taken _ _ _ _ _ _ c.requires.logged c.args.firing.now (c.has_begun.ensures.0 t)), λ t. c.if-has_begun.true)

pub returns-else-has_begun : goal.returns-else-has_begun
returns-else-has_begun c =
    let p = c.args.self.now in
    let f = c.args.firing.now in
    let unlogged : Contains p.log.items f → ⊥ = λ m. not_both c.has_begun.result (c.has_begun.ensures.1 m) c.if-has_begun.false in (
      (λ t. Contains-append_right (take p.applied_count p.log.items) (parked_of p) f (parked_there p c.requires f (c.contains.ensures.0 t))),
      λ t. c.contains.ensures.1 (elim (Contains-append_cases (take p.applied_count p.log.items) (parked_of p) f t) [
        | inl a ↦ absurd (unlogged (Contains-taken p.applied_count p.log.items f a))
        | inr b ↦ elim (parked_where p f b) [ inl s ↦ s | inr l ↦ absurd (unlogged l) ]
      ]),
    )
