-- Firings that are neither applied nor ready.
use Rattle.std.proofs.Common.{◌<◌, inl, inr, take}
use Rattle.std.specs.Prelude.{IsTrue, Contains}
use Rattle.std.proofs.lemmas.List.Elements.{Contains-append_cases}
use Rattle.u_rule.specs.declared.firing.Firing.{Firing}
use Rattle.u_rule.specs.Rule.{own_of}
use Rattle.u_machine.specs.declared.parts.Parts.{Parts}
use Rattle.u_machine.specs.State.{Taken, count_of}
use Rattle.u_machine.specs.Calls.{IsNew}
use Rattle.u_machine.specs.Invariant.{state_of, parked_of}
use Rattle.u_machine.proofs.Lists.{Contains-taken}

module _ (p : Parts) (f : Firing) (unapplied : Contains p.log.items f → ⊥) (unparked : Contains (parked_of p) f → ⊥) where
  pub untaken : Taken (state_of p) f → ⊥
  untaken t = elim (Contains-append_cases (take p.applied_count p.log.items) (parked_of p) f t) [ inl a ↦ unapplied (Contains-taken p.applied_count p.log.items f a) | inr b ↦ unparked b ]

  pub early_is_new : IsTrue ((own_of p.job.now).is_firing f) → count_of (state_of p) < p.limit → IsNew (state_of p) f
  early_is_new firing room = record { firing = firing; new = untaken; room = room }
