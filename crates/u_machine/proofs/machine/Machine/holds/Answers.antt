use Rattle.std.proofs.Common.{◌∙◌, ap, subst}
use Rattle.u_rule.specs.EntryOrder.{entry_cmp, firing_cmp, EntryList}
use Rattle.u_sets.specs.Rising.{Rises}
use Rattle.u_machine.specs.State.{State, IsMachine}
use Rattle.u_machine.specs.Invariant.{state_of}
use Rattle.u_machine.specs.declared.parts.Parts.{Parts}
use Rattle.u_machine.proofs.Flight.{they_rise}
use Rattle.u_machine.proofs.Obeying.{keeps_its_promise}
use Rattle.u_machine.proofs.machine.Machine.holds.Goals as goal

is_machine : (c : goal.After-len-parked) → IsMachine c.args.self.now
is_machine c =
    let is : IsMachine (state_of c.self.inside.parts.value) = record { sound = c.self.invariant.logged.is; history_rises = subst (λ (xs : EntryList). Rises entry_cmp xs) (c.history.ensures ∙ ap (λ (p : Parts). p.matcher) c.deref.ensures) c.len-entries.ensures.rises; parked_rises = they_rise c.self.inside.parts.value c.self.invariant (subst (λ (p : Parts). Rises firing_cmp p.parked) c.deref-2.ensures c.len-parked.ensures.rises) } in
    subst (λ (m : State). IsMachine m) c.self.view_is is

pub returns-clause-is : goal.returns-clause-is
returns-clause-is c = is_machine c

pub returns-clause-promise : goal.returns-clause-promise
returns-clause-promise c = keeps_its_promise c.args.self.now (is_machine c)
