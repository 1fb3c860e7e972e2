use Rattle.std.proofs.Common.{List, Err, subst, ◌∙◌}
use Rattle.u_rule.specs.declared.firing.Firing.{Firing}
use Rattle.u_machine.specs.declared.answer.ListRefusal.TheVariants.{NoMemory}
use Rattle.u_machine.specs.Taking.{TakeAllAnswer}
use Rattle.u_fleet.proofs.Soundness.{takes_first}
use Rattle.u_fleet.proofs.gathering.gather.Goals as goal

pub returns-clause-answer : goal.returns-clause-answer
returns-clause-answer g c =
    let answer = rw c.in-Err-NoMemory-take_sound.field-0-is at c.in-Err-NoMemory-take_sound.ensures.answer in
    takes_first _ _ _
    (subst (λ (fs : List Firing). TakeAllAnswer c.args.replica.now.machine fs (Err NoMemory) c.take_sound.new.replica.machine) (c.as_slice.ensures.value ∙ (c.in-Ok.ensures).firings) answer)
