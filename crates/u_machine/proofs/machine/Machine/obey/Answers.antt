use Rattle.std.proofs.Common.{refl, subst, sym}
use Rattle.u_machine.specs.declared.commands.Command.{Command}
use Rattle.u_machine.specs.declared.commands.Reply.TheVariants as replies
use Rattle.u_machine.specs.Obeying.{Does}
use Rattle.u_machine.proofs.Obeying.{settle_answer}
use Rattle.u_machine.proofs.machine.Machine.obey.Goals as goal

pub returns-in-Settle : goal.returns-in-Settle
returns-in-Settle c =
    subst (λ (x : Command). Does c.args.self.now x (replies.Settle c.settle.result) c.settle.new.self) (sym c.in-Settle.is)
    (c.settle.result, refl, settle_answer c.args.self.now c.settle.new.self c.settle.result c.settle.ensures.applies c.settle.ensures.ok)
