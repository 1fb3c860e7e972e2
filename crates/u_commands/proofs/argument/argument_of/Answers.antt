use Rattle.u_commands.proofs.ArgumentLaws.{argument_none}
use Rattle.u_commands.proofs.argument.argument_of.Goals as goal

pub returns-in-None : goal.returns-in-None
returns-in-None c = argument_none c.args.word.now c.in-None.ensures
