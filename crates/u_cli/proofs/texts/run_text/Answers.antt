use Rattle.u_cli.proofs.TextLaws.{answers}
use Rattle.u_cli.specs.Texts.{TellsRun, RunNotTold}
use Rattle.u_cli.proofs.texts.run_text.Goals as goal

pub returns : goal.returns
returns g c =
    answers c.run_told.result (TellsRun c.args.program.now c.args.argument.now c.args.firings) (RunNotTold c.args.program.now c.args.argument.now)
    (g.W.Write.contents c.args.writer.now) (g.W.Write.contents c.finish.new.writer) c.finish.result c.run_told.ensures c.finish.ensures
