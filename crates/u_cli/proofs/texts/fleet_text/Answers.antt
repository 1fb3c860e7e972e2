use Rattle.u_cli.proofs.TextLaws.{answers}
use Rattle.u_cli.specs.Texts.{TellsFleetOf, FleetNotTold}
use Rattle.u_cli.proofs.texts.fleet_text.Goals as goal

pub returns : goal.returns
returns g c =
    answers c.fleet_told.result (TellsFleetOf c.args.program.now c.args.argument.now c.args.workers c.args.rounds) (FleetNotTold c.args.program.now c.args.argument.now)
    (g.W.Write.contents c.args.writer.now) (g.W.Write.contents c.finish.new.writer) c.finish.result c.fleet_told.ensures c.finish.ensures
