use Rattle.u_explain.proofs.PlaceLaws.{left_at}
use Rattle.u_explain.proofs.text_place.line_left.Goals as goal

pub returns : goal.returns
returns c = λ before p. left_at c.args.place before c.args.line.now c.place_left.result.now p c.place_left.ensures
